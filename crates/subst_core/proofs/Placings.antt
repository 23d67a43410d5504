-- A chain's steps after the copied gates, and its outputs.
use Rattle.std.proofs.Common.{◌≡◌, ℕ, zero, suc, ◌+◌, ◌-◌, ◌≤◌, ◌<◌, Bool, true, List, [], ◌∷◌, ◌++◌, length}
use Rattle.std.proofs.Common.{length-append, map, set, get_or, ltb, if◌then◌else◌, add-zero, refl, ◌∙◌, ap, sym, subst}
use Rattle.std.proofs.Common.{arith, ⊎_elim}
use Rattle.std.specs.Prelude.{Some, slice_index_or, ◌==◌}
use Rattle.std.proofs.lemmas.Bool.{cases_eq, cases_lt, lt-ltb, le-ltb, cond-true, cond-false, eq-eqb, ne_eqb}
use Rattle.std.proofs.lemmas.Option.{slice_get_within, slice_get-get_or}
use Rattle.std.proofs.lemmas.List.{append-nil, append_assoc, length-map, get_or-set_same, get_or-set_other}
use Rattle.chain_theory.specs.Chain.{Chain, IsStepAt, AreSteps, NamesPlace}
use Rattle.chain_theory.specs.declared.data.Out.{Out}
use Rattle.chain_theory.specs.declared.data.Out.TheVariants as outs
use Rattle.chain_core.specs.declared.step.Step as program
use Rattle.chain_core.specs.Steps.{step_of, steps_of}
use Rattle.net_theory.specs.declared.data.Sig.{Sig}
use Rattle.net_theory.specs.declared.data.Sig.TheVariants.{Zero, Node}
use Rattle.net_theory.specs.declared.data.Gate.{Gate}
use Rattle.net_theory.specs.Net.{IsGateAt}
use Rattle.net_theory.specs.NameLaws.{at_map, map_at, all_at}
use Rattle.net_theory.specs.Expansion.{gate_of}
use Rattle.net_theory.specs.Moving.{Kept, moved_gate, put_sig, with_kept, kept_after, marked_count}
use Rattle.net_theory.specs.MovingLaws.{moved_gate-same, nodes_low, AreMarkedAt, tail_marked, head_marked}
use Rattle.net_core.specs.Marks.{nodes_of, kept}
use Rattle.window_theory.specs.Window.{Window}
use Rattle.window_theory.specs.Substituted.{Fits, input_node, step_gate, out_sig, with_sigs}
use Rattle.subst_core.specs.MapLaws.{map_same, map_like}
use Rattle.subst_core.specs.Placing.{chain_sig, chain_gate, steps_kept, with_chain}

-- ---- gates that are all copied

abbrev all : ℕ → Bool
all p = true

put_at : (nodes : ℕ → Sig) (node : ℕ) (s : Sig) → put_sig nodes node s node ≡ s
put_at nodes node s = cond-true (node == node) s (nodes node) (eq-eqb node node refl)

put_below : (nodes : ℕ → Sig) (node : ℕ) (s : Sig) (p : ℕ) → p < node → put_sig nodes node s p ≡ nodes p
put_below nodes node s p low = cond-false (p == node) s (nodes p) (ne_eqb p node (λ (same : p ≡ node). omega (arith, same, low)))

-- they get consecutive nodes
all_nodes : (sources : ℕ) (k : Kept) (node : ℕ) (gs : List Gate) (i : ℕ) → i < length gs → (kept_after all sources k node gs).nodes (node + i) ≡ Node (sources + 1 + length k.gates + i)
unfolding kept_after
all_nodes sources k node [] i low = absurd (omega arith)
all_nodes sources k node (g ∷ gs) zero low =
    let next : Kept = with_kept sources k node g in
    let last : Kept = kept_after all sources next (node + 1) gs in
    let e : sources + 1 + length k.gates ≡ sources + 1 + length k.gates + 0 = omega arith in
    ap last.nodes (add-zero node)
    ∙ nodes_low all sources next (node + 1) gs node (omega arith)
    ∙ put_at k.nodes node (Node (sources + 1 + length k.gates))
    ∙ ap Node e
all_nodes sources k node (g ∷ gs) (suc i) low =
    let next : Kept = with_kept sources k node g in
    let last : Kept = kept_after all sources next (node + 1) gs in
    let e : node + suc i ≡ (node + 1) + i = omega arith in
    let size : sources + 1 + length next.gates + i ≡ sources + 1 + length k.gates + suc i = omega (arith, length-append k.gates (moved_gate k.nodes g ∷ [])) in
    ap last.nodes e
    ∙ all_nodes sources next (node + 1) gs i (omega arith)
    ∙ ap Node size

-- each with the new signals of its operands
all_gates : (sources : ℕ) (k : Kept) (node : ℕ) (gs : List Gate) → AreMarkedAt all node gs →
    (kept_after all sources k node gs).gates ≡ k.gates ++ map (moved_gate (kept_after all sources k node gs).nodes) gs
unfolding kept_after
all_gates sources k node [] are = sym (append-nil k.gates)
all_gates sources k node (g ∷ gs) are =
    let next : Kept = with_kept sources k node g in
    let last : Kept = kept_after all sources next (node + 1) gs in
    let low : (p : ℕ) → p < node → k.nodes p ≡ last.nodes p =
    λ p l. sym (nodes_low all sources next (node + 1) gs p (omega arith)
    ∙ put_below k.nodes node (Node (sources + 1 + length k.gates)) p l) in
    let own : moved_gate k.nodes g ≡ moved_gate last.nodes g = moved_gate-same k.nodes last.nodes node g (head_marked all node g gs are refl) low in
    all_gates sources next (node + 1) gs (tail_marked all node g gs are)
    ∙ append_assoc k.gates (moved_gate k.nodes g ∷ []) (map (moved_gate last.nodes) gs)
    ∙ ap (λ (h : Gate). k.gates ++ (h ∷ map (moved_gate last.nodes) gs)) own

-- ---- a chain

-- a place of the chain has the signal that `chain_sig` says
chain_placed : (sources : ℕ) (w : Window) (c : Chain) (k : Kept) (j : ℕ) → Fits w c → 1 ≤ j →
    j ≤ c.n + length c.steps → (steps_kept sources w c k).nodes j ≡
    chain_sig k.nodes w.inputs (sources + 1 + length k.gates) j
chain_placed sources w c k j fits some high =
    let start : Kept = record { nodes = λ j. k.nodes (input_node w j); gates = k.gates } in
    let last : Kept = steps_kept sources w c k in
    let first : ℕ = sources + 1 + length k.gates in
    let input : Sig = k.nodes (slice_index_or w.inputs (j - 1) 0) in
    let step : Sig = Node (first + ((j - 1) - length w.inputs)) in
    ⊎_elim
    (λ (low : j < c.n + 1).
    nodes_low all sources start (c.n + 1) (map step_gate c.steps) j low
    ∙ sym (cond-true (ltb (j - 1) (length w.inputs)) input step (lt-ltb (j - 1) (length w.inputs) (omega (arith, low, some, fits.inputs)))))
    (λ (above : c.n + 1 ≤ j).
    let i : ℕ = j - (c.n + 1) in
    let e : j ≡ c.n + 1 + i = omega (arith, above) in
    let at : first + i ≡ first + ((j - 1) - length w.inputs) = omega (arith, above, fits.inputs) in
    ap last.nodes e
    ∙ all_nodes sources start (c.n + 1) (map step_gate c.steps) i (omega (arith, above, high, length-map c.steps step_gate))
    ∙ ap Node at
    ∙ sym (cond-false (ltb (j - 1) (length w.inputs)) input step (le-ltb (j - 1) (length w.inputs) (omega (arith, above, fits.inputs)))))
    (cases_lt j (c.n + 1))

chain_stands : (w : Window) (c : Chain) → Fits w c → AreMarkedAt all (c.n + 1) (map step_gate c.steps)
chain_stands w c fits i g at on =
    let s = at_map step_gate c.steps i g at in
    let here : IsStepAt (c.n + 1 + i) s.0 = fits.chain.steps.each i s.0 s.1 in
    subst (IsGateAt (c.n + 1 + i)) s.2 (record { operator = here.op_below; first = (here.j_from, here.j_below); second = (here.k_from, here.k_below) })

chain_gates : (sources : ℕ) (w : Window) (c : Chain) (k : Kept) → Fits w c → (steps_kept sources w c k).gates ≡ k.gates ++ map (chain_gate k.nodes w.inputs (sources + 1 + length k.gates)) c.steps
chain_gates sources w c k fits =
    let start : Kept = record { nodes = λ j. k.nodes (input_node w j); gates = k.gates } in
    let last : Kept = steps_kept sources w c k in
    let first : ℕ = sources + 1 + length k.gates in
    all_gates sources start (c.n + 1) (map step_gate c.steps) (chain_stands w c fits)
    ∙ ap (λ (gs : List Gate). k.gates ++ gs) (map_like step_gate (moved_gate last.nodes) (chain_gate k.nodes w.inputs first) c.steps (λ i s at.
    let here : IsStepAt (c.n + 1 + i) s = fits.chain.steps.each i s at in
    let low : i < length c.steps = slice_get_within c.steps i s at in
    let a : last.nodes s.j ≡ chain_sig k.nodes w.inputs first s.j = chain_placed sources w c k s.j fits here.j_from (omega (arith, here.j_below, low)) in
    let b : last.nodes s.k ≡ chain_sig k.nodes w.inputs first s.k = chain_placed sources w c k s.k fits here.k_from (omega (arith, here.k_below, low)) in
    ap (λ (x : Sig). gate_of s.op x (last.nodes s.k)) a ∙ ap (gate_of s.op (chain_sig k.nodes w.inputs first s.j)) b))

out_same : (f g : ℕ → Sig) (last : ℕ) (x : Out) → NamesPlace last x → ((j : ℕ) → 1 ≤ j → j ≤ last → f j ≡ g j) → out_sig f x ≡ out_sig g x
out_same f g last outs.Zero names same = refl
out_same f g last outs.One names same = refl
out_same f g last (outs.Place q) names same = same q names.0 names.1

chain_outs : (sources : ℕ) (w : Window) (c : Chain) (k : Kept) → Fits w c →
    map (out_sig (steps_kept sources w c k).nodes) c.outs ≡
    map (out_sig (chain_sig k.nodes w.inputs (sources + 1 + length k.gates))) c.outs
chain_outs sources w c k fits =
    let last : ℕ = c.n + length c.steps in
    let is : ℕ → Sig = (steps_kept sources w c k).nodes in
    let said : ℕ → Sig = chain_sig k.nodes w.inputs (sources + 1 + length k.gates) in
    map_same (out_sig is) (out_sig said) c.outs (λ i x at.
    out_same is said last x (all_at (NamesPlace last) c.outs i x fits.chain.outs at) (λ j some high. chain_placed sources w c k j fits some high))

-- What the code appends is the chain.
pub chain_put : (sources first : ℕ) (w : Window) (c : Chain) (old_nodes new_nodes sigs : List Sig)
    (old new : List Gate) → Fits w c → first ≡ sources + 1 + length old → new ≡ old ++
    map (chain_gate (nodes_of old_nodes) w.inputs first) c.steps →
    sigs ≡ map (out_sig (chain_sig (nodes_of old_nodes) w.inputs first)) c.outs →
    nodes_of new_nodes ≡ with_sigs (nodes_of old_nodes) w.outputs sigs →
    kept new_nodes new ≡ with_chain sources w c (kept old_nodes old)
chain_put sources first w c old_nodes new_nodes sigs old new fits at is_gates is_sigs is_nodes =
    let k : Kept = kept old_nodes old in
    let gates : new ≡ (with_chain sources w c k).gates = is_gates ∙ ap (λ (q : ℕ). old ++ map (chain_gate (nodes_of old_nodes) w.inputs q) c.steps) at ∙ sym (chain_gates sources w c k fits) in
    let outs_are : sigs ≡ map (out_sig (steps_kept sources w c k).nodes) c.outs =
    is_sigs ∙ ap (λ (q : ℕ). map (out_sig (chain_sig (nodes_of old_nodes) w.inputs q)) c.outs) at
    ∙ sym (chain_outs sources w c k fits) in
    let nodes : nodes_of new_nodes ≡ (with_chain sources w c k).nodes = is_nodes ∙ ap (with_sigs (nodes_of old_nodes) w.outputs) outs_are in
    let made : (ℕ → Sig) → List Gate → Kept = λ f g. record { nodes = f; gates = g } in
    ap (λ (f : ℕ → Sig). made f new) nodes ∙ ap (made (with_chain sources w c k).nodes) gates

-- a step of the program is at its place
pub step_stands : (inputs : List ℕ) (steps : List program.Step) (i : ℕ) (s : program.Step) →
    AreSteps (length inputs) (steps_of steps) → i < length steps → s ≡ get_or steps i s →
    IsStepAt (length inputs + 1 + i) (step_of s)
step_stands inputs steps i s are low is =
    are.each i (step_of s) (map_at step_of steps i s (slice_get-get_or steps i s low ∙ ap Some (sym is)))

-- ---- signals that are put

written_at : (nodes : List Sig) (q : ℕ) (s : Sig) (p : ℕ) → q < length nodes → nodes_of (set nodes q s) p ≡ put_sig (nodes_of nodes) q s p
unfolding nodes_of
written_at nodes q s p low =
    ⊎_elim
    (λ here. ap (λ (k : ℕ). get_or (set nodes q s) k Zero) here ∙ get_or-set_same nodes q s Zero low ∙ sym (cond-true (p == q) s (get_or nodes p Zero) (eq-eqb p q here)))
    (λ other. get_or-set_other nodes q p s Zero other ∙ sym (cond-false (p == q) s (get_or nodes p Zero) (ne_eqb p q other)))
    (cases_eq p q)

written : (nodes : List Sig) (q : ℕ) (s : Sig) → q < length nodes → nodes_of (set nodes q s) ≡ put_sig (nodes_of nodes) q s
written nodes q s low = λ i p. written_at nodes q s p low i

last_put : (f : ℕ → Sig) (rest : List ℕ) (p : ℕ) (sigs : List Sig) → length rest < length sigs → with_sigs (put_sig f p (get_or sigs (length rest) Zero)) rest sigs ≡ with_sigs f (rest ++ p ∷ []) sigs
unfolding with_sigs
last_put f rest p [] low = absurd (omega arith)
last_put f [] p (s ∷ sigs) low = refl
last_put f (q ∷ rest) p (s ∷ sigs) low = ap (λ (g : ℕ → Sig). put_sig g q s) (last_put f rest p sigs (omega arith))

-- the last of the nodes is put
pub put_next : (nodes sigs : List Sig) (left rest : List ℕ) (p : ℕ) (s : Sig) → left ≡ rest ++ p ∷ [] →
    p < length nodes → length rest < length sigs → s ≡ get_or sigs (length rest) Zero →
    with_sigs (nodes_of (set nodes p s)) rest sigs ≡ with_sigs (nodes_of nodes) left sigs
put_next nodes sigs left rest p s e low within is =
    ap (λ (f : ℕ → Sig). with_sigs f rest sigs) (written nodes p s low ∙ ap (put_sig (nodes_of nodes) p) is)
    ∙ last_put (nodes_of nodes) rest p sigs within
    ∙ ap (λ (xs : List ℕ). with_sigs (nodes_of nodes) xs sigs) (sym e)

pub put_none : (f : ℕ → Sig) (left : List ℕ) (sigs : List Sig) → length left ≡ 0 → f ≡ with_sigs f left sigs
unfolding with_sigs
put_none f [] sigs e = refl
put_none f (q ∷ left) sigs e = absurd (omega arith)

-- ---- marks that agree

pub kept_same : (a b : ℕ → Bool) (sources : ℕ) (k : Kept) (node : ℕ) (gs : List Gate) →
    ((p : ℕ) → node ≤ p → p < node + length gs → a p ≡ b p) →
    kept_after a sources k node gs ≡ kept_after b sources k node gs
unfolding kept_after
kept_same a b sources k node [] same = refl
kept_same a b sources k node (g ∷ gs) same =
    ap (λ (t : Bool). kept_after a sources (if t then with_kept sources k node g else k) (node + 1) gs) (same node (omega arith) (omega arith))
    ∙ kept_same a b sources (if b node then with_kept sources k node g else k) (node + 1) gs (λ p low high. same p (omega (arith, low)) (omega (arith, high)))

pub count_same : (a b : ℕ → Bool) (node : ℕ) (gs : List Gate) → ((p : ℕ) → node ≤ p → p < node + length gs → a p ≡ b p) → marked_count a node gs ≡ marked_count b node gs
unfolding marked_count
count_same a b node [] same = refl
count_same a b node (g ∷ gs) same =
    ap (λ (t : Bool). (if t then 1 else 0) + marked_count a (node + 1) gs) (same node (omega arith) (omega arith))
    ∙ ap (λ (x : ℕ). (if b node then 1 else 0) + x) (count_same a b (node + 1) gs (λ p low high. same p (omega (arith, low)) (omega (arith, high))))
