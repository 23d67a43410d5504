-- The loops that write the marks and the map of nodes.
use Rattle.std.proofs.Common.{◌≡◌, ℕ, zero, suc, ◌+◌, ◌<◌, Bool, true, false, List, [], ◌∷◌, ◌++◌, length, set, get_or}
use Rattle.std.proofs.Common.{map, replicate, leb, add-zero, refl, ◌∙◌, ap, sym, arith, ⊎_elim, ◌==◌, ◌||◌}
use Rattle.std.proofs.Common.{if◌then◌else◌}
use Rattle.std.specs.List.{slice_get, range_with_len, list_any}
use Rattle.std.proofs.lemmas.List.{get_or_past}
use Rattle.std.proofs.lemmas.List.FromFn.{length-map-range_with_len}
use Rattle.std.proofs.lemmas.Bool.{cases_eq, cases_lt, lt-leb, cond-true, cond-false, eq-eqb, ne_eqb}
use Rattle.std.proofs.lemmas.List.{get_or-set_same, get_or-set_other}
use Rattle.chain_theory.specs.Value.{extended}
use Rattle.chain_theory.specs.ValueLaws.{extended-same, extended-other}
use Rattle.net_theory.specs.declared.data.Sig.{Sig}
use Rattle.net_theory.specs.declared.data.Sig.TheVariants.{Zero, One, Node}
use Rattle.net_theory.specs.declared.data.Gate.{Gate}
use Rattle.net_theory.specs.Net.{Net}
use Rattle.net_theory.specs.ValueLaws.{at_prefix}
use Rattle.net_theory.specs.Reach.{live, is_node, is_sink, with_mark, gate_marked, marked}
use Rattle.net_theory.specs.Moving.{nothing_kept, sources_stay, moved, put_sig, Kept, with_kept, kept_after, marked_count}
use Rattle.net_theory.specs.Dangling.{cleanup, kept_gates}
use Rattle.net_core.specs.Marks.{set_of, no_marks, sink_marks, nodes_of, kept, AreAt}

-- ---- marks

set_of-set_at : (marks : List Bool) (q : ℕ) (p : ℕ) → q < length marks → set_of (set marks q true) p ≡ extended (set_of marks) q true p
unfolding set_of
set_of-set_at marks q p low =
    ⊎_elim
    (λ here. ap (λ (k : ℕ). get_or (set marks q true) k false) here ∙ get_or-set_same marks q true false low ∙ sym (extended-same (λ (k : ℕ). get_or marks k false) q p true here))
    (λ other. get_or-set_other marks q p true false other ∙ sym (extended-other (λ (k : ℕ). get_or marks k false) q p true other))
    (cases_eq p q)

pub set_of-set : (marks : List Bool) (q : ℕ) → q < length marks → set_of (set marks q true) ≡ extended (set_of marks) q true
set_of-set marks q low = λ i p. set_of-set_at marks q p low i

-- writing one mark
pub set_of-mark : (marks : List Bool) (q : ℕ) (s : Sig) → s ≡ Node q → q < length marks → set_of (set marks q true) ≡ with_mark (set_of marks) s
set_of-mark marks q s e low = set_of-set marks q low ∙ ap (with_mark (set_of marks)) (sym e)

pub sink_marks-none : (marks : ℕ → Bool) (ss : List Sig) → length ss ≡ 0 → marks ≡ sink_marks marks ss
unfolding sink_marks
sink_marks-none marks [] e = refl
sink_marks-none marks (s ∷ ss) e = absurd (omega arith)

pub sink_marks-next : (marks : ℕ → Bool) (ss rest : List Sig) (s : Sig) → ss ≡ s ∷ rest → sink_marks (with_mark marks s) rest ≡ sink_marks marks ss
unfolding sink_marks
sink_marks-next marks ss rest s e = ap (sink_marks marks) (sym e)

-- a node is marked if it was marked before or is the node of the signal
with_mark-is : (marks : ℕ → Bool) (s : Sig) (p : ℕ) → with_mark marks s p ≡ (is_node p s || marks p)
with_mark-is marks Zero p = refl
with_mark-is marks One p = refl
with_mark-is marks (Node q) p =
    ⊎_elim
    (λ (same : p ≡ q). extended-same marks q p true same ∙ ap (λ (b : Bool). b || marks p) (sym (eq-eqb q p (sym same))))
    (λ other. extended-other marks q p true other ∙ ap (λ (b : Bool). b || marks p) (sym (ne_eqb q p (λ (same : q ≡ p). other (sym same)))))
    (cases_eq p q)

or_swap : (a b c : Bool) → (a || (b || c)) ≡ ((b || a) || c)
or_swap true true c = refl
or_swap true false c = refl
or_swap false true c = refl
or_swap false false c = refl

sink_marks-at : (marks : ℕ → Bool) (ss : List Sig) (p : ℕ) → sink_marks marks ss p ≡ (list_any (is_node p) ss || marks p)
unfolding sink_marks
sink_marks-at marks [] p = refl
sink_marks-at marks (s ∷ ss) p =
    sink_marks-at (with_mark marks s) ss p
    ∙ ap (λ (b : Bool). list_any (is_node p) ss || b) (with_mark-is marks s p)
    ∙ or_swap (list_any (is_node p) ss) (is_node p s) (marks p)

or_none : (a : Bool) → (a || false) ≡ a
or_none true = refl
or_none false = refl

-- After the loop over the sinks exactly the sinks are marked.
pub sink_marks-sinks : (n : Net) → sink_marks no_marks n.sinks ≡ is_sink n
unfolding is_sink
sink_marks-sinks n = λ i p. (sink_marks-at no_marks n.sinks p ∙ or_none (list_any (is_node p) n.sinks)) i

pub marked-none : (marks : ℕ → Bool) (node : ℕ) (gs : List Gate) → length gs ≡ 0 → marks ≡ marked marks node gs
unfolding marked
marked-none marks node [] e = refl
marked-none marks node (g ∷ gs) e = absurd (omega arith)

marked-push : (marks : ℕ → Bool) (node : ℕ) (gs : List Gate) (g : Gate) → marked (gate_marked marks (node + length gs) g) node gs ≡ marked marks node (gs ++ g ∷ [])
unfolding marked
marked-push marks node [] g = ap (λ (q : ℕ). gate_marked marks q g) (add-zero node)
marked-push marks node (h ∷ gs) g =
    let e : node + suc (length gs) ≡ (node + 1) + length gs = omega arith in
    ap (λ (q : ℕ). gate_marked (marked (gate_marked marks q g) (node + 1) gs) node h) e
    ∙ ap (λ (m : ℕ → Bool). gate_marked m node h) (marked-push marks (node + 1) gs g)

-- the last gate, if it is marked and if it isn't
pub marked-on : (marks : List Bool) (node q : ℕ) (gs rest : List Gate) (g : Gate) → gs ≡ rest ++ g ∷ [] →
    q ≡ node + length rest → get_or marks q false ≡ true →
    marked (with_mark (with_mark (set_of marks) g.a) g.b) node rest ≡ marked (set_of marks) node gs
unfolding set_of
marked-on marks node q gs rest g e at on =
    ap (λ (m : ℕ → Bool). marked m node rest) (sym (cond-true (set_of marks (node + length rest)) _ (set_of marks) (ap (λ (k : ℕ). get_or marks k false) (sym at) ∙ on)))
    ∙ marked-push (set_of marks) node rest g
    ∙ ap (marked (set_of marks) node) (sym e)

pub marked-off : (marks : List Bool) (node q : ℕ) (gs rest : List Gate) (g : Gate) → gs ≡ rest ++ g ∷ [] →
    q ≡ node + length rest → get_or marks q false ≡ false →
    marked (set_of marks) node rest ≡ marked (set_of marks) node gs
unfolding set_of
marked-off marks node q gs rest g e at off =
    ap (λ (m : ℕ → Bool). marked m node rest) (sym (cond-false (set_of marks (node + length rest)) _ (set_of marks) (ap (λ (k : ℕ). get_or marks k false) (sym at) ∙ off)))
    ∙ marked-push (set_of marks) node rest g
    ∙ ap (marked (set_of marks) node) (sym e)

-- the operands of all gates, the last one included, are below them
pub prefix_at : (node : ℕ) (gs rest : List Gate) (g : Gate) → gs ≡ rest ++ g ∷ [] → AreAt node gs → AreAt node rest
prefix_at node gs rest g e are =
    record { each = λ i h at. are.each i h (ap (λ (xs : List Gate). slice_get xs i) e ∙ at_prefix rest (g ∷ []) i h at) }

-- ---- nodes

nodes_of-set_at : (nodes : List Sig) (q : ℕ) (s : Sig) (p : ℕ) → q < length nodes → nodes_of (set nodes q s) p ≡ put_sig (nodes_of nodes) q s p
unfolding nodes_of
nodes_of-set_at nodes q s p low =
    ⊎_elim
    (λ here. ap (λ (k : ℕ). get_or (set nodes q s) k Zero) here ∙ get_or-set_same nodes q s Zero low ∙ sym (cond-true (p == q) s (get_or nodes p Zero) (eq-eqb p q here)))
    (λ other. get_or-set_other nodes q p s Zero other ∙ sym (cond-false (p == q) s (get_or nodes p Zero) (ne_eqb p q other)))
    (cases_eq p q)

pub nodes_of-set : (nodes : List Sig) (q : ℕ) (s : Sig) → q < length nodes → nodes_of (set nodes q s) ≡ put_sig (nodes_of nodes) q s
nodes_of-set nodes q s low = λ i p. nodes_of-set_at nodes q s p low i

pub kept_after-none : (marks : ℕ → Bool) (sources : ℕ) (k : Kept) (node : ℕ) (gs : List Gate) → length gs ≡ 0 → k ≡ kept_after marks sources k node gs
unfolding kept_after
kept_after-none marks sources k node [] e = refl
kept_after-none marks sources k node (g ∷ gs) e = absurd (omega arith)

pub kept_after-on : (marks : List Bool) (sources : ℕ) (k : Kept) (node : ℕ) (gs rest : List Gate) (g : Gate) →
    gs ≡ g ∷ rest → get_or marks node false ≡ true →
    kept_after (set_of marks) sources (with_kept sources k node g) (node + 1) rest ≡
    kept_after (set_of marks) sources k node gs
unfolding kept_after set_of
kept_after-on marks sources k node gs rest g e on =
    ap (λ (x : Kept). kept_after (set_of marks) sources x (node + 1) rest) (sym (cond-true (get_or marks node false) (with_kept sources k node g) k on))
    ∙ ap (kept_after (set_of marks) sources k node) (sym e)

pub kept_after-off : (marks : List Bool) (sources : ℕ) (k : Kept) (node : ℕ) (gs rest : List Gate) (g : Gate) →
    gs ≡ g ∷ rest → get_or marks node false ≡ false → kept_after (set_of marks) sources k (node + 1) rest ≡
    kept_after (set_of marks) sources k node gs
unfolding kept_after set_of
kept_after-off marks sources k node gs rest g e off =
    ap (λ (x : Kept). kept_after (set_of marks) sources x (node + 1) rest) (sym (cond-false (get_or marks node false) (with_kept sources k node g) k off))
    ∙ ap (kept_after (set_of marks) sources k node) (sym e)

-- the count goes up by one at each marked gate
pub marked_count-on : (marks : List Bool) (node : ℕ) (gs rest : List Gate) (g : Gate) → gs ≡ g ∷ rest →
    get_or marks node false ≡ true → marked_count (set_of marks) node gs ≡
    suc (marked_count (set_of marks) (node + 1) rest)
unfolding marked_count set_of
marked_count-on marks node gs rest g e on =
    omega (arith, ap (marked_count (set_of marks) node) e ∙ ap (λ (b : Bool). (if b then 1 else 0) + marked_count (set_of marks) (node + 1) rest) on)

pub marked_count-off : (marks : List Bool) (node : ℕ) (gs rest : List Gate) (g : Gate) → gs ≡ g ∷ rest →
    get_or marks node false ≡ false → marked_count (set_of marks) node gs ≡ marked_count (set_of marks) (node + 1) rest
unfolding marked_count set_of
marked_count-off marks node gs rest g e off =
    omega (arith, ap (marked_count (set_of marks) node) e ∙ ap (λ (b : Bool). (if b then 1 else 0) + marked_count (set_of marks) (node + 1) rest) off)

-- the initial map
start_at : (sources n i : ℕ) (p : ℕ) → p < n → get_or (map (sources_stay sources) (range_with_len i n)) p Zero ≡ sources_stay sources (i + p)
start_at sources zero i p low = absurd (omega arith)
start_at sources (suc n) i zero low = ap (sources_stay sources) (sym (add-zero i))
start_at sources (suc n) i (suc p) low = let e : (i + 1) + p ≡ i + suc p = omega arith in start_at sources n (i + 1) p (omega arith) ∙ ap (sources_stay sources) e

start_past : (sources p : ℕ) → sources < p → sources_stay sources p ≡ Zero
start_past sources p high = cond-false (leb p sources) (Node p) Zero (lt-leb p sources high)

starts_at : (sources n p : ℕ) → sources < n → nodes_of (map (sources_stay sources) (range_with_len 0 n)) p ≡ sources_stay sources p
unfolding nodes_of
starts_at sources n p low =
    ⊎_elim
    (λ in_. start_at sources n 0 p in_ ∙ ap (sources_stay sources) (omega arith))
    (λ out. get_or_past (map (sources_stay sources) (range_with_len 0 n)) p Zero (omega (arith, length-map-range_with_len (sources_stay sources) 0 n)) ∙ sym (start_past sources p (omega arith)))
    (cases_lt p n)

pub nodes_of-start : (sources n : ℕ) → sources < n → nodes_of (map (sources_stay sources) (range_with_len 0 n)) ≡ sources_stay sources
nodes_of-start sources n low = λ i p. starts_at sources n p low i

-- no node is marked
no_marks_at : (n p : ℕ) → set_of (replicate n false) p ≡ false
unfolding set_of
no_marks_at zero p = refl
no_marks_at (suc n) zero = refl
no_marks_at (suc n) (suc p) = no_marks_at n p

pub set_of-none : (n : ℕ) → set_of (replicate n false) ≡ no_marks
set_of-none n = λ i p. no_marks_at n p i

-- the resulting net is the net without its dangling gates
pub left_is : (n : Net) (marks : List Bool) (nodes : List Sig) (sources : ℕ) (gates : List Gate) (sinks : List Sig) →
    set_of marks ≡ live n → kept nodes gates ≡ kept_after (set_of marks) n.sources (nothing_kept n.sources)
    (n.sources + 1) n.gates → sources ≡ n.sources → sinks ≡ map (moved (nodes_of nodes)) n.sinks →
    record { sources = sources; gates = gates; sinks = sinks } ≡ cleanup n
unfolding cleanup
left_is n marks nodes sources gates sinks is_live is_kept same_sources same_sinks =
    let all : kept nodes gates ≡ kept_gates n = is_kept ∙ ap (λ (m : ℕ → Bool). kept_after m n.sources (nothing_kept n.sources) (n.sources + 1) n.gates) is_live in
    let is_gates : gates ≡ (kept_gates n).gates = ap (λ (k : Kept). k.gates) all in
    let is_nodes : nodes_of nodes ≡ (kept_gates n).nodes = ap (λ (k : Kept). k.nodes) all in
    let is_sinks : sinks ≡ map (moved (kept_gates n).nodes) n.sinks = same_sinks ∙ ap (λ (f : ℕ → Sig). map (moved f) n.sinks) is_nodes in
    let made : ℕ → List Gate → List Sig → Net = λ s g x. record { sources = s; gates = g; sinks = x } in
    ap (λ s. made s gates sinks) same_sources ∙ ap (λ g. made n.sources g sinks) is_gates ∙ ap (λ x. made n.sources (kept_gates n).gates x) is_sinks
