-- The net after a substitution has the values that the chain's outputs give.
use Rattle.std.specs.Prelude.{◌≡◌, ℕ, zero, suc, ◌+◌, ◌-◌, ◌≤◌, ◌<◌, ◌^◌, Bool, true, false, not, List, [], ◌∷◌, length, map, slice_get, Some, ◌⊎◌, refl}
use Rattle.std.proofs.Common.{arith, sym, ◌∙◌, ap, subst, inl, inr, ⊎_elim}
use Rattle.std.proofs.lemmas.Bool.{and_parts, and_from, not-true, both_ways, cases_lt, cases_Bool}
use Rattle.std.proofs.lemmas.List.{length-map}
use Rattle.chain_theory.specs.Chain.{Chain, IsStepAt, NamesPlace}
use Rattle.chain_theory.specs.ValueLaws.{values_after-step, values_after-below}
use Rattle.chain_theory.specs.declared.data.Out.{Out}
use Rattle.chain_theory.specs.declared.data.Out.TheVariants as outs
use Rattle.net_theory.specs.declared.data.Sig.{Sig}
use Rattle.net_theory.specs.declared.data.Sig.TheVariants.{Node}
use Rattle.net_theory.specs.declared.data.Gate.{Gate}
use Rattle.net_theory.specs.Net.{Net, IsNet, IsSigBelow, end_of, sig_value, gate_value, values_of, value, sink_values}
use Rattle.net_theory.specs.NameLaws.{all_at, at_all, at_map}
use Rattle.net_theory.specs.ValueLaws.{ExtendsGates, grown_sig, below_later, value-source, values_after-gate}
use Rattle.net_theory.specs.Reach.{ReadsNode}
use Rattle.net_theory.specs.ReachLaws.{sink_in, reach_closed}
use Rattle.net_theory.specs.Moving.{moved, nothing_kept}
use Rattle.net_theory.specs.MovingLaws.{IsMarked, Moves, AreMovable, IsSourceNode, moves_start, moved_below, moved_value, net_movable, keep_all}
use Rattle.window_theory.specs.Nodes.{among}
use Rattle.window_theory.specs.Paths.{IsGate, Reads}
use Rattle.window_theory.specs.Window.{Window, Belongs}
use Rattle.window_theory.specs.WindowLaws.{reads_low, gate_high, gate_at}
use Rattle.window_theory.specs.FixedLaws.{with_source, with_fixed, with_gate, gate_same}
use Rattle.window_theory.specs.Substituted.{Fits, input_node, chain_bits, out_bit, substituted_bits, substituted_value}
use Rattle.window_theory.specs.Substituted.{is_early, is_late, step_gate, out_sig, early_kept, chain_kept, late_start}
use Rattle.window_theory.specs.Substituted.{all_kept, after_substitution}
use Rattle.window_theory.specs.EarlyLaws.{early_outside}
use Rattle.window_theory.specs.PairLaws.{among_at, sigs_other, bits_other, IsSet, is_set}

-- ---- early nodes: the window's inputs and their transitive fanin

-- a source, or an early gate
abbrev pub IsEarly : Net → Window → ℕ → Type 0
IsEarly n w p = IsSourceNode n.sources p ⊎ IsMarked (is_early n w) (n.sources + 1) (length n.gates) p

early_moves : (n : Net) (w : Window) → IsNet n → Moves n.sources (value n) (IsEarly n w) (early_kept n w)
early_moves n w net =
    (keep_all n.sources (value n) (IsSourceNode n.sources) (is_early n w) (nothing_kept n.sources) (n.sources + 1) n.gates (moves_start n)
    (net_movable n (IsSourceNode n.sources) (is_early n w) net (λ p e. e) (λ i p g at reads on. inr ((reach_closed n (among w.inputs) net).gates i p g at reads on)))).0

-- a marked node of the net is a source or a marked gate
placed : (n : Net) (marks : ℕ → Bool) (p : ℕ) → 1 ≤ p → p < end_of n → marks p ≡ true → IsSourceNode n.sources p ⊎ IsMarked marks (n.sources + 1) (length n.gates) p
placed n marks p some low on =
    ⊎_elim
    (λ (source : p < n.sources + 1). inl (some, omega arith))
    (λ (above : n.sources + 1 ≤ p). inr (record { low = above; high = low; mark = on }))
    (cases_lt p (n.sources + 1))

input_early : (n : Net) (w : Window) (p : ℕ) → IsNet n → Belongs n w → among w.inputs p ≡ true → IsEarly n w p
input_early n w p net is on =
    let there = is.within p on in
    placed n (is_early n w) p there.0 there.1 ((reach_closed n (among w.inputs) net).starts p on)

-- ---- the chain

-- the chain's inputs
abbrev IsChainInput : Chain → ℕ → Type 0
IsChainInput c j = (1 ≤ j) × (j ≤ c.n)

abbrev IsChainPlace : Chain → ℕ → Type 0
IsChainPlace c j = IsChainInput c j ⊎ IsMarked (λ p. true) (c.n + 1) (length (map step_gate c.steps)) j

chain_start : (n : Net) (w : Window) (c : Chain) → IsNet n → Belongs n w → Fits w c →
    Moves n.sources (chain_bits n w c) (IsChainInput c) (record {
      nodes = λ j. (early_kept n w).nodes (input_node w j);
      gates = (early_kept n w).gates;
    })
chain_start n w c net is fits =
    let moves : Moves n.sources (value n) (IsEarly n w) (early_kept n w) = early_moves n w net in
    let known : (j : ℕ) → IsChainInput c j → IsEarly n w (input_node w j) = λ j e. input_early n w (input_node w j) net is (among_at w.inputs (j - 1) 0 (omega (arith, e.0, e.1, fits.inputs))) in
    record {
      gates = moves.gates;
      below = λ j e. moves.below (input_node w j) (known j e);
      same = λ given j e. moves.same given (input_node w j) (known j e) ∙ sym (values_after-below (λ i. value n given (input_node w i)) (c.n + 1) j c.steps (omega (arith, e.1)));
    }

node_same : (j p : ℕ) → Node j ≡ Node p → j ≡ p
node_same j p e = cc

chain_movable : (n : Net) (w : Window) (c : Chain) → Fits w c → AreMovable (chain_bits n w c) (IsChainInput c) (λ p. true) (c.n + 1) (map step_gate c.steps)
chain_movable n w c fits =
    record {
      operators = λ i g at on. let s = at_map step_gate c.steps i g at in subst (λ (x : Gate). x.op < 16) s.2 (fits.chain.steps.each i s.0 s.1).op_below;
      reads = λ i p g at on reads.
          let s = at_map step_gate c.steps i g at in
          let here : IsStepAt (c.n + 1 + i) s.0 = fits.chain.steps.each i s.0 s.1 in
          let own : ReadsNode (step_gate s.0) p = subst (λ (x : Gate). ReadsNode x p) (sym s.2) reads in
          let low = ⊎_elim
          (λ j. let e : s.0.j ≡ p = node_same s.0.j p j in let r : (1 ≤ p) × (p < c.n + 1 + i) = (omega (arith, e, here.j_from), omega (arith, e, here.j_below)) in r)
          (λ k. let e : s.0.k ≡ p = node_same s.0.k p k in let r : (1 ≤ p) × (p < c.n + 1 + i) = (omega (arith, e, here.k_from), omega (arith, e, here.k_below)) in r)
          own in
          ⊎_elim
          (λ (input : p < c.n + 1). inl (low.0, omega arith))
          (λ (above : c.n + 1 ≤ p). inr (record { low = above; high = low.1; mark = refl }))
          (cases_lt p (c.n + 1));
      values = λ given i g at on.
          let s = at_map step_gate c.steps i g at in
          let here : IsStepAt (c.n + 1 + i) s.0 = fits.chain.steps.each i s.0 s.1 in
          values_after-step (λ j. value n given (input_node w j)) (c.n + 1) i c.steps s.0 s.1 here.j_below here.k_below ∙ ap (gate_value (chain_bits n w c given)) s.2;
    }

chain_moves : (n : Net) (w : Window) (c : Chain) → IsNet n → Belongs n w → Fits w c →
    Moves n.sources (chain_bits n w c) (IsChainPlace c) (chain_kept n w c) ×
    ExtendsGates n.sources (early_kept n w).gates (chain_kept n w c).gates
chain_moves n w c net is fits =
    keep_all n.sources (chain_bits n w c) (IsChainInput c) (λ p. true)
    (record { nodes = λ j. (early_kept n w).nodes (input_node w j); gates = (early_kept n w).gates }) (c.n + 1)
    (map step_gate c.steps) (chain_start n w c net is fits) (chain_movable n w c fits)

-- a place that the chain names is an input or a step
chain_place : (c : Chain) (q : ℕ) → NamesPlace (c.n + length c.steps) (outs.Place q) → IsChainPlace c q
chain_place c q names =
    ⊎_elim
    (λ (input : q < c.n + 1). inl (names.0, omega arith))
    (λ (above : c.n + 1 ≤ q). inr (record { low = above; high = omega (arith, names.1, length-map c.steps step_gate); mark = refl }))
    (cases_lt q (c.n + 1))

out_below : (n : Net) (w : Window) (c : Chain) (x : Out) →
    Moves n.sources (chain_bits n w c) (IsChainPlace c) (chain_kept n w c) → NamesPlace (c.n + length c.steps) x →
    IsSigBelow (n.sources + 1 + length (chain_kept n w c).gates) (out_sig (chain_kept n w c).nodes x)
out_below n w c outs.Zero moves names = tt
out_below n w c outs.One moves names = tt
out_below n w c (outs.Place q) moves names = moves.below q (chain_place c q names)

out_same : (n : Net) (w : Window) (c : Chain) (x : Out) (given : ℕ → Bool) →
    Moves n.sources (chain_bits n w c) (IsChainPlace c) (chain_kept n w c) → NamesPlace (c.n + length c.steps) x →
    sig_value (values_of given n.sources (chain_kept n w c).gates) (out_sig (chain_kept n w c).nodes x) ≡
    out_bit (chain_bits n w c given) x
out_same n w c outs.Zero given moves names = refl
out_same n w c outs.One given moves names = refl
out_same n w c (outs.Place q) given moves names = moves.same given q (chain_place c q names)

-- ---- values of early nodes

pub value_gate : (n : Net) (given : ℕ → Bool) (p : ℕ) (is : IsGate n p) → IsNet n → value n given p ≡ gate_value (value n given) is.gate
value_gate n given p is net =
    subst (λ (q : ℕ). value n given q ≡ gate_value (value n given) is.gate) is.node (values_after-gate given (n.sources + 1) is.index n.gates is.gate is.at (net.gates.each is.index is.gate is.at))

pub not_output : (n : Net) (w : Window) (p : ℕ) → Belongs n w → among w.gates p ≡ false → among w.outputs p ≡ false
not_output n w p is outside =
    ⊎_elim (λ on. absurd (both_ways (among w.gates p) outside (is.outputs.only p on).inside)) (λ off. off) (cases_Bool (among w.outputs p))

pub source_outside : (n : Net) (w : Window) (p : ℕ) → Belongs n w → p ≤ n.sources → among w.gates p ≡ false
source_outside n w p is low =
    ⊎_elim (λ inside. let high = gate_high n p (is.gates p inside) in absurd (omega (arith, high.0, low))) (λ off. off) (cases_Bool (among w.gates p))

early_below : (n : Net) (w : Window) (c : Chain) (given : ℕ → Bool) (bound p : ℕ) → IsNet n → Belongs n w → p < bound → IsEarly n w p → value n given p ≡ substituted_value n w c given p
early_below n w c given zero p net is low early = absurd (omega arith)
early_below n w c given (suc bound) p net is low early =
    ⊎_elim
    (λ source.
    value-source given n.sources p n.gates source.1
    ∙ sym (with_source n (among w.outputs) (substituted_bits n w c given) p source.1
    ∙ bits_other given w.outputs (map (out_bit (chain_bits n w c given)) c.outs) p (not_output n w p is (source_outside n w p is source.1))))
    (λ m.
    let gate : IsGate n p = gate_at n p m.low m.high in
    let free : among w.outputs p ≡ false = not_output n w p is (early_outside n w p is m.mark) in
    value_gate n given p gate net
    ∙ gate_same (value n given) (substituted_value n w c given) gate.gate
    (λ q reads.
    let r : Reads n p q = record { fanout = gate; reads = reads } in
    let below = reads_low n p q net r in
    let on : is_early n w q ≡ true = (reach_closed n (among w.inputs) net).gates gate.index q gate.gate gate.at reads (subst (λ (x : ℕ). is_early n w x ≡ true) (sym gate.node) m.mark) in
    early_below n w c given bound q net is (omega (arith, low, below.1)) (placed n (is_early n w) q below.0 (omega (arith, below.1, m.high)) on))
    ∙ sym (with_gate n (among w.outputs) (substituted_bits n w c given) p gate net free))
    early

-- Early nodes don't depend on the window's outputs.
early_same : (n : Net) (w : Window) (c : Chain) (given : ℕ → Bool) (p : ℕ) → IsNet n → Belongs n w → IsEarly n w p → value n given p ≡ substituted_value n w c given p
early_same n w c given p net is early = early_below n w c given (suc p) p net is (omega arith) early

-- ---- late nodes: all others outside the window

-- early, or an output of the window
abbrev IsKnown : Net → Window → ℕ → Type 0
IsKnown n w p = IsEarly n w p ⊎ (among w.outputs p ≡ true)

known_early : (n : Net) (w : Window) (p : ℕ) → among w.outputs p ≡ false → IsKnown n w p → IsEarly n w p
known_early n w p off e = ⊎_elim (λ early. early) (λ on. absurd (both_ways (among w.outputs p) off on)) e

late_begins : (n : Net) (w : Window) (c : Chain) → IsNet n → Belongs n w → Fits w c → Moves n.sources (substituted_value n w c) (IsKnown n w) (late_start n w c)
late_begins n w c net is fits =
    let early : Moves n.sources (value n) (IsEarly n w) (early_kept n w) = early_moves n w net in
    let both = chain_moves n w c net is fits in
    let end : ℕ = n.sources + 1 + length (chain_kept n w c).gates in
    let outs_names : (i : ℕ) (x : Out) → slice_get c.outs i ≡ Some x → NamesPlace (c.n + length c.steps) x = λ i x at. all_at (NamesPlace (c.n + length c.steps)) c.outs i x fits.chain.outs at in
    record {
      gates = both.0.gates;
      below = λ p e. ⊎_elim
          (λ on.
          let set : IsSet (early_kept n w).nodes (λ q. false) w.outputs c.outs (out_sig (chain_kept n w c).nodes)
          (λ x. false) p = is_set (early_kept n w).nodes (λ q. false) w.outputs c.outs
          (out_sig (chain_kept n w c).nodes) (λ x. false) p fits.outs on in
          subst (IsSigBelow end) (sym set.has_sig) (out_below n w c set.out both.0 (outs_names set.index set.out set.at)))
          (λ off.
          subst (IsSigBelow end) (sym (sigs_other (early_kept n w).nodes w.outputs (map (out_sig (chain_kept n w c).nodes) c.outs) p off))
          (below_later ((early_kept n w).nodes p) (n.sources + 1 + length (early_kept n w).gates) end (omega (arith, both.1.longer)) (early.below p (known_early n w p off e))))
          (cases_Bool (among w.outputs p));
      same = λ given p e. ⊎_elim
          (λ on.
          let set : IsSet (early_kept n w).nodes given w.outputs c.outs (out_sig (chain_kept n w c).nodes)
          (out_bit (chain_bits n w c given)) p =
          is_set (early_kept n w).nodes given w.outputs c.outs (out_sig (chain_kept n w c).nodes)
          (out_bit (chain_bits n w c given)) p fits.outs on in
          ap (sig_value (values_of given n.sources (chain_kept n w c).gates)) set.has_sig
          ∙ out_same n w c set.out given both.0 (outs_names set.index set.out set.at)
          ∙ sym set.has_bit
          ∙ sym (with_fixed n (among w.outputs) (substituted_bits n w c given) p on))
          (λ off.
          ap (sig_value (values_of given n.sources (chain_kept n w c).gates)) (sigs_other (early_kept n w).nodes w.outputs (map (out_sig (chain_kept n w c).nodes) c.outs) p off)
          ∙ grown_sig n.sources (early_kept n w).gates (chain_kept n w c).gates ((early_kept n w).nodes p) given both.1 (early.below p (known_early n w p off e))
          ∙ early.same given p (known_early n w p off e)
          ∙ early_same n w c given p net is (known_early n w p off e))
          (cases_Bool (among w.outputs p));
    }

late_outside : (n : Net) (w : Window) (p : ℕ) → is_late n w p ≡ true → among w.gates p ≡ false
late_outside n w p late = not-true (among w.gates p) (and_parts (not (is_early n w p)) (not (among w.gates p)) late).1

is_late_there : (n : Net) (w : Window) (p : ℕ) → is_early n w p ≡ false → among w.gates p ≡ false → is_late n w p ≡ true
is_late_there n w p not_early outside = and_from (not (is_early n w p)) (not (among w.gates p)) (ap not not_early) (ap not outside)

-- A node of the net that isn't hidden in the window is known, or late.
seen_known : (n : Net) (w : Window) (p : ℕ) → 1 ≤ p → p < end_of n → (among w.gates p ≡ true → among w.outputs p ≡ true) → IsKnown n w p ⊎ IsMarked (is_late n w) (n.sources + 1) (length n.gates) p
seen_known n w p some low seen =
    ⊎_elim
    (λ inside. inl (inr (seen inside)))
    (λ outside. ⊎_elim
    (λ early. inl (inl (placed n (is_early n w) p some low early)))
    (λ not_early. ⊎_elim (λ source. inl (inl (inl source))) (λ late. inr late) (placed n (is_late n w) p some low (is_late_there n w p not_early outside)))
    (cases_Bool (is_early n w p)))
    (cases_Bool (among w.gates p))

late_movable : (n : Net) (w : Window) (c : Chain) → IsNet n → Belongs n w → AreMovable (substituted_value n w c) (IsKnown n w) (is_late n w) (n.sources + 1) n.gates
late_movable n w c net is =
    record {
      operators = λ i g at on. (net.gates.each i g at).operator;
      reads = λ i p g at on reads.
          let node : ℕ = n.sources + 1 + i in
          let gate : IsGate n node = record { index = i; gate = g; at = at; node = refl } in
          let r : Reads n node p = record { fanout = gate; reads = reads } in
          let low = reads_low n node p net r in
          let high = gate_high n node gate in
          ⊎_elim
          (λ known. inl known)
          (λ m. inr (record { low = m.low; high = low.1; mark = m.mark }))
          (seen_known n w p low.0 (omega (arith, low.1, high.1)) (λ inside.
          is.outputs.all p (record {
            inside = inside;
            seen = inl (record { fanout = node; outside = late_outside n w node on; reads = r });
          })));
      values = λ given i g at on.
          let node : ℕ = n.sources + 1 + i in
          with_gate n (among w.outputs) (substituted_bits n w c given) node (record { index = i; gate = g; at = at; node = refl }) net (not_output n w node is (late_outside n w node on));
    }

abbrev IsThere : Net → Window → ℕ → Type 0
IsThere n w p = IsKnown n w p ⊎ IsMarked (is_late n w) (n.sources + 1) (length n.gates) p

all_moves : (n : Net) (w : Window) (c : Chain) → IsNet n → Belongs n w → Fits w c → Moves n.sources (substituted_value n w c) (IsThere n w) (all_kept n w c)
all_moves n w c net is fits =
    (keep_all n.sources (substituted_value n w c) (IsKnown n w) (is_late n w) (late_start n w c) (n.sources + 1) n.gates (late_begins n w c net is fits) (late_movable n w c net is)).0

-- ---- the net

sink_there : (n : Net) (w : Window) (i : ℕ) (s : Sig) → IsNet n → Belongs n w → slice_get n.sinks i ≡ Some s → (p : ℕ) → s ≡ Node p → IsThere n w p
sink_there n w i s net is at p e =
    let low : IsSigBelow (end_of n) (Node p) = subst (IsSigBelow (end_of n)) e (all_at (IsSigBelow (end_of n)) n.sinks i s net.sinks at) in
    seen_known n w p low.0 low.1 (λ inside. is.outputs.all p (record { inside = inside; seen = inr (sink_in n i p (at ∙ ap Some e)) }))

map_values : (f g : Sig → Bool) (move : Sig → Sig) (ss : List Sig) → ((i : ℕ) (s : Sig) → slice_get ss i ≡ Some s → f (move s) ≡ g s) → map f (map move ss) ≡ map g ss
map_values f g move [] same = refl
map_values f g move (s ∷ ss) same =
    rw (same 0 s refl, map_values f g move ss (λ i t e. same (suc i) t e)) refl

-- The sinks have the values that the net gives with the chain's outputs in place of the window's.
pub values_substituted : (n : Net) (w : Window) (c : Chain) (given : ℕ → Bool) → IsNet n → Belongs n w → Fits w c →
    sink_values (after_substitution n w c) given ≡ map (sig_value (substituted_value n w c given)) n.sinks
unfolding after_substitution
values_substituted n w c given net is fits =
    map_values (sig_value (values_of given n.sources (all_kept n w c).gates)) (sig_value (substituted_value n w c given)) (moved (all_kept n w c).nodes) n.sinks (λ i s e.
    moved_value n.sources (substituted_value n w c) (IsThere n w) (all_kept n w c) s given (all_moves n w c net is fits) (sink_there n w i s net is e))

pub substituted_net : (n : Net) (w : Window) (c : Chain) → IsNet n → Belongs n w → Fits w c → n.sources + length (after_substitution n w c).gates < 2 ^ 31 → IsNet (after_substitution n w c)
unfolding after_substitution
substituted_net n w c net is fits few =
    let moves : Moves n.sources (substituted_value n w c) (IsThere n w) (all_kept n w c) = all_moves n w c net is fits in
    let end : ℕ = n.sources + 1 + length (all_kept n w c).gates in
    record {
      gates = moves.gates;
      sinks = at_all (IsSigBelow end) (map (moved (all_kept n w c).nodes) n.sinks) (λ i t e.
          let s = at_map (moved (all_kept n w c).nodes) n.sinks i t e in
          subst (IsSigBelow end) s.2 (moved_below n.sources (substituted_value n w c) (IsThere n w) (all_kept n w c) s.0 moves (sink_there n w i s.0 net is s.1)));
      nodes = few;
    }
