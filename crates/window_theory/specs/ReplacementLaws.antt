-- A chain can be substituted for any window that belongs to a net.
use Rattle.std.specs.Prelude.{◌≡◌, ℕ, ◌+◌, ◌≤◌, ◌<◌, ◌^◌, Bool, true, false, not, ◌&&◌, if◌then◌else◌, length, map, Some, refl}
use Rattle.std.proofs.Common.{arith, sym, ◌∙◌, ap}
use Rattle.std.proofs.lemmas.List.{length-map}
use Rattle.chain_theory.specs.Specification.{Specification}
use Rattle.chain_theory.specs.Chain.{Chain, IsChain}
use Rattle.chain_theory.specs.Agreement.{Agrees}
use Rattle.net_theory.specs.declared.data.Sig.{Sig}
use Rattle.net_theory.specs.declared.data.Sig.TheVariants.{Zero, One, Node}
use Rattle.net_theory.specs.Net.{Net, IsNet, sink_values}
use Rattle.net_theory.specs.NameLaws.{map_at, index_map}
use Rattle.net_theory.specs.Moving.{moved, nothing_kept}
use Rattle.net_theory.specs.MovingLaws.{nodes_low, source_stays}
use Rattle.net_theory.specs.Implements.{IsTrivialSink, Implements}
use Rattle.window_theory.specs.Nodes.{among}
use Rattle.window_theory.specs.Window.{Window, Belongs}
use Rattle.window_theory.specs.WindowLaws.{gate_high}
use Rattle.window_theory.specs.Care.{IsSpecificationOf}
use Rattle.window_theory.specs.Substituted.{Fits, input_node, out_sig, is_early, is_late, step_gate, early_kept}
use Rattle.window_theory.specs.Substituted.{chain_kept, late_start, all_kept, after_substitution, passing, HasOperators}
use Rattle.window_theory.specs.Substituted.{IsSubstitution}
use Rattle.window_theory.specs.EarlyLaws.{early_outside}
use Rattle.window_theory.specs.PairLaws.{sigs_other}
use Rattle.window_theory.specs.PassingLaws.{passing_kept, passing_parts, passing_all, passing_among}
use Rattle.window_theory.specs.SubstitutedLaws.{not_output, source_outside, values_substituted, substituted_net}
use Rattle.window_theory.specs.SubstitutionLaws.{signals_real}

-- ---- operators

one_part : (early inside passes : Bool) → (early ≡ true → inside ≡ false) →
    (if early && passes then 1 else 0) + (if (not early && not inside) && passes then 1 else 0) ≡ (if not inside &&
    passes then 1 else 0)
one_part true true passes apart = absurd (let e : true ≡ false = apart refl in cc)
one_part true false true apart = refl
one_part true false false apart = refl
one_part false true true apart = refl
one_part false true false apart = refl
one_part false false true apart = refl
one_part false false false apart = refl

substituted_operators : (n : Net) (w : Window) (c : Chain) → Belongs n w → HasOperators n w c (after_substitution n w c)
unfolding after_substitution passing
substituted_operators n w c is test =
    let start : ℕ = n.sources + 1 in
    let late = passing_kept test (is_late n w) n.sources start (late_start n w c) start n.gates in
    let steps = passing_kept test (λ p. true) n.sources start (record { nodes = λ j. (early_kept n w).nodes (input_node w j); gates = (early_kept n w).gates }) (c.n + 1) (map step_gate c.steps) in
    let early = passing_kept test (is_early n w) n.sources start (nothing_kept n.sources) start n.gates in
    let outside = passing_parts (λ p op. is_early n w p && test op) (λ p op. is_late n w p &&
    test op) (λ p op. not (among w.gates p) &&
    test op) start n.gates (λ p op. one_part (is_early n w p) (among w.gates p) (test op)
    (λ e. early_outside n w p is e)) in
    omega (arith, late, steps, early, outside)

inside_or_not : (inside : Bool) → (if inside then 1 else 0) + (if not inside && true then 1 else 0) ≡ 1
inside_or_not true = refl
inside_or_not false = refl

substituted_count : (n : Net) (w : Window) (c : Chain) (m : Net) → Belongs n w → HasOperators n w c m → length m.gates + length w.gates ≡ length n.gates + length c.steps
substituted_count n w c m is operators =
    let start : ℕ = n.sources + 1 in
    let new = passing_all (m.sources + 1) m.gates in
    let old = passing_all start n.gates in
    let steps = passing_all (c.n + 1) (map step_gate c.steps) in
    let inside = passing_among start n.gates w.gates is.rising (λ p e. let high = gate_high n p (is.gates p e) in (omega (arith, high.0), high.1)) in
    let both = passing_parts (λ p op. among w.gates p) (λ p op. not (among w.gates p) && true) (λ p op. true) start n.gates (λ p op. inside_or_not (among w.gates p)) in
    omega (arith, operators (λ op. true), new, old, steps, inside, both, length-map c.steps step_gate)

-- ---- sinks

source_substituted : (n : Net) (w : Window) (c : Chain) (p : ℕ) → Belongs n w → p ≤ n.sources → (all_kept n w c).nodes p ≡ Node p
source_substituted n w c p is low =
    nodes_low (is_late n w) n.sources (late_start n w c) (n.sources + 1) n.gates p (omega arith)
    ∙ sigs_other (early_kept n w).nodes w.outputs (map (out_sig (chain_kept n w c).nodes) c.outs) p (not_output n w p is (source_outside n w p is low))
    ∙ nodes_low (is_early n w) n.sources (nothing_kept n.sources) (n.sources + 1) n.gates p (omega arith)
    ∙ source_stays n.sources p low

still_substituted : (n : Net) (w : Window) (c : Chain) (s : Sig) → Belongs n w → IsTrivialSink n.sources s → moved (all_kept n w c).nodes s ≡ s
still_substituted n w c Zero is still = refl
still_substituted n w c One is still = refl
still_substituted n w c (Node p) is still = source_substituted n w c p is still

-- ---- the net

-- The substitution gives a net, where the result has fewer than 2^31 nodes.
pub substituted_is : (n : Net) (w : Window) (c : Chain) → IsNet n → Belongs n w → Fits w c →
    n.sources + length n.gates + length c.steps < 2 ^ 31 + length w.gates →
    IsSubstitution n w c (after_substitution n w c)
unfolding after_substitution
substituted_is n w c net is fits few =
    let operators : HasOperators n w c (after_substitution n w c) = substituted_operators n w c is in
    let count : length (all_kept n w c).gates + length w.gates ≡ length n.gates + length c.steps = substituted_count n w c (after_substitution n w c) is operators in
    let move : Sig → Sig = moved (all_kept n w c).nodes in
    record {
      net = substituted_net n w c net is fits (omega (arith, few, count));
      sources = refl;
      sink_count = length-map n.sinks move;
      values = λ given. values_substituted n w c given net is fits;
      operators = operators;
      gate_count = count;
      still = λ i s at still. map_at move n.sinks i s at ∙ ap Some (still_substituted n w c s is still);
      equal = λ i j d low_i low_j same. index_map move n.sinks i d low_i ∙ ap move same ∙ sym (index_map move n.sinks j d low_j);
    }

-- Where the chain implements the window's specification, the sinks keep their values.
pub substituted_values : (n m : Net) (w : Window) (s : Specification) (c : Chain) (given : ℕ → Bool) → IsNet n →
    Belongs n w → IsChain c → IsSpecificationOf n w s → Agrees c s → IsSubstitution n w c m →
    sink_values m given ≡ sink_values n given
substituted_values n m w s c given net is chain spec agrees new = new.values given ∙ signals_real n w s c given net is chain spec agrees

-- And where it has no more steps than the window has gates, the new net implements the old one.
pub substituted_implements : (n m : Net) (w : Window) (s : Specification) (c : Chain) → IsNet n → Belongs n w →
    IsChain c → IsSpecificationOf n w s → Agrees c s → IsSubstitution n w c m → length c.steps ≤ length w.gates →
    Implements n m
substituted_implements n m w s c net is chain spec agrees new few =
    record {
      net = new.net;
      sources = new.sources;
      sink_count = new.sink_count;
      values = λ given. substituted_values n m w s c given net is chain spec agrees new;
      fewer = omega (arith, new.gate_count, few);
      still = new.still;
      equal = new.equal;
    }
