-- Nodes outside a window's transitive fanout (TFO): their transitive fanin is outside it too, and they keep
-- their values whatever bits the window's outputs are forced to.
use Rattle.std.specs.Prelude.{◌≡◌, ℕ, zero, suc, ◌+◌, ◌≤◌, ◌<◌, Bool, true, false, List}
use Rattle.std.proofs.Common.{arith, sym, ◌∙◌, ⊎_elim}
use Rattle.std.proofs.lemmas.Bool.{cases_Bool, cases_lt, both_ways}
use Rattle.net_theory.specs.Net.{Net, IsNet, end_of, value}
use Rattle.net_theory.specs.ValueLaws.{value-source}
use Rattle.window_theory.specs.Nodes.{among}
use Rattle.window_theory.specs.Paths.{IsGate, Reads, at_once, by_way_of}
use Rattle.window_theory.specs.Window.{Window, IsOutsideFanout, Belongs}
use Rattle.window_theory.specs.WindowLaws.{reads_low, gate_high, gate_at}
use Rattle.window_theory.specs.FaninCone.{Expands, ExpandsTo, stays, goes_on}
use Rattle.window_theory.specs.Care.{values_with}
use Rattle.window_theory.specs.FixedLaws.{with_source, with_fixed, with_gate, gate_same}
use Rattle.window_theory.specs.SubstitutedLaws.{value_gate}
use Rattle.observe_theory.specs.FanoutCone.{FanoutCone, IsFanoutCone}
use Rattle.observe_theory.specs.Unobservable.{AreObserving}
use Rattle.observe_theory.specs.JoinedLaws.{is_off}
use Rattle.observe_theory.specs.FanoutConeLaws.{side_input_apart}

pub apart_read : (n : Net) (gates : List ℕ) (p q : ℕ) → IsOutsideFanout n gates p → Reads n p q → IsOutsideFanout n gates q
apart_read n gates p q is reads =
    record {
      outside = is_off gates q (λ on. is.above q on (at_once q p reads));
      above = λ g inside up. is.above g inside (by_way_of g q p up reads);
    }

-- ---- leaves

-- nodes of the net outside the transitive fanout of `gates`
pub record AreFree (n : Net) (gates nodes : List ℕ) : Type 0 where
  pub apart : (p : ℕ) → among nodes p ≡ true → IsOutsideFanout n gates p
  pub within : (p : ℕ) → among nodes p ≡ true → p < end_of n

expanded_free : (n : Net) (gates leaves after : List ℕ) → IsNet n → AreFree n gates leaves → Expands n leaves after → AreFree n gates after
expanded_free n gates leaves after net are step =
    record {
      apart = λ p on. ⊎_elim
          (λ old. are.apart p old.0)
          (λ reads. apart_read n gates step.node p (are.apart step.node step.greatest.leaf) reads)
          (step.just.only p on);
      within = λ p on. ⊎_elim
          (λ old. are.within p old.0)
          (λ reads. omega (arith, are.within step.node step.greatest.leaf, (reads_low n step.node p net reads).1))
          (step.just.only p on);
    }

pub leaves_free : (n : Net) (gates nodes leaves : List ℕ) → IsNet n → AreFree n gates nodes → ExpandsTo n nodes leaves → AreFree n gates leaves
leaves_free n gates _ _ net are (stays leaves last) = are
leaves_free n gates _ _ net are (goes_on leaves after last step few rest) = leaves_free n gates after last net (expanded_free n gates leaves after net are step) rest

pub read_within : (n : Net) (g p : ℕ) → IsNet n → Reads n g p → p < end_of n
read_within n g p net reads = omega (arith, (reads_low n g p net reads).1, (gate_high n g reads.fanout).1)

-- The leaves of the observing fanin cone are outside the window's transitive fanout.
pub observing_free : (n : Net) (w : Window) (t : FanoutCone) (leaves : List ℕ) → IsNet n → Belongs n w → IsFanoutCone n w t → AreObserving n w t leaves → AreFree n w.gates leaves
observing_free n w t leaves net is fanout_cone are =
    leaves_free n w.gates are.first leaves net
    (record {
      apart = λ p on. ⊎_elim (λ a. is.apart p a) (λ b. side_input_apart n w t p net fanout_cone b) (are.just.only p on);
      within = λ p on. ⊎_elim
          (λ a. (is.within p a).1)
          (λ b. let side_input = fanout_cone.side_inputs.only p b in read_within n side_input.read.fanout p net side_input.read.reads)
          (are.just.only p on);
    })
    are.fanin_cone

-- ---- values

-- `put` has the bits of `given` at the sources, and any bits at other nodes
abbrev pub ArePut : Net → (ℕ → Bool) → (ℕ → Bool) → Type 0
ArePut n given put = (p : ℕ) → p ≤ n.sources → put p ≡ given p

-- a node outside the window isn't one of its outputs
pub not_output : (n : Net) (w : Window) (p : ℕ) → Belongs n w → among w.gates p ≡ false → among w.outputs p ≡ false
not_output n w p is off = is_off w.outputs p (λ on. both_ways (among w.gates p) off (is.outputs.only p on).inside)

apart_below : (n : Net) (w : Window) (given put : ℕ → Bool) (bound p : ℕ) → IsNet n → Belongs n w →
    ArePut n given put → IsOutsideFanout n w.gates p → p < bound → p < end_of n →
    values_with n (among w.outputs) put p ≡ value n given p
apart_below n w given put zero p net is are apart low within = absurd (omega arith)
apart_below n w given put (suc bound) p net is are apart low within =
    ⊎_elim
    (λ (source : p < n.sources + 1).
    with_source n (among w.outputs) put p (omega arith) ∙ are p (omega arith) ∙ sym (value-source given n.sources p n.gates (omega arith)))
    (λ (above : n.sources + 1 ≤ p).
    let gate : IsGate n p = gate_at n p above within in
    with_gate n (among w.outputs) put p gate net (not_output n w p is apart.outside)
    ∙ gate_same (values_with n (among w.outputs) put) (value n given) gate.gate
    (λ q reads.
    let r : Reads n p q = record { fanout = gate; reads = reads } in
    let below = reads_low n p q net r in
    apart_below n w given put bound q net is are (apart_read n w.gates p q apart r) (omega (arith, low, below.1)) (omega (arith, within, below.1)))
    ∙ sym (value_gate n given p gate net))
    (cases_lt p (n.sources + 1))

pub apart_value : (n : Net) (w : Window) (given put : ℕ → Bool) (p : ℕ) → IsNet n → Belongs n w → ArePut n given put →
    IsOutsideFanout n w.gates p → p < end_of n → values_with n (among w.outputs) put p ≡ value n given p
apart_value n w given put p net is are apart within = apart_below n w given put (suc p) p net is are apart (omega arith) within

again_below : (n : Net) (fixed more bits : ℕ → Bool) (bound p : ℕ) → IsNet n →
    ((q : ℕ) → fixed q ≡ true → more q ≡ true) → p < bound → p < end_of n →
    values_with n more (values_with n fixed bits) p ≡ values_with n fixed bits p
again_below n fixed more bits zero p net all low within = absurd (omega arith)
again_below n fixed more bits (suc bound) p net all low within =
    let own : ℕ → Bool = values_with n fixed bits in
    ⊎_elim
    (λ on. with_fixed n more own p on)
    (λ off.
    let free : fixed p ≡ false = ⊎_elim (λ on. absurd (both_ways (more p) off (all p on))) (λ none. none) (cases_Bool (fixed p)) in
    ⊎_elim
    (λ (source : p < n.sources + 1). with_source n more own p (omega arith))
    (λ (above : n.sources + 1 ≤ p).
    let gate : IsGate n p = gate_at n p above within in
    with_gate n more own p gate net off
    ∙ gate_same (values_with n more own) own gate.gate
    (λ q reads.
    let below = reads_low n p q net (record { fanout = gate; reads = reads }) in
    again_below n fixed more bits bound q net all (omega (arith, low, below.1)) (omega (arith, within, below.1)))
    ∙ sym (with_gate n fixed bits p gate net free))
    (cases_lt p (n.sources + 1)))
    (cases_Bool (more p))

-- Where more nodes are fixed to the values that they have, all values stay.
pub values_again : (n : Net) (fixed more bits : ℕ → Bool) (p : ℕ) → IsNet n →
    ((q : ℕ) → fixed q ≡ true → more q ≡ true) → p < end_of n → values_with n more (values_with n fixed bits) p ≡
    values_with n fixed bits p
values_again n fixed more bits p net all within = again_below n fixed more bits (suc p) p net all (omega arith) within
