-- On an unobservable row every sink keeps its value, whatever bits the window's outputs are forced to.
use Rattle.std.specs.Prelude.{◌≡◌, ℕ, zero, suc, ◌+◌, ◌≤◌, ◌<◌, Bool, true, false, List, ◌++◌, slice_get, slice_index_or, Some, refl}
use Rattle.std.proofs.Common.{arith, sym, ◌∙◌, inl, inr, ⊎_elim}
use Rattle.std.proofs.lemmas.Bool.{cases_lt, cases_Bool}
use Rattle.net_theory.specs.declared.data.Sig.{Sig}
use Rattle.net_theory.specs.declared.data.Sig.TheVariants.{Zero, One, Node}
use Rattle.net_theory.specs.Net.{Net, IsNet, IsSigBelow, end_of, sig_value, value}
use Rattle.net_theory.specs.NameLaws.{all_at}
use Rattle.net_theory.specs.ReachLaws.{sink_in, in_sinks}
use Rattle.net_theory.specs.Reach.{is_sink}
use Rattle.net_theory.specs.ValueLaws.{value-source}
use Rattle.window_theory.specs.Nodes.{among}
use Rattle.window_theory.specs.Paths.{IsGate, Reads}
use Rattle.window_theory.specs.Window.{Window, IsOutput, Belongs}
use Rattle.window_theory.specs.WindowLaws.{reads_low, gate_high, gate_at}
use Rattle.window_theory.specs.Care.{values_with, HasRow}
use Rattle.window_theory.specs.CareLaws.{values_real}
use Rattle.window_theory.specs.FixedLaws.{with_source, with_gate, gate_same}
use Rattle.window_theory.specs.SubstitutedLaws.{value_gate}
use Rattle.observe_theory.specs.FanoutCone.{IsConeOutput, FanoutCone, IsFanoutCone}
use Rattle.observe_theory.specs.Unobservable.{IsUnobservable}
use Rattle.observe_theory.specs.JoinedLaws.{in_back, in_parts, out_back}
use Rattle.observe_theory.specs.ApartLaws.{AreFree, ArePut, observing_free, apart_value, values_again, not_output}

sink_within : (n : Net) (p : ℕ) → IsNet n → is_sink n p ≡ true → p < end_of n
sink_within n p net on =
    let at = in_sinks n p on in
    (all_at (IsSigBelow (end_of n)) n.sinks at.0 (Node p) net.sinks at.1).1

-- an output of the fanout cone is a node of the net
output_gate : (n : Net) (w : Window) (t : FanoutCone) (p : ℕ) → IsNet n → IsFanoutCone n w t → among t.cone_outputs p ≡ true → p < end_of n
output_gate n w t p net is on =
    let cone_output : IsConeOutput n w.gates t.gates p = is.cone_outputs.only p on in
    ⊎_elim
    (λ outside. omega (arith, (reads_low n outside.fanout p net outside.reads).1, (gate_high n outside.fanout outside.reads.fanout).1))
    (λ sink. sink_within n p net sink)
    cone_output.seen.seen

-- The outputs of the fanout cone keep their values.
cone_output_same : (n : Net) (w : Window) (t : FanoutCone) (row p : ℕ) (given put : ℕ → Bool) → IsNet n → Belongs n w →
    IsFanoutCone n w t → IsUnobservable n w t row → HasRow (value n given) w.inputs row → ArePut n given put →
    among t.cone_outputs p ≡ true → values_with n (among w.outputs) put p ≡ value n given p
cone_output_same n w t row p given put net is fanout_cone unobservable has are on =
    let leaves : List ℕ = unobservable.leaves in
    let free : AreFree n w.gates leaves = observing_free n w t leaves net is fanout_cone unobservable.observing in
    let other : ℕ → Bool = values_with n (among w.outputs) put in
    sym (values_again n (among w.outputs) (among (leaves ++ w.outputs)) put p net (λ q e. in_back leaves w.outputs q e) (output_gate n w t p net fanout_cone on))
    ∙ unobservable.same (value n given) other p
    (λ i low. values_real n (among leaves) given (slice_index_or w.inputs i 0) net ∙ has i low)
    (λ q e. apart_value n w given put q net is are (free.apart q e) (free.within q e))
    on
    ∙ values_real n (among (leaves ++ w.outputs)) given p net

-- ---- all nodes that aren't hidden

seen_same : (n : Net) (w : Window) (t : FanoutCone) (row p : ℕ) (given put : ℕ → Bool) → IsNet n → Belongs n w →
    IsFanoutCone n w t → IsUnobservable n w t row → HasRow (value n given) w.inputs row → ArePut n given put →
    IsOutput n (t.gates ++ w.gates) p → values_with n (among w.outputs) put p ≡ value n given p
seen_same n w t row p given put net is fanout_cone unobservable has are seen =
    ⊎_elim
    (λ a. cone_output_same n w t row p given put net is fanout_cone unobservable has are (fanout_cone.cone_outputs.all p (record { inside = a; seen = seen })))
    (λ b. absurd (fanout_cone.hidden unobservable.hidden (record { node = p; inside = b; seen = seen })))
    (in_parts t.gates w.gates p seen.inside)

node_below : (n : Net) (w : Window) (t : FanoutCone) (row bound p : ℕ) (given put : ℕ → Bool) → IsNet n → Belongs n w →
    IsFanoutCone n w t → IsUnobservable n w t row → HasRow (value n given) w.inputs row → ArePut n given put →
    (among (t.gates ++ w.gates) p ≡ true → IsOutput n (t.gates ++ w.gates) p) → p < bound → p < end_of n →
    values_with n (among w.outputs) put p ≡ value n given p
node_below n w t row zero p given put net is fanout_cone unobservable has are seen low within = absurd (omega arith)
node_below n w t row (suc bound) p given put net is fanout_cone unobservable has are seen low within =
    ⊎_elim
    (λ inside. seen_same n w t row p given put net is fanout_cone unobservable has are (seen inside))
    (λ outside.
    let off : among w.outputs p ≡ false = not_output n w p is (out_back t.gates w.gates p outside) in
    ⊎_elim
    (λ (source : p < n.sources + 1).
    with_source n (among w.outputs) put p (omega arith) ∙ are p (omega arith) ∙ sym (value-source given n.sources p n.gates (omega arith)))
    (λ (above : n.sources + 1 ≤ p).
    let gate : IsGate n p = gate_at n p above within in
    with_gate n (among w.outputs) put p gate net off
    ∙ gate_same (values_with n (among w.outputs) put) (value n given) gate.gate
    (λ q reads.
    let r : Reads n p q = record { fanout = gate; reads = reads } in
    let below = reads_low n p q net r in
    node_below n w t row bound q given put net is fanout_cone unobservable has are (λ inside. record {
      inside = inside;
      seen = inl (record { fanout = p; outside = outside; reads = r });
    }) (omega (arith, low, below.1))
    (omega (arith, within, below.1)))
    ∙ sym (value_gate n given p gate net))
    (cases_lt p (n.sources + 1)))
    (cases_Bool (among (t.gates ++ w.gates) p))

sig_same : (n : Net) (w : Window) (t : FanoutCone) (row i : ℕ) (s : Sig) (given put : ℕ → Bool) → IsNet n →
    Belongs n w → IsFanoutCone n w t → IsUnobservable n w t row → HasRow (value n given) w.inputs row →
    ArePut n given put → slice_get n.sinks i ≡ Some s → IsSigBelow (end_of n) s →
    sig_value (values_with n (among w.outputs) put) s ≡ sig_value (value n given) s
sig_same n w t row i Zero given put net is fanout_cone unobservable has are at low = refl
sig_same n w t row i One given put net is fanout_cone unobservable has are at low = refl
sig_same n w t row i (Node p) given put net is fanout_cone unobservable has are at low =
    node_below n w t row (suc p) p given put net is fanout_cone unobservable has are (λ inside. record { inside = inside; seen = inr (sink_in n i p at) }) (omega arith) low.1

-- Every sink keeps its value.
pub sink_same : (n : Net) (w : Window) (t : FanoutCone) (row i : ℕ) (s : Sig) (given put : ℕ → Bool) → IsNet n →
    Belongs n w → IsFanoutCone n w t → IsUnobservable n w t row → HasRow (value n given) w.inputs row →
    ArePut n given put → slice_get n.sinks i ≡ Some s → sig_value (values_with n (among w.outputs) put) s ≡
    sig_value (value n given) s
sink_same n w t row i s given put net is fanout_cone unobservable has are at =
    sig_same n w t row i s given put net is fanout_cone unobservable has are at (all_at (IsSigBelow (end_of n)) n.sinks i s net.sinks at)
