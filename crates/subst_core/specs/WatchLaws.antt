-- It suffices that the outputs of a larger set of gates keep their values.
use Rattle.std.specs.Prelude.{◌≡◌, ℕ, zero, suc, ◌+◌, ◌≤◌, ◌<◌, Bool, true, false, List, map, slice_get, Some, refl}
use Rattle.std.proofs.Common.{arith, sym, ◌∙◌, inl, inr, ⊎_elim}
use Rattle.std.proofs.lemmas.Bool.{cases_lt, cases_Bool, both_ways}
use Rattle.chain_theory.specs.Chain.{Chain}
use Rattle.net_theory.specs.declared.data.Sig.{Sig}
use Rattle.net_theory.specs.declared.data.Sig.TheVariants.{Zero, One, Node}
use Rattle.net_theory.specs.Net.{Net, IsNet, IsSigBelow, end_of, sig_value, value}
use Rattle.net_theory.specs.NameLaws.{all_at}
use Rattle.net_theory.specs.ReachLaws.{sink_in}
use Rattle.net_theory.specs.ValueLaws.{value-source}
use Rattle.window_theory.specs.Nodes.{among}
use Rattle.window_theory.specs.Paths.{IsGate, Reads}
use Rattle.window_theory.specs.Window.{Window, IsOutput, Belongs}
use Rattle.window_theory.specs.WindowLaws.{reads_low, gate_at}
use Rattle.window_theory.specs.FixedLaws.{with_source, with_gate, gate_same}
use Rattle.window_theory.specs.PairLaws.{bits_other}
use Rattle.window_theory.specs.Substituted.{out_bit, chain_bits, substituted_bits, substituted_value}
use Rattle.window_theory.specs.SubstitutedLaws.{value_gate}
use Rattle.subst_core.specs.MapLaws.{map_same}
use Rattle.subst_core.specs.Substitution.{KeepsSinks, HasGates, KeepOutputs}

-- no node outside the gates is an output of the window
not_output : (n : Net) (w : Window) (gates : List ℕ) (p : ℕ) → Belongs n w → HasGates w gates → among gates p ≡ false → among w.outputs p ≡ false
not_output n w gates p is has_ off =
    ⊎_elim
    (λ on. absurd (both_ways (among gates p) off (has_ p (is.outputs.only p on).inside)))
    (λ none. none)
    (cases_Bool (among w.outputs p))

-- a node outside the gates, or an output of them, keeps its value
seen_below : (n : Net) (w : Window) (c : Chain) (gates : List ℕ) (given : ℕ → Bool) (bound p : ℕ) → IsNet n →
    Belongs n w → HasGates w gates → KeepOutputs n w c gates → (among gates p ≡ true → IsOutput n gates p) →
    p < bound → p < end_of n → substituted_value n w c given p ≡ value n given p
seen_below n w c gates given zero p net is has_ keep seen low within = absurd (omega arith)
seen_below n w c gates given (suc bound) p net is has_ keep seen low within =
    ⊎_elim
    (λ inside. keep given p (seen inside))
    (λ outside.
    let off : among w.outputs p ≡ false = not_output n w gates p is has_ outside in
    ⊎_elim
    (λ (source : p < n.sources + 1).
    with_source n (among w.outputs) (substituted_bits n w c given) p (omega arith)
    ∙ bits_other given w.outputs (map (out_bit (chain_bits n w c given)) c.outs) p off
    ∙ sym (value-source given n.sources p n.gates (omega arith)))
    (λ (above : n.sources + 1 ≤ p).
    let gate : IsGate n p = gate_at n p above within in
    with_gate n (among w.outputs) (substituted_bits n w c given) p gate net off
    ∙ gate_same (substituted_value n w c given) (value n given) gate.gate
    (λ q reads.
    let r : Reads n p q = record { fanout = gate; reads = reads } in
    let below = reads_low n p q net r in
    seen_below n w c gates given bound q net is has_ keep (λ inside. record {
      inside = inside;
      seen = inl (record { fanout = p; outside = outside; reads = r });
    }) (omega (arith, low, below.1))
    (omega (arith, within, below.1)))
    ∙ sym (value_gate n given p gate net))
    (cases_lt p (n.sources + 1)))
    (cases_Bool (among gates p))

sig_same : (n : Net) (w : Window) (c : Chain) (gates : List ℕ) (given : ℕ → Bool) (i : ℕ) (s : Sig) → IsNet n →
    Belongs n w → HasGates w gates → KeepOutputs n w c gates → slice_get n.sinks i ≡ Some s → IsSigBelow (end_of n) s →
    sig_value (substituted_value n w c given) s ≡ sig_value (value n given) s
sig_same n w c gates given i Zero net is has_ keep at low = refl
sig_same n w c gates given i One net is has_ keep at low = refl
sig_same n w c gates given i (Node p) net is has_ keep at low =
    seen_below n w c gates given (suc p) p net is has_ keep (λ inside. record { inside = inside; seen = inr (sink_in n i p at) }) (omega arith) low.1

pub outputs_keep : (n : Net) (w : Window) (c : Chain) (gates : List ℕ) → IsNet n → Belongs n w → HasGates w gates → KeepOutputs n w c gates → KeepsSinks n w c
outputs_keep n w c gates net is has_ keep given =
    map_same (sig_value (substituted_value n w c given)) (sig_value (value n given)) n.sinks (λ i s at.
    sig_same n w c gates given i s net is has_ keep at (all_at (IsSigBelow (end_of n)) n.sinks i s net.sinks at))
