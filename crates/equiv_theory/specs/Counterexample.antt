-- Counterexamples to the equivalence of nets, and which circuits can be compared.
use Rattle.std.specs.Prelude.{◌≡◌, ◌≢◌, ℕ, ◌-◌, ◌<◌, ◌≤◌, Bool, false, List, length, slice_index_or}
use Rattle.net_theory.specs.Net.{Net, IsNet, bit_of, sink_values}
use Rattle.net_theory.specs.Circuit.{Circuit}

-- the value of the sink at index i under the assignment `given` of the sources
abbrev pub sink_bit : Net → (ℕ → Bool) → ℕ → Bool
sink_bit n given i = slice_index_or (sink_values n given) i false

-- Nets that can be compared: equally many sources and equally many sinks.
pub record AreComparable (first second : Net) : Type 0 where
  pub first_net : IsNet first
  pub second_net : IsNet second
  pub sources : first.sources ≡ second.sources
  pub sinks : length first.sinks ≡ length second.sinks

-- Under the assignment `given` of the sources the sink at index i has different values in the two nets.
pub record DifferAt (first second : Net) (given : ℕ → Bool) (i : ℕ) : Type 0 where
  pub below : i < length first.sinks
  pub differ : sink_bit first given i ≢ sink_bit second given i

-- It is the first sink with different values.
pub record DifferFirstAt (first second : Net) (given : ℕ → Bool) (i : ℕ) : Type 0 where
  pub here : DifferAt first second given i
  pub least : (j : ℕ) → j < i → sink_bit first given j ≡ sink_bit second given j

-- Some assignment of the sources is a counterexample to equivalence.
abbrev pub Differ : Net → Net → Type 0
Differ first second = (given : ℕ → Bool) × (i : ℕ) × DifferAt first second given i

-- The inputs, outputs and clocks are the same names in the same order, and the latches agree in
-- number, order, output, control and initial value.
pub record HaveSameInterface (c k : Circuit) : Type 0 where
  pub inputs : c.inputs ≡ k.inputs
  pub outputs : c.outputs ≡ k.outputs
  pub clocks : c.clocks ≡ k.clocks
  pub latches : c.latches ≡ k.latches

-- A counterexample: under `bits`, one for each source, `sink`, counted from 1, is the first whose
-- values differ.
pub record IsCounterexample (first second : Net) (sink : ℕ) (bits : List Bool) : Type 0 where
  pub each_source : length bits ≡ first.sources
  pub counted : 1 ≤ sink
  pub first_sink : DifferFirstAt first second (bit_of bits) (sink - 1)
