-- Equivalence of circuits.
use Rattle.std.specs.Prelude.{◌≡◌, Bool}
use Rattle.net_theory.specs.Document.{Name}
use Rattle.net_theory.specs.Circuit.{Circuit, values_by_name}

-- The circuits have the same interface (inputs, outputs, clocks and latches) and, under every assignment, the same
-- values of the sinks (the outputs, then the next states).
pub record AreEquivalentCircuits (c k : Circuit) : Type 0 where
  pub inputs : c.inputs ≡ k.inputs
  pub outputs : c.outputs ≡ k.outputs
  pub clocks : c.clocks ≡ k.clocks
  pub latches : c.latches ≡ k.latches
  pub values : (given : Name → Bool) → values_by_name c given ≡ values_by_name k given
