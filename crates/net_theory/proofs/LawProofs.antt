-- The laws, in the form of their contracts.
use Rattle.std.specs.Prelude.{◌≡◌, ℕ, ◌+◌, ◌≤◌, ◌<◌, ◌^◌, ◌↔◌, Bool, true, slice_get, Some}
use Rattle.net_theory.specs.declared.data.Sig.TheVariants.{Node}
use Rattle.net_theory.specs.declared.data.Gate.{Gate}
use Rattle.net_theory.specs.Net.{Net, IsNet, value, gate_value}
use Rattle.net_theory.specs.ValueLaws.{value-source, values_after-gate}
use Rattle.net_theory.specs.Document.{Document}
use Rattle.net_theory.specs.GraphLaws.{acyclic_order}
use Rattle.net_theory.specs.NetOf.{source_count, net_in_order}
use Rattle.net_theory.specs.WellFormed.{IsWellFormed}
use Rattle.net_theory.specs.Circuit.{Circuit, IsCircuitOf}
use Rattle.net_theory.specs.CircuitLaws.{circuit_of, circuit_is}
use Rattle.net_theory.specs.Reach.{IsReachedFrom, is_sink, reach}
use Rattle.net_theory.specs.ReachLaws.{sink_in, in_sinks, marked_reached, reached_marked}
use Rattle.net_theory.specs.Limits.{most_gates}

pub value-source_node : (n : Net) (given : ℕ → Bool) (p : ℕ) → p ≤ n.sources → value n given p ≡ given p
value-source_node n given p low = value-source given n.sources p n.gates low

pub value-gate_node : (n : Net) (given : ℕ → Bool) (i : ℕ) (g : Gate) → IsNet n → slice_get n.gates i ≡ Some g → value n given (n.sources + 1 + i) ≡ gate_value (value n given) g
value-gate_node n given i g is at = values_after-gate given (n.sources + 1) i n.gates g at (is.gates.each i g at)

pub well_formed_circuit : (d : Document) → IsWellFormed d → source_count d + most_gates < 2 ^ 31 → (c : Circuit) × IsCircuitOf d c
well_formed_circuit d well small =
    let order = acyclic_order d well.acyclic in
    (circuit_of d (net_in_order d order.0), circuit_is d order.0 well order.1 small)

pub marks_reached : (n : Net) (roots : ℕ → Bool) (p : ℕ) → IsNet n → ((reach n roots p ≡ true) ↔ IsReachedFrom n roots p)
marks_reached n roots p is = (marked_reached n roots p, reached_marked n roots p is)

pub sinks_are : (n : Net) (p : ℕ) → ((is_sink n p ≡ true) ↔ ((i : ℕ) × (slice_get n.sinks i ≡ Some (Node p))))
sinks_are n p = (in_sinks n p, λ at. sink_in n at.0 p at.1)
