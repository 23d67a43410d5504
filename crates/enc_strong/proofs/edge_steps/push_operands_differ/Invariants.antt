use Rattle.std.proofs.Common.{take}
use Rattle.std.specs.List.{flat_map}
use Rattle.clause_core.specs.Clauses.{Appends}
use Rattle.strong_theory.specs.Strong.{operand_differs}
use Rattle.enc_strong.proofs.edge_steps.push_operands_differ.Given as goal

abbrev pub invariant-loop-slot : goal.invariant-loop-slot
invariant-loop-slot l = Appends l.initial.list l.list (flat_map (operand_differs l.z l.at.edge l.at.before l.step.place) (take l.slot-index l.step.slots))
