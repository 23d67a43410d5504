use Rattle.std.proofs.Common.{◌+◌, ◌-◌}
use Rattle.std.specs.List.{range_with_len, flat_map}
use Rattle.clause_core.specs.Clauses.{Appends}
use Rattle.enc_theory.specs.Select.{no_reapplication_after}
use Rattle.enc_select.proofs.no_reapplication.push_no_reapplication_step.Given as goal

abbrev pub invariant-loop-later : goal.invariant-loop-later
invariant-loop-later l = Appends l.initial.list l.list (flat_map (no_reapplication_after l.ordered l.z l.i) (range_with_len (l.i + 1) (l.later - (l.i + 1))))
