use Rattle.op_basis.specs.Basis.{members}
use Rattle.improve_levels.specs.WithinLaws.{IsFlat}
use Rattle.improve_levels.proofs.searching.searched.Given as goal

abbrev pub invariant-loop-effort : goal.invariant-loop-effort
invariant-loop-effort g l = IsFlat (members l.fn.settings.basis) l.limit l.fn.net l.best
