use Rattle.std.proofs.Common.{◌≡◌, take}
use Rattle.sat_theory.specs.State.{without}
use Rattle.lrat_check.specs.Live.{live_at}
use Rattle.lrat_check.proofs.checker.remove_all.Given as goal

abbrev pub invariant-loop-id : goal.invariant-loop-id
invariant-loop-id l = live_at l.clauses ≡ without (live_at l.initial.clauses) (take l.id-index l.ids)
