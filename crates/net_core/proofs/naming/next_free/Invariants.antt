use Rattle.std.proofs.Common.{◌≡◌, ◌-◌}
use Rattle.net_theory.specs.Naming.{free_names}
use Rattle.net_core.proofs.naming.next_free.Given as goal

abbrev pub invariant-loop-number : goal.invariant-loop-number
invariant-loop-number l = free_names l.taken.keys l.number (l.end - l.number) ≡ free_names l.taken.keys l.next (l.end - l.next)
