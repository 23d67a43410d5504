use Rattle.std.proofs.Common.{◌≡◌, ◌++◌, length, map}
use Rattle.aiger_core.specs.Written.{sig_literal}
use Rattle.aiger_write.proofs.literals.sig_literals.Given as goal

abbrev pub invariant-loop-sig : goal.invariant-loop-sig
invariant-loop-sig l = l.found.items ++ map (sig_literal l.literals) l.left ≡ map (sig_literal l.literals) l.sigs

abbrev pub decreases-loop-sig : goal.decreases-loop-sig
decreases-loop-sig l = length l.left
