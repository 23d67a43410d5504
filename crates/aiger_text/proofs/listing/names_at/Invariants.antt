use Rattle.std.proofs.Common.{◌≡◌, ◌++◌, length, map}
use Rattle.aiger_text.specs.Naming.{name_at}
use Rattle.aiger_text.proofs.listing.names_at.Given as goal

abbrev pub invariant-loop-literal : goal.invariant-loop-literal
invariant-loop-literal l = l.found.items ++ map (name_at l.names) l.left ≡ map (name_at l.names) l.literals

abbrev pub decreases-loop-literal : goal.decreases-loop-literal
decreases-loop-literal l = length l.left
