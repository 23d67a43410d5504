-- The sections so far are those of the search.
use Rattle.std.proofs.Common.{◌≡◌, ◌+◌, ◌-◌}
use Rattle.size_loop.specs.Searched.{HasSearched}
use Rattle.size_loop.proofs.searching.search.Given as goal

abbrev pub invariant-loop-sections : goal.invariant-loop-sections
invariant-loop-sections g l =
    (l.search.header ≡ record { spec = l.spec; basis = l.basis; method = l.method; conflicts = l.budget; max = l.max })
    × HasSearched l.search l.sections.items

abbrev pub decreases-loop-sections : goal.decreases-loop-sections
decreases-loop-sections g l = l.max + 1 - l.search.next
