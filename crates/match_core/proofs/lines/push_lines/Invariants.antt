use Rattle.std.proofs.Common.{◌≡◌, ◌++◌, length, map}
use Rattle.std.specs.List.{filter_map}
use Rattle.net_theory.specs.Document.{latch_output}
use Rattle.match_core.specs.Matched.{line_named}
use Rattle.match_core.proofs.lines.push_lines.Given as goal

abbrev pub invariant-loop-latch : goal.invariant-loop-latch
invariant-loop-latch l = l.found.items ++ filter_map (line_named l.lines) (map latch_output l.left) ≡
    l.initial.found.items ++ filter_map (line_named l.lines) (map latch_output l.latches)

abbrev pub decreases-loop-latch : goal.decreases-loop-latch
decreases-loop-latch l = length l.left
