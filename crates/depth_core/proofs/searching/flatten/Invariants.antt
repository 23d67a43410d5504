-- All fences with fewer levels have their logs.
use Rattle.depth_theory.specs.Flatter.{flatter}
use Rattle.depth_core.specs.Flattened.{AreLogs}
use Rattle.depth_core.proofs.searching.flatten.Given as goal

abbrev pub invariant-loop-levels : goal.invariant-loop-levels
invariant-loop-levels g l = AreLogs l.header l.size (flatter l.header.spec l.size l.levels) l.logs.items
