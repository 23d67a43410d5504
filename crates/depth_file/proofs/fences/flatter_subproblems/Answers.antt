-- Each turn adds the fences with one level more.
use Rattle.std.proofs.Common.{refl}
use Rattle.depth_file.proofs.FenceLists.{level_more}
use Rattle.depth_file.proofs.fences.flatter_subproblems.Goals as goal

pub loop-below-preserved : goal.loop-below-preserved
loop-below-preserved c = rw (c.in_ok-push_level.ensures, c.loop-below.invariant, c.deref.ensures.value, level_more c.in_ok-listed.listed.items c.loop-below.below) refl
