use Rattle.std.proofs.Common.{◌≡◌, ◌++◌, length}
use Rattle.std.specs.List.{flat_map}
use Rattle.blif_core.specs.Spelling.{row_text}
use Rattle.blif_core.proofs.spelling.push_rows.Given as goal

abbrev pub invariant-loop-cube : goal.invariant-loop-cube
invariant-loop-cube l = l.text.items ++ flat_map (row_text l.on) l.left ≡ l.initial.text.items ++ flat_map (row_text l.on) l.cubes

abbrev pub decreases-loop-cube : goal.decreases-loop-cube
decreases-loop-cube l = length l.left
