use Rattle.std.proofs.Common.{◌≡◌, ◌++◌}
use Rattle.std.specs.List.{flat_map}
use Rattle.net_theory.specs.Whole.{single_ones}
use Rattle.blif_core.specs.Spelling.{row_text}
use Rattle.blif_core.proofs.JoinedRows.{lines_left}
use Rattle.blif_core.proofs.joined.push_singles.Given as goal

abbrev pub invariant-loop-index : goal.invariant-loop-index
invariant-loop-index l = l.text.items ++ lines_left (row_text l.on) l.width l.index ≡ l.initial.text.items ++ flat_map (row_text l.on) (single_ones l.width)
