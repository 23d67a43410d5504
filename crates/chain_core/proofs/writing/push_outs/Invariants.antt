use Rattle.std.proofs.Common.{◌≡◌, ◌++◌, length, map}
use Rattle.std.specs.List.{flat_map}
use Rattle.text_core.specs.Lines.{line_bytes}
use Rattle.chain_core.specs.Spelling.{out_line}
use Rattle.chain_core.proofs.writing.push_outs.Given as goal

abbrev pub invariant-loop-out : goal.invariant-loop-out
invariant-loop-out l = record {
  written : l.text.items ++ flat_map line_bytes (map out_line l.left) ≡ l.initial.text.items ++ flat_map line_bytes (map out_line l.outs);
}

abbrev pub decreases-loop-out : goal.decreases-loop-out
decreases-loop-out l = length l.left
