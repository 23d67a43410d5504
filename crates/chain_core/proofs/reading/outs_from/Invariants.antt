use Rattle.std.proofs.Common.{◌≡◌, ◌+◌, ◌-◌, ◌≤◌, [], vec_len}
use Rattle.std.specs.Prelude.{All}
use Rattle.text_core.specs.Lines.{lines_of}
use Rattle.text_core.specs.Rest.{IsRest}
use Rattle.chain_theory.specs.Chain.{NamesPlace}
use Rattle.chain_core.specs.Block as block
use Rattle.chain_core.proofs.reading.outs_from.Given as goal

abbrev pub invariant-loop-left : goal.invariant-loop-left
invariant-loop-left l = record {
  read : block.outs_from l.frame l.outs.items (lines_of l.left) ≡ block.outs_from l.frame [] (lines_of l.bytes);
  named : All (NamesPlace (l.frame.n + l.frame.steps)) l.outs.items;
  few : vec_len l.outs ≤ l.frame.outputs;
  rest : IsRest l.bytes l.left;
}

abbrev pub decreases-loop-left : goal.decreases-loop-left
decreases-loop-left l = l.frame.outputs - vec_len l.outs
