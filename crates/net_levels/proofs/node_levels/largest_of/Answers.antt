use Rattle.std.proofs.Common.{◌∙◌, ap}
use Rattle.std.specs.Prelude.{max, ℕ}
use Rattle.net_levels.specs.Levels.{largest}
use Rattle.net_levels.specs.LevelRows.{row_levels}
use Rattle.net_levels.proofs.LevelRuns.{largest_next, largest_none}
use Rattle.net_levels.proofs.node_levels.largest_of.Goals as goal

pub loop-sink-preserved : goal.loop-sink-preserved
loop-sink-preserved c =
    ap (λ (m : ℕ). max m (largest (row_levels c.args.levels.now) c.in-Some.rest.now)) (c.max-most.ensures ∙ ap (max c.loop-sink.most) c.sig_level.ensures)
    ∙ largest_next (row_levels c.args.levels.now) c.loop-sink.left.now c.in-Some.rest.now c.in-Some.sink.now c.loop-sink.most c.in-Some.ensures.cases.0
    ∙ c.loop-sink.invariant

pub returns : goal.returns
returns c = largest_none (row_levels c.args.levels.now) c.loop-sink.left.now c.loop-sink.most c.in_default.ensures.cases ∙ c.loop-sink.invariant
