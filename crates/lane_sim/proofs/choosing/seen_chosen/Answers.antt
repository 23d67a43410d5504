use Rattle.std.proofs.Common.{◌+◌, length, arith}
use Rattle.lane_sim.specs.ChosenLaws.{chosen_more}
use Rattle.lane_sim.specs.PatternLaws.{all_end_less}
use Rattle.lane_sim.specs.Seen.{pattern_at}
use Rattle.lane_sim.specs.Words.{width_of}
use Rattle.lane_sim.proofs.choosing.seen_chosen.Goals as goal

pub seen-found-requires-clause-ends : goal.seen-found-requires-clause-ends
seen-found-requires-clause-ends c =
    all_end_less (length c.args.lanes.now) (width_of c.args.rows) (c.loop-j.j + 1) c.args.operands.now (omega (arith, c.loop-j-test.true, c.width_of-j-end.ensures)) c.requires.ends

pub loop-j-preserved : goal.loop-j-preserved
loop-j-preserved c =
    chosen_more (length c.args.operands.now) (pattern_at c.args.lanes.now c.args.operands.now) c.args.words.now
    c.args.chosen c.args.rows c.loop-j.j c.width_of-j-end.result c.loop-j.found c.word_mask.result c.word.result
    c.seen-found.result c.requires.rows c.loop-j-test.true c.width_of-j-end.ensures c.word_mask.ensures
    c.word.ensures.value c.loop-j.invariant c.seen-found.ensures
