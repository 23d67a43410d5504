use Rattle.std.proofs.Common.{◌≡◌, ◌∙◌, ℕ, ◌+◌, ◌*◌, ◌/◌, length, arith, subst}
use Rattle.std.specs.Prelude.{bit_or}
use Rattle.lane_sim.specs.Chosen.{chosen_at, AreChosenBelow}
use Rattle.lane_sim.specs.ChosenLaws.{four_more, chosen_full}
use Rattle.lane_sim.specs.PatternLaws.{all_end_less}
use Rattle.lane_sim.specs.Seen.{pattern_at}
use Rattle.lane_sim.specs.ShownLaws.{step_few}
use Rattle.lane_sim.specs.Words.{width_of}
use Rattle.lane_sim.proofs.choosing.seen_in_fours.Goals as goal

pub seen_four-found-requires-clause-ends : goal.seen_four-found-requires-clause-ends
seen_four-found-requires-clause-ends c =
    all_end_less (length c.args.lanes.now) (width_of c.args.rows) (c.loop-block.block * 4 + 4) c.args.operands.now (omega (arith, c.loop-block-test.true, c.width_of-block-end.ensures)) c.requires.ends

pub ones-requires-clause-few : goal.ones-requires-clause-few
ones-requires-clause-few c = step_few (length c.args.operands.now) c.requires.few

pub returns-then-found-ones : goal.returns-then-found-ones
returns-then-found-ones c =
    chosen_full c.args.lanes.now c.args.operands.now (chosen_at c.args.words.now c.args.chosen) c.args.rows
    (c.loop-block.block * 4 + 4) (width_of c.args.rows / 4 * 4) (bit_or c.loop-block.found c.seen_four-found.result)
    c.requires.few (c.if-found-ones.true ∙ c.ones.ensures)
    (four_more (length c.args.operands.now) (pattern_at c.args.lanes.now c.args.operands.now) c.args.words.now
    c.args.chosen c.args.rows (c.loop-block.block * 4) c.width_of-block-end.result c.loop-block.found
    c.word_mask-mask.result
    c.four_words-w.result.first c.four_words-w.result.second c.four_words-w.result.third c.four_words-w.result.fourth
    c.seen_four-found.result c.requires.rows (omega (arith, c.loop-block-test.true)) c.width_of-block-end.ensures
    c.word_mask-mask.ensures
    c.four_words-w.ensures.first c.four_words-w.ensures.second c.four_words-w.ensures.third c.four_words-w.ensures.fourth c.loop-block.invariant c.seen_four-found.ensures)

pub loop-block-preserved : goal.loop-block-preserved
loop-block-preserved c =
    let next : c.loop-block.block * 4 + 4 ≡ (c.loop-block.block + 1) * 4 = omega arith in
    subst (λ (k : ℕ). AreChosenBelow (length c.args.operands.now) (pattern_at c.args.lanes.now c.args.operands.now)
    (chosen_at c.args.words.now c.args.chosen) c.args.rows k (bit_or c.loop-block.found c.seen_four-found.result))
    next
    (four_more (length c.args.operands.now) (pattern_at c.args.lanes.now c.args.operands.now) c.args.words.now
    c.args.chosen c.args.rows (c.loop-block.block * 4) c.width_of-block-end.result c.loop-block.found
    c.word_mask-mask.result
    c.four_words-w.result.first c.four_words-w.result.second c.four_words-w.result.third c.four_words-w.result.fourth
    c.seen_four-found.result c.requires.rows (omega (arith, c.loop-block-test.true)) c.width_of-block-end.ensures
    c.word_mask-mask.ensures
    c.four_words-w.ensures.first c.four_words-w.ensures.second c.four_words-w.ensures.third c.four_words-w.ensures.fourth c.loop-block.invariant c.seen_four-found.ensures)
