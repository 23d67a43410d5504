use Rattle.std.proofs.Common.{◌≡◌, ◌∙◌, ◌+◌, ◌≤◌, ◌<◌, length, arith, ap}
use Rattle.lane_sim.specs.FourLaws.{four_none, four_nothing, four_first}
use Rattle.lane_sim.specs.PatternLaws.{all_end_first, all_end_rest}
use Rattle.lane_sim.specs.SeenLaws.{at_most_32}
use Rattle.lane_sim.specs.Seen.{pattern_at}
use Rattle.lane_sim.specs.ShownLaws.{step_is}
use Rattle.lane_sim.proofs.showing.+seen_four.Goals as goal

pub returns-then-first-second-eq0 : goal.returns-then-first-second-eq0
returns-then-first-second-eq0 t c = four_none (length c.args.operands.now)
    (pattern_at c.args.lanes.now c.args.operands.now) c.args.j c.args.first c.args.second c.args.third c.args.fourth
    c.if-first-second-eq0.true

pub returns-in_default : goal.returns-in_default
returns-in_default t c =
    four_nothing c.args.lanes.now c.args.operands.now c.args.j c.args.first c.args.second c.args.third c.args.fourth
    c.in_default.ensures.cases c.if-first-second-eq0.false c.ranges.first.fits c.ranges.second.fits c.ranges.third.fits c.ranges.fourth.fits

pub four_words-w-requires : goal.four_words-w-requires
four_words-w-requires t c = all_end_first (length c.args.lanes.now) (c.args.j + 4) c.args.operands.now c.in-Some.operand.now c.in-Some.rest.now c.in-Some.ensures.cases.0 c.requires.ends

pub seen_four-high-requires : goal.seen_four-high-requires
seen_four-high-requires t c =
    let at : length c.args.operands.now ≡ t = c.decreases in
    let count : length c.args.operands.now ≡ length c.in-Some.rest.now + 1 = ap length c.in-Some.ensures.cases.0 ∙ omega arith in
    let less : length c.in-Some.rest.now < t = omega (arith, at, count) in (
      less,
      (
        omega (arith, count, c.requires.few),
        all_end_rest (length c.args.lanes.now) (c.args.j + 4) c.args.operands.now c.in-Some.operand.now
            c.in-Some.rest.now c.in-Some.ensures.cases.0 c.requires.ends,
      ),
    )

pub seen_four-low-requires : goal.seen_four-low-requires
seen_four-low-requires t c =
    let at : length c.args.operands.now ≡ t = c.decreases in
    let count : length c.args.operands.now ≡ length c.in-Some.rest.now + 1 = ap length c.in-Some.ensures.cases.0 ∙ omega arith in
    let less : length c.in-Some.rest.now < t = omega (arith, at, count) in (
      less,
      (
        omega (arith, count, c.requires.few),
        all_end_rest (length c.args.lanes.now) (c.args.j + 4) c.args.operands.now c.in-Some.operand.now
            c.in-Some.rest.now c.in-Some.ensures.cases.0 c.requires.ends,
      ),
    )

pub overflow_shl-result : goal.overflow_shl-result
overflow_shl-result t c =
    let count : length c.args.operands.now ≡ length c.in-Some.rest.now + 1 = ap length c.in-Some.ensures.cases.0 ∙ omega arith in
    let few : length c.in-Some.rest.now ≤ 5 = omega (arith, count, c.requires.few) in
    omega (arith, step_is (length c.in-Some.rest.now) (omega (arith, few)), at_most_32 (length c.in-Some.rest.now) few)

pub returns : goal.returns
returns t c =
    four_first c.args.lanes.now c.args.operands.now c.in-Some.operand.now c.in-Some.rest.now c.args.j c.args.first c.args.second c.args.third c.args.fourth
    c.four_words-w.result.first c.four_words-w.result.second c.four_words-w.result.third c.four_words-w.result.fourth c.seen_four-high.result c.seen_four-low.result
    c.in-Some.ensures.cases.0 c.requires.few
    c.four_words-w.ensures.first c.four_words-w.ensures.second c.four_words-w.ensures.third c.four_words-w.ensures.fourth
    c.four_words-w.ensures.small_first c.four_words-w.ensures.small_second c.four_words-w.ensures.small_third c.four_words-w.ensures.small_fourth
    c.seen_four-high.ensures c.seen_four-low.ensures
