use Rattle.std.proofs.Common.{◌≡◌, ◌∙◌, ◌+◌, ◌≤◌, ◌<◌, length, arith, ap}
use Rattle.lane_sim.specs.PatternLaws.{all_end_first, all_end_rest}
use Rattle.lane_sim.specs.SeenLaws.{at_most_32}
use Rattle.lane_sim.specs.ShownLaws.{seen_nothing, seen_first, step_is}
use Rattle.lane_sim.proofs.showing.+seen.Goals as goal

pub returns-in_default : goal.returns-in_default
returns-in_default t c = seen_nothing c.args.lanes.now c.args.operands.now c.args.j c.args.mask c.in_default.ensures.cases c.if-mask-eq0.false c.ranges.mask.fits

pub word-bits-requires : goal.word-bits-requires
word-bits-requires t c = all_end_first (length c.args.lanes.now) (c.args.j + 1) c.args.operands.now c.in-Some.operand.now c.in-Some.rest.now c.in-Some.ensures.cases.0 c.requires.ends

pub seen-high-requires : goal.seen-high-requires
seen-high-requires t c =
    let at : length c.args.operands.now ≡ t = c.decreases in
    let count : length c.args.operands.now ≡ length c.in-Some.rest.now + 1 = ap length c.in-Some.ensures.cases.0 ∙ omega arith in
    let less : length c.in-Some.rest.now < t = omega (arith, at, count) in (
      less,
      (
        omega (arith, count, c.requires.few),
        all_end_rest (length c.args.lanes.now) (c.args.j + 1) c.args.operands.now c.in-Some.operand.now
            c.in-Some.rest.now c.in-Some.ensures.cases.0 c.requires.ends,
      ),
    )

pub seen-low-requires : goal.seen-low-requires
seen-low-requires t c =
    let at : length c.args.operands.now ≡ t = c.decreases in
    let count : length c.args.operands.now ≡ length c.in-Some.rest.now + 1 = ap length c.in-Some.ensures.cases.0 ∙ omega arith in
    let less : length c.in-Some.rest.now < t = omega (arith, at, count) in (
      less,
      (
        omega (arith, count, c.requires.few),
        all_end_rest (length c.args.lanes.now) (c.args.j + 1) c.args.operands.now c.in-Some.operand.now
            c.in-Some.rest.now c.in-Some.ensures.cases.0 c.requires.ends,
      ),
    )

pub overflow_shl-result : goal.overflow_shl-result
overflow_shl-result t c =
    let count : length c.args.operands.now ≡ length c.in-Some.rest.now + 1 = ap length c.in-Some.ensures.cases.0 ∙ omega arith in
    let few : length c.in-Some.rest.now ≤ 5 = omega (arith, count, c.requires.few) in
    omega (arith, step_is (length c.in-Some.rest.now) (omega (arith, few)), at_most_32 (length c.in-Some.rest.now) few)

pub returns : goal.returns
returns t c =
    seen_first c.args.lanes.now c.args.operands.now c.in-Some.operand.now c.in-Some.rest.now c.args.j c.args.mask c.word-bits.result c.seen-high.result c.seen-low.result
    c.in-Some.ensures.cases.0 c.requires.few c.word-bits.ensures.value c.word-bits.ensures.small c.seen-high.ensures c.seen-low.ensures
