use Rattle.std.proofs.Common.{◌≡◌, ◌∙◌, true, length, arith}
use Rattle.lane_sim.specs.declared.rows.Operand.TheVariants.{One}
use Rattle.lane_sim.specs.Chosen.{chosen_at}
use Rattle.lane_sim.specs.ChosenLaws.{chosen_shown, all_chosen, of_all}
use Rattle.lane_sim.specs.PatternLaws.{rows_are}
use Rattle.lane_sim.specs.ShownLaws.{ends_shown}
use Rattle.lane_sim.proofs.choosing.patterns.Goals as goal

pub seen_chosen-requires-clause-rows : goal.seen_chosen-requires-clause-rows
seen_chosen-requires-clause-rows c = rows_are (length c.args.cone.now.leaves) c.rows_of-rows.result (c.rows_of-rows.ensures ∙ c.requires.words.rows)

pub seen_chosen-requires-clause-ends : goal.seen_chosen-requires-clause-ends
seen_chosen-requires-clause-ends c =
    let six : length c.fill_operands.new.operands ≡ 6 = c.fill_operands.ensures.count in
    ends_shown c.args.cone.now c.args.words.now c.args.signals.now c.fill_operands.new.operands c.split_at.result.0.now c.lanes_of-lanes.result.now c.rows_of-rows.result c.width_of-width.result
    c.requires.words c.rows_of-rows.ensures c.lanes_of-lanes.ensures.value c.width_of-width.ensures c.fill_operands.ensures.each (omega (arith, six, c.requires.few)) c.split_at.ensures.front

pub returns : goal.returns
returns c =
    let six : length c.fill_operands.new.operands ≡ 6 = c.fill_operands.ensures.count in
    of_all c.args.cone.now c.args.signals.now c.seen_chosen.result
    (chosen_shown c.args.cone.now c.args.words.now c.args.signals.now c.fill_operands.new.operands
    c.split_at.result.0.now c.lanes_of-lanes.result.now (chosen_at c.lanes_of-lanes.result.now One)
    (λ row. true) c.rows_of-rows.result c.width_of-width.result c.seen_chosen.result
    c.requires.words c.rows_of-rows.ensures c.lanes_of-lanes.ensures.value c.width_of-width.ensures c.fill_operands.ensures.each (omega (arith, six, c.requires.few)) c.split_at.ensures.front
    (λ j b low within. all_chosen j b low) c.seen_chosen.ensures)
