-- One more option was taken.
use Rattle.std.proofs.Common.{◌∙◌}
use Rattle.std.specs.String.{string_bytes}
use Rattle.front_formula.specs.MiterValues.{picked_value}
use Rattle.front_formula.proofs.Options.{stepped}
use Rattle.front_formula.proofs.picking.take_all.Goals as goal

pub loop-name-preserved : goal.loop-name-preserved
loop-name-preserved c =
    stepped string_bytes (picked_value c.loop-name.words) (picked_value c.take.new.words) c.in-Some.name.now
    c.in-Some-split_first.value.now c.in-Some.after.now c.in-Some-split_first.rest.now c.loop-name.left.now
    c.in-Some.ensures.cases.0 c.in-Some-split_first.ensures.cases.0 c.in_ok-take.ensures
    ∙ c.loop-name.invariant
