use Rattle.std.proofs.Common.{ap, ◌∙◌}
use Rattle.net_theory.specs.Document.{Document}
use Rattle.blif_core.specs.Spelling.{spelled}
use Rattle.blif_core.specs.Blif.{blif_format, CanWriteBlif}
use Rattle.improve_wishes.specs.Covers.{covered, blif_in, text_in, cost_in}
use Rattle.improve_wishes.specs.WishedLaws.{better_as, text_by}
use Rattle.improve_wishes.proofs.writing.blif_of.Goals as goal

pub returns : goal.returns
returns g c =
    let covers = c.args.wishes.covers in
    let k = c.in_ok-improved.field-0.improved.circuit in
    let better = c.in_ok-improved.ensures.better in
    let can : CanWriteBlif k = (better.proper, c.in_ok-improved.ensures.room) in
    text_by (blif_in covers) CanWriteBlif c.args.settings c.args.wishes.levels c.args.base k _ _ _ _ _ _ _
    (better_as blif_format (blif_in covers) c.args.settings c.args.wishes.levels c.args.base k _ _ _ _
    (cost_in covers k c.least_circuits_cost_the_same.ensures can) better) can
    (text_in covers k _
    (c.in_ok-text.ensures ∙ ap (λ (d : Document). spelled (covered covers d)) c.in_ok-improved.ensures.document))
    c.in_ok-base_levels.ensures c.in_ok-report.ensures
