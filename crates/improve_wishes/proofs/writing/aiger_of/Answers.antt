use Rattle.aiger_forms.specs.Forms.{aiger_forms}
use Rattle.aiger_laws.specs.Writable.{CanWriteAiger}
use Rattle.blif_core.specs.Blif.{blif_format}
use Rattle.improve_wishes.specs.WishedLaws.{writable, better_counted, text_by}
use Rattle.improve_wishes.proofs.writing.aiger_of.Goals as goal

pub costed_text-requires : goal.costed_text-requires
costed_text-requires g c =
    writable aiger_forms blif_format CanWriteAiger c.args.settings c.args.asked c.args.base
    c.in_ok-improved.field-0.improved.circuit _ _ _ _ c.forms_are_a_format.ensures c.requires.basis c.requires.can
    c.in_ok-improved.ensures.better c.in_ok-improved.ensures.room

pub returns : goal.returns
returns g c =
    let k = c.in_ok-improved.field-0.improved.circuit in
    let can = writable aiger_forms blif_format CanWriteAiger c.args.settings c.args.asked c.args.base k _ _ _ _
    c.forms_are_a_format.ensures c.requires.basis c.requires.can c.in_ok-improved.ensures.better
    c.in_ok-improved.ensures.room in
    text_by aiger_forms CanWriteAiger c.args.settings c.args.asked c.args.base k _ _ _ _ _ _ _
    (better_counted blif_format aiger_forms c.args.settings c.args.asked c.args.base k _ _ _ _ _
    c.in_ok-improved.ensures.better c.in_ok-text.ensures.cost c.in_ok-text.ensures.cheap) can
    c.in_ok-text.ensures.text c.in_ok-base_levels.ensures c.in_ok-report.ensures
