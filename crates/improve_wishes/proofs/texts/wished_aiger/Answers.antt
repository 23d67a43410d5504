use Rattle.aiger_forms.specs.Forms.{aiger_forms}
use Rattle.aiger_laws.specs.Writable.{CanWriteAiger}
use Rattle.net_document.specs.Format.{IsCircuitOfText}
use Rattle.improve_windows.specs.ImprovingLaws.{text_proper}
use Rattle.improve_wishes.specs.BaseLaws.{without_wish}
use Rattle.improve_wishes.specs.WishedLaws.{over_nowhere, wished}
use Rattle.improve_wishes.proofs.texts.wished_aiger.Goals as goal

pub returns-clause-wished : goal.returns-clause-wished
returns-clause-wished g c =
    wished aiger_forms CanWriteAiger c.args.settings c.args.wishes c.args.bytes.now _ _ c.in_ok-circuit.circuit
    c.in_ok-circuit.circuit c.forms_are_a_format.ensures
    (over_nowhere c.args.wishes.only aiger_forms CanWriteAiger c.requires.only) c.in_ok-circuit.ensures.circuit
    (without_wish c.args.wishes.only c.args.settings c.in_ok-circuit.circuit
    (text_proper aiger_forms c.args.bytes.now c.in_ok-circuit.circuit c.in_ok-circuit.ensures.circuit)
    c.requires.only)
    c.in_ok-improved.ensures
