use Rattle.std.specs.Prelude.{ℕ, List}
use Rattle.std.proofs.Common.{rules, sym, subst}
use Rattle.aiger_forms.specs.Forms.{aiger_forms}
use Rattle.improve_windows.specs.Improving.{IsReported}
use Rattle.cmd_formats.proofs.Improvements.{refuses, reports}
use Rattle.cmd_formats.proofs.improving.reply_to.Goals as goal

pub returns-in-Err : goal.returns-in-Err
returns-in-Err g c =
    refuses c.args.settings.now c.args.bytes.now _ _ c.requires.length c.requires.said (search rules)
    c.in-Err.ensures.refused c.refusal_of.ensures

pub returns-in-Ok-formed : goal.returns-in-Ok-formed
returns-in-Ok-formed g c =
    reports c.args.settings.now c.args.bytes.now c.in-Ok.improved.text.items c.in-Ok-formed.answer.text.items
    c.in-Ok-formed.answer.report.items _ c.requires.length c.requires.said
    (subst (λ (r : List ℕ). IsReported aiger_forms c.args.settings.now c.args.bytes.now c.in-Ok.improved.text.items r)
    (sym c.in-Ok-formed.ensures.report) c.in-Ok.ensures.improved)
    c.in-Ok-formed.ensures.text c.in-Ok-formed.ensures.sections c.in-Ok-formed.ensures.form c.reply_of.ensures
