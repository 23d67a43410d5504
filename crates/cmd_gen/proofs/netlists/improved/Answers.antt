use Rattle.std.proofs.Common.{◌≡◌, arith, subst}
use Rattle.std.proofs.lemmas.Grind.{common_steps}
use Rattle.blif_core.specs.Blif.{blif_format}
use Rattle.gen_core.specs.Generated.{generated_text}
use Rattle.settings.specs.declared.improve.ImproveSettings.{ImproveSettings}
use Rattle.improve_windows.specs.Improving.{IsReported}
use Rattle.frame_core.specs.Views.{reply_value}
use Rattle.cmd_gen.proofs.Generating.{reports_improved}
use Rattle.cmd_gen.proofs.netlists.improved.Goals as goal

pub returns-in-Ok-improve_blif : goal.returns-in-Ok-improve_blif
returns-in-Ok-improve_blif g c bytes =
    let text = c.in-Ok-improve_blif.improved.text.items in
    let report = c.in-Ok-improve_blif.improved.report.items in
    let netlist = c.deref.result.now in
    let same : netlist ≡ generated_text c.args.blocks = grind (arith, common_steps, c.deref.ensures.value, c.in-Ok.ensures) in
    reports_improved c.args.blocks bytes netlist text report (reply_value c.reply_of.result) same (c.generated_netlists_are_small.ensures c.args.blocks c.requires)
    (subst (λ (s : ImproveSettings). IsReported blif_format s netlist text report) c.defaults.ensures.value c.in-Ok-improve_blif.ensures.improved)
    c.reply_of.ensures
