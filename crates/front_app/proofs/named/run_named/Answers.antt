use Rattle.command_line.specs.CommandLine.{spelled}
use Rattle.cmd_improve.specs.NamedLaws.{named_is_task}
use Rattle.cmd_synth.specs.SynthLaws.{synth_is_task}
use Rattle.front_app.proofs.Naming.{passed, improve_asked, improved, synth_asked, synthesised_by}
use Rattle.front_app.proofs.named.run_named.Goals as goal

pub returns-in_default : goal.returns-in_default
returns-in_default g c = passed _ c.in_default.ensures c.run_telling.ensures

pub returns-in-Improve : goal.returns-in-Improve
returns-in-Improve g c =
    let i = c.in-Improve in
    let asked = improve_asked (spelled c.args.words.now) c.in-Some.asked i.format i.settings i.is c.in-Some.ensures in
    improved _ i.format i.settings asked.0 (c.perform.ensures.promise (spelled c.args.words.now) (named_is_task i.format i.settings))

pub returns-in-Synth : goal.returns-in-Synth
returns-in-Synth g c =
    let s = c.in-Synth in
    let asked = synth_asked (spelled c.args.words.now) c.in-Some.asked s.settings s.is c.in-Some.ensures in
    synthesised_by _ s.settings c.with_method.result asked.0 c.with_method.ensures
    (c.perform-in-Synth.ensures.promise (spelled c.args.words.now) (synth_is_task c.with_method.result))
