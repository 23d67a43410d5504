use Rattle.command_line.specs.CommandLine.{spelled}
use Rattle.cmd_formats.specs.AigerLaws.{aiger_is_task}
use Rattle.front_app.proofs.AigerWords.{reported, improved}
use Rattle.front_app.proofs.aiger.run_aiger.Goals as goal

pub returns-in_default : goal.returns-in_default
returns-in_default g c = reported (spelled c.args.words.now) _ _ _ _ c.report_usage.result c.in_default.ensures
    c.report_usage.ensures.line c.report_usage.ensures.status

pub returns : goal.returns
returns g c = improved _ c.in-Some.settings c.in-Some.ensures
    (c.perform.ensures.promise (spelled c.args.words.now) (aiger_is_task c.in-Some.settings))
