use Rattle.std.proofs.Common.{refl}
use Rattle.command_line.specs.CommandLine.{spelled}
use Rattle.frame_core.specs.Reported.{usage}
use Rattle.frame_core.specs.Views.{line_value}
use Rattle.frame_core.specs.PerformingLaws.{named_as}
use Rattle.chain_app.specs.Ending.{Idle, Ran}
use Rattle.chain_app.proofs.Ends.{asked, not_asked, kept}
use Rattle.chain_app.proofs.running.run_telling.Goals as goal

-- words that ask for no command
pub returns-in_default : goal.returns-in_default
unfolding usage
returns-in_default g c =
    kept _ Idle
    (record {
      no_line = not_asked (spelled c.args.words.now) c.in_default.field-0 c.in_default.ensures.exact;
      status_is = refl;
      on_source = refl;
      on_out = refl;
      on_note = named_as _ _ (line_value c.plain.result) usage c.plain.ensures c.report_error.ensures.line;
    })

-- a command
pub returns : goal.returns
returns g c =
    let ran = c.dispatch.ensures (spelled c.args.words.now) in
    kept _ (Ran c.in-Ok.command ran.0) (asked (spelled c.args.words.now) c.in-Ok.command c.in-Ok.ensures.exact, ran.1)
