-- The values were written.
use Rattle.command_line.specs.CommandLine.{spelled}
use Rattle.front_core.specs.Front.{promised_by}
use Rattle.front_at.proofs.Runs.{values_run}
use Rattle.front_at.proofs.serving.serve.Goals as goal

pub returns : goal.returns
returns g c =
    values_run c.args.formats (promised_by g.P.Program.keeps g.P.Program.keeps_named g.P.Program.compares)
    (spelled c.args.words.now) c.in-Ok.found c.in-Some.asked _ _ _ _ c.serve_values.result c.in-Ok.ensures.found
    c.in-Some.is c.serve_values.ensures
