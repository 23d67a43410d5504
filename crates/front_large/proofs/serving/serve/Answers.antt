-- A large question was answered.
use Rattle.command_line.specs.CommandLine.{spelled}
use Rattle.front_core.specs.Front.{promised_by}
use Rattle.front_large.proofs.Runs.{large_run}
use Rattle.front_large.proofs.serving.serve.Goals as goal

pub returns : goal.returns
returns g c =
    large_run (promised_by g.P.Program.keeps g.P.Program.keeps_named g.P.Program.compares) (spelled c.args.words.now)
    c.in-Ok.found c.in-Some.large _ _ _ _ c.serve_large.result c.in-Ok.ensures.found c.in-Some.is c.serve_large.ensures
