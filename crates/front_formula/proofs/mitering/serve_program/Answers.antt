use Rattle.command_line.specs.CommandLine.{spelled}
use Rattle.front_core.specs.Front.{promised_by}
use Rattle.front_formula.proofs.Pairs.{other_words}
use Rattle.front_formula.proofs.mitering.serve_program.Goals as goal

pub returns-in-Err : goal.returns-in-Err
returns-in-Err g c =
    other_words (promised_by g.P.Program.keeps g.P.Program.keeps_named g.P.Program.compares) (spelled c.args.words.now)
    c.in-Err.field-0 _ _ _ _ c.serve_other.result c.in-Err.ensures.exact c.serve_other.ensures
