-- The fault at the end is that of the lines; if something is due, a line is missing.
use Rattle.std.proofs.Common.{sym, ap, ◌∙◌}
use Rattle.depth_file.proofs.Going.{closed_at, ended_as, gives_err}
use Rattle.depth_file.proofs.stepping.verdict_of.Goals as goal

pub returns-in_err-stage : goal.returns-in_err-stage
returns-in_err-stage c = λ answer stands.
    gives_err c.from_residual.result c.in_err-stage.field-0.0 answer c.from_residual.ensures.1 (c.in_err-stage.ensures.answer c.args.number answer stands)

pub returns-in_default : goal.returns-in_default
returns-in_default c = λ answer stands.
    ended_as c.in_ok-stage.stage c.args.number answer c.in_ok-stage.ensures.following
    (c.in_ok-stage.ensures.answer c.args.number answer stands)
    ∙ ap (closed_at c.args.number) (sym c.in_default.ensures)

pub returns : goal.returns
returns c = λ answer stands.
    ended_as c.in_ok-stage.stage c.args.number answer c.in_ok-stage.ensures.following (c.in_ok-stage.ensures.answer c.args.number answer stands) ∙ ap (closed_at c.args.number) (sym c.in-Some.ensures)
