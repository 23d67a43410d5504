use Rattle.std.proofs.Common.{sym, ◌∙◌}
use Rattle.line_reader.specs.TextLines.{line_of}
use Rattle.shown_lines.proofs.ShownSoFar.{hidden, more}
use Rattle.shown_lines.proofs.stage.ShownStageLineStage.take.Goals as goal

pub returns-then-not-is_shown-clause-stands : goal.returns-then-not-is_shown-clause-stands
returns-then-not-is_shown-clause-stands c lines ls all free place stands are =
    hidden c.args.self.shown.items (line_of c.args.line.now) lines ls all
    (sym c.is_shown.ensures ∙ c.if-not-is_shown.true) stands are

pub returns-clause-stands : goal.returns-clause-stands
returns-clause-stands c lines ls all free place stands are =
    more c.args.self.shown.items _ (line_of c.args.line.now) lines ls all
    (sym c.is_shown.ensures ∙ c.if-not-is_shown.false) c.in_ok-push_line.ensures stands are
