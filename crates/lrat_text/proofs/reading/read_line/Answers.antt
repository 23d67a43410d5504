use Rattle.std.proofs.Common.{◌≡◌, ◌∙◌, ap}
use Rattle.sat_theory.specs.Line.{IsLine, HasClause, line-HasClause}
use Rattle.lrat_text.specs.Reading.{line_in}
use Rattle.lrat_text.specs.Spelling.{line_body}
use Rattle.lrat_text.specs.WholeLines.{line_spells, line_back}
use Rattle.lrat_text.proofs.Judged.{if_given, gives_line}
use Rattle.lrat_text.proofs.reading.read_line.Goals as goal

pub returns-clause-is_line : goal.returns-clause-is_line
returns-clause-is_line c = if_given IsLine c.read.result (line_in c.args.line.now) c.read.ensures (λ l e. (line_spells c.args.line.now l e).0)

pub returns-clause-spelled : goal.returns-clause-spelled
returns-clause-spelled c = if_given (λ l. c.args.line.now ≡ line_body l) c.read.result (line_in c.args.line.now) c.read.ensures (λ l e. (line_spells c.args.line.now l e).1)

pub returns-clause-read : goal.returns-clause-read
returns-clause-read c = λ l is e. gives_line c.read.result (line_in c.args.line.now) l c.read.ensures (ap line_in e ∙ line_back l is)

pub returns-clause-clause : goal.returns-clause-clause
returns-clause-clause c = if_given HasClause c.read.result (line_in c.args.line.now) c.read.ensures (λ l e. line-HasClause l (line_spells c.args.line.now l e).0)
