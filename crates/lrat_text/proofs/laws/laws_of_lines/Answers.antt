use Rattle.lrat_text.specs.WholeLines.{line_back, text_back}
use Rattle.lrat_text.proofs.laws.laws_of_lines.Goals as goal

pub returns-clause-read : goal.returns-clause-read
returns-clause-read c = line_back

pub returns-clause-whole : goal.returns-clause-whole
returns-clause-whole c = text_back
