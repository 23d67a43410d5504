use Rattle.std.proofs.Common.{refl}
use Rattle.text_core.specs.Lines.{lines_from}
use Rattle.text_core.specs.ReadBack.{line_back, last_line_back, lines_spell}
use Rattle.text_core.proofs.laws.laws_of_lines.Goals as goal

pub returns-clause-ended : goal.returns-clause-ended
returns-clause-ended c = line_back

pub returns-clause-last : goal.returns-clause-last
returns-clause-last c = last_line_back

pub returns-clause-none : goal.returns-clause-none
unfolding lines_from
returns-clause-none c = refl

pub returns-clause-spelled : goal.returns-clause-spelled
returns-clause-spelled c = lines_spell
