use Rattle.text_core.specs.Lines.{lines_of}
use Rattle.tt_core.specs.Spelling.{SpellsTables}
use Rattle.tt_core.specs.Tables.{Read, tables_of}
use Rattle.tt_core.specs.Words.{specification}
use Rattle.tt_core.specs.ReadBack.{tables_again}
use Rattle.tt_core.proofs.Judged.{gives_value, if_given}
use Rattle.tt_core.specs.SpelledLaws.{tables_spelled}
use Rattle.tt_core.proofs.reading.read_tables.Goals as goal

pub returns-clause-spelled : goal.returns-clause-spelled
returns-clause-spelled c =
    let lines = lines_of c.args.bytes.now in
    if_given _ (λ (r : Read). SpellsTables (specification r.words) lines r.rest) c.read.result (tables_of lines) c.read.ensures.exact (tables_spelled lines)

pub returns-clause-read : goal.returns-clause-read
returns-clause-read c = λ w rest spec spells. gives_value _ c.read.result _ _ c.read.ensures.exact (tables_again w (lines_of c.args.bytes.now) rest spec spells)
