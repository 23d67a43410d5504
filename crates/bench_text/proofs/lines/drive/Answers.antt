use Rattle.std.proofs.Common.{sym, ◌∙◌, subst}
use Rattle.blif_text.specs.Reading.{Gives}
use Rattle.bench_text.specs.declared.keywords.BenchKeyword.{BenchKeyword}
use Rattle.bench_text.specs.Items.{items_of}
use Rattle.bench_text.specs.Statements.{driven}
use Rattle.bench_text.proofs.lines.drive.Goals as goal

pub returns-in-Gate : goal.returns-in-Gate
returns-in-Gate c =
    subst (λ (k : BenchKeyword). Gives {X = Unit {0}} (λ u. c.take_gate.new.listed) c.take_gate.result
    (driven c.args.line c.args.listed.now c.args.output.now c.args.word.now (items_of c.args.text.now) k))
    (sym c.in-Gate.is ∙ c.keyword_of.ensures)
    (c.take_gate.ensures c.args.word.now)

pub returns-in-Dff : goal.returns-in-Dff
returns-in-Dff c =
    subst (λ (k : BenchKeyword). Gives {X = Unit {0}} (λ u. c.take_latch.new.listed) c.take_latch.result
    (driven c.args.line c.args.listed.now c.args.output.now c.args.word.now (items_of c.args.text.now) k))
    (sym c.in-Dff.is ∙ c.keyword_of.ensures)
    (c.take_latch.ensures c.args.word.now)
