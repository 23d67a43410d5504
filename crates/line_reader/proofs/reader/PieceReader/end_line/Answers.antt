-- The piece joins what was already fed of the line.
use Rattle.std.proofs.Common.{◌≡◌, [], ◌++◌, refl, rules}
use Rattle.std.proofs.lemmas.Grind.{common_steps}
use Rattle.line_reader.specs.Splits.{with_end}
use Rattle.line_reader.specs.SplittingLaws.{nothing_before, none_of}
use Rattle.line_reader.specs.Seen.{seen}
use Rattle.line_reader.proofs.Splitting.{stands_line, refused_line, has_err}
use Rattle.line_reader.proofs.reader.PieceReader.end_line.Goals as goal

pub returns-in_err-stage-clause-read : goal.returns-in_err-stage-clause-read
returns-in_err-stage-clause-read g c = λ before free stands.
    let none = none_of c.args.self.unfinished.items (search (rules, common_steps)) in
    has_err seen g.S.LineStage.stands g.S.LineStage.refuses c.from_residual.result c.in_err-stage.field-0.0 (before ++ with_end c.args.text.now) c.from_residual.ensures.1
    (refused_line g.S.LineStage.stands g.S.LineStage.refuses c.args.self.stage c.args.self.number
    c.args.self.unfinished.items before c.args.text.now c.args.text.now c.in_err-stage.field-0.0 free
    (nothing_before c.args.text.now c.args.self.unfinished.items c.args.text.now refl none) c.in_err-stage.ensures.stands stands)

pub returns-then-is_empty-clause-read : goal.returns-then-is_empty-clause-read
returns-then-is_empty-clause-read g c = λ before free stands.
    let none = none_of c.args.self.unfinished.items (search (rules, common_steps)) in
    stands_line g.S.LineStage.stands g.S.LineStage.refuses c.args.self.stage c.args.self.number
    c.args.self.unfinished.items before c.args.text.now c.args.text.now c.args.self.unfinished.items
    c.in_ok-stage.stage free
    (nothing_before c.args.text.now c.args.self.unfinished.items c.args.text.now refl none) none c.in_ok-stage.ensures.stands stands

pub returns-in_err-stage-2-clause-read : goal.returns-in_err-stage-2-clause-read
returns-in_err-stage-2-clause-read g c = λ before free stands.
    let same : c.deref.result.now ≡ c.args.self.unfinished.items ++ c.args.text.now = search (rules, common_steps) in
    has_err seen g.S.LineStage.stands g.S.LineStage.refuses c.from_residual-in_err-stage-2.result
    c.in_err-stage-2.field-0.0 (before ++ with_end c.args.text.now) c.from_residual-in_err-stage-2.ensures.1
    (refused_line g.S.LineStage.stands g.S.LineStage.refuses c.args.self.stage c.args.self.number
    c.args.self.unfinished.items before c.args.text.now c.deref.result.now c.in_err-stage-2.field-0.0 free
    same c.in_err-stage-2.ensures.stands stands)

pub returns-clause-read : goal.returns-clause-read
returns-clause-read g c = λ before free stands.
    let same : c.deref.result.now ≡ c.args.self.unfinished.items ++ c.args.text.now = search (rules, common_steps) in
    let none : c.clear.new.self.items ≡ [] = search (rules, common_steps) in
    stands_line g.S.LineStage.stands g.S.LineStage.refuses c.args.self.stage c.args.self.number
    c.args.self.unfinished.items before c.args.text.now c.deref.result.now c.clear.new.self.items
    c.in_ok-stage-2.stage free
    same none c.in_ok-stage-2.ensures.stands stands
