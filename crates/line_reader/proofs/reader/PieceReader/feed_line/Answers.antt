-- A text without an LF joins what was already fed of the line.
use Rattle.std.proofs.Common.{◌≡◌, Bool, ◌++◌, sym, subst, rules}
use Rattle.std.proofs.lemmas.Grind.{common_steps}
use Rattle.text_core.specs.Lines.{line_bytes}
use Rattle.line_reader.specs.Reader.{StandsFor}
use Rattle.line_reader.proofs.Splitting.{stands_part}
use Rattle.line_reader.proofs.reader.PieceReader.feed_line.Goals as goal

pub returns-clause-read : goal.returns-clause-read
returns-clause-read g c = λ before free stands.
    let same : c.extend_from_slice.new.self.items ≡ c.args.self.unfinished.items ++ c.args.text.now = search (rules, common_steps) in
    subst
    (λ (b : Bool). StandsFor g.S.LineStage.stands (record {
      stage = c.args.self.stage;
      number = c.args.self.number;
      unfinished = c.extend_from_slice.new.self.items;
    }) (before ++
    line_bytes (record { text = c.args.text.now; ended = b })))
    (sym c.if-ended.false)
    (stands_part g.S.LineStage.stands c.args.self.stage c.args.self.number c.args.self.unfinished.items c.extend_from_slice.new.self.items before c.args.text.now free same stands)
