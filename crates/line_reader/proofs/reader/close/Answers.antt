-- Nothing is left, or one line without an LF.
use Rattle.std.proofs.Common.{false, List, [], subst, sym, rules}
use Rattle.std.proofs.lemmas.Grind.{common_steps}
use Rattle.text_core.specs.Lines.{Line, last_line}
use Rattle.line_reader.specs.Splits.{HasNoEnd, IsPlace}
use Rattle.line_reader.specs.SplittingLaws.{last_none, last_by, place_on}
use Rattle.line_reader.proofs.reader.close.Goals as goal

pub returns-then-is_empty-clause-stands : goal.returns-then-is_empty-clause-stands
returns-then-is_empty-clause-stands g c = λ all free place stands.
    let none = last_none c.args.unfinished.now.items (search (rules, common_steps)) in
    (subst (λ (ls : List Line). IsPlace c.args.number ls all) none place, subst (λ (ls : List Line). g.S.LineStage.stands c.args.stage c.args.number ls all) none stands)

pub returns-in-Err-clause-stands : goal.returns-in-Err-clause-stands
returns-in-Err-clause-stands g c = λ all free place stands.
    c.in-Err.ensures.stands (last_line c.args.unfinished.now.items) [] all
    (subst HasNoEnd (sym c.deref.ensures.value) free) place stands
    (last_by c.args.unfinished.now.items c.deref.result.now c.deref.ensures.value (search (rules, common_steps)))

pub returns-in-Ok-clause-stands : goal.returns-in-Ok-clause-stands
returns-in-Ok-clause-stands g c = λ all free place stands.
    let last = last_by c.args.unfinished.now.items c.deref.result.now c.deref.ensures.value (search (rules, common_steps)) in (
      place_on c.args.number [] (record { text = c.deref.result.now; ended = false }) all (subst (λ (ls : List Line). IsPlace c.args.number ls all) last place),
      c.in-Ok.ensures.stands (last_line c.args.unfinished.now.items) [] all (subst HasNoEnd (sym c.deref.ensures.value) free) place stands last,
    )
