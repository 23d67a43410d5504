use Rattle.std.proofs.Common.{ℤ, List, subst, sym, ap, ◌∙◌}
use Rattle.sat_theory.specs.Formula.{IsWithin}
use Rattle.sat_theory.specs.Line.{Add}
use Rattle.sat_theory.specs.State.{State, with_clause}
use Rattle.sat_theory.specs.Holding.{AdditionHolds}
use Rattle.lrat_check.specs.Live.{live_at}
use Rattle.lrat_check.specs.FaultLaws.{line_holds}
use Rattle.lrat_check.proofs.Kept.{kept_marks, kept_added}
use Rattle.lrat_check.proofs.checker.Checker.add.Goals as goal

pub invariant_of-self-2 : goal.invariant_of-self-2
invariant_of-self-2 c =
    let s : State = record { live = live_at c.self.inside.clauses; vars = c.self.inside.vars; greatest = c.self.inside.greatest } in
    let holds : AdditionHolds s c.args.id c.deref.result.now c.args.hints.now = line_holds s (Add c.args.id c.deref.result.now c.args.hints.now) (sym c.in_ok-judge_addition.ensures.exact) in
    let within : IsWithin c.self.inside.vars c.args.lits.items = subst (λ (ls : List ℤ). IsWithin c.self.inside.vars ls) c.deref.ensures.value holds.variables in
    kept_added c.self.inside.vars c.self.inside.clauses c.insert.new.self c.judge_addition.new.marks c.args.id c.args.lits.items
    (kept_marks c.self.inside.vars c.self.inside.clauses c.self.inside.marks c.judge_addition.new.marks c.self.invariant c.in_ok-judge_addition.ensures.room)
    (c.in_ok-insert.ensures.ok ∙ ap (with_clause (live_at c.self.inside.clauses) c.args.id) c.new.ensures)
    c.requires
    within
