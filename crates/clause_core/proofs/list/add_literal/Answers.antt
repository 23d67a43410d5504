use Rattle.std.proofs.Common.{◌≡◌, ◌++◌, ◌∷◌, [], Bool, Some, set, ap, sym, ◌∙◌, subst, List, ℤ}
use Rattle.sat_theory.specs.Formula.{signed, IsClause}
use Rattle.clause_core.specs.Clauses.{simplified}
use Rattle.clause_core.specs.Seen.{going, IsSeen}
use Rattle.clause_core.proofs.Marks.{seen_again, seen_new, seen_clause, seen_push, beq_is}
use Rattle.clause_core.proofs.list.add_literal.Goals as goal

pub returns-in-Some-clause-same : goal.returns-in-Some-clause-same
returns-in-Some-clause-same c = λ raws.
    seen_again c.args.seen.now c.args.lits.now.items c.args.variable c.in-Some.known c.args.bit raws c.requires.seen c.requires.variable.0 c.requires.variable.1 c.in-Some.is
    ∙ ap (λ (b : Bool). going b c.args.lits.now.items raws) (sym (beq_is c.in-Some.known c.args.bit))

pub returns-in_ok-push-in-None-clause-same : goal.returns-in_ok-push-in-None-clause-same
returns-in_ok-push-in-None-clause-same c = λ raws.
    let pushed : c.push.new.self.items ≡ c.args.lits.now.items ++ signed c.args.variable c.args.bit ∷ [] =
    c.in_ok-push-in-None.ensures.items ∙ ap (λ (l : ℤ). c.args.lits.now.items ++ l ∷ []) c.of.ensures.value in
    seen_new c.args.seen.now c.args.lits.now.items c.args.variable c.args.bit raws c.requires.seen c.requires.variable.0 c.requires.variable.1 c.in-None.is
    ∙ ap (λ (ls : List ℤ). simplified ls raws) (sym pushed)

pub returns-in_ok-push-in-None-clause-clause : goal.returns-in_ok-push-in-None-clause-clause
returns-in_ok-push-in-None-clause-clause c =
    let pushed : c.push.new.self.items ≡ c.args.lits.now.items ++ signed c.args.variable c.args.bit ∷ [] =
    c.in_ok-push-in-None.ensures.items ∙ ap (λ (l : ℤ). c.args.lits.now.items ++ l ∷ []) c.of.ensures.value in
    subst (λ (ls : List ℤ). IsClause ls) (sym pushed)
    (seen_clause c.args.seen.now c.args.lits.now.items c.args.variable c.args.bit c.requires.seen c.requires.variable.0 c.requires.variable.1 c.in-None.is c.requires.clause)

pub returns-in_ok-push-in-None-clause-seen : goal.returns-in_ok-push-in-None-clause-seen
returns-in_ok-push-in-None-clause-seen c =
    let pushed : c.push.new.self.items ≡ c.args.lits.now.items ++ signed c.args.variable c.args.bit ∷ [] =
    c.in_ok-push-in-None.ensures.items ∙ ap (λ (l : ℤ). c.args.lits.now.items ++ l ∷ []) c.of.ensures.value in
    subst (λ (ls : List ℤ). IsSeen (set c.args.seen.now c.args.variable (Some c.args.bit)) ls) (sym pushed)
    (seen_push c.args.seen.now c.args.lits.now.items c.args.variable c.args.bit c.requires.seen c.requires.variable.0 c.requires.variable.1 c.in-None.is)
