use Rattle.std.proofs.Common.{◌≡◌, [], ◌∷◌, Some, sym, subst, rules}
use Rattle.sat_theory.specs.Formula.{IsWithin}
use Rattle.clause_db.specs.Stored.{Stored, live_in}
use Rattle.subsume_core.specs.Units.{IsUnitsOf}
use Rattle.subsume_core.specs.InsideLaws.{none_empty_added}
use Rattle.solver_tests.proofs.subsuming.comes.Goals as goal

pub is_unsubsumed-requires-clause-units : goal.is_unsubsumed-requires-clause-units
is_unsubsumed-requires-clause-units c =
    let within : IsWithin c.args.clauses.now.vars (c.args.lit ∷ []) = search rules in
    subst (λ (s : Stored). IsUnitsOf s c.note.new.self) (sym c.in_ok-add.ensures.ok) (c.note.ensures c.args.clauses.now c.requires.units within)

pub is_unsubsumed-requires-clause-some : goal.is_unsubsumed-requires-clause-some
is_unsubsumed-requires-clause-some c = λ id is. none_empty_added c.args.clauses.now (c.args.lit ∷ [])
    (λ e. (cc)) c.requires.some id (subst (λ (s : Stored). live_in s id ≡ Some []) c.in_ok-add.ensures.ok is)
