use Rattle.std.proofs.Common.{subst, sym, List, ℕ, ℤ}
use Rattle.std.proofs.lemmas.Bool.{both_ways, not-true, not-false}
use Rattle.sat_theory.specs.Log.{IsUnsubsumed}
use Rattle.lrat_check.specs.Live.{Live, live_at}
use Rattle.lrat_check.specs.OccurrenceIndex.{Lists, IsIndexed, NamesInside}
use Rattle.lrat_check.proofs.Entries.{indexed_view}
use Rattle.lrat_check.proofs.Inside.{inside_is_old, headed_is_old, none_is_unsubsumed}
use Rattle.lrat_check.proofs.clauses.Clauses.is_unsubsumed.Goals as goal

pub returns-then-not-has_inside-clause-new : goal.returns-then-not-has_inside-clause-new
returns-then-not-has_inside-clause-new c =
    let index : Lists = c.self.inside.index in
    let lits : List ℤ = c.of-among.result.lits.now in
    let indexed : IsIndexed (live_at c.args.self.now) index = subst (λ (m : Live). IsIndexed (live_at m) index) c.self.view_is (indexed_view c.self.inside.live index c.self.invariant) in
    let no_other : NamesInside (live_at c.args.self.now) lits index.others → ⊥ =
    λ named. both_ways c.has_inside.result c.if-not-has_inside.true
    (c.has_inside.ensures.1 (subst (λ (ids : List ℕ). NamesInside (live_at c.args.self.now) lits ids)
    (sym c.others.ensures) named)) in
    λ none. subst (λ (ls : List ℤ). IsUnsubsumed (live_at c.args.self.now) ls) c.of-among.ensures.lits
    (none_is_unsubsumed (live_at c.args.self.now) index lits indexed no_other (λ some.
    both_ways c.is_headed.result (not-true c.is_headed.result none) (c.is_headed.ensures.1 some)))

pub returns-then-not-has_inside-clause-old : goal.returns-then-not-has_inside-clause-old
returns-then-not-has_inside-clause-old c = λ some new.
    headed_is_old (live_at c.args.self.now) c.self.inside.index c.of-among.result.lits.now
    (c.is_headed.ensures.0 (not-false c.is_headed.result some))
    (subst (λ (ls : List ℤ). IsUnsubsumed (live_at c.args.self.now) ls) (sym c.of-among.ensures.lits) new)

pub returns-else-not-has_inside-clause-old : goal.returns-else-not-has_inside-clause-old
returns-else-not-has_inside-clause-old c = λ some new.
    inside_is_old (live_at c.args.self.now) c.of-among.result.lits.now c.others.result.now
    (c.has_inside.ensures.0 (not-false c.has_inside.result some))
    (subst (λ (ls : List ℤ). IsUnsubsumed (live_at c.args.self.now) ls) (sym c.of-among.ensures.lits) new)
