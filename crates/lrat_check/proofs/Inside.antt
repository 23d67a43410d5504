-- Live clauses inside a list of literals, and unsubsumed clauses.
use Rattle.std.proofs.Common.{◌≡◌, ℕ, ◌==◌, ℤ, true, List, Any, Contains, All, Option, subst, sym}
use Rattle.std.proofs.Math.Logic.{⊎_elim}
use Rattle.std.proofs.lemmas.Bool.{eqb-true}
use Rattle.std.proofs.lemmas.List.Elements.{All-contains}
use Rattle.std.proofs.lemmas.List.Folds.{Any-from_list_any}
use Rattle.sat_theory.specs.State.{is_listed}
use Rattle.sat_theory.specs.Log.{IsUnsubsumed}
use Rattle.lrat_check.specs.declared.index.Entry.{Entry}
use Rattle.lrat_check.specs.OccurrenceIndex.{Lists, entries_of, IsListed, IsFound, IsIndexed, HasLiteral, IsInside, NamesInside, IsInsideBy, EntersInside}

-- a live clause inside a list subsumes it
pub inside_is_old : (live : ℕ → Option (List ℤ)) (lits : List ℤ) (ids : List ℕ) → NamesInside live lits ids → IsUnsubsumed live lits → ⊥
unfolding NamesInside HasLiteral
inside_is_old live lits ids some new = new some.1 some.4.clause some.4.is_live some.4.inside

listed_inside : (live : ℕ → Option (List ℤ)) (lits : List ℤ) (ids : List ℕ) (id : ℕ) → is_listed ids id ≡ true → IsInside live lits id → NamesInside live lits ids
unfolding NamesInside
listed_inside live lits ids id listed inside =
    let found : Any (λ (k : ℕ). (id == k) ≡ true) ids = Any-from_list_any (λ (k : ℕ). id == k) ids listed in
    (found.0, found.1, found.2, found.3, subst (λ (k : ℕ). IsInside live lits k) (eqb-true id found.1 found.4) inside)

listed_enters : (live : ℕ → Option (List ℤ)) (lits : List ℤ) (entries : List Entry) (id : ℕ) (clause : List ℤ) →
    IsListed entries id clause → All (Contains lits) clause → IsInside live lits id → EntersInside live lits entries
unfolding IsListed EntersInside HasLiteral
listed_enters live lits entries id clause (k, e, within, at, is) all inside =
    let by : IsInsideBy live lits e = record { other = All-contains (Contains lits) clause e.other all is.its; named = subst (λ (i : ℕ). IsInside live lits i) (sym is.own) inside } in
    (k, e, within, at, by)

-- if neither the lists of its literals nor the others have a clause inside, it is unsubsumed
pub none_is_unsubsumed : (live : ℕ → Option (List ℤ)) (index : Lists) (lits : List ℤ) → IsIndexed live index →
    (NamesInside live lits index.others → ⊥) → (Any (λ (l : ℤ). EntersInside live lits (entries_of index l)) lits →
    ⊥) → IsUnsubsumed live lits
unfolding IsFound HasLiteral
none_is_unsubsumed live index lits indexed no_other no_head id clause is all =
    let inside : IsInside live lits id = record { clause = clause; is_live = is; inside = all } in
    ⊎_elim
    (λ (some : Any (λ (l : ℤ). IsListed (entries_of index l) id clause) clause).
    let l : ℤ = some.1 in
    let there : Contains lits l = All-contains (Contains lits) clause l all (some.0, some.2, some.3) in
    no_head (there.0, l, there.1, there.2, listed_enters live lits (entries_of index l) id clause some.4 all inside))
    (λ (other : is_listed index.others id ≡ true). no_other (listed_inside live lits index.others id other inside))
    (indexed.each id clause is)

enters_is_old : (live : ℕ → Option (List ℤ)) (lits : List ℤ) (entries : List Entry) → EntersInside live lits entries → IsUnsubsumed live lits → ⊥
unfolding EntersInside HasLiteral
enters_is_old live lits entries some new = new some.1.id some.4.named.clause some.4.named.is_live some.4.named.inside

pub headed_is_old : (live : ℕ → Option (List ℤ)) (index : Lists) (lits : List ℤ) → Any (λ (l : ℤ). EntersInside live lits (entries_of index l)) lits → IsUnsubsumed live lits → ⊥
headed_is_old live index lits some new = enters_is_old live lits (entries_of index some.1) some.4 new
