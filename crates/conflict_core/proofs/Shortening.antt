-- A binary clause whose other literal is marked removes a marked literal.
use Rattle.std.proofs.Common.{◌≡◌, ℕ, ◌<◌, ◌≤◌, ◌⊎◌, ◌↔◌, ℤ, pos, Bool, true, List, [], ◌∷◌, ◌++◌, length, reverse, slice_index_or, Contains, All, Option, Some, subst, sym, ap, ◌∙◌, arith, inl, inr}
use Rattle.std.proofs.Math.Logic.{⊎_elim}
use Rattle.std.proofs.lemmas.Bool.{both_ways, cases_eq, cases_lt}
use Rattle.std.proofs.lemmas.List.{get_or_default, reverse-append}
use Rattle.std.proofs.lemmas.List.Elements.{All-contains, Contains-get_or}
use Rattle.sat_theory.specs.Formula.{variable, opposite, IsClause}
use Rattle.cdcl_theory.specs.Codes.{marked_in, without_literal}
use Rattle.cdcl_theory.specs.CodeLaws.{cases_literal, opposite-opposite, opposite-differs, variable-opposite, without_literal-other, without_literal-same}
use Rattle.cdcl_theory.specs.Trails.{TrailState, falsified_at, IsTrail}
use Rattle.cdcl_theory.specs.Resolving.{IsDerived}
use Rattle.cdcl_theory.specs.ResolvingLaws.{derived_step}
use Rattle.clause_db.specs.Watching.{list_of}
use Rattle.clause_db.specs.Stored.{Stored, live_in, Watches, IsStored}
use Rattle.clause_db.specs.Blockers.{IsLiteralOf}
use Rattle.clause_db.specs.Adding.{watched_in}
use Rattle.conflict_core.specs.Markings.{AreFewer, IsResolution}
use Rattle.conflict_core.proofs.Gathering.{listed_unset}

-- the clause at an index of a watch list watches the literal
pub entry_watches : (s : Stored) (l : ℤ) (index id : ℕ) → IsStored s → index < length (list_of s.watches l) → id ≡ slice_index_or (list_of s.watches l) index 0 → Watches s id l
entry_watches s l index id stored inside is = rw is (stored.only l (slice_index_or (list_of s.watches l) index 0) (Contains-get_or (list_of s.watches l) index 0 inside))

-- literals of a clause that have the same variable are the same
same_of : (clause : List ℤ) (a b : ℤ) → IsClause clause → Contains clause a → Contains clause b → variable a ≡ variable b → a ≡ b
same_of clause a b is (i, low_i, at_i) (j, low_j, at_j) same =
    ⊎_elim
    (λ (e : i ≡ j). sym (at_a i low_i at_i) ∙ ap (λ (k : ℕ). slice_index_or clause k (pos 1)) e ∙ at_a_of b j low_j at_j)
    (λ (apart : i ≡ j → ⊥). ⊎_elim
    (λ (less : i < j). absurd (is.differ i j (pos 1) less low_j (ap variable (at_a i low_i at_i) ∙ same ∙ sym (ap variable (at_a_of b j low_j at_j)))))
    (λ (more : j ≤ i). absurd (is.differ j i (pos 1) (omega (arith, more, apart)) low_i (ap variable (at_a_of b j low_j at_j) ∙ sym same ∙ sym (ap variable (at_a i low_i at_i)))))
    (cases_lt i j))
    (cases_eq i j)
  where
    at_a_of : (x : ℤ) (k : ℕ) → k < length clause → slice_index_or clause k x ≡ x → slice_index_or clause k (pos 1) ≡ x
    at_a_of x k low at = get_or_default clause k (pos 1) x low ∙ at

    at_a : (k : ℕ) → k < length clause → slice_index_or clause k a ≡ a → slice_index_or clause k (pos 1) ≡ a
    at_a k low at = get_or_default clause k (pos 1) a low ∙ at

-- Two different literals of a list of two are all its literals.
both_of : (lits : List ℤ) (a b m : ℤ) → length lits ≡ 2 → Contains lits a → Contains lits b → Contains lits m → (a ≡ b → ⊥) → (m ≡ a) ⊎ (m ≡ b)
both_of lits a b m two (i, low_i, at_i) (j, low_j, at_j) (k, low_k, at_k) differ =
    ⊎_elim
    (λ (e : k ≡ i). inl (joins m a k i low_k low_i at_k at_i e))
    (λ (apart : k ≡ i → ⊥). inr (joins m b k j low_k low_j at_k at_j (third i j k low_i low_j low_k apart (λ e. differ (joins a b i j low_i low_j at_i at_j e)))))
    (cases_eq k i)
  where
    joins : (x y : ℤ) (p q : ℕ) → p < length lits → q < length lits → slice_index_or lits p x ≡ x → slice_index_or lits q y ≡ y → p ≡ q → x ≡ y
    joins x y p q low_p low_q at_x at_y e = sym at_x ∙ ap (λ (n : ℕ). slice_index_or lits n x) e ∙ get_or_default lits q x y low_q ∙ at_y

    third : (i j k : ℕ) → i < length lits → j < length lits → k < length lits → (k ≡ i → ⊥) → (i ≡ j → ⊥) → k ≡ j
    third i j k less_i less_j less_k apart other = omega (arith, two)

-- The clause of an id has the two literals and no others.
pub record IsTwo (live : ℕ → Option (List ℤ)) (id : ℕ) (first other : ℤ) : Type 0 where
  pub clause : List ℤ
  pub is_live : live id ≡ Some clause
  pub is_clause : IsClause clause
  pub here : Contains clause first
  pub there : Contains clause other
  pub both : (first ≡ other → ⊥) → (m : ℤ) → Contains clause m → (m ≡ first) ⊎ (m ≡ other)

pub two_at : (s : Stored) (first other : ℤ) (index id : ℕ) (lits : List ℤ) → IsStored s →
    index < length (list_of s.watches first) → id ≡ slice_index_or (list_of s.watches first) index 0 →
    IsLiteralOf s (slice_index_or (list_of s.watches first) index 0) other →
    ((clause : List ℤ) → live_in s id ≡ Some clause → (m : ℤ) → Contains lits m ↔ Contains clause m) →
    length lits ≡ 2 → IsTwo (live_in s) id first other
two_at s first other index id lits stored inside id_is of same two =
    let watches : Watches s id first = entry_watches s first index id stored inside id_is in
    let is : live_in s id ≡ Some watches.clause = watches.is_live in
    let here : Contains watches.clause first = watched_in s id first watches.clause stored watches is in
    let there : Contains watches.clause other = of watches.clause (sym (ap (live_in s) id_is) ∙ is) in
    record {
      clause = watches.clause;
      is_live = is;
      is_clause = stored.clauses id watches.clause is;
      here = here;
      there = there;
      both = λ differ m inside. both_of lits first other m two ((same watches.clause is first).1 here) ((same watches.clause is other).1 there) ((same watches.clause is m).1 inside) differ;
    }

-- Neither of the two is the opposite of the other one,
pub two_apart : (live : ℕ → Option (List ℤ)) (id : ℕ) (first other : ℤ) → IsTwo live id first other → first ≡ opposite other → ⊥
two_apart live id first other is e =
    let same : first ≡ other = same_of is.clause first other is.is_clause is.here is.there (ap variable e ∙ variable-opposite other) in
    opposite-differs other (All-contains (λ l. 0 < variable l) is.clause other is.is_clause.literals is.there) (sym e ∙ same)

-- so the latter stays marked,
pub first_stays : (live : ℕ → Option (List ℤ)) (id : ℕ) (first other : ℤ) (old new : List Bool) →
    IsTwo live id first other → marked_in old first ≡ true →
    marked_in new ≡ without_literal (marked_in old) (opposite other) → marked_in new first ≡ true
first_stays live id first other old new is kept unmarked =
    ap (λ (f : ℤ → Bool). f first) unmarked ∙ without_literal-other (marked_in old) (opposite other) first
    (two_apart live id first other is) ∙ kept

-- and no further literal is marked.
pub fewer_unmarked : (l : ℤ) (start old new : List Bool) → AreFewer start old → marked_in new ≡ without_literal (marked_in old) l → AreFewer start new
fewer_unmarked l start old new before unmarked m mark = before m (⊎_elim
    (λ (e : m ≡ l). absurd (both_ways (marked_in new m) (at ∙ without_literal-same (marked_in old) l m e) mark))
    (λ (differs : m ≡ l → ⊥). sym (at ∙ without_literal-other (marked_in old) l m differs) ∙ mark)
    (cases_literal m l))
  where
    at : marked_in new m ≡ without_literal (marked_in old) l m
    at = ap (λ (f : ℤ → Bool). f m) unmarked

-- The binary clause as a hint.
pub resolution_shortened : (live : ℕ → Option (List ℤ)) (t : TrailState) (id : ℕ) (first other : ℤ)
    (old new : List Bool) (touched : List ℤ) (ids now : List ℕ) → IsTrail t → IsTwo live id first other →
    marked_in old first ≡ true → marked_in old (opposite other) ≡ true →
    marked_in new ≡ without_literal (marked_in old) (opposite other) → length new ≡ length old → now ≡ ids ++ id ∷ [] →
    IsResolution live t old touched ids → IsResolution live t new touched now
resolution_shortened live t id first other old new touched ids now trail is kept on unmarked same ids_are resolution = record {
  resolvent = rw ids_are (record {
    below = λ m mark. resolution.resolvent.below m (fewer_unmarked (opposite other) old old new (λ m was. was) unmarked m mark);
    derived = subst (λ (hs : List ℕ). IsDerived live (falsified_at t) (marked_in new) hs)
        (sym (reverse-append ids (id ∷ []))) (derived_step live (falsified_at t) (marked_in old) (marked_in new)
        (reverse ids) id is.clause other resolution.resolvent.derived is.is_live is.there up down others moved);
  });
  listed = listed_unset t.vars old new touched (opposite other) resolution.listed unmarked same;
}
  where
    at : (m : ℤ) → marked_in new m ≡ without_literal (marked_in old) (opposite other) m
    at m = ap (λ (f : ℤ → Bool). f m) unmarked

    down : 0 < falsified_at t (opposite other)
    down = (resolution.resolvent.below (opposite other) on).0

    up : falsified_at t other ≡ 0
    up = let none : falsified_at t (opposite (opposite other)) ≡ 0 = trail.positions.one_side (opposite other) down in rw opposite-opposite at none

    differ : first ≡ other → ⊥
    differ e = let some : 0 < falsified_at t first = (resolution.resolvent.below first kept).0 in let none : falsified_at t first ≡ 0 = ap (falsified_at t) e ∙ up in omega arith

    moved : (m : ℤ) → marked_in old m ≡ true → (m ≡ opposite other) ⊎ (marked_in new m ≡ true)
    moved m marked = ⊎_elim (λ (e : m ≡ opposite other). inl e) (λ (differs : m ≡ opposite other → ⊥). inr (at m
        ∙ without_literal-other (marked_in old) (opposite other) m differs ∙ marked)) (cases_literal m (opposite other))

    others : All (λ m. (m ≡ other) ⊎ (marked_in new m ≡ true)) is.clause
    others k d low = ⊎_elim
        (λ (e : slice_index_or is.clause k d ≡ first). inr (ap (marked_in new) e ∙ first_stays live id first other old new is kept unmarked))
        (λ (e : slice_index_or is.clause k d ≡ other). inl e)
        (is.both differ (slice_index_or is.clause k d) (Contains-get_or is.clause k d low))
