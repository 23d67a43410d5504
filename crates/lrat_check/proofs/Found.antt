-- Clauses are found by their literals after one more entry was added to a list.
use Rattle.std.proofs.Common.{◌≡◌, ℕ, ◌<◌, ℤ, Bool, true, false, ◌||◌, ◌==◌, List, [], ◌∷◌, ◌++◌, length, Any, Contains, slice_index_or, refl, sym, subst, inl, inr, arith}
use Rattle.std.proofs.Math.Logic.{⊎_elim}
use Rattle.std.proofs.lemmas.Bool.{cases_eq, eq-eqb}
use Rattle.std.proofs.lemmas.Grind.{common_steps}
use Rattle.std.proofs.lemmas.List.Quantifiers.{Any-push}
use Rattle.sat_theory.specs.State.{is_listed}
use Rattle.cnf_core.specs.Codes.{code_of}
use Rattle.lrat_check.specs.declared.index.Entry.{Entry}
use Rattle.lrat_check.specs.OccurrenceIndex.{with_entry, IsEntryOf, IsListed, IsFound, KeepsFound}

-- an id that is appended is listed, and those before it still are
listed_last : (ids : List ℕ) (id : ℕ) → is_listed (ids ++ id ∷ []) id ≡ true
listed_last [] id = rw (eq-eqb id id refl) refl
listed_last (k ∷ ks) id = rw (listed_last ks id) (or_true (id == k))
  where
    or_true : (b : Bool) → (b || true) ≡ true
    or_true true = refl
    or_true false = refl

or_either : (b c d : Bool) → (c ≡ true → d ≡ true) → (b || c) ≡ true → (b || d) ≡ true
or_either true c d onward is = refl
or_either false c d onward is = onward is

listed_prefix : (ids more : List ℕ) (id : ℕ) → is_listed ids id ≡ true → is_listed (ids ++ more) id ≡ true
listed_prefix [] more id is = absurd (cc)
listed_prefix (k ∷ ks) more id is = or_either (id == k) (is_listed ks id) (is_listed (ks ++ more) id) (listed_prefix ks more id) is

any_more : {X : Type 0} (P : X → Type 0) (xs : List X) (y : X) → Any P xs → Any P (xs ++ y ∷ [])
any_more P xs y (k, x, within, at, holds) = (k, x, grind (arith, common_steps, within), grind (arith, common_steps, within, at), holds)

at_place : (heads : List (List Entry)) (place code : ℕ) (e : Entry) → place < length heads → code ≡ place → slice_index_or (with_entry heads place e) code [] ≡ slice_index_or heads code [] ++ e ∷ []
at_place heads place code e within same = rw same (grind (arith, common_steps))

at_other : (heads : List (List Entry)) (place code : ℕ) (e : Entry) → place < length heads → (code ≡ place → ⊥) → slice_index_or (with_entry heads place e) code [] ≡ slice_index_or heads code []
at_other heads place code e within apart = grind (arith, common_steps)

-- the lists by literals only grow
grown : (heads : List (List Entry)) (place id code : ℕ) (clause : List ℤ) (e : Entry) → place < length heads →
    IsListed (slice_index_or heads code []) id clause →
    IsListed (slice_index_or (with_entry heads place e) code []) id clause
unfolding IsListed
grown heads place id code clause e within is =
    ⊎_elim
    (λ (same : code ≡ place). subst (λ (es : List Entry). Any (IsEntryOf id clause) es)
    (sym (at_place heads place code e within same))
    (any_more (IsEntryOf id clause) (slice_index_or heads code []) e is))
    (λ (apart : code ≡ place → ⊥). subst (λ (es : List Entry). Any (IsEntryOf id clause) es) (sym (at_other heads place code e within apart)) is)
    (cases_eq code place)

-- what was found is still found with one more entry in a literal's list
pub kept_at_head : (heads : List (List Entry)) (others : List ℕ) (place : ℕ) (e : Entry) → place < length heads →
    KeepsFound (record { heads = heads; others = others }) (record {
      heads = with_entry heads place e;
      others = others;
    })
unfolding IsFound
kept_at_head heads others place e within = record {
  each = λ k clause found.
      ⊎_elim
      (λ (some : Any (λ (l : ℤ). IsListed (slice_index_or heads (code_of l) []) k clause) clause). inl (some.0, some.1, some.2, some.3, grown heads place k (code_of some.1) clause e within some.4))
      (λ (other : is_listed others k ≡ true). inr other)
      found;
}

-- and with one more id among the others
pub kept_in_others : (heads : List (List Entry)) (others : List ℕ) (id : ℕ) → KeepsFound (record { heads = heads; others = others }) (record { heads = heads; others = others ++ id ∷ [] })
unfolding IsFound
kept_in_others heads others id = record {
  each = λ k clause found.
      ⊎_elim
      (λ (some : Any (λ (l : ℤ). IsListed (slice_index_or heads (code_of l) []) k clause) clause). inl some)
      (λ (other : is_listed others k ≡ true). inr (listed_prefix others (id ∷ []) k other))
      found;
}

-- The clause whose entry was added is found.
pub found_at_head : (heads : List (List Entry)) (others : List ℕ) (place id : ℕ) (other : ℤ) (clause : List ℤ) →
    place < length heads → Any (λ (l : ℤ). code_of l ≡ place) clause → Contains clause other →
    IsFound (record { heads = with_entry heads place (record { id = id; other = other }); others = others }) id clause
unfolding IsFound IsListed
found_at_head heads others place id other clause within some its =
    let e : Entry = record { id = id; other = other } in
    let is : IsEntryOf id clause e = record { own = refl; its = its } in
    let there : Any (IsEntryOf id clause) (slice_index_or heads (code_of some.1) [] ++ e ∷ []) = Any-push (IsEntryOf id clause) (slice_index_or heads (code_of some.1) []) e is in
    inl (some.0, some.1, some.2, some.3, subst (λ (es : List Entry). Any (IsEntryOf id clause) es) (sym (at_place heads place (code_of some.1) e within some.4)) there)

pub found_in_others : (heads : List (List Entry)) (others : List ℕ) (id : ℕ) (clause : List ℤ) → IsFound (record { heads = heads; others = others ++ id ∷ [] }) id clause
unfolding IsFound
found_in_others heads others id clause = inr (listed_last others id)

pub ruleset finding = (common_steps, kept_at_head, kept_in_others, found_at_head, found_in_others)
