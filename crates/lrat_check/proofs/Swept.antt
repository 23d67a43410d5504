-- Lists from which entries and ids were removed.
use Rattle.std.proofs.Common.{◌≡◌, ℕ, ◌<◌, ◌==◌, ◌||◌, ℤ, Bool, true, false, List, [], ◌∷◌, length, filter, Any, Option}
use Rattle.std.proofs.Common.{slice_index_or, slice_set, zero, suc, refl, sym, ap, subst, inl, inr, ◌∙◌, ◌⊎◌, arith}
use Rattle.std.proofs.Math.Logic.{⊎_elim}
use Rattle.std.proofs.lemmas.Bool.{cases_Bool, cases_eq, or_cases, eqb-true, ne_eqb}
use Rattle.std.proofs.lemmas.Grind.{common_steps}
use Rattle.sat_theory.specs.State.{is_listed}
use Rattle.cnf_core.specs.Codes.{code_of}
use Rattle.lrat_check.specs.declared.index.Entry.{Entry}
use Rattle.lrat_check.specs.OccurrenceIndex.{Lists, is_live, has_other_id, IsEntryOf, IsListed, IsFound, KeepsLive, DropsEntries}

or_left : (b c : Bool) → b ≡ true → (b || c) ≡ true
or_left b c is = rw is refl

or_right : (b c : Bool) → c ≡ true → (b || c) ≡ true
or_right true c is = refl
or_right false c is = is

not_both : {A : Type 0} (b : Bool) → b ≡ true → b ≡ false → A
not_both b is_true is_false = cc

-- an id that passes a test stays
listed_kept : (p : ℕ → Bool) (ids : List ℕ) (id : ℕ) → p id ≡ true → is_listed ids id ≡ true → is_listed (filter p ids) id ≡ true
listed_kept p [] id passes is = is
listed_kept p (k ∷ ks) id passes is =
    ⊎_elim
    (λ (keeps : p k ≡ true). rw keeps (⊎_elim (λ (same : (id == k) ≡ true).
    or_left (id == k) (is_listed (filter p ks) id) same) (λ (later : is_listed ks id ≡ true).
    or_right (id == k) (is_listed (filter p ks) id) (listed_kept p ks id passes later))
    (or_cases (id == k) (is_listed ks id) is)))
    (λ (goes : p k ≡ false).
    rw goes
    (⊎_elim
    (λ (same : (id == k) ≡ true). let e : id ≡ k = eqb-true id k same in not_both (p k) (ap p (sym e) ∙ passes) goes)
    (λ (later : is_listed ks id ≡ true). listed_kept p ks id passes later)
    (or_cases (id == k) (is_listed ks id) is)))
    (cases_Bool (p k))

-- an element that passes a test stays
any_prefix : {X : Type 0} (P : X → Type 0) (x : X) (xs : List X) → Any P xs → Any P (x ∷ xs)
any_prefix P x xs (k, y, within, at, holds) = (suc k, y, omega (arith, within), at, holds)

any_first : {X : Type 0} (P : X → Type 0) (x : X) (xs : List X) → P x → Any P (x ∷ xs)
any_first P x xs holds = (0, x, omega arith, refl, holds)

any_cases : {X : Type 0} (P : X → Type 0) (x : X) (xs : List X) → Any P (x ∷ xs) → P x ⊎ Any P xs
any_cases P x xs (zero, y, within, at, holds) = inl (subst P (sym at) holds)
any_cases P x xs (suc k, y, within, at, holds) = inr (k, y, (let h : suc k < suc (length xs) = within in omega arith), at, holds)

any_kept : {X : Type 0} (P : X → Type 0) (p : X → Bool) (xs : List X) → ((x : X) → P x → p x ≡ true) → Any P xs → Any P (filter p xs)
any_kept P p [] passes some = some
any_kept P p (x ∷ xs) passes some =
    ⊎_elim
    (λ (keeps : p x ≡ true).
    rw keeps
    (⊎_elim
    (λ (first : P x). any_first P x (filter p xs) first)
    (λ (later : Any P xs). any_prefix P x (filter p xs) (any_kept P p xs passes later))
    (any_cases P x xs some)))
    (λ (goes : p x ≡ false).
    rw goes
    (⊎_elim
    (λ (first : P x). not_both (p x) (passes x first) goes)
    (λ (later : Any P xs). any_kept P p xs passes later)
    (any_cases P x xs some)))
    (cases_Bool (p x))

-- an entry of another id stays
passes_other : (gone id : ℕ) (clause : List ℤ) → (id ≡ gone → ⊥) → (e : Entry) → IsEntryOf id clause e → has_other_id gone e ≡ true
passes_other gone id clause apart e is = rw (ne_eqb e.id gone (λ same. apart (sym is.own ∙ same))) refl

entry_kept : (gone id : ℕ) (clause : List ℤ) (entries : List Entry) → (id ≡ gone → ⊥) → IsListed entries id clause → IsListed (filter (has_other_id gone) entries) id clause
unfolding IsListed
entry_kept gone id clause entries apart listed = any_kept (IsEntryOf id clause) (has_other_id gone) entries (passes_other gone id clause apart) listed

-- Removing the entries with an id from no list, and from one more list.
pub dropped_none : (gone : ℕ) (lists : List (List Entry)) → DropsEntries gone lists lists
dropped_none gone lists = record { each = λ place id clause apart is. is; whole = refl }

at_same : (lists : List (List Entry)) (at place : ℕ) (entries : List Entry) → at < length lists → place ≡ at → slice_index_or (slice_set lists at entries) place [] ≡ entries
at_same lists at place entries within same = rw same (grind (arith, common_steps))

at_other : (lists : List (List Entry)) (at place : ℕ) (entries : List Entry) → at < length lists → (place ≡ at → ⊥) →
    slice_index_or (slice_set lists at entries) place [] ≡ slice_index_or lists place []
at_other lists at place entries within apart = grind (arith, common_steps)

pub dropped_one : (gone : ℕ) (first lists : List (List Entry)) (at : ℕ) → DropsEntries gone first lists →
    at < length lists → DropsEntries gone first (slice_set lists at
    (filter (has_other_id gone) (slice_index_or lists at [])))
dropped_one gone first lists at before within = record {
  each = λ place id clause apart is.
      let was : IsListed (slice_index_or lists place []) id clause = before.each place id clause apart is in
      ⊎_elim
      (λ (same : place ≡ at).
      let kept : IsListed (filter (has_other_id gone) (slice_index_or lists at [])) id clause =
      entry_kept gone id clause (slice_index_or lists at []) apart
      (subst (λ (k : ℕ). IsListed (slice_index_or lists k []) id clause) same was) in
      subst (λ (es : List Entry). IsListed es id clause) (sym (at_same lists at place (filter (has_other_id gone) (slice_index_or lists at [])) within same)) kept)
      (λ (other : place ≡ at → ⊥). subst (λ (es : List Entry). IsListed es id clause) (sym (at_other lists at place (filter (has_other_id gone) (slice_index_or lists at [])) within other)) was)
      (cases_eq place at);
  whole = let same : length (slice_set lists at (filter (has_other_id gone) (slice_index_or lists at []))) ≡ length lists = grind (arith, common_steps) in same ∙ before.whole;
}

-- Live clauses are still found after the entries of a removed id were removed.
alive_apart : (live : ℕ → Option (List ℤ)) (gone id : ℕ) → is_live live gone ≡ false → is_live live id ≡ true → id ≡ gone → ⊥
alive_apart live gone id dead alive same = not_both (is_live live gone) (ap (is_live live) (sym same) ∙ alive) dead

abbrev pub lists_of : List (List Entry) → List ℕ → Lists
lists_of heads others = record { heads = heads; others = others }

pub kept_dropped : (live : ℕ → Option (List ℤ)) (gone : ℕ) (heads dropped : List (List Entry)) (others : List ℕ) →
    is_live live gone ≡ false → DropsEntries gone heads dropped →
    KeepsLive live (lists_of heads others) (lists_of dropped others)
unfolding IsFound
kept_dropped live gone heads dropped others dead drops = record {
  each = λ id clause alive found.
      ⊎_elim
      (λ (some : Any (λ (l : ℤ). IsListed (slice_index_or heads (code_of l) []) id clause) clause). inl (
        some.0,
        some.1,
        some.2,
        some.3,
        drops.each (code_of some.1) id clause (alive_apart live gone id dead alive) some.4,
      ))
      (λ (other : is_listed others id ≡ true). inr other)
      found;
}

-- They are still found after removed ids were deleted from the others.
pub kept_swept : (live : ℕ → Option (List ℤ)) (gone : ℕ) (heads dropped : List (List Entry)) (others : List ℕ) →
    is_live live gone ≡ false → DropsEntries gone heads dropped →
    KeepsLive live (lists_of heads others) (lists_of dropped (filter (is_live live) others))
unfolding IsFound
kept_swept live gone heads dropped others dead drops = record {
  each = λ id clause alive found.
      ⊎_elim
      (λ (some : Any (λ (l : ℤ). IsListed (slice_index_or heads (code_of l) []) id clause) clause). inl (
        some.0,
        some.1,
        some.2,
        some.3,
        drops.each (code_of some.1) id clause (alive_apart live gone id dead alive) some.4,
      ))
      (λ (other : is_listed others id ≡ true). inr (listed_kept (is_live live) others id alive other))
      found;
}

pub ruleset sweeping = (common_steps, dropped_none, dropped_one)
