-- Adding a clause.
use Rattle.std.specs.Prelude.{◌≡◌, ℕ, zero, suc, ◌+◌, ◌-◌, ◌<◌, ◌≤◌, ◌⊎◌, ◌==◌, Bool, true, false, if◌then◌else◌, ℤ, List, [], ◌∷◌, ◌++◌, map, length, slice_get, Option, Some, None, refl}
use Rattle.std.specs.Option.{option_flatten}
use Rattle.std.proofs.Common.{sym, ap, ◌∙◌, arith, inl, inr, append_assoc}
use Rattle.std.proofs.Math.Logic.{⊎_elim}
use Rattle.std.proofs.lemmas.Bool.{eq-eqb, ne_eqb, eqb-true}
use Rattle.std.proofs.lemmas.Grind.{common_steps}
use Rattle.sat_theory.specs.State.{by_id, with_clause}
use Rattle.clause_db.specs.Sorted.{sorted}
use Rattle.clause_db.specs.Stored.{Stored, live_at, live_in, none_stored, added, all_added}

-- the entry of an id that was given
pub entry_at : (xs : List (Option (List ℤ))) (y : Option (List ℤ)) (k : ℕ) → (slice_get (xs ++ y ∷ []) k ≡ (if k == length xs then Some y else slice_get xs k))
entry_at [] y zero = refl
entry_at [] y (suc k) = let e : (suc k == 0) ≡ false = ne_eqb (suc k) 0 (λ e. omega arith) in rw e refl
entry_at (x ∷ xs) y zero = let e : (0 == suc (length xs)) ≡ false = ne_eqb 0 (suc (length xs)) (λ e. omega arith) in rw e refl
entry_at (x ∷ xs) y (suc k) = let e : (suc k == suc (length xs)) ≡ (k == length xs) = grind (arith, common_steps) in rw e (entry_at xs y k)

chosen_inside : {A B : Type 0} (f : A → B) (b : Bool) (x y : A) → f (if b then x else y) ≡ (if b then f x else f y)
chosen_inside f true x y = refl
chosen_inside f false x y = refl

added_at : (clauses : List (Option (List ℤ))) (lits : List ℤ) (id : ℕ) → live_at (clauses ++ Some lits ∷ []) id ≡ with_clause (live_at clauses) (length clauses + 1) lits id
added_at clauses lits zero = rw (ne_eqb 0 (length clauses + 1) (λ e. omega arith)) refl
added_at clauses lits (suc k) =
    let index : suc k - 1 ≡ k = omega arith in
    let test : (suc k == length clauses + 1) ≡ (k == length clauses) = grind (arith, common_steps) in
    let some : (suc k == 0) ≡ false = ne_eqb (suc k) 0 (λ e. omega arith) in
    rw (some, index, entry_at clauses (Some lits) k, test) (chosen_inside option_flatten (k == length clauses) (Some (Some lits)) (slice_get clauses k))

-- The clause is live under the next id, and nothing else changes.
pub live_in-add : (s : Stored) (lits : List ℤ) → live_in (added s lits) ≡ with_clause (live_in s) (length s.clauses + 1) (sorted lits)
live_in-add s lits = λ i id. added_at s.clauses (sorted lits) id i

flat_map_some : (xs : List (List ℤ)) (k : ℕ) → option_flatten (slice_get (map (λ (c : List ℤ). Some (sorted c)) xs) k) ≡ slice_get (map sorted xs) k
flat_map_some [] k = refl
flat_map_some (x ∷ xs) zero = refl
flat_map_some (x ∷ xs) (suc k) = flat_map_some xs k

started_at : (clauses : List (List ℤ)) (id : ℕ) → live_at (map (λ (c : List ℤ). Some (sorted c)) clauses) id ≡ by_id (map sorted clauses) id
started_at clauses zero = refl
started_at clauses (suc k) = let some : (suc k == 0) ≡ false = ne_eqb (suc k) 0 (λ e. omega arith) in rw some (flat_map_some clauses (suc k - 1))

-- the clauses after those of a list were added
pub all_added-clauses : (s : Stored) (cs : List (List ℤ)) → (all_added s cs).clauses ≡ s.clauses ++ map (λ (c : List ℤ). Some (sorted c)) cs
unfolding all_added
all_added-clauses s [] = grind (arith, common_steps)
all_added-clauses s (c ∷ cs) = all_added-clauses (added s c) cs ∙ append_assoc s.clauses (Some (sorted c) ∷ []) (map (λ (d : List ℤ). Some (sorted d)) cs)

pub all_added-vars : (s : Stored) (cs : List (List ℤ)) → (all_added s cs).vars ≡ s.vars
unfolding all_added
all_added-vars s [] = refl
all_added-vars s (c ∷ cs) = all_added-vars (added s c) cs

pub all_added-push : (s : Stored) (cs : List (List ℤ)) (c : List ℤ) → all_added s (cs ++ c ∷ []) ≡ added (all_added s cs) c
unfolding all_added
all_added-push s [] c = refl
all_added-push s (d ∷ cs) c = all_added-push (added s d) cs c

pub all_added-none : (s : Stored) → all_added s [] ≡ s
unfolding all_added
all_added-none s = refl

-- The clauses of a list, all live, are those by their ids.
pub live_in-start : (vars : ℕ) (clauses : List (List ℤ)) → live_in (all_added (none_stored vars) clauses) ≡ by_id (map sorted clauses)
live_in-start vars clauses = λ i id. (ap (λ (xs : List (Option (List ℤ))). live_at xs id) (all_added-clauses (none_stored vars) clauses) ∙ started_at clauses id) i

chosen : {A : Type 0} (b : Bool) (x y z : A) → (if b then x else y) ≡ z → ((b ≡ true) × (x ≡ z)) ⊎ (y ≡ z)
chosen true x y z is = inl (refl, is)
chosen false x y z is = inr is

-- a clause that is live afterwards is the new one, or an old one
pub added_cases : (live : ℕ → Option (List ℤ)) (id : ℕ) (lits : List ℤ) (k : ℕ) (clause : List ℤ) → with_clause live id lits k ≡ Some clause → ((k ≡ id) × (lits ≡ clause)) ⊎ (live k ≡ Some clause)
added_cases live id lits k clause is =
    ⊎_elim
    (λ (new : ((k == id) ≡ true) × (Some lits ≡ Some clause)). let e : Some lits ≡ Some clause = new.1 in let same : lits ≡ clause = cc in inl (eqb-true k id new.0, same))
    (λ (old : live k ≡ Some clause). inr old)
    (chosen (k == id) (Some lits) (live k) (Some clause) is)

-- the id of a live clause was given
get_past : {A : Type 0} (xs : List A) (k : ℕ) (x : A) → slice_get xs k ≡ Some x → k < length xs
get_past [] k x is = absurd (cc)
get_past (y ∷ ys) zero x is = omega arith
get_past (y ∷ ys) (suc k) x is = let h : k < length ys = get_past ys k x is in omega arith

pub flatten_some : (o : Option (Option (List ℤ))) (clause : List ℤ) → option_flatten o ≡ Some clause → o ≡ Some (Some clause)
flatten_some None clause is = absurd (cc)
flatten_some (Some o) clause is = ap (λ (x : Option (List ℤ)). Some x) is

pub live_within : (clauses : List (Option (List ℤ))) (id : ℕ) (clause : List ℤ) → live_at clauses id ≡ Some clause → (0 < id) × (id ≤ length clauses)
live_within clauses zero clause is = absurd (cc)
live_within clauses (suc k) clause is =
    let some : (suc k == 0) ≡ false = ne_eqb (suc k) 0 (λ e. omega arith) in
    let entry : option_flatten (slice_get clauses (suc k - 1)) ≡ Some clause = rw some at is in
    let at : slice_get clauses (suc k - 1) ≡ Some (Some clause) = flatten_some (slice_get clauses (suc k - 1)) clause entry in
    let low : suc k - 1 < length clauses = get_past clauses (suc k - 1) (Some clause) at in
    (omega arith, omega arith)

pub live_inside : (s : Stored) (id : ℕ) (clause : List ℤ) → live_in s id ≡ Some clause → (0 < id) × (id ≤ length s.clauses)
live_inside s id clause is = live_within s.clauses id clause is

-- so the next id is that of no live clause
pub next_is_free : (s : Stored) (id : ℕ) (clause : List ℤ) → live_in s id ≡ Some clause → id ≡ length s.clauses + 1 → ⊥
next_is_free s id clause is e = let low : (0 < id) × (id ≤ length s.clauses) = live_inside s id clause is in let h : id ≤ length s.clauses = low.1 in omega arith

-- an old clause is still live
pub added_old : (s : Stored) (lits : List ℤ) (id : ℕ) (clause : List ℤ) → live_in s id ≡ Some clause → with_clause (live_in s) (length s.clauses + 1) lits id ≡ Some clause
added_old s lits id clause is = rw (ne_eqb id (length s.clauses + 1) (next_is_free s id clause is)) is

pub added_new : (live : ℕ → Option (List ℤ)) (id : ℕ) (lits : List ℤ) → with_clause live id lits id ≡ Some lits
added_new live id lits = rw (eq-eqb id id refl) refl

-- a live clause where one clause was added, by cases
pub live_added : (s : Stored) (lits : List ℤ) (id : ℕ) (clause : List ℤ) → live_in (added s lits) id ≡ Some clause →
    ((id ≡ length s.clauses + 1) × (sorted lits ≡ clause)) ⊎ (live_in s id ≡ Some clause)
live_added s lits id clause is = added_cases (live_in s) (length s.clauses + 1) (sorted lits) id clause (sym (added_at s.clauses (sorted lits) id) ∙ is)
