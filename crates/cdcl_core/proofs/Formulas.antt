-- The clauses of a formula by their ids, and lists inside themselves.
use Rattle.std.proofs.Common.{◌≡◌, ℕ, zero, suc, ◌-◌, ◌<◌, ◌≤◌, ◌==◌, ℤ, false, List, [], ◌∷◌, length, slice_index_or, slice_get, Contains, All, Some, refl, arith}
use Rattle.std.proofs.lemmas.Bool.{ne_eqb}
use Rattle.sat_theory.specs.State.{by_id}

get_inside : (xs : List (List ℤ)) (k : ℕ) (x : List ℤ) → slice_get xs k ≡ Some x → k < length xs
get_inside [] k x is = absurd (cc)
get_inside (y ∷ ys) zero x is = omega arith
get_inside (y ∷ ys) (suc k) x is = (let h : k < length ys = get_inside ys k x is in omega arith)

pub by_id_inside : (clauses : List (List ℤ)) (id : ℕ) (clause : List ℤ) → by_id clauses id ≡ Some clause → id ≤ length clauses
by_id_inside clauses zero clause is = omega arith
by_id_inside clauses (suc k) clause is =
    let some : (suc k == 0) ≡ false = ne_eqb (suc k) 0 (λ e. omega arith) in
    let index : suc k - 1 ≡ k = omega arith in
    let entry : slice_get clauses k ≡ Some clause = rw (some, index) at is in
    let low : k < length clauses = get_inside clauses k clause entry in
    omega arith

same_inside : (xs : List ℤ) (k : ℕ) (d e : ℤ) → k < length xs → slice_index_or xs k d ≡ slice_index_or xs k e
same_inside [] k d e low = absurd (omega (arith, low))
same_inside (x ∷ xs) zero d e low = refl
same_inside (x ∷ xs) (suc k) d e low = same_inside xs k d e (let h : suc k < suc (length xs) = low in omega arith)

-- all elements of a list are in it
pub All-self : (xs : List ℤ) → All (Contains xs) xs
All-self xs = λ k d low. (k, low, same_inside xs k (slice_index_or xs k d) d low)

get_there : (xs : List (List ℤ)) (k : ℕ) (d : List ℤ) → k < length xs → slice_get xs k ≡ Some (slice_index_or xs k d)
get_there [] k d low = absurd (let h : k < 0 = low in omega arith)
get_there (x ∷ xs) zero d low = refl
get_there (x ∷ xs) (suc k) d low = get_there xs k d (let h : suc k < suc (length xs) = low in omega arith)

-- the clause of an index of the list has the next id
pub named : (clauses : List (List ℤ)) (k : ℕ) (d : List ℤ) → k < length clauses → by_id clauses (suc k) ≡ Some (slice_index_or clauses k d)
named clauses k d low =
    let some : (suc k == 0) ≡ false = ne_eqb (suc k) 0 (λ e. omega arith) in
    let index : suc k - 1 ≡ k = omega arith in
    rw (some, index) (get_there clauses k d low)

-- each id up to the number of clauses has a clause
pub by_id_there : (clauses : List (List ℤ)) (id : ℕ) → 0 < id → id ≤ length clauses → (c : List ℤ) × (by_id clauses id ≡ Some c)
by_id_there clauses zero some low = absurd (omega (arith, some))
by_id_there clauses (suc k) some low = (slice_index_or clauses k [], named clauses k [] (omega (arith, low)))
