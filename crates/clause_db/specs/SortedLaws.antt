-- Sorting by codes keeps the literals of a list, and has the same result for all orders of them.
use Rattle.std.specs.Prelude.{◌≡◌, ◌≢◌, ℕ, zero, suc, ◌+◌, ◌-◌, ◌<◌, ◌≤◌, ◌==◌, false, ℤ, pos, List, [], ◌∷◌, map, length, slice_get, slice_index_or, slice_set, Contains, All, AllPairs, Some, refl}
use Rattle.std.specs.List.{swap, IsDistinct}
use Rattle.std.specs.List.Sorted.{IsPermutation, IsNonDecreasingBy}
use Rattle.std.proofs.Common.{sym, ap, ◌∙◌, subst, arith}
use Rattle.std.proofs.Math.Logic.{⊎_elim}
use Rattle.std.proofs.lemmas.Bool.{cases_eq, cases_lt, lt-ltb, le-ltb, ne_eqb}
use Rattle.std.proofs.lemmas.Bool.Decides.{Decides-eqb}
use Rattle.std.proofs.lemmas.Grind.{common_steps}
use Rattle.std.proofs.lemmas.List.{length-map, length-set, get_or-map, get_or-set_same, get_or-set_other}
use Rattle.std.proofs.lemmas.List.Edits.{swap_is}
use Rattle.std.proofs.lemmas.List.Sorted.{IsPermutation-refl, IsPermutation-sym, IsPermutation-trans, IsPermutation-cons, IsPermutation-middle}
use Rattle.std.proofs.lemmas.List.Sorted.{IsPermutation-keeps, IsPermutation-map, All-permutation, Contains-permutation, length_permutation, IsNonDecreasingBy-short}
use Rattle.std.proofs.lemmas.Map.Keys.{IsDistinct-IsPermutation}
use Rattle.std.proofs.lemmas.Map.Made.{AllPairs-from_IsDistinct, IsDistinct-from_AllPairs}
use Rattle.sat_theory.specs.Formula.{variable, IsClause, IsWithin}
use Rattle.sat_theory.specs.State.{by_id}
use Rattle.cdcl_theory.specs.Codes.{code_of}
use Rattle.cdcl_theory.specs.CodeLaws.{code_of-same}
use Rattle.clause_db.specs.Sorted.{inserted, sorted}

-- a literal that is put after the first one, and one that is put before it
inserted_after : (l m : ℤ) (ms : List ℤ) → code_of m < code_of l → inserted l (m ∷ ms) ≡ m ∷ inserted l ms
unfolding inserted
inserted_after l m ms less = rw (lt-ltb (code_of m) (code_of l) less) refl

inserted_before : (l m : ℤ) (ms : List ℤ) → code_of l ≤ code_of m → inserted l (m ∷ ms) ≡ l ∷ m ∷ ms
unfolding inserted
inserted_before l m ms most = rw (le-ltb (code_of m) (code_of l) most) refl

inserted_alone : (l : ℤ) → inserted l [] ≡ l ∷ []
unfolding inserted
inserted_alone l = refl

inserted_permutes : (l : ℤ) (ms : List ℤ) → IsPermutation (l ∷ ms) (inserted l ms)
inserted_permutes l [] = subst (IsPermutation (l ∷ [])) (sym (inserted_alone l)) (IsPermutation-refl (l ∷ []))
inserted_permutes l (m ∷ ms) = ⊎_elim
    (λ (less : code_of m < code_of l). subst (IsPermutation (l ∷ m ∷ ms)) (sym (inserted_after l m ms less))
    (IsPermutation-trans (l ∷ m ∷ ms) (m ∷ l ∷ ms) (m ∷ inserted l ms) (IsPermutation-middle (l ∷ []) m ms) (IsPermutation-cons m (l ∷ ms) (inserted l ms) (inserted_permutes l ms))))
    (λ (most : code_of l ≤ code_of m). subst (IsPermutation (l ∷ m ∷ ms)) (sym (inserted_before l m ms most)) (IsPermutation-refl (l ∷ m ∷ ms)))
    (cases_lt (code_of m) (code_of l))

-- It has the same literals.
pub sorted_permutes : (xs : List ℤ) → IsPermutation xs (sorted xs)
unfolding sorted
sorted_permutes [] = IsPermutation-refl []
sorted_permutes (x ∷ xs) = IsPermutation-trans (x ∷ xs) (x ∷ sorted xs) (inserted x (sorted xs)) (IsPermutation-cons x xs (sorted xs) (sorted_permutes xs)) (inserted_permutes x (sorted xs))

-- Their codes rise.
rises_cons : (l : ℤ) (ms : List ℤ) → All (λ m. code_of l ≤ code_of m) ms → IsNonDecreasingBy code_of ms → IsNonDecreasingBy code_of (l ∷ ms)
rises_cons l ms least rises zero zero d order high = omega arith
rises_cons l ms least rises zero (suc j) d order high = least j d (omega (arith, high))
rises_cons l ms least rises (suc i) zero d order high = absurd (omega (arith, order))
rises_cons l ms least rises (suc i) (suc j) d order high = rises i j d (omega (arith, order)) (omega (arith, high))

least_first : (l m : ℤ) (ms : List ℤ) → code_of l ≤ code_of m → IsNonDecreasingBy code_of (m ∷ ms) → All (λ x. code_of l ≤ code_of x) (m ∷ ms)
least_first l m ms most rises j d high = let least : code_of m ≤ code_of (slice_index_or (m ∷ ms) j d) = rises 0 j d (omega arith) high in omega (arith, most, least)

inserted_rises : (l : ℤ) (ms : List ℤ) → IsNonDecreasingBy code_of ms → IsNonDecreasingBy code_of (inserted l ms)
inserted_rises l [] rises = subst (IsNonDecreasingBy code_of) (sym (inserted_alone l)) (IsNonDecreasingBy-short code_of (l ∷ []) (omega arith))
inserted_rises l (m ∷ ms) rises = ⊎_elim
    (λ (less : code_of m < code_of l).
    let tail : IsNonDecreasingBy code_of ms = λ i j d order high. rises (suc i) (suc j) d (omega (arith, order)) (omega (arith, high)) in
    let following : All (λ x. code_of m ≤ code_of x) ms = λ j d high. rises 0 (suc j) d (omega arith) (omega (arith, high)) in
    let least : All (λ x. code_of m ≤ code_of x) (inserted l ms) =
    All-permutation (λ x. code_of m ≤ code_of x) (l ∷ ms) (inserted l ms) (inserted_permutes l ms) (least_cons m l ms (omega (arith, less)) following) in
    subst (IsNonDecreasingBy code_of) (sym (inserted_after l m ms less)) (rises_cons m (inserted l ms) least (inserted_rises l ms tail)))
    (λ (most : code_of l ≤ code_of m).
    subst (IsNonDecreasingBy code_of) (sym (inserted_before l m ms most)) (rises_cons l (m ∷ ms) (least_first l m ms most rises) rises))
    (cases_lt (code_of m) (code_of l))
  where
    least_cons : (x y : ℤ) (ys : List ℤ) → code_of x ≤ code_of y → All (λ z. code_of x ≤ code_of z) ys → All (λ z. code_of x ≤ code_of z) (y ∷ ys)
    least_cons x y ys first all zero d high = first
    least_cons x y ys first all (suc j) d high = all j d (omega (arith, high))

pub sorted_rises : (xs : List ℤ) → IsNonDecreasingBy code_of (sorted xs)
unfolding sorted
sorted_rises [] = IsNonDecreasingBy-short code_of [] (omega arith)
sorted_rises (x ∷ xs) = inserted_rises x (sorted xs) (sorted_rises xs)

-- two literals in either order
inserted_both : (a b : ℤ) (xs : List ℤ) → code_of a < code_of b → inserted a (inserted b xs) ≡ inserted b (inserted a xs)
inserted_both a b [] less =
    ap (inserted a) (inserted_alone b) ∙ inserted_before a b [] (omega (arith, less))
    ∙ ap (λ (ys : List ℤ). a ∷ ys) (sym (inserted_alone b)) ∙ sym (inserted_after b a [] less)
    ∙ ap (inserted b) (sym (inserted_alone a))
inserted_both a b (m ∷ ms) less = ⊎_elim
    (λ (first : code_of m < code_of a).
    ap (inserted a) (inserted_after b m ms (omega (arith, first, less))) ∙ inserted_after a m (inserted b ms) first ∙ ap (λ (ys : List ℤ). m ∷ ys) (inserted_both a b ms less)
    ∙ sym (inserted_after b m (inserted a ms) (omega (arith, first, less))) ∙ ap (inserted b) (sym (inserted_after a m ms first)))
    (λ (following : code_of a ≤ code_of m). (
    ⊎_elim
    (λ (second : code_of m < code_of b). ap (inserted a) (inserted_after b m ms second)
    ∙ inserted_before a m (inserted b ms) following
    ∙ ap (λ (ys : List ℤ). a ∷ ys) (sym (inserted_after b m ms second)))
    (λ (last : code_of b ≤ code_of m). ap (inserted a) (inserted_before b m ms last)
    ∙ inserted_before a b (m ∷ ms) (omega (arith, less))
    ∙ ap (λ (ys : List ℤ). a ∷ ys) (sym (inserted_before b m ms last)))
    (cases_lt (code_of m) (code_of b))
    ) ∙ sym (inserted_after b a (m ∷ ms) less) ∙ ap (inserted b) (sym (inserted_before a m ms following)))
    (cases_lt (code_of m) (code_of a))

inserted_commutes : (a b : ℤ) (xs : List ℤ) → inserted a (inserted b xs) ≡ inserted b (inserted a xs)
inserted_commutes a b xs = ⊎_elim
    (λ (less : code_of a < code_of b). inserted_both a b xs less)
    (λ (most : code_of b ≤ code_of a). ⊎_elim
    (λ (less : code_of b < code_of a). sym (inserted_both b a xs less))
    (λ (same : code_of a ≤ code_of b).
    let codes : code_of a ≡ code_of b = omega (arith, most, same) in
    let is : a ≡ b = code_of-same a b codes in
    ap (λ (l : ℤ). inserted l (inserted b xs)) is ∙ ap (λ (l : ℤ). inserted b (inserted l xs)) (sym is))
    (cases_lt (code_of b) (code_of a)))
    (cases_lt (code_of a) (code_of b))

head_is : (x y : ℤ) (xs ys : List ℤ) → x ∷ xs ≡ y ∷ ys → x ≡ y
head_is x y xs ys e = cc

tail_is : (x y : ℤ) (xs ys : List ℤ) → x ∷ xs ≡ y ∷ ys → xs ≡ ys
tail_is x y xs ys e = cc

inserted_long : (l : ℤ) (xs : List ℤ) → length (inserted l xs) ≡ length xs + 1
inserted_long l xs = let long : length (inserted l xs) ≡ suc (length xs) = length_permutation (l ∷ xs) (inserted l xs) (inserted_permutes l xs) in omega (arith, long)

-- a literal can be inserted in one way only
inserted_same : (l : ℤ) (xs ys : List ℤ) → inserted l xs ≡ inserted l ys → xs ≡ ys
inserted_same l [] [] e = refl
inserted_same l [] (y ∷ ys) e = absurd (
    let n : length (inserted l []) ≡ length (inserted l (y ∷ ys)) = ap length e in
    let short : length (inserted l []) ≡ 0 + 1 = inserted_long l [] in
    let long : length (inserted l (y ∷ ys)) ≡ suc (length ys) + 1 = inserted_long l (y ∷ ys) in
    omega (arith, n, short, long))
inserted_same l (x ∷ xs) [] e = absurd (
    let n : length (inserted l (x ∷ xs)) ≡ length (inserted l []) = ap length e in
    let short : length (inserted l []) ≡ 0 + 1 = inserted_long l [] in
    let long : length (inserted l (x ∷ xs)) ≡ suc (length xs) + 1 = inserted_long l (x ∷ xs) in
    omega (arith, n, short, long))
inserted_same l (x ∷ xs) (y ∷ ys) e = ⊎_elim
    (λ (first : code_of x < code_of l). ⊎_elim
    (λ (second : code_of y < code_of l).
    let both : x ∷ inserted l xs ≡ y ∷ inserted l ys = sym (inserted_after l x xs first) ∙ e ∙ inserted_after l y ys second in
    ap (λ (z : ℤ). z ∷ xs) (head_is x y (inserted l xs) (inserted l ys) both) ∙ ap (λ (zs : List ℤ). y ∷ zs) (inserted_same l xs ys (tail_is x y (inserted l xs) (inserted l ys) both)))
    (λ (most : code_of l ≤ code_of y).
    let both : x ∷ inserted l xs ≡ l ∷ y ∷ ys = sym (inserted_after l x xs first) ∙ e ∙ inserted_before l y ys most in
    let codes : code_of x ≡ code_of l = ap code_of (head_is x l (inserted l xs) (y ∷ ys) both) in
    absurd (omega (arith, codes, first)))
    (cases_lt (code_of y) (code_of l)))
    (λ (least : code_of l ≤ code_of x). ⊎_elim
    (λ (second : code_of y < code_of l).
    let both : l ∷ x ∷ xs ≡ y ∷ inserted l ys = sym (inserted_before l x xs least) ∙ e ∙ inserted_after l y ys second in
    let codes : code_of l ≡ code_of y = ap code_of (head_is l y (x ∷ xs) (inserted l ys) both) in
    absurd (omega (arith, codes, second)))
    (λ (most : code_of l ≤ code_of y). tail_is l l (x ∷ xs) (y ∷ ys) (sym (inserted_before l x xs least) ∙ e ∙ inserted_before l y ys most))
    (cases_lt (code_of y) (code_of l)))
    (cases_lt (code_of x) (code_of l))

-- a literal replaces another
sorted_put : (x : ℤ) (xs : List ℤ) (k : ℕ) (d : ℤ) → k < length xs → inserted (slice_index_or xs k d) (sorted (slice_set xs k x)) ≡ inserted x (sorted xs)
unfolding sorted
sorted_put x [] k d low = absurd (omega (arith, low))
sorted_put x (y ∷ ys) zero d low = inserted_commutes y x (sorted ys)
sorted_put x (y ∷ ys) (suc k) d low =
    inserted_commutes (slice_index_or ys k d) y (sorted (slice_set ys k x)) ∙ ap (inserted y) (sorted_put x ys k d (omega (arith, low))) ∙ inserted_commutes y x (sorted ys)

sorted_swap : (xs : List ℤ) (i j : ℕ) → i < length xs → j < length xs → sorted (swap xs i j) ≡ sorted xs
sorted_swap xs i j low high = ap sorted (sym (swap_is xs i j (pos 1) low high)) ∙ inserted_same second (sorted (slice_set once j first)) (sorted xs) both
  where
    first : ℤ
    first = slice_index_or xs i (pos 1)

    second : ℤ
    second = slice_index_or xs j (pos 1)

    once : List ℤ
    once = slice_set xs i second

    there : slice_index_or once j (pos 1) ≡ second
    there = ⊎_elim (λ (e : j ≡ i). ap (λ (n : ℕ). slice_index_or once n (pos 1)) e
        ∙ get_or-set_same xs i second (pos 1) low) (λ (apart : j ≡ i → ⊥). get_or-set_other xs i j second (pos 1) apart)
        (cases_eq j i)

    inside : j < length once
    inside = rw length-set high

    both : inserted second (sorted (slice_set once j first)) ≡ inserted second (sorted xs)
    both = ap (λ (l : ℤ). inserted l (sorted (slice_set once j first))) (sym there) ∙ sorted_put first once j (pos 1) inside ∙ sorted_put second xs i (pos 1) low

-- It is the same for the same literals in another order.
pub sorted_same : (xs ys : List ℤ) → IsPermutation xs ys → sorted xs ≡ sorted ys
sorted_same xs ys order = IsPermutation-keeps xs (λ l. sorted xs ≡ sorted l) refl (λ l i j low high same. same ∙ sym (sorted_swap l i j low high)) ys order

-- A clause in another order is a clause.
variables_differ : (lits : List ℤ) → AllPairs (λ l m. variable l ≢ variable m) lits → AllPairs (λ a b. a ≢ b) (map variable lits)
variables_differ lits differ i j d order within e =
    let high : j < length lits = rw length-map at within in
    differ i j (pos 1) order high (sym (get_or-map variable lits i (pos 1) d (omega (arith, order, high))) ∙ e ∙ get_or-map variable lits j (pos 1) d high)

differ_again : (lits : List ℤ) → AllPairs (λ a b. a ≢ b) (map variable lits) → AllPairs (λ l m. variable l ≢ variable m) lits
differ_again lits differ i j d order high e =
    differ i j 0 order (rw length-map high) (get_or-map variable lits i d 0 (omega (arith, order, high)) ∙ e ∙ sym (get_or-map variable lits j d 0 high))

pub clause_permuted : (lits new : List ℤ) → IsPermutation lits new → IsClause lits → IsClause new
clause_permuted lits new order clause = record {
  literals = All-permutation (λ l. 0 < variable l) lits new order clause.literals;
  differ = differ_again new (AllPairs-from_IsDistinct Decides-eqb (map variable new) distinct);
}
  where
    flips : (a b : ℕ) → (a == b) ≡ (b == a)
    flips a b = grind (arith, common_steps)

    distinct : IsDistinct (λ a b. a == b) (map variable new)
    distinct =
        IsDistinct-IsPermutation (λ a b. a == b) flips (map variable lits) (map variable new) (IsPermutation-map variable lits new order)
        (IsDistinct-from_AllPairs Decides-eqb (map variable lits) (variables_differ lits clause.differ))

-- A property of all literals holds of them sorted, and vice versa.
pub Contains-sorted : (xs : List ℤ) (l : ℤ) → Contains xs l → Contains (sorted xs) l
Contains-sorted xs l there = Contains-permutation xs (sorted xs) l (sorted_permutes xs) there

pub Contains-from_sorted : (xs : List ℤ) (l : ℤ) → Contains (sorted xs) l → Contains xs l
Contains-from_sorted xs l there = Contains-permutation (sorted xs) xs l (IsPermutation-sym xs (sorted xs) (sorted_permutes xs)) there

pub All-sorted : (P : ℤ → Type 0) (xs : List ℤ) → All P xs → All P (sorted xs)
All-sorted P xs all = All-permutation P xs (sorted xs) (sorted_permutes xs) all

pub All-from_sorted : (P : ℤ → Type 0) (xs : List ℤ) → All P (sorted xs) → All P xs
All-from_sorted P xs all = All-permutation P (sorted xs) xs (IsPermutation-sym xs (sorted xs) (sorted_permutes xs)) all

pub length-sorted : (xs : List ℤ) → length (sorted xs) ≡ length xs
length-sorted xs = length_permutation xs (sorted xs) (sorted_permutes xs)

pub clause_sorted : (xs : List ℤ) → IsClause xs → IsClause (sorted xs)
clause_sorted xs clause = clause_permuted xs (sorted xs) (sorted_permutes xs) clause

pub within_sorted : (vars : ℕ) (xs : List ℤ) → IsWithin vars xs → IsWithin vars (sorted xs)
within_sorted vars xs within = All-sorted (λ l. variable l ≤ vars) xs within

-- The clauses of a list by their ids, with the literals of each in order.
get_sorted : (clauses : List (List ℤ)) (k : ℕ) (clause : List ℤ) → slice_get clauses k ≡ Some clause → slice_get (map sorted clauses) k ≡ Some (sorted clause)
get_sorted [] k clause is = absurd (cc)
get_sorted (c ∷ cs) zero clause is = let head : Some c ≡ Some clause = is in let same : c ≡ clause = cc in ap (λ (x : List ℤ). Some (sorted x)) same
get_sorted (c ∷ cs) (suc k) clause is = get_sorted cs k clause is

got_sorted : (clauses : List (List ℤ)) (k : ℕ) (clause : List ℤ) → slice_get (map sorted clauses) k ≡ Some clause → (given : List ℤ) × (slice_get clauses k ≡ Some given) × (clause ≡ sorted given)
got_sorted [] k clause is = absurd (cc)
got_sorted (c ∷ cs) zero clause is = let head : Some (sorted c) ≡ Some clause = is in let same : sorted c ≡ clause = cc in (c, refl, sym same)
got_sorted (c ∷ cs) (suc k) clause is = got_sorted cs k clause is

pub by_id-sorted : (clauses : List (List ℤ)) (id : ℕ) (clause : List ℤ) → by_id clauses id ≡ Some clause → by_id (map sorted clauses) id ≡ Some (sorted clause)
by_id-sorted clauses zero clause is = absurd (cc)
by_id-sorted clauses (suc k) clause is =
    let some : (suc k == 0) ≡ false = ne_eqb (suc k) 0 (λ e. omega arith) in
    rw some (get_sorted clauses (suc k - 1) clause (rw some at is))

pub by_id-from_sorted : (clauses : List (List ℤ)) (id : ℕ) (clause : List ℤ) →
    by_id (map sorted clauses) id ≡ Some clause → (given : List ℤ) × (by_id clauses id ≡ Some given) ×
    (clause ≡ sorted given)
by_id-from_sorted clauses zero clause is = absurd (cc)
by_id-from_sorted clauses (suc k) clause is =
    let some : (suc k == 0) ≡ false = ne_eqb (suc k) 0 (λ e. omega arith) in
    let found : (given : List ℤ) × (slice_get clauses (suc k - 1) ≡ Some given) × (clause ≡ sorted given) = got_sorted clauses (suc k - 1) clause (rw some at is) in
    (found.0, rw some found.1, found.2)
