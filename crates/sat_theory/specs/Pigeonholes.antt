-- The pigeonhole principle: there are at most n different numbers below n.
use Rattle.std.specs.Prelude.{◌≡◌, ◌≢◌, ℕ, suc, ◌+◌, ◌<◌, ◌≤◌, ◌==◌, true, List, [], ◌∷◌, length, slice_index_or, slice_set, replicate, All, AllPairs, count_by, cond}
use Rattle.std.proofs.Common.{sym, ◌∙◌, arith, refl}
use Rattle.std.proofs.lemmas.Bool.{eq-eqb}
use Rattle.std.proofs.lemmas.List.{length-set, get_or-set_other, get_or-replicate, length-replicate}
use Rattle.std.proofs.lemmas.List.Elements.{All-head, All-tail}
use Rattle.std.proofs.lemmas.List.Sums.{sum_by-set, count_by-le-length}

abbrev zeros : List ℕ → ℕ
zeros table = count_by (λ x. x == 0) table

zeros_less : (table : List ℕ) (i : ℕ) → i < length table → slice_index_or table i 0 ≡ 0 → zeros (slice_set table i 1) + 1 ≡ zeros table
zeros_less table i room was =
    let moved : zeros (slice_set table i 1) + cond {A = ℕ} (slice_index_or table i 0 == 0) 1 0 ≡
    zeros table + cond {A = ℕ} (1 == 0) 1 0 = sum_by-set (λ (x : ℕ). cond {A = ℕ} (x == 0) 1 0) table i 1 0 room in
    let before : (slice_index_or table i 0 == 0) ≡ true = eq-eqb (slice_index_or table i 0) 0 was in
    let one : cond {A = ℕ} (slice_index_or table i 0 == 0) 1 0 ≡ 1 = rw before refl in
    omega arith

-- there are at most as many different indices of zeros as the table has zeros
at_most_zeros : (xs table : List ℕ) → All (λ x. (x < length table) × (slice_index_or table x 0 ≡ 0)) xs → AllPairs (λ a b. a ≢ b) xs → length xs ≤ zeros table
at_most_zeros [] table free differ = omega arith
at_most_zeros (x ∷ xs) table free differ =
    let P : ℕ → Type 0 = λ y. (y < length table) × (slice_index_or table y 0 ≡ 0) in
    let first : (x < length table) × (slice_index_or table x 0 ≡ 0) = All-head P x xs free in
    let rest : All P xs = All-tail P x xs free in
    let less : zeros (slice_set table x 1) + 1 ≡ zeros table = zeros_less table x first.0 first.1 in
    let ih : length xs ≤ zeros (slice_set table x 1) = at_most_zeros xs (slice_set table x 1)
    (λ k d low. (
      (let h : slice_index_or xs k d < length table = (rest k d low).0 in rw length-set h),
      get_or-set_other table x (slice_index_or xs k d) 1 0 (λ same. differ 0 (suc k) d (omega arith) (omega arith)
          (sym same)) ∙ (rest k d low).1,
    ))
    (λ i j d order within. differ (suc i) (suc j) d (omega arith) (omega arith)) in
    omega arith

-- There are at most n different numbers below n.
pub different_below : (n : ℕ) (xs : List ℕ) → All (λ x. x < n) xs → AllPairs (λ a b. a ≢ b) xs → length xs ≤ n
different_below n xs below differ =
    let long : length (replicate {A = ℕ} n 0) ≡ n = length-replicate n 0 in
    let all : length xs ≤ zeros (replicate n 0) = at_most_zeros xs (replicate n 0) (λ k d low. (rw long (below k d low), get_or-replicate n (slice_index_or xs k d) 0 0 (below k d low))) differ in
    let top : zeros (replicate n 0) ≤ length (replicate {A = ℕ} n 0) = count_by-le-length (λ x. x == 0) (replicate n 0) in
    omega arith
