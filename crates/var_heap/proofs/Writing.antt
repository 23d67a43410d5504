-- Writing entries.
use Rattle.std.specs.Prelude.{◌≡◌, ℕ, zero, suc, ◌+◌, ◌<◌, ◌==◌, false, nat_lt, List, [], ◌∷◌, length, count_by, slice_index_or, slice_set, refl}
use Rattle.std.proofs.Common.{sym, ap, ◌∙◌, arith, cond}
use Rattle.std.proofs.Math.Logic.{⊎_elim}
use Rattle.std.proofs.Math.Seq.{map-set_same}
use Rattle.std.proofs.lemmas.Bool.{cases_eq, eq-eqb, ne_eqb, lt-ltb}
use Rattle.std.proofs.lemmas.List.{map-set, get_or-set_same, get_or-set_other}
use Rattle.std.proofs.lemmas.List.Sums.{sum_by-set}
use Rattle.var_heap.specs.Entries.{entry, with_entry, marks_of}

pub with_entry-same : (f : ℕ → ℕ) (i y k : ℕ) → k ≡ i → with_entry f i y k ≡ y
with_entry-same f i y k e = rw (eq-eqb k i e) refl

pub with_entry-other : (f : ℕ → ℕ) (i y k : ℕ) → (k ≡ i → ⊥) → with_entry f i y k ≡ f k
with_entry-other f i y k apart = rw (ne_eqb k i apart) refl

pub entry_read : (xs : List ℕ) (i : ℕ) → entry xs i ≡ slice_index_or xs i 0
unfolding entry
entry_read xs i = refl

entry_set_at : (xs : List ℕ) (i y k : ℕ) → i < length xs → entry (slice_set xs i y) k ≡ with_entry (entry xs) i y k
unfolding entry
entry_set_at xs i y k room =
    ⊎_elim
    (λ (same : k ≡ i). ap (λ (j : ℕ). slice_index_or (slice_set xs i y) j 0) same ∙ get_or-set_same xs i y 0 room ∙ sym (with_entry-same (entry xs) i y k same))
    (λ (apart : k ≡ i → ⊥). get_or-set_other xs i k y 0 apart ∙ sym (with_entry-other (entry xs) i y k apart))
    (cases_eq k i)

-- Writing an entry changes the function at its index alone.
pub entry-set : (xs : List ℕ) (i y : ℕ) → i < length xs → entry (slice_set xs i y) ≡ with_entry (entry xs) i y
entry-set xs i y room = λ j k. entry_set_at xs i y k room j

-- the marks of a written entry
pub marks_set : (xs : List ℕ) (i y : ℕ) → marks_of (slice_set xs i y) ≡ slice_set (marks_of xs) i (nat_lt 0 y)
marks_set xs i y = map-set (λ (x : ℕ). nat_lt 0 x) xs i y

pub marks_kept : (xs : List ℕ) (i y : ℕ) → 0 < y → 0 < entry xs i → marks_of (slice_set xs i y) ≡ marks_of xs
marks_kept xs i y some was = map-set_same (λ (x : ℕ). nat_lt 0 x) xs i y 0 (lt-ltb 0 y some ∙ sym (lt-ltb 0 (slice_index_or xs i 0) (rw entry_read at was)))

pub zeros_kept : (xs : List ℕ) (i y : ℕ) → i < length xs → 0 < y → 0 < entry xs i → count_by (λ x. x == 0) (slice_set xs i y) ≡ count_by (λ x. x == 0) xs
zeros_kept xs i y room some was =
    let here : 0 < slice_index_or xs i 0 = rw entry_read at was in
    let moved : count_by (λ x. x == 0) (slice_set xs i y) + cond {A = ℕ} (slice_index_or xs i 0 == 0) 1 0 ≡
    count_by (λ x. x == 0) xs + cond {A = ℕ} (y == 0) 1 0 = sum_by-set (λ (x : ℕ). cond (x == 0) 1 0) xs i y 0 room in
    let now : cond {A = ℕ} (y == 0) 1 0 ≡ 0 = rw (ne_eqb y 0 (λ e. omega arith)) refl in
    let before : cond {A = ℕ} (slice_index_or xs i 0 == 0) 1 0 ≡ 0 = rw (ne_eqb (slice_index_or xs i 0) 0 (λ e. omega arith)) refl in
    omega arith

pub zeros_less : (xs : List ℕ) (i y : ℕ) → i < length xs → 0 < y → entry xs i ≡ 0 → count_by (λ x. x == 0) (slice_set xs i y) + 1 ≡ count_by (λ x. x == 0) xs
zeros_less xs i y room some was =
    let here : slice_index_or xs i 0 ≡ 0 = sym (entry_read xs i) ∙ was in
    let moved : count_by (λ x. x == 0) (slice_set xs i y) + cond {A = ℕ} (slice_index_or xs i 0 == 0) 1 0 ≡
    count_by (λ x. x == 0) xs + cond {A = ℕ} (y == 0) 1 0 = sum_by-set (λ (x : ℕ). cond (x == 0) 1 0) xs i y 0 room in
    let now : cond {A = ℕ} (y == 0) 1 0 ≡ 0 = rw (ne_eqb y 0 (λ e. omega arith)) refl in
    let before : cond {A = ℕ} (slice_index_or xs i 0 == 0) 1 0 ≡ 1 = rw (eq-eqb (slice_index_or xs i 0) 0 here) refl in
    omega arith

pub zeros_more : (xs : List ℕ) (i : ℕ) → i < length xs → 0 < entry xs i → count_by (λ x. x == 0) (slice_set xs i 0) ≡ count_by (λ x. x == 0) xs + 1
zeros_more xs i room was =
    let here : 0 < slice_index_or xs i 0 = rw entry_read at was in
    let moved : count_by (λ x. x == 0) (slice_set xs i 0) + cond {A = ℕ} (slice_index_or xs i 0 == 0) 1 0 ≡
    count_by (λ x. x == 0) xs + cond {A = ℕ} (0 == 0) 1 0 = sum_by-set (λ (x : ℕ). cond (x == 0) 1 0) xs i 0 0 room in
    let before : cond {A = ℕ} (slice_index_or xs i 0 == 0) 1 0 ≡ 0 = rw (ne_eqb (slice_index_or xs i 0) 0 (λ e. omega arith)) refl in
    omega arith

pub mark_read : (xs : List ℕ) (i : ℕ) → slice_index_or (marks_of xs) i false ≡ nat_lt 0 (entry xs i)
unfolding entry
mark_read [] i = refl
mark_read (x ∷ xs) zero = refl
mark_read (x ∷ xs) (suc i) = mark_read xs i
