-- Appending and removing variables.
use Rattle.std.specs.Prelude.{◌≡◌, ℕ, zero, suc, ◌+◌, ◌-◌, ◌<◌, ◌==◌, Bool, true, false, List, length, count_by, slice_set, replicate, refl}
use Rattle.std.proofs.Common.{sym, ap, ◌∙◌, subst, arith, cond}
use Rattle.std.proofs.Math.Logic.{⊎_elim}
use Rattle.std.proofs.lemmas.Bool.{cases_eq, lt-ltb}
use Rattle.std.proofs.lemmas.List.{length-set}
use Rattle.std.proofs.lemmas.List.Sums.{sum_by-cons}
use Rattle.var_heap.specs.declared.array.HeapArray.{HeapArray}
use Rattle.var_heap.specs.Entries.{entry, with_entry, marks_of}
use Rattle.var_heap.specs.HeapArrays.{IsHeapArray, at, place}
use Rattle.var_heap.proofs.Writing.{entry-set, marks_set, marks_kept, zeros_kept, zeros_less, zeros_more, with_entry-same, with_entry-other}
use Rattle.var_heap.proofs.Arranging.{arranged_put, arranged_taken}
use Rattle.var_heap.proofs.Standing.{no_place, len_low, standing_below, standing_at}

-- there is room for a variable that isn't held
pub put_low : (r : HeapArray) (v : ℕ) → IsHeapArray r → 0 < v → v < length r.places.items → place r v ≡ 0 → r.len + 1 < length r.places.items
put_low r v array some low none =
    let count : r.len + count_by (λ p. p == 0) r.places.items ≡ length r.places.items = array.count in
    let first : count_by (λ p. p == 0) (slice_set r.places.items v 1) + 1 ≡ count_by (λ p. p == 0) r.places.items = zeros_less r.places.items v 1 low (omega arith) none in
    let still : entry (slice_set r.places.items v 1) 0 ≡ 0 = ap (λ (f : ℕ → ℕ). f 0) (entry-set r.places.items v 1 low)
    ∙ with_entry-other (entry r.places.items) v 1 0 (λ e. omega (arith, e, some)) ∙ no_place r array in
    let second : count_by (λ p. p == 0) (slice_set (slice_set r.places.items v 1) 0 1) + 1 ≡
    count_by (λ p. p == 0) (slice_set r.places.items v 1) =
    zeros_less (slice_set r.places.items v 1) 0 1 (rw length-set (omega (arith, low))) (omega arith) still in
    omega (arith, count, first, second)

pub record IsPut (old new : HeapArray) (v : ℕ) : Type 0 where
  pub heap : new.heap.items ≡ slice_set old.heap.items (old.len + 1) v
  pub places : new.places.items ≡ slice_set old.places.items v (old.len + 1)
  pub len : new.len ≡ old.len + 1
  pub some : 0 < v
  pub low : v < length old.places.items
  pub free : place old v ≡ 0

pub put_at : (old : HeapArray) (v : ℕ) → IsHeapArray old → 0 < v → v < length old.places.items → place old v ≡ 0 →
    entry (slice_set old.heap.items (old.len + 1) v) ≡ with_entry (at old) (old.len + 1) v
put_at old v array some low none =
    let room : length old.heap.items ≡ length old.places.items + 1 = array.room in
    let under : old.len + 1 < length old.places.items = put_low old v array some low none in
    entry-set old.heap.items (old.len + 1) v (omega (arith, room, under))

pub put_marks : (places : List ℕ) (v n : ℕ) → marks_of (slice_set places v (n + 1)) ≡ slice_set (marks_of places) v true
put_marks places v n = marks_set places v (n + 1) ∙ ap (λ (b : Bool). slice_set (marks_of places) v b) (lt-ltb 0 (n + 1) (omega arith))

pub put_row : (old new : HeapArray) (v : ℕ) → IsHeapArray old → IsPut old new v → IsHeapArray new
put_row old new v array put =
    let count : old.len + count_by (λ p. p == 0) old.places.items ≡ length old.places.items = array.count in
    let less : count_by (λ p. p == 0) (slice_set old.places.items v (old.len + 1)) + 1 ≡
    count_by (λ p. p == 0) old.places.items = zeros_less old.places.items v (old.len + 1) put.low
    (omega arith) put.free in
    let same : length new.places.items ≡ length old.places.items = ap length put.places ∙ length-set old.places.items v (old.len + 1) in
    record {
      arranged = rw (ap entry put.heap ∙ put_at old v array put.some put.low put.free, ap entry put.places ∙ entry-set old.places.items v (old.len + 1) put.low, put.len, same)
          (arranged_put (at old) (place old) old.len (length old.places.items) v array.arranged put.some put.low put.free);
      room = ap length put.heap ∙ length-set old.heap.items (old.len + 1) v ∙ array.room ∙ ap (λ (n : ℕ). n + 1) (sym same);
      count = rw (put.len, same, put.places) (omega (arith, count, less));
      few = rw same array.few;
    }

pub record IsTaken (old new : HeapArray) (first last : ℕ) : Type 0 where
  pub heap : new.heap.items ≡ slice_set old.heap.items 1 last
  pub places : new.places.items ≡ slice_set (slice_set old.places.items last 1) first 0
  pub len : new.len ≡ old.len - 1
  pub some : 0 < old.len
  pub at_first : entry old.heap.items 1 ≡ first
  pub at_last : entry old.heap.items old.len ≡ last

pub taken_at : (old : HeapArray) (last : ℕ) → IsHeapArray old → 0 < old.len → entry old.heap.items old.len ≡ last → entry (slice_set old.heap.items 1 last) ≡ with_entry (at old) 1 (at old old.len)
taken_at old last array some is =
    let room : length old.heap.items ≡ length old.places.items + 1 = array.room in
    let low : old.len < length old.places.items = len_low old array some in
    entry-set old.heap.items 1 last (omega (arith, room, low, some)) ∙ ap (λ (x : ℕ). with_entry (at old) 1 x) (sym is)

-- of two writes the first leaves the mark as it was
pub taken_marks : (old : HeapArray) (first last : ℕ) → IsHeapArray old → 0 < old.len →
    entry old.heap.items old.len ≡ last → marks_of (slice_set (slice_set old.places.items last 1) first 0) ≡
    slice_set (marks_of old.places.items) first false
taken_marks old first last array some is =
    marks_set (slice_set old.places.items last 1) first 0
    ∙ ap (λ (bs : List Bool). slice_set bs first false)
    (marks_kept old.places.items last 1 (omega arith)
    (rw (standing_at old old.len last array some (omega arith) is) some))

pub taken_row : (old new : HeapArray) (first last : ℕ) → IsHeapArray old → IsTaken old new first last → IsHeapArray new
taken_row old new first last array taken = record {
  arranged = rw (ap entry taken.heap ∙ taken_at old last array taken.some taken.at_last, places_are, taken.len, same)
      (arranged_taken (at old) (place old) old.len (length old.places.items) array.arranged taken.some);
  room = ap length taken.heap ∙ length-set old.heap.items 1 last ∙ array.room ∙ ap (λ (n : ℕ). n + 1) (sym same);
  count = rw (taken.len, same, taken.places) (let count : old.len + count_by (λ p. p == 0) old.places.items ≡ length old.places.items = array.count in omega (arith, count, zeros, taken.some));
  few = rw same array.few;
}
  where
    same : length new.places.items ≡ length old.places.items
    same = ap length taken.places ∙ length-set (slice_set old.places.items last 1) first 0 ∙ length-set old.places.items last 1

    first_low : first < length old.places.items
    first_low = standing_below old 1 first array (omega arith) (omega (arith, taken.some)) taken.at_first

    last_low : last < length old.places.items
    last_low = standing_below old old.len last array taken.some (omega arith) taken.at_last

    first_at : entry old.places.items first ≡ 1
    first_at = standing_at old 1 first array (omega arith) (omega (arith, taken.some)) taken.at_first

    last_at : entry old.places.items last ≡ old.len
    last_at = standing_at old old.len last array taken.some (omega arith) taken.at_last

    places_are : entry new.places.items ≡ with_entry (with_entry (place old) (at old old.len) 1) (at old 1) 0
    places_are =
        ap entry taken.places ∙ entry-set (slice_set old.places.items last 1) first 0 (rw length-set first_low) ∙ ap (λ (f : ℕ → ℕ). with_entry f first 0) (entry-set old.places.items last 1 last_low)
        ∙ ap (λ (x : ℕ). with_entry (with_entry (place old) x 1) first 0) (sym taken.at_last) ∙ ap (λ (x : ℕ). with_entry (with_entry (place old) (at old old.len) 1) x 0) (sym taken.at_first)

    written : entry (slice_set old.places.items last 1) ≡ with_entry (entry old.places.items) last 1
    written = entry-set old.places.items last 1 last_low

    some_now : 0 < entry (slice_set old.places.items last 1) first
    some_now =
        ⊎_elim
        (λ (e : first ≡ last). subst (λ (f : ℕ → ℕ). 0 < f first) (sym written) (rw (with_entry-same (entry old.places.items) last 1 first e) (omega arith)))
        (λ (apart : first ≡ last → ⊥). subst (λ (f : ℕ → ℕ). 0 < f first) (sym written) (rw (with_entry-other (entry old.places.items) last 1 first apart, first_at) (omega arith)))
        (cases_eq first last)

    zeros : count_by (λ p. p == 0) (slice_set (slice_set old.places.items last 1) first 0) ≡ count_by (λ p. p == 0) old.places.items + 1
    zeros = zeros_more (slice_set old.places.items last 1) first (rw length-set first_low) some_now
        ∙ ap (λ (n : ℕ). n + 1) (zeros_kept old.places.items last 1 last_low (omega arith) (rw last_at taken.some))

pub zero_entry : (n v : ℕ) → entry (replicate n 0) v ≡ 0
unfolding entry
zero_entry zero v = refl
zero_entry (suc n) zero = refl
zero_entry (suc n) (suc v) = zero_entry n v

-- the empty row
pub empty_row : (r : HeapArray) (vars : ℕ) → r.len ≡ 0 → r.heap.items ≡ replicate (vars + 2) 0 → r.places.items ≡ replicate (vars + 1) 0 → vars < 4294967296 → IsHeapArray r
empty_row r vars none heap places few = record {
  arranged = record {
    some = λ p some low. absurd (omega (arith, none, some, low));
    below = λ p some low. absurd (omega (arith, none, some, low));
    placed = λ p some low. absurd (omega (arith, none, some, low));
    within = λ v some. absurd (let z : entry r.places.items v ≡ 0 = ap (λ (xs : List ℕ). entry xs v) places ∙ zero_entry (vars + 1) v in omega (arith, z, some));
    found = λ v some. absurd (let z : entry r.places.items v ≡ 0 = ap (λ (xs : List ℕ). entry xs v) places ∙ zero_entry (vars + 1) v in omega (arith, z, some));
  };
  room = rw (heap, places, length_zeros (vars + 2), length_zeros (vars + 1)) (omega arith);
  count = rw (none, places, length_zeros (vars + 1)) (all_zeros (vars + 1));
  few = rw (places, length_zeros (vars + 1)) (omega (arith, few));
}
  where
    length_zeros : (n : ℕ) → length (replicate {A = ℕ} n 0) ≡ n
    length_zeros zero = refl
    length_zeros (suc n) = ap suc (length_zeros n)

    all_zeros : (n : ℕ) → 0 + count_by (λ x. x == 0) (replicate {A = ℕ} n 0) ≡ n
    all_zeros zero = refl
    all_zeros (suc n) =
        let ih : 0 + count_by (λ x. x == 0) (replicate {A = ℕ} n 0) ≡ n = all_zeros n in
        let one : count_by (λ x. x == 0) (replicate {A = ℕ} (suc n) 0) ≡
        1 + count_by (λ x. x == 0) (replicate {A = ℕ} n 0) =
        sum_by-cons (λ (x : ℕ). cond {A = ℕ} (x == 0) 1 0) 0 (replicate {A = ℕ} n 0) in
        omega arith
