-- Lists of variables after writes.
use Rattle.std.specs.Prelude.{◌≡◌, ◌≢◌, ℕ, ◌+◌, ◌<◌, ◌≤◌, ◌==◌, List, length, count_by, slice_index_or, slice_set}
use Rattle.std.proofs.Common.{sym, ap, ◌∙◌, subst, arith}
use Rattle.std.proofs.Math.Logic.{⊎_elim}
use Rattle.std.proofs.lemmas.Bool.{cases_lt}
use Rattle.std.proofs.lemmas.List.{get_or_read, length-set}
use Rattle.var_heap.specs.declared.array.HeapArray.{HeapArray}
use Rattle.var_heap.specs.Entries.{entry, with_entry, marks_of}
use Rattle.var_heap.specs.HeapArrays.{IsHeapArray, at, place, IsMoved}
use Rattle.var_heap.proofs.Writing.{entry-set, entry_read, marks_kept, zeros_kept, zeros_less, with_entry-other}
use Rattle.var_heap.proofs.Arranging.{arranged_swapped}

-- an entry that was read
pub read_entry : (xs : List ℕ) (i x : ℕ) → i < length xs → x ≡ slice_index_or xs i x → entry xs i ≡ x
read_entry xs i x within is = entry_read xs i ∙ sym (get_or_read xs i x within is 0)

-- no variable is 0, so fewer are held than the table has entries
pub no_place : (r : HeapArray) → IsHeapArray r → entry r.places.items 0 ≡ 0
no_place r array =
    ⊎_elim
    (λ (some : 0 < entry r.places.items 0).
    let back : entry r.heap.items (entry r.places.items 0) ≡ 0 = array.arranged.found 0 some in
    let here : 0 < entry r.heap.items (entry r.places.items 0) = array.arranged.some (entry r.places.items 0) some (array.arranged.within 0 some) in
    absurd (omega arith))
    (λ (none : entry r.places.items 0 ≤ 0). omega arith)
    (cases_lt 0 (entry r.places.items 0))

pub len_low : (r : HeapArray) → IsHeapArray r → 0 < r.len → r.len < length r.places.items
len_low r array some =
    let count : r.len + count_by (λ p. p == 0) r.places.items ≡ length r.places.items = array.count in
    let low : entry r.heap.items 1 < length r.places.items = array.arranged.below 1 (omega arith) (omega (arith, some)) in
    let zeros : count_by (λ p. p == 0) (slice_set r.places.items 0 1) + 1 ≡ count_by (λ p. p == 0) r.places.items = zeros_less r.places.items 0 1 (omega arith) (omega arith) (no_place r array) in
    omega (arith, count, zeros)

pub place_low : (r : HeapArray) (p : ℕ) → IsHeapArray r → 0 < p → p ≤ r.len → p < length r.places.items
place_low r p array some low = let count : r.len < length r.places.items = len_low r array (omega (arith, some, low)) in omega (arith, count, low)

pub read_standing : (r : HeapArray) (p x : ℕ) → IsHeapArray r → 0 < p → p ≤ r.len → x ≡ slice_index_or r.heap.items p x → entry r.heap.items p ≡ x
read_standing r p x array some low is = read_entry r.heap.items p x (let room : length r.heap.items ≡
    length r.places.items + 1 = array.room in let under : p < length r.places.items =
    place_low r p array some low in omega arith) is

-- the variable at a place is one of the variables
pub standing_below : (r : HeapArray) (p x : ℕ) → IsHeapArray r → 0 < p → p ≤ r.len → entry r.heap.items p ≡ x → x < length r.places.items
standing_below r p x array some low is = subst (λ (y : ℕ). y < length r.places.items) is (array.arranged.below p some low)

pub standing_at : (r : HeapArray) (p x : ℕ) → IsHeapArray r → 0 < p → p ≤ r.len → entry r.heap.items p ≡ x → entry r.places.items x ≡ p
standing_at r p x array some low is = subst (λ (y : ℕ). entry r.places.items y ≡ p) is (array.arranged.placed p some low)

swapped_entries : (xs : List ℕ) (a b x y : ℕ) → a < length xs → b < length xs → entry (slice_set (slice_set xs a y) b x) ≡ with_entry (with_entry (entry xs) a y) b x
swapped_entries xs a b x y first second =
    entry-set (slice_set xs a y) b x (rw length-set second) ∙ ap (λ (f : ℕ → ℕ). with_entry f b x) (entry-set xs a y first)

-- and has an entry in the table of places
pub standing_inside : (r : HeapArray) (p x : ℕ) → IsHeapArray r → 0 < p → p ≤ r.len → x ≡ slice_index_or r.heap.items p x → x < length r.places.items
standing_inside r p x array some low is = standing_below r p x array some low (read_standing r p x array some low is)

-- The variables at two places are written, and the places of these variables.
pub record AreSwapped (old new : HeapArray) (a b x y : ℕ) : Type 0 where
  pub heap : new.heap.items ≡ slice_set (slice_set old.heap.items a y) b x
  pub places : new.places.items ≡ slice_set (slice_set old.places.items y a) x b
  pub len : new.len ≡ old.len
  pub first : entry old.heap.items a ≡ x
  pub second : entry old.heap.items b ≡ y
  pub inside_first : (0 < a) × (a ≤ old.len)
  pub inside_second : (0 < b) × (b ≤ old.len)
  pub apart : a ≢ b

pub swapped_at : (old : HeapArray) (a b x y : ℕ) → IsHeapArray old → (0 < a) × (a ≤ old.len) → (0 < b) ×
    (b ≤ old.len) → entry old.heap.items a ≡ x → entry old.heap.items b ≡ y →
    entry (slice_set (slice_set old.heap.items a y) b x) ≡ with_entry (with_entry (at old) a (at old b)) b (at old a)
swapped_at old a b x y array (some_a, low_a) (some_b, low_b) at_a at_b =
    let room : length old.heap.items ≡ length old.places.items + 1 = array.room in
    let a_low : a < length old.places.items = place_low old a array some_a low_a in
    let b_low : b < length old.places.items = place_low old b array some_b low_b in
    swapped_entries old.heap.items a b x y (omega (arith, room, a_low)) (omega (arith, room, b_low))
    ∙ ap (λ (z : ℕ). with_entry (with_entry (at old) a z) b x) (sym at_b) ∙ ap (λ (z : ℕ). with_entry (with_entry (at old) a (at old b)) b z) (sym at_a)

swapped_place : (old new : HeapArray) (a b x y : ℕ) → IsHeapArray old → AreSwapped old new a b x y → place new ≡ with_entry (with_entry (place old) (at old b) a) (at old a) b
swapped_place old new a b x y array swapped =
    let x_low : x < length old.places.items = standing_below old a x array swapped.inside_first.0 swapped.inside_first.1 swapped.first in
    let y_low : y < length old.places.items = standing_below old b y array swapped.inside_second.0 swapped.inside_second.1 swapped.second in
    ap entry swapped.places ∙ swapped_entries old.places.items y x b a y_low x_low
    ∙ ap (λ (z : ℕ). with_entry (with_entry (place old) z a) x b) (sym swapped.second) ∙ ap (λ (z : ℕ). with_entry (with_entry (place old) (at old b) a) z b) (sym swapped.first)

pub swapped_moved : (old new : HeapArray) (a b x y : ℕ) → IsHeapArray old → AreSwapped old new a b x y → IsMoved old new
swapped_moved old new a b x y array swapped = record {
  len = swapped.len;
  marks = ap marks_of swapped.places ∙ marks_kept (slice_set old.places.items y a) x b swapped.inside_second.0 there ∙ marks_kept old.places.items y a swapped.inside_first.0 here;
  room = ap length swapped.places ∙ length-set (slice_set old.places.items y a) x b ∙ length-set old.places.items y a;
}
  where
    y_at : entry old.places.items y ≡ b
    y_at = standing_at old b y array swapped.inside_second.0 swapped.inside_second.1 swapped.second

    x_at : entry old.places.items x ≡ a
    x_at = standing_at old a x array swapped.inside_first.0 swapped.inside_first.1 swapped.first

    here : 0 < entry old.places.items y
    here = rw y_at swapped.inside_second.0

    y_low : y < length old.places.items
    y_low = standing_below old b y array swapped.inside_second.0 swapped.inside_second.1 swapped.second

    there : 0 < entry (slice_set old.places.items y a) x
    there = subst (λ (f : ℕ → ℕ). 0 < f x) (sym (entry-set old.places.items y a y_low))
        (subst (λ (n : ℕ). 0 < n) (sym (with_entry-other (entry old.places.items) y a x (λ e. swapped.apart (sym x_at
        ∙ ap (entry old.places.items) e ∙ y_at)))) (rw x_at swapped.inside_first.0))

pub swapped_row : (old new : HeapArray) (a b x y : ℕ) → IsHeapArray old → AreSwapped old new a b x y → IsHeapArray new
swapped_row old new a b x y array swapped = record {
  arranged = rw (
    ap entry swapped.heap ∙ swapped_at old a b x y array swapped.inside_first swapped.inside_second
        swapped.first swapped.second,
    swapped_place old new a b x y array swapped,
    swapped.len,
    moved.room,
  )
      (arranged_swapped (at old) (place old) old.len (length old.places.items) a b array.arranged
      swapped.inside_first.0 swapped.inside_first.1 swapped.inside_second.0 swapped.inside_second.1 swapped.apart);
  room = ap length swapped.heap ∙ length-set (slice_set old.heap.items a y) b x ∙ length-set old.heap.items a y ∙ array.room ∙ ap (λ (n : ℕ). n + 1) (sym moved.room);
  count = rw (swapped.len, moved.room, swapped.places, zeros) array.count;
  few = rw moved.room array.few;
}
  where
    moved : IsMoved old new
    moved = swapped_moved old new a b x y array swapped

    x_low : x < length old.places.items
    x_low = standing_below old a x array swapped.inside_first.0 swapped.inside_first.1 swapped.first

    y_low : y < length old.places.items
    y_low = standing_below old b y array swapped.inside_second.0 swapped.inside_second.1 swapped.second

    y_at : entry old.places.items y ≡ b
    y_at = standing_at old b y array swapped.inside_second.0 swapped.inside_second.1 swapped.second

    x_at : entry old.places.items x ≡ a
    x_at = standing_at old a x array swapped.inside_first.0 swapped.inside_first.1 swapped.first

    there : 0 < entry (slice_set old.places.items y a) x
    there = subst (λ (f : ℕ → ℕ). 0 < f x) (sym (entry-set old.places.items y a y_low))
        (subst (λ (n : ℕ). 0 < n) (sym (with_entry-other (entry old.places.items) y a x (λ e. swapped.apart (sym x_at
        ∙ ap (entry old.places.items) e ∙ y_at)))) (rw x_at swapped.inside_first.0))

    zeros : count_by (λ p. p == 0) (slice_set (slice_set old.places.items y a) x b) ≡ count_by (λ p. p == 0) old.places.items
    zeros = zeros_kept (slice_set old.places.items y a) x b (rw length-set x_low) swapped.inside_second.0 there
        ∙ zeros_kept old.places.items y a y_low swapped.inside_first.0 (rw y_at swapped.inside_second.0)

-- the score of the variable at a place
pub score_at : (r : HeapArray) (scores : List ℕ) (p x : ℕ) → IsHeapArray r → 0 < p → p ≤ r.len → x ≡ slice_index_or r.heap.items p x → slice_index_or scores x 0 ≡ entry scores (entry r.heap.items p)
score_at r scores p x array some low is = sym (ap (entry scores) (read_standing r p x array some low is) ∙ entry_read scores x)

pub moved_trans : (a b c : HeapArray) → IsMoved a b → IsMoved b c → IsMoved a c
moved_trans a b c first second = record { len = second.len ∙ first.len; marks = second.marks ∙ first.marks; room = second.room ∙ first.room }
