-- What contracts see of the heap's variables.
use Rattle.std.specs.Prelude.{◌≡◌, ℕ, zero, suc, ◌+◌, ◌<◌, ◌≤◌, ◌/◌, Bool, true, List, [], ◌∷◌, map, length, slice_index_or, slice_set, replicate, refl}
use Rattle.std.proofs.Common.{sym, ap, ◌∙◌, subst, arith}
use Rattle.std.proofs.lemmas.Bool.{lt-ltb, ltb-true}
use Rattle.std.proofs.lemmas.Grind.{common_steps}
use Rattle.std.proofs.Math.Nat.{zero-div, mul_comm, mul-div-le, le_trans}
use Rattle.std.proofs.lemmas.Nat.{le-div}
use Rattle.std.proofs.lemmas.List.{length-set, length-map}
use Rattle.var_heap.specs.declared.array.HeapArray.{HeapArray}
use Rattle.var_heap.specs.Entries.{entry, marks_of}
use Rattle.var_heap.specs.Held.{Held, IsHeld, IsVariable, IsWhole, IsGreatest, IsFull}
use Rattle.var_heap.specs.HeapArrays.{IsHeapArray, at, place, IsHeap, IsFilled, IsOrderedAbove}
use Rattle.var_heap.proofs.Writing.{entry-set, entry_read, mark_read, marks_set, marks_kept}
use Rattle.var_heap.proofs.Heaps.{first_greatest, ordered_risen, ordered_elsewhere, ordered_alike}
use Rattle.var_heap.proofs.Filling.{zero_entry}

abbrev shown : ℕ → List ℕ → HeapArray → Held
shown vars scores r = record { vars = vars; scores = scores; marks = marks_of r.places.items }

held_place : (vars : ℕ) (scores : List ℕ) (r : HeapArray) (v : ℕ) → IsHeld (shown vars scores r) v → 0 < place r v
held_place vars scores r v held = ltb-true 0 (place r v) (sym (mark_read r.places.items v) ∙ held)

place_held : (vars : ℕ) (scores : List ℕ) (r : HeapArray) (v : ℕ) → 0 < place r v → IsHeld (shown vars scores r) v
place_held vars scores r v some = mark_read r.places.items v ∙ lt-ltb 0 (place r v) some

held_variable : (vars : ℕ) (scores : List ℕ) (r : HeapArray) (v : ℕ) → IsHeapArray r → length r.places.items ≡ vars + 1 → IsHeld (shown vars scores r) v → IsVariable (shown vars scores r) v
held_variable vars scores r v array room held =
    let here : 0 < place r v = held_place vars scores r v held in
    let within : place r v ≤ r.len = array.arranged.within v here in
    let found : at r (place r v) ≡ v = array.arranged.found v here in
    let some : 0 < at r (place r v) = array.arranged.some (place r v) here within in
    let below : at r (place r v) < length r.places.items = array.arranged.below (place r v) here within in
    (omega (arith, found, some), omega (arith, found, below, room))

-- what contracts see satisfies the invariant
pub row_whole : (vars : ℕ) (scores : List ℕ) (r : HeapArray) → IsHeapArray r → length scores ≡ vars + 1 → length r.places.items ≡ vars + 1 → IsWhole (shown vars scores r)
row_whole vars scores r array scores_room places_room = record {
  scores_room = scores_room;
  marks_room = rw length-map places_room;
  variables = λ v. held_variable vars scores r v array places_room;
}

pub heap_whole : (vars : ℕ) (scores : List ℕ) (r : HeapArray) → IsHeap vars scores r → IsWhole (shown vars scores r)
heap_whole vars scores r heap = row_whole vars scores r heap.array heap.scores_room heap.places_room

-- the first is a held variable of greatest score
pub greatest_first : (h : Held) (vars : ℕ) (scores : List ℕ) (r : HeapArray) (v : ℕ) → shown vars scores r ≡ h → IsHeap vars scores r → 0 < r.len → v ≡ at r 1 → IsGreatest h v
greatest_first h vars scores r v view heap some first = rw (← view, first) (record {
  held = place_held vars scores r (at r 1) (rw (heap.array.arranged.placed 1 (omega arith) (omega (arith, some))) (omega arith));
  variable = (
    heap.array.arranged.some 1 (omega arith) (omega (arith, some)),
    (let low : at r 1 < length r.places.items = heap.array.arranged.below 1 (omega arith) (omega (arith, some)) in
        let room : length r.places.items ≡ vars + 1 = heap.places_room in omega arith),
  );
  greatest = λ w held.
      let here : 0 < place r w = held_place vars scores r w held in
      let low : place r w ≤ r.len = heap.array.arranged.within w here in
      let top : entry scores (at r (place r w)) ≤ entry scores (at r 1) = first_greatest (at r) (entry scores) r.len heap.ordered (place r w) (place r w) (omega arith) here low in
      let same : at r (place r w) ≡ w = heap.array.arranged.found w here in
      subst (λ (x : ℕ). x ≤ slice_index_or scores (at r 1) 0) (ap (entry scores) same ∙ entry_read scores w) (subst (λ (x : ℕ). entry scores (at r (place r w)) ≤ x) (entry_read scores (at r 1)) top);
})

pub none_held : (h : Held) (vars : ℕ) (scores : List ℕ) (r : HeapArray) (v : ℕ) → shown vars scores r ≡ h → IsHeapArray r → r.len ≡ 0 → IsHeld h v → ⊥
none_held h vars scores r v view array none held =
    let here : 0 < place r v = held_place vars scores r v (subst (λ (x : Held). IsHeld x v) (sym view) held) in
    let low : place r v ≤ r.len = array.arranged.within v here in
    omega arith

-- pushing a held variable changes nothing
pub held_stays : (h : Held) (vars : ℕ) (scores : List ℕ) (r : HeapArray) (v : ℕ) → shown vars scores r ≡ h → 0 < place r v → h ≡ record h { marks = slice_set h.marks v true }
held_stays h vars scores r v view some =
    let same : slice_set (marks_of r.places.items) v true ≡ marks_of r.places.items = sym (marks_set r.places.items v 1) ∙ marks_kept r.places.items v 1 (omega arith) some in
    rw (← view) (ap (λ (m : List Bool). (let x : Held = record { vars = vars; scores = scores; marks = m } in x)) (sym same))

-- increasing a score
pub risen_above : (vars : ℕ) (scores now : List ℕ) (r : HeapArray) (v y p : ℕ) → IsHeap vars scores r → v ≤ vars →
    now ≡ slice_set scores v y → place r v ≡ p → 0 < p → slice_index_or scores v 0 ≤ y →
    IsOrderedAbove (at r) (entry now) r.len p
risen_above vars scores now r v y p heap low is at_p some rise =
    let room : length scores ≡ vars + 1 = heap.scores_room in
    rw (is, ← at_p, entry-set scores v y (omega (arith, room, low)))
    (ordered_risen (at r) (place r) (entry scores) r.len (length r.places.items) v y heap.array.arranged heap.ordered
    (rw at_p some) (rw entry_read rise))

pub risen_elsewhere : (vars : ℕ) (scores : List ℕ) (r : HeapArray) (v y : ℕ) → IsHeap vars scores r → v ≤ vars → place r v ≡ 0 → IsHeap vars (slice_set scores v y) r
risen_elsewhere vars scores r v y heap low none =
    let room : length scores ≡ vars + 1 = heap.scores_room in
    record {
      array = heap.array;
      scores_room = length-set scores v y ∙ room;
      places_room = heap.places_room;
      ordered = rw (entry-set scores v y (omega (arith, room, low))) (ordered_elsewhere (at r) (place r) (entry scores) r.len (length r.places.items) v y heap.array.arranged heap.ordered none);
    }

-- a smaller number is no greater after a division
divided_order : (by a b : ℕ) → 0 < by → a ≤ b → a / by ≤ b / by
divided_order by a b some low = le-div (a / by) b by some (subst (λ (v : ℕ). v ≤ b) (mul_comm by (a / by)) (le_trans (mul-div-le a by) low))

-- dividing all scores
entry_divided : (by : ℕ) (xs : List ℕ) (v : ℕ) → entry (map (λ s. s / by) xs) v ≡ entry xs v / by
unfolding entry
entry_divided by [] v = sym (zero-div by)
entry_divided by (x ∷ xs) zero = refl
entry_divided by (x ∷ xs) (suc v) = entry_divided by xs v

entries_divided : (by : ℕ) (xs : List ℕ) → entry (map (λ s. s / by) xs) ≡ (λ v. entry xs v / by)
entries_divided by xs = λ i v. entry_divided by xs v i

pub heap_divided : (by vars : ℕ) (scores now : List ℕ) (r : HeapArray) → 0 < by → now ≡ map (λ s. s / by) scores → IsHeap vars scores r → IsHeap vars now r
heap_divided by vars scores now r some is heap = record {
  array = heap.array;
  scores_room = ap length is ∙ (rw length-map heap.scores_room);
  places_room = heap.places_room;
  ordered = rw (is, entries_divided by scores) (ordered_alike (at r) (entry scores) r.len (λ (s : ℕ). s / by) (λ a b low. divided_order by a b some low) heap.ordered);
}

-- the heap of all variables
pub full_heap : (vars : ℕ) (scores : List ℕ) (r : HeapArray) → scores ≡ replicate (vars + 1) 0 → IsHeapArray r → length r.places.items ≡ vars + 1 → IsHeap vars scores r
full_heap vars scores r zeros array room = record {
  array = array;
  scores_room = ap length zeros ∙ grind (arith, common_steps);
  places_room = room;
  ordered = record { order = λ q p low under. rw (zeros, zero_entry (vars + 1) (at r p), zero_entry (vars + 1) (at r q)) (omega arith) };
}

pub full_shown : (vars : ℕ) (scores : List ℕ) (r : HeapArray) → scores ≡ replicate (vars + 1) 0 → IsHeapArray r → length r.places.items ≡ vars + 1 → IsFilled vars r → IsFull vars (shown vars scores r)
full_shown vars scores r zeros array room filled = record {
  vars_are = refl;
  held = λ v. (held_variable vars scores r v array room, λ (some, low). place_held vars scores r v (rw (filled.each v low) some));
  scores_are = zeros;
}
