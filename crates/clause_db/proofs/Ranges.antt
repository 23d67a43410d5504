-- Lists in one row of literals, by their ranges.
use Rattle.std.proofs.Common.{◌≡◌, ℕ, suc, ◌+◌, ◌-◌, ◌<◌, ◌≤◌, ℤ, List, [], ◌∷◌, ◌++◌, length, slice_index_or, slice_set, refl, ap, ◌∙◌, sym, subst, arith, take, drop, length-append}
use Rattle.std.specs.List.{slice_range, swap}
use Rattle.std.proofs.Math.Logic.{⊎_elim}
use Rattle.std.proofs.lemmas.Bool.{cases_eq, cases_lt}
use Rattle.std.proofs.lemmas.List.{drop-append-le, drop_at, take-append-le, take_all, length-drop, length-take-le}
use Rattle.std.proofs.lemmas.List.{length-map, length-set, map-append, take-map, get_or-take, get_or-drop, get_or-map}
use Rattle.std.proofs.lemmas.List.{get_or-set_same, get_or-set_other, same_lists}
use Rattle.std.proofs.lemmas.List.Elements.{All-push, All-take}
use Rattle.std.proofs.lemmas.List.Edits.{length-swap, swapped_from_swap, Swapped}
use Rattle.std.proofs.lemmas.List.Quantifiers.{all_pairs_push}
use Rattle.clause_db.specs.ArenaRanges.{Range, list_in, lists_in, AreRanges}

-- a range within a prefix of a row, and one after it
pub range_front : (row more : List ℤ) (a b : ℕ) → a ≤ b → b ≤ length row → slice_range (row ++ more) a b ≡ slice_range row a b
range_front row more a b low high =
    let room : b - a ≤ length (drop a row) = rw length-drop (omega arith) in
    ap (take (b - a)) (drop-append-le a row more (omega arith)) ∙ take-append-le (b - a) (drop a row) more room

pub range_after : (row more : List ℤ) (a b : ℕ) → a ≡ length row → b ≡ length row + length more → slice_range (row ++ more) a b ≡ more
range_after row more a b at long = ap (take (b - a)) (drop_at row more a (sym at)) ∙ take_all (b - a) more (omega arith)

pub range_long : (row : List ℤ) (a b : ℕ) → a ≤ b → b ≤ length row → length (slice_range row a b) ≡ b - a
range_long row a b order inside = length-take-le (b - a) (drop a row) (rw length-drop (omega arith))

pub range_read : (row : List ℤ) (a b k : ℕ) (d : ℤ) → k < b - a → slice_index_or (slice_range row a b) k d ≡ slice_index_or row (a + k) d
range_read row a b k d low = get_or-take (b - a) (drop a row) k d low ∙ get_or-drop a row k d

-- Two rows that agree on a range have the same list there.
pub range_same : (row new : List ℤ) (a b : ℕ) → a ≤ b → b ≤ length row → b ≤ length new →
    ((k : ℕ) (d : ℤ) → a ≤ k → k < b → slice_index_or new k d ≡ slice_index_or row k d) →
    slice_range new a b ≡ slice_range row a b
range_same row new a b order inside inside_new same =
    let long : length (slice_range row a b) ≡ b - a = range_long row a b order inside in
    let long_new : length (slice_range new a b) ≡ b - a = range_long new a b order inside_new in
    same_lists (slice_range new a b) (slice_range row a b) (long_new ∙ sym long) (λ k d low. let within : k < b - a =
    omega (arith, low, long_new) in range_read new a b k d within
    ∙ same (a + k) d (omega arith) (omega (arith, within)) ∙ sym (range_read row a b k d within))

-- Two literals of a range change places.
range_swapped : (row : List ℤ) (a b low high : ℕ) → a ≤ b → b ≤ length row → low < b - a → high < b - a → slice_range (swap row (a + low) (a + high)) a b ≡ swap (slice_range row a b) low high
range_swapped row a b low high order inside is_low is_high =
    same_lists (slice_range new a b) (swap (slice_range row a b) low high) (long_new ∙ sym (length-swap (slice_range row a b) low high ∙ long)) (λ k d at. at_place k d (omega (arith, at, long_new)))
  where
    new : List ℤ
    new = swap row (a + low) (a + high)

    long : length (slice_range row a b) ≡ b - a
    long = range_long row a b order inside

    long_new : length (slice_range new a b) ≡ b - a
    long_new = range_long new a b order (let kept : length new ≡ length row = length-swap row (a + low) (a + high) in omega (arith, kept, inside))

    at_place : (k : ℕ) (d : ℤ) → k < b - a → slice_index_or (slice_range new a b) k d ≡ slice_index_or (swap (slice_range row a b) low high) k d
    at_place k d within =
        let in_row : Swapped (λ i. slice_index_or row i d) (λ i. slice_index_or new i d) (a + low) (a + high) =
        swapped_from_swap row new (a + low) (a + high) d (omega (arith, inside, is_low))
        (omega (arith, inside, is_high)) refl in
        let in_list : Swapped (λ i. slice_index_or (slice_range row a b) i d)
        (λ i. slice_index_or (swap (slice_range row a b) low high) i d) low high =
        swapped_from_swap (slice_range row a b) (swap (slice_range row a b) low high) low high d
        (omega (arith, long, is_low)) (omega (arith, long, is_high)) refl in
        range_read new a b k d within ∙ ⊎_elim
        (λ (e : k ≡ low). ap (λ (n : ℕ). slice_index_or new (a + n) d) e ∙ in_row.0
        ∙ sym (range_read row a b high d is_high) ∙ sym in_list.0
        ∙ ap (λ (n : ℕ). slice_index_or (swap (slice_range row a b) low high) n d) (sym e))
        (λ (not_low : k ≡ low → ⊥). ⊎_elim
        (λ (e : k ≡ high). ap (λ (n : ℕ). slice_index_or new (a + n) d) e ∙ in_row.1
        ∙ sym (range_read row a b low d is_low) ∙ sym in_list.1
        ∙ ap (λ (n : ℕ). slice_index_or (swap (slice_range row a b) low high) n d) (sym e))
        (λ (not_high : k ≡ high → ⊥). in_row.2 (a + k) (λ e. not_low (omega arith)) (λ e. not_high (omega arith)) ∙ sym (range_read row a b k d within) ∙ sym (in_list.2 k not_low not_high))
        (cases_eq k high))
        (cases_eq k low)

-- A range without these two positions isn't changed.
range_apart : (row : List ℤ) (a b i j : ℕ) → a ≤ b → b ≤ length row → i < length row → j < length row →
    ((k : ℕ) → a ≤ k → k < b → k ≡ i → ⊥) → ((k : ℕ) → a ≤ k → k < b → k ≡ j → ⊥) →
    slice_range (swap row i j) a b ≡ slice_range row a b
range_apart row a b i j order inside is_i is_j not_i not_j =
    range_same row (swap row i j) a b order inside (let kept : length (swap row i j) ≡ length row = length-swap row i j in omega (arith, kept, inside))
    (λ k d low high. let swapped : Swapped (λ n. slice_index_or row n d) (λ n. slice_index_or (swap row i j) n d) i j =
    swapped_from_swap row (swap row i j) i j d is_i is_j refl in swapped.2 k (not_i k low high) (not_j k low high))

-- Two literals of one list change places, and the other lists stay.
swapped_in : (row : List ℤ) (ranges : List Range) (index low high : ℕ) (r : Range) → AreRanges row ranges →
    index < length ranges → r ≡ slice_index_or ranges index r → low < high → high < r.end - r.start →
    lists_in (swap row (r.start + low) (r.start + high)) ranges ≡
    slice_set (lists_in row ranges) index (swap (list_in row r) low high)
swapped_in row ranges index low high r are inside is order places =
    same_lists (lists_in new ranges) (slice_set (lists_in row ranges) index list) (length-map ranges (list_in new)
    ∙ sym (length-set (lists_in row ranges) index list ∙ length-map ranges (list_in row))) (λ k d at.
    at_index k d (let long : length (lists_in new ranges) ≡ length ranges = length-map ranges (list_in new) in
    omega (arith, at, long)))
  where
    new : List ℤ
    new = swap row (r.start + low) (r.start + high)

    list : List ℤ
    list = swap (list_in row r) low high

    fine : (r.start ≤ r.end) × (r.end ≤ length row)
    fine = subst (λ (s : Range). (s.start ≤ s.end) × (s.end ≤ length row)) (sym is) (are.inside index r inside)

    apart : (k : ℕ) (s : Range) → k < length ranges → (k ≡ index → ⊥) → s ≡ slice_index_or ranges k r → list_in new s ≡ list_in row s
    apart k s within differ at =
        let its : (s.start ≤ s.end) × (s.end ≤ length row) = subst (λ (t : Range). (t.start ≤ t.end) × (t.end ≤ length row)) (sym at) (are.inside k r within) in
        let end : r.end ≤ length row = fine.1 in
        ⊎_elim
        (λ (before : k < index).
        let following : s.end + 1 < r.start = subst (λ (t : Range). t.end + 1 < r.start) (sym at)
        (subst (λ (t : Range). (slice_index_or ranges k r).end + 1 < t.start) (sym is)
        (are.following k index r before inside)) in
        range_apart row s.start s.end (r.start + low) (r.start + high) its.0 its.1 (omega (arith, order, places, end))
        (omega (arith, places, end)) (λ n from to e. omega (arith, to, e, following)) (λ n from to e.
        omega (arith, to, e, following)))
        (λ (after : index ≤ k).
        let following : r.end + 1 < s.start = subst (λ (t : Range). r.end + 1 < t.start) (sym at)
        (subst (λ (t : Range). t.end + 1 < (slice_index_or ranges k r).start) (sym is)
        (are.following index k r (omega (arith, after, differ)) within)) in
        range_apart row s.start s.end (r.start + low) (r.start + high) its.0 its.1 (omega (arith, order, places, end))
        (omega (arith, places, end)) (λ n from to e. omega (arith, from, e, following, order, places))
        (λ n from to e. omega (arith, from, e, following, places)))
        (cases_lt k index)

    at_index : (k : ℕ) (d : List ℤ) → k < length ranges → slice_index_or (lists_in new ranges) k d ≡ slice_index_or (slice_set (lists_in row ranges) index list) k d
    at_index k d within =
        get_or-map (list_in new) ranges k r d within ∙ ⊎_elim
        (λ (e : k ≡ index). ap (λ (n : ℕ). list_in new (slice_index_or ranges n r)) e ∙ ap (list_in new) (sym is)
        ∙ range_swapped row r.start r.end low high fine.0 fine.1 (omega (arith, order, places)) places
        ∙ sym (ap (λ (n : ℕ). slice_index_or (slice_set (lists_in row ranges) index list) n d) e
        ∙ get_or-set_same (lists_in row ranges) index list d (let long : length (lists_in row ranges) ≡
        length ranges = length-map ranges (list_in row) in omega (arith, inside, long))))
        (λ (differ : k ≡ index → ⊥). apart k (slice_index_or ranges k r) within differ refl
        ∙ sym (get_or-set_other (lists_in row ranges) index k list d differ
        ∙ get_or-map (list_in row) ranges k r d within))
        (cases_eq k index)

pub lists_swapped : (lists : List (List ℤ)) (row new : List ℤ) (ranges : List Range) (index low high : ℕ) (r : Range) →
    lists_in row ranges ≡ lists → AreRanges row ranges → r ≡ slice_index_or ranges index r → index < length lists →
    low < high → high < length (slice_index_or lists index []) → new ≡ swap row (r.start + low) (r.start + high) →
    lists_in new ranges ≡ slice_set lists index (swap (slice_index_or lists index []) low high)
lists_swapped lists row new ranges index low high r view are is within order places new_is =
    let inside : index < length ranges = (let long : length lists ≡ length ranges = sym (ap length view) ∙ length-map ranges (list_in row) in omega (arith, within, long)) in
    let list : slice_index_or lists index [] ≡ list_in row r =
    ap (λ (ls : List (List ℤ)). slice_index_or ls index []) (sym view)
    ∙ get_or-map (list_in row) ranges index r [] inside ∙ ap (list_in row) (sym is) in
    let fine : (r.start ≤ r.end) × (r.end ≤ length row) = subst (λ (s : Range). (s.start ≤ s.end) × (s.end ≤ length row)) (sym is) (are.inside index r inside) in
    let long : length (slice_index_or lists index []) ≡ r.end - r.start = ap length list ∙ range_long row r.start r.end fine.0 fine.1 in
    ap (λ (xs : List ℤ). lists_in xs ranges) new_is
    ∙ swapped_in row ranges index low high r are inside is order (omega (arith, places, long))
    ∙ ap (λ (ls : List (List ℤ)). slice_set ls index (swap (list_in row r) low high)) view
    ∙ ap (λ (xs : List ℤ). slice_set lists index (swap xs low high)) (sym list)

-- The lists of some ranges are the same in two rows that agree on each of them.
lists_same : (row new : List ℤ) (ranges : List Range) →
    ((k : ℕ) (d : Range) → k < length ranges → list_in new (slice_index_or ranges k d) ≡
    list_in row (slice_index_or ranges k d)) → lists_in new ranges ≡ lists_in row ranges
lists_same row new [] same = refl
lists_same row new (r ∷ rs) same =
    let tail : lists_in new rs ≡ lists_in row rs = lists_same row new rs (λ k d low. same (suc k) d (omega arith)) in
    ap (λ (xs : List ℤ). xs ∷ lists_in new rs) (same 0 r (omega arith)) ∙ ap (λ (ls : List (List ℤ)). list_in row r ∷ ls) tail

-- More literals are appended to the row.
pub lists_written : (row new more : List ℤ) (ranges : List Range) → new ≡ row ++ more → AreRanges row ranges → lists_in new ranges ≡ lists_in row ranges
lists_written row new more ranges is are = rw is (lists_same row (row ++
    more) ranges (λ k d low. let fine = are.inside k d low in
    range_front row more (slice_index_or ranges k d).start (slice_index_or ranges k d).end fine.0 fine.1))

pub ranges_written : (row new more : List ℤ) (ranges : List Range) → new ≡ row ++ more → AreRanges row ranges → AreRanges new ranges
ranges_written row new more ranges is are = record {
  headed = are.headed;
  inside = λ k d low. (let fine = are.inside k d low in (fine.0, (let end : (slice_index_or ranges k d).end ≤ length row = fine.1 in rw (is, length-append) (omega (arith, end)))));
  following = are.following;
}

-- And the range of the appended literals, after two entries for id and length, becomes the last one.
heads_long : (row : List ℤ) (id head : ℤ) → length (row ++ id ∷ head ∷ []) ≡ length row + 2
heads_long row id head = length-append row (id ∷ head ∷ [])

pub ranges_added : (row new lits : List ℤ) (id head : ℤ) (ranges : List Range) (r : Range) →
    new ≡ (row ++ id ∷ head ∷ []) ++ lits → r.start ≡ length row + 2 → r.end ≡ length row + 2 + length lits →
    AreRanges row ranges
    → AreRanges new (ranges ++ r ∷ [])
ranges_added row new lits id head ranges r is at end are =
    let heads : List ℤ = id ∷ head ∷ [] in
    let written : AreRanges new ranges = ranges_written (row ++ heads) new lits ranges is (ranges_written row (row ++ heads) heads ranges refl are) in
    let long : length new ≡ length row + 2 + length lits = ap length is ∙ length-append (row ++ heads) lits ∙ ap (λ (n : ℕ). n + length lits) (heads_long row id head) in
    record {
      headed = All-push (λ (s : Range). 1 < s.start) ranges r written.headed (omega (arith, at));
      inside = All-push (λ (s : Range). (s.start ≤ s.end) × (s.end ≤ length new)) ranges r written.inside (omega (arith, at, end), omega (arith, end, long));
      following = all_pairs_push (λ (s t : Range). s.end + 1 < t.start) ranges r are.following (λ k d low.
          (let fine : (slice_index_or ranges k d).end ≤ length row = (are.inside k d low).1 in omega (arith, fine, at)));
    }

pub lists_added : (row new lits : List ℤ) (id head : ℤ) (ranges : List Range) (r : Range) →
    new ≡ (row ++ id ∷ head ∷ []) ++ lits → r.start ≡ length row + 2 → r.end ≡ length row + 2 + length lits →
    AreRanges row ranges
    → lists_in new (ranges ++ r ∷ []) ≡ lists_in row ranges ++ lits ∷ []
lists_added row new lits id head ranges r is at end are =
    let heads : List ℤ = id ∷ head ∷ [] in
    let front : length (row ++ heads) ≡ length row + 2 = heads_long row id head in
    let list : list_in new r ≡ lits = ap (λ (xs : List ℤ). list_in xs r) is ∙ range_after (row ++ heads) lits r.start r.end (omega (arith, at, front)) (omega (arith, end, front)) in
    let before : lists_in new ranges ≡ lists_in row ranges =
    lists_written (row ++ heads) new lits ranges is (ranges_written row (row ++ heads) heads ranges refl are)
    ∙ lists_written row (row ++ heads) heads ranges refl are in
    map-append (list_in new) ranges (r ∷ []) ∙ ap (λ (xs : List ℤ). lists_in new ranges ++ xs ∷ []) list ∙ ap (λ (ls : List (List ℤ)). ls ++ lits ∷ []) before

-- The last range is removed, with the row from two entries before its start on.
pub ends_before : (row : List ℤ) (ranges : List Range) (n k : ℕ) (d r : Range) → AreRanges row ranges → n + 1 ≡ length ranges → r ≡ slice_index_or ranges n d → k < n
    → ((slice_index_or ranges k d).start ≤ (slice_index_or ranges k d).end) × ((slice_index_or ranges k d).end ≤ r.start - 2) × (length (take (r.start - 2) row) ≡ r.start - 2)
ends_before row ranges n k d r are all is low =
    let last : (r.start ≤ r.end) × (r.end ≤ length row) = subst (λ (s : Range). (s.start ≤ s.end) × (s.end ≤ length row)) (sym is) (are.inside n d (omega (arith, all))) in
    let start : r.start ≤ r.end = last.0 in
    let end : r.end ≤ length row = last.1 in
    let following : (slice_index_or ranges k d).end + 1 < r.start = subst (λ (s : Range). (slice_index_or ranges k d).end + 1 < s.start) (sym is) (are.following k n d low (omega (arith, all))) in (
      (are.inside k d (omega (arith, low, all))).0,
      omega (arith, following),
      length-take-le (r.start - 2) row (omega (arith, start, end)),
    )

front_long : (ranges : List Range) (n : ℕ) → n + 1 ≡ length ranges → length (take n ranges) ≡ n
front_long ranges n all = length-take-le n ranges (omega (arith, all))

pub ranges_cut : (row : List ℤ) (ranges : List Range) (n : ℕ) (r : Range) → AreRanges row ranges →
    n + 1 ≡ length ranges → ((d : Range) → r ≡ slice_index_or ranges n d) →
    AreRanges (take (r.start - 2) row) (take n ranges)
ranges_cut row ranges n r are all is = record { headed = All-take (λ (s : Range). 1 < s.start) n ranges are.headed; inside = inside; following = following }
  where
    inside : (k : ℕ) (d : Range) → k < length (take n ranges) →
        ((slice_index_or (take n ranges) k d).start ≤ (slice_index_or (take n ranges) k d).end) ×
        ((slice_index_or (take n ranges) k d).end ≤ length (take (r.start - 2) row))
    inside k d at =
        let low : k < n = omega (arith, at, front_long ranges n all) in
        let fine = ends_before row ranges n k d r are all (is d) low in
        let end : (slice_index_or ranges k d).end ≤ r.start - 2 = fine.1 in
        let long : length (take (r.start - 2) row) ≡ r.start - 2 = fine.2 in
        subst (λ (s : Range). (s.start ≤ s.end) × (s.end ≤ length (take (r.start - 2) row))) (sym (get_or-take n ranges k d low)) (fine.0, omega (arith, end, long))

    following : (i j : ℕ) (d : Range) → i < j → j < length (take n ranges) → (slice_index_or (take n ranges) i d).end + 1 < (slice_index_or (take n ranges) j d).start
    following i j d order at =
        let low : j < n = omega (arith, at, front_long ranges n all) in
        let before : slice_index_or (take n ranges) i d ≡ slice_index_or ranges i d = get_or-take n ranges i d (omega (arith, order, low)) in
        rw (before, get_or-take n ranges j d low) (are.following i j d order (omega (arith, low, all)))

pub lists_cut : (row : List ℤ) (ranges : List Range) (n : ℕ) (r : Range) → AreRanges row ranges → n + 1 ≡ length ranges → ((d : Range) → r ≡ slice_index_or ranges n d)
    → lists_in (take (r.start - 2) row) (take n ranges) ≡ take n (lists_in row ranges)
lists_cut row ranges n r are all is = lists_same row (take (r.start - 2) row) (take n ranges) kept ∙ sym (take-map (list_in row) n ranges)
  where
    kept : (k : ℕ) (d : Range) → k < length (take n ranges) → list_in (take (r.start - 2) row) (slice_index_or (take n ranges) k d) ≡ list_in row (slice_index_or (take n ranges) k d)
    kept k d at =
        let low : k < n = omega (arith, at, front_long ranges n all) in
        let fine = ends_before row ranges n k d r are all (is d) low in
        let end : (slice_index_or ranges k d).end ≤ r.start - 2 = fine.1 in
        let long : length (take (r.start - 2) row) ≡ r.start - 2 = fine.2 in
        let inside : (slice_index_or ranges k d).end ≤ length row = (are.inside k d (omega (arith, low, all))).1 in
        subst (λ (s : Range). list_in (take (r.start - 2) row) s ≡ list_in row s) (sym (get_or-take n ranges k d low))
        (range_same row (take (r.start - 2) row) (slice_index_or ranges k d).start
        (slice_index_or ranges k d).end fine.0 inside (omega (arith, end, long)) (λ m z from to.
        get_or-take (r.start - 2) row m z (omega (arith, to, end))))
