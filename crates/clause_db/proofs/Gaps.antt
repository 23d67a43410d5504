-- Lists in one row, with gaps between them: they move down, and the row is cut after the last. Any
-- move that takes along a list and the two entries before it keeps the lists.
use Rattle.std.proofs.Common.{◌≡◌, ℕ, zero, suc, ◌+◌, ◌-◌, ◌<◌, ◌≤◌, ◌==◌, false, ℤ, pos, List, [], length, slice_index_or, slice_set, refl, ap, ◌∙◌, sym, subst, arith, take}
use Rattle.std.specs.List.{slice_range, CopiedTo, SameBelow, SameFrom}
use Rattle.std.proofs.Math.Logic.{⊎_elim}
use Rattle.std.proofs.lemmas.Bool.{cases_eq, cases_lt, ne_eqb}
use Rattle.std.proofs.lemmas.List.{length-map, length-set, length-take-le, get_or-take, get_or-map, get_or-set_same, get_or-set_other, get_or_default, same_lists}
use Rattle.sat_theory.specs.Formula.{variable}
use Rattle.clause_db.specs.ArenaRanges.{ArenaState, Range, count_at, number_at, range_at, ranges_of, list_in, lists_in, end_before, AreIds, AreRanges, AreLaid}
use Rattle.clause_db.proofs.Ranges.{range_long, range_read}
use Rattle.clause_db.proofs.Starts.{shown, start_at, range_of, room_of, headed_at, inside_at, after_at, lists_room, id_at_start, read_count}

-- The invariant, by the starts.
pub record AreApart (row : List ℤ) (starts : List ℕ) : Type 0 where
  pub headed : (k : ℕ) → k < length starts → 1 < start_at starts k
  pub inside : (k : ℕ) → k < length starts → start_at starts k + count_at row (start_at starts k) ≤ length row
  pub following : (i k : ℕ) → i < k → k < length starts → start_at starts i + count_at row (start_at starts i) + 1 < start_at starts k

pub apart_ranges : (row : List ℤ) (starts : List ℕ) → AreApart row starts → AreRanges row (ranges_of row starts)
apart_ranges row starts are = record {
  headed = λ k d low. subst (λ (r : Range). 1 < r.start) (sym (range_of row starts k d (at k low))) (are.headed k (at k low));
  inside = λ k d low. subst (λ (r : Range). (r.start ≤ r.end) × (r.end ≤ length row)) (sym (range_of row starts k d (at k low))) (omega arith, are.inside k (at k low));
  following = λ i k d order low. rw (range_of row starts i d (omega (arith, order, at k low)), range_of row starts k d (at k low)) (are.following i k order (at k low));
}
  where
    at : (k : ℕ) → k < length (ranges_of row starts) → k < length starts
    at k low = rw (room_of row starts) at low

-- The list at an index is that of its range.
pub list_at : (row : List ℤ) (starts : List ℕ) (k : ℕ) (d : List ℤ) → k < length starts → slice_index_or (lists_in row (ranges_of row starts)) k d ≡ list_in row (range_at row (start_at starts k))
list_at row starts k d low = get_or-map (list_in row) (ranges_of row starts) k (range_at row 0) d (rw (room_of row starts) low) ∙ ap (list_in row) (range_of row starts k (range_at row 0) low)

pub lists_long : (row : List ℤ) (starts : List ℕ) → length (lists_in row (ranges_of row starts)) ≡ length starts
lists_long row starts = length-map (ranges_of row starts) (list_in row) ∙ room_of row starts

-- Each list and the two entries before it are in another row, possibly elsewhere.
pub record AreMoved (row new : List ℤ) (starts news : List ℕ) : Type 0 where
  pub long : length news ≡ length starts
  pub headed : (k : ℕ) → k < length starts → 1 < start_at news k
  pub same : (k j : ℕ) (d : ℤ) → k < length starts → j < count_at row (start_at starts k) + 2 → slice_index_or new (start_at news k - 2 + j) d ≡ slice_index_or row (start_at starts k - 2 + j) d
  pub inside : (k : ℕ) → k < length starts → start_at news k + count_at row (start_at starts k) ≤ length new
  pub following : (i k : ℕ) → i < k → k < length starts → start_at news i + count_at row (start_at starts i) + 1 < start_at news k

moved_count : (row new : List ℤ) (starts news : List ℕ) (k : ℕ) → AreRanges row (ranges_of row starts) →
    AreMoved row new starts news → k < length starts → count_at new (start_at news k) ≡ count_at row (start_at starts k)
moved_count row new starts news k are moved low =
    let new_head : 1 < start_at news k = moved.headed k low in
    let head : 1 < start_at starts k = headed_at row starts k are low in
    let there : start_at news k - 1 ≡ start_at news k - 2 + 1 = omega (arith, new_head) in
    let here : start_at starts k - 2 + 1 ≡ start_at starts k - 1 = omega (arith, head) in
    ap (λ (n : ℕ). variable (slice_index_or new n (pos 1)) - 1) there
    ∙ ap (λ (l : ℤ). variable l - 1) (moved.same k 1 (pos 1) low (omega arith))
    ∙ ap (λ (n : ℕ). variable (slice_index_or row n (pos 1)) - 1) here

moved_number : (row new : List ℤ) (starts news : List ℕ) (k : ℕ) → AreMoved row new starts news → k < length starts → number_at new (start_at news k) ≡ number_at row (start_at starts k)
moved_number row new starts news k moved low =
    let there : start_at news k - 2 ≡ start_at news k - 2 + 0 = omega arith in
    let here : start_at starts k - 2 + 0 ≡ start_at starts k - 2 = omega arith in
    ap (λ (n : ℕ). variable (slice_index_or new n (pos 1)) - 1) there
    ∙ ap (λ (l : ℤ). variable l - 1) (moved.same k 0 (pos 1) low (omega arith))
    ∙ ap (λ (n : ℕ). variable (slice_index_or row n (pos 1)) - 1) here

moved_laid : (row new : List ℤ) (starts news : List ℕ) → AreLaid row starts → AreMoved row new starts news → AreLaid new news
moved_laid row new starts news laid moved = (
  apart_ranges new news (record {
    headed = λ k low. moved.headed k (at k low);
    inside = λ k low. rw (moved_count row new starts news k laid.0 moved (at k low)) (moved.inside k (at k low));
    following = λ i k order low. rw (moved_count row new starts news i laid.0 moved (omega (arith, order, at k low))) (moved.following i k order (at k low));
  }),
  λ k low. moved_number row new starts news k moved (at k low) ∙ laid.1 k (at k low),
)
  where
    at : (k : ℕ) → k < length news → k < length starts
    at k low = omega (arith, low, moved.long)

moved_list : (row new : List ℤ) (starts news : List ℕ) (k : ℕ) → AreRanges row (ranges_of row starts) →
    AreMoved row new starts news → k < length starts → list_in new (range_at new (start_at news k)) ≡
    list_in row (range_at row (start_at starts k))
moved_list row new starts news k are moved low =
    ap (λ (n : ℕ). slice_range new t (t + n)) (moved_count row new starts news k are moved low)
    ∙ same_lists (slice_range new t (t + c)) (slice_range row s (s + c)) (long_new
    ∙ sym long_old) (λ j d at. one j d (omega (arith, at, long_new)))
  where
    s : ℕ
    s = start_at starts k

    t : ℕ
    t = start_at news k

    c : ℕ
    c = count_at row s

    long_new : length (slice_range new t (t + c)) ≡ c
    long_new = range_long new t (t + c) (omega arith) (moved.inside k low) ∙ omega arith

    long_old : length (slice_range row s (s + c)) ≡ c
    long_old = range_long row s (s + c) (omega arith) (inside_at row starts k are low) ∙ omega arith

    one : (j : ℕ) (d : ℤ) → j < c → slice_index_or (slice_range new t (t + c)) j d ≡ slice_index_or (slice_range row s (s + c)) j d
    one j d within =
        let new_head : 1 < t = moved.headed k low in
        let head : 1 < s = headed_at row starts k are low in
        let there : t + j ≡ t - 2 + (j + 2) = omega (arith, new_head) in
        let here : s - 2 + (j + 2) ≡ s + j = omega (arith, head) in
        range_read new t (t + c) j d (omega (arith, within)) ∙ ap (λ (n : ℕ). slice_index_or new n d) there
        ∙ moved.same k (j + 2) d low (omega (arith, within)) ∙ ap (λ (n : ℕ). slice_index_or row n d) here
        ∙ sym (range_read row s (s + c) j d (omega (arith, within)))

moved_lists : (row new : List ℤ) (starts news : List ℕ) → AreRanges row (ranges_of row starts) → AreMoved row new starts news → lists_in new (ranges_of new news) ≡ lists_in row (ranges_of row starts)
moved_lists row new starts news are moved = same_lists (lists_in new (ranges_of new news))
    (lists_in row (ranges_of row starts)) (lists_long new news ∙ moved.long
    ∙ sym (lists_long row starts)) (λ k d at. one k d (omega (arith, at, lists_long new news, moved.long)))
  where
    one : (k : ℕ) (d : List ℤ) → k < length starts → slice_index_or (lists_in new (ranges_of new news)) k d ≡ slice_index_or (lists_in row (ranges_of row starts)) k d
    one k d low = list_at new news k d (omega (arith, low, moved.long)) ∙ moved_list row new starts news k are moved low ∙ sym (list_at row starts k d low)

-- The length of a list, and where it ends.
shown_count : (b : ArenaState) (row : List ℤ) (starts : List ℕ) (k : ℕ) → shown row starts ≡ b →
    AreRanges row (ranges_of row starts) → k < length starts →
    length (slice_index_or b.lists k []) ≡ count_at row (start_at starts k)
shown_count b row starts k view are low =
    let s : ℕ = start_at starts k in
    ap (λ (x : ArenaState). length (slice_index_or x.lists k [])) (sym view) ∙ ap length (list_at row starts k [] low)
    ∙ range_long row s (s + count_at row s) (omega arith) (inside_at row starts k are low) ∙ omega arith

pub end_none : (b : ArenaState) → end_before b 0 ≡ 0
end_none b = refl

end_next : (b : ArenaState) (row : List ℤ) (starts : List ℕ) (k : ℕ) → shown row starts ≡ b →
    AreRanges row (ranges_of row starts) → k < length starts →
    end_before b (k + 1) ≡ start_at starts k + count_at row (start_at starts k)
end_next b row starts k view are low =
    let some : (k + 1 == 0) ≡ false = ne_eqb (k + 1) 0 (λ e. omega (arith, e)) in
    let index : k + 1 - 1 ≡ k = omega arith in
    let start : start_at b.starts k ≡ start_at starts k = ap (λ (x : ArenaState). start_at x.starts k) (sym view) in
    rw (some, index, start, shown_count b row starts k view are low) refl

-- The lists before an index end at a position or before it, two entries before the list at the index.
pub record IsEnd (row : List ℤ) (starts : List ℕ) (index end : ℕ) : Type 0 where
  pub before : (k : ℕ) → k < index → start_at starts k + count_at row (start_at starts k) ≤ end
  pub room : index < length starts → end + 2 ≤ start_at starts index
  pub inside : end ≤ length row

is_end : (b : ArenaState) (row : List ℤ) (starts : List ℕ) (index end : ℕ) → shown row starts ≡ b →
    AreRanges row (ranges_of row starts) → index ≤ length starts → end ≡ end_before b index → IsEnd row starts index end
is_end b row starts zero end view are low is = (let none : end ≡ 0 = is ∙ end_none b in record {
  before = λ k early. absurd (omega (arith, early));
  room = λ some. (let head : 1 < start_at starts 0 = headed_at row starts 0 are some in omega (arith, head, none));
  inside = omega (arith, none);
})
is_end b row starts (suc n) end view are low is =
    let within : n < length starts = omega (arith, low) in
    let next : suc n ≡ n + 1 = omega arith in
    let end_is : end ≡ start_at starts n + count_at row (start_at starts n) = is ∙ ap (end_before b) next ∙ end_next b row starts n view are within in
    record {
      before = λ k early. ⊎_elim
          (λ (e : k ≡ n). rw e (omega (arith, end_is)))
          (λ (apart : k ≡ n → ⊥).
          let following : start_at starts k + count_at row (start_at starts k) + 1 < start_at starts n = after_at row starts k n are (omega (arith, early, apart)) within in
          omega (arith, following, end_is))
          (cases_eq k n);
      room = λ some. (let following : start_at starts n + count_at row (start_at starts n) + 1 < start_at starts
          (suc n) = after_at row starts n (suc n) are (omega arith) some in omega (arith, following, end_is));
      inside = (let fine : start_at starts n + count_at row (start_at starts n) ≤ length row = inside_at row starts n are within in omega (arith, fine, end_is));
    }

-- The row is cut after the last list.
cut_moved : (row : List ℤ) (starts : List ℕ) (end : ℕ) → AreRanges row (ranges_of row starts) → IsEnd row starts (length starts) end → AreMoved row (take end row) starts starts
cut_moved row starts end are last = record {
  long = refl;
  headed = λ k low. headed_at row starts k are low;
  same = λ k j d low within.
      let head : 1 < start_at starts k = headed_at row starts k are low in
      let before : start_at starts k + count_at row (start_at starts k) ≤ end = last.before k low in
      get_or-take end row (start_at starts k - 2 + j) d (omega (arith, head, before, within));
  inside = λ k low. (let before : start_at starts k + count_at row (start_at starts k) ≤ end = last.before k low in
      let long : length (take end row) ≡ end = length-take-le end row last.inside in omega (arith, before, long));
  following = λ i k order low. after_at row starts i k are order low;
}

-- A list moves down to where the one before it ends.
down_moved : (row new : List ℤ) (starts news : List ℕ) (index end t : ℕ) → AreRanges row (ranges_of row starts) →
    index < length starts → IsEnd row starts index end → t ≡ end + 2 → news ≡ slice_set starts index t →
    length new ≡ length row
    → CopiedTo row new (start_at starts index - 2) end (count_at row (start_at starts index) + 2) →
    SameBelow row new end → SameFrom row new (end + (count_at row (start_at starts index) + 2)) →
    AreMoved row new starts news
down_moved row new starts news index end t are inside last to news_is long copied below from = record {
  long = ap length news_is ∙ length-set starts index t;
  headed = λ k low. ⊎_elim
      (λ (e : k ≡ index). (let is : start_at news k ≡ t = at_index k e in omega (arith, is, to)))
      (λ (apart : k ≡ index → ⊥). (let is : start_at news k ≡ start_at starts k = elsewhere k apart in let head : 1 < start_at starts k = headed_at row starts k are low in omega (arith, is, head)))
      (cases_eq k index);
  same = λ k j d low within. ⊎_elim
      (λ (e : k ≡ index). one k j d e within)
      (λ (apart : k ≡ index → ⊥). other k j d low apart within)
      (cases_eq k index);
  inside = λ k low. ⊎_elim
      (λ (e : k ≡ index). (let is : start_at news k ≡ t = at_index k e in let n : count_at row (start_at starts k) ≡
      c = ap (λ (i : ℕ). count_at row (start_at starts i)) e in omega (arith, is, n, to, room, fits, long)))
      (λ (apart : k ≡ index → ⊥). (let is : start_at news k ≡ start_at starts k = elsewhere k apart in
      let fine : start_at starts k + count_at row (start_at starts k) ≤ length row =
      inside_at row starts k are low in omega (arith, is, fine, long)))
      (cases_eq k index);
  following = λ i k order low. following i k order low;
}
  where
    s : ℕ
    s = start_at starts index

    c : ℕ
    c = count_at row s

    room : end + 2 ≤ s
    room = last.room inside

    fits : s + c ≤ length row
    fits = inside_at row starts index are inside

    at_index : (k : ℕ) → k ≡ index → start_at news k ≡ t
    at_index k e = ap (λ (xs : List ℕ). start_at xs k) news_is ∙ ap (start_at (slice_set starts index t)) e ∙ get_or-set_same starts index t 0 inside

    elsewhere : (k : ℕ) → (k ≡ index → ⊥) → start_at news k ≡ start_at starts k
    elsewhere k apart = ap (λ (xs : List ℕ). start_at xs k) news_is ∙ get_or-set_other starts index k t 0 apart

    one : (k j : ℕ) (d : ℤ) → k ≡ index → j < count_at row (start_at starts k) + 2 → slice_index_or new (start_at news k - 2 + j) d ≡ slice_index_or row (start_at starts k - 2 + j) d
    one k j d e within =
        let is : start_at news k ≡ t = at_index k e in
        let n : count_at row (start_at starts k) ≡ c = ap (λ (i : ℕ). count_at row (start_at starts i)) e in
        let m : start_at starts k ≡ s = ap (start_at starts) e in
        let there : start_at news k - 2 + j ≡ end + j = omega (arith, is, to) in
        let here : s - 2 + (end + j - end) ≡ start_at starts k - 2 + j = omega (arith, m) in
        ap (λ (i : ℕ). slice_index_or new i d) there ∙ copied (end + j) d (omega arith) (omega (arith, within, n)) ∙ ap (λ (i : ℕ). slice_index_or row i d) here

    other : (k j : ℕ) (d : ℤ) → k < length starts → (k ≡ index → ⊥) → j < count_at row (start_at starts k) + 2 →
        slice_index_or new (start_at news k - 2 + j) d ≡ slice_index_or row (start_at starts k - 2 + j) d
    other k j d low apart within =
        let is : start_at news k ≡ start_at starts k = elsewhere k apart in
        let head : 1 < start_at starts k = headed_at row starts k are low in
        ap (λ (i : ℕ). slice_index_or new (i - 2 + j) d) is ∙ ⊎_elim
        (λ (early : k < index). (let before : start_at starts k + count_at row (start_at starts k) ≤ end =
        last.before k early in below (start_at starts k - 2 + j) d (omega (arith, head, before, within))))
        (λ (late : index ≤ k). (let following : s + c + 1 < start_at starts k =
        after_at row starts index k are (omega (arith, late, apart)) low in
        from (start_at starts k - 2 + j) d (omega (arith, following, room))))
        (cases_lt k index)

    following : (i k : ℕ) → i < k → k < length starts → start_at news i + count_at row (start_at starts i) + 1 < start_at news k
    following i k order low =
        let was : start_at starts i + count_at row (start_at starts i) + 1 < start_at starts k = after_at row starts i k are order low in
        ⊎_elim
        (λ (e : i ≡ index).
        let is_i : start_at news i ≡ t = at_index i e in
        let m : start_at starts i ≡ s = ap (start_at starts) e in
        let is_k : start_at news k ≡ start_at starts k = elsewhere k (λ h. omega (arith, h, e, order)) in
        omega (arith, is_i, is_k, m, was, to, room))
        (λ (apart : i ≡ index → ⊥).
        let is_i : start_at news i ≡ start_at starts i = elsewhere i apart in
        ⊎_elim
        (λ (e : k ≡ index).
        let is_k : start_at news k ≡ t = at_index k e in
        let before : start_at starts i + count_at row (start_at starts i) ≤ end = last.before i (omega (arith, order, e)) in
        omega (arith, is_i, is_k, before, to))
        (λ (other_k : k ≡ index → ⊥). (let is_k : start_at news k ≡ start_at starts k = elsewhere k other_k in omega (arith, is_i, is_k, was)))
        (cases_eq k index))
        (cases_eq i index)

-- the list at an index, as the two entries before it describe it
pub record IsRead (row : List ℤ) (starts : List ℕ) (index end s count : ℕ) : Type 0 where
  pub within : index < length starts
  pub at : start_at starts index ≡ s
  pub headed : 1 < s
  pub counted : count ≡ count_at row s + 1
  pub inside : s + count_at row s ≤ length row
  pub room : end + 2 ≤ s
  pub last : IsEnd row starts index end

pub start_here : (b : ArenaState) (row : List ℤ) (starts : List ℕ) (index s : ℕ) → shown row starts ≡ b →
    AreLaid row starts → index < length b.lists → s ≡ slice_index_or starts index s → (1 < s) ×
    (s + count_at row s ≤ length row) × (start_at starts index ≡ s) × (index < length starts)
start_here b row starts index s view laid low here =
    let within : index < length starts = omega (arith, low, lists_room b row starts view) in
    let at : start_at starts index ≡ s = sym (here ∙ get_or_default starts index s 0 within) in (
      subst (λ (n : ℕ). 1 < n) at (headed_at row starts index laid.0 within),
      subst (λ (n : ℕ). n + count_at row n ≤ length row) at (inside_at row starts index laid.0 within),
      at,
      within,
    )

pub is_read : (b : ArenaState) (row : List ℤ) (starts : List ℕ) (index end s : ℕ) (head : ℤ) (count : ℕ) →
    shown row starts ≡ b → AreLaid row starts → index < length b.lists → end ≡ end_before b index →
    s ≡ slice_index_or starts index s → head ≡ slice_index_or row (s - 1) head → count ≡ variable head → 0 < count →
    IsRead row starts index end s count
is_read b row starts index end s head count view laid low is here there count_is some =
    let first = start_here b row starts index s view laid low here in
    let read : count - 1 ≡ count_at row s = read_count row s head count (first.0, first.1) there count_is in
    let last : IsEnd row starts index end = is_end b row starts index end view laid.0 (omega (arith, first.3)) is in
    record {
      within = first.3;
      at = first.2;
      headed = first.0;
      counted = omega (arith, read, some);
      inside = first.1;
      room = subst (λ (n : ℕ). end + 2 ≤ n) first.2 (last.room first.3);
      last = last;
    }

-- It stays where it is.
pub stays : (b : ArenaState) (row : List ℤ) (starts : List ℕ) (index end s count : ℕ) → shown row starts ≡ b →
    AreLaid row starts → IsRead row starts index end s count → s + count - 1 ≡ end_before b (index + 1)
stays b row starts index end s count view laid read =
    let n : s + count - 1 ≡ s + count_at row s = omega (arith, read.counted) in
    n ∙ ap (λ (m : ℕ). m + count_at row m) (sym read.at) ∙ sym (end_next b row starts index view laid.0 read.within)

-- It moves down.
pub goes_down : (row new : List ℤ) (starts news : List ℕ) (index end s count : ℕ) → AreLaid row starts →
    IsRead row starts index end s count → news ≡ slice_set starts index (end + 2) → length new ≡ length row
    → CopiedTo row new (s - 2) end (s + count - 1 - (s - 2)) × SameBelow row new end × SameFrom row new (end + (s + count - 1 - (s - 2))) → AreMoved row new starts news
goes_down row new starts news index end s count laid read news_is long copied =
    let headed : 1 < s = read.headed in
    let n : s + count - 1 - (s - 2) ≡ count_at row s + 2 = omega (arith, read.counted, headed) in
    let of_s : CopiedTo row new (s - 2) end (count_at row s + 2) = subst (λ (m : ℕ). CopiedTo row new (s - 2) end m) n copied.0 in
    let from_s : SameFrom row new (end + (count_at row s + 2)) = subst (λ (m : ℕ). SameFrom row new (end + m)) n copied.2 in
    down_moved row new starts news index end (end + 2) laid.0 read.within read.last refl news_is long
    (subst (λ (m : ℕ). CopiedTo row new (m - 2) end (count_at row m + 2)) (sym read.at) of_s) copied.1
    (subst (λ (m : ℕ). SameFrom row new (end + (count_at row m + 2))) (sym read.at) from_s)

pub down_laid : (row new : List ℤ) (starts news : List ℕ) (index end s count : ℕ) → AreLaid row starts →
    IsRead row starts index end s count → news ≡ slice_set starts index (end + 2) → length new ≡ length row
    → CopiedTo row new (s - 2) end (s + count - 1 - (s - 2)) × SameBelow row new end × SameFrom row new (end + (s + count - 1 - (s - 2))) → AreLaid new news
down_laid row new starts news index end s count laid read news_is long copied = moved_laid row new starts news laid (goes_down row new starts news index end s count laid read news_is long copied)

pub down_lists : (b : ArenaState) (row new : List ℤ) (starts news : List ℕ) (index end s count : ℕ) →
    shown row starts ≡ b → AreLaid row starts → IsRead row starts index end s count →
    news ≡ slice_set starts index (end + 2) → length new ≡ length row
    → CopiedTo row new (s - 2) end (s + count - 1 - (s - 2)) × SameBelow row new end × SameFrom row new (end + (s + count - 1 - (s - 2))) → lists_in new (ranges_of new news) ≡ b.lists
down_lists b row new starts news index end s count view laid read news_is long copied =
    moved_lists row new starts news laid.0 (goes_down row new starts news index end s count laid read news_is long
    copied) ∙ ap (λ (x : ArenaState). x.lists) view

pub down_end : (row new : List ℤ) (starts news : List ℕ) (index end s count : ℕ) → AreLaid row starts →
    IsRead row starts index end s count → news ≡ slice_set starts index (end + 2) → length new ≡ length row
    → CopiedTo row new (s - 2) end (s + count - 1 - (s - 2)) × SameBelow row new end ×
    SameFrom row new (end + (s + count - 1 - (s - 2))) →
    end + 2 + (s + count - 1 - s) ≡ end_before (shown new news) (index + 1)
down_end row new starts news index end s count laid read news_is long copied =
    let moved : AreMoved row new starts news = goes_down row new starts news index end s count laid read news_is long copied in
    let now : AreLaid new news = moved_laid row new starts news laid moved in
    let within : index < length starts = read.within in
    let at : start_at news index ≡ end + 2 = ap (λ (xs : List ℕ). start_at xs index) news_is ∙ get_or-set_same starts index (end + 2) 0 within in
    let kept : count_at new (start_at news index) ≡ count_at row s = moved_count row new starts news index laid.0 moved within ∙ ap (count_at row) read.at in
    let next : end_before (shown new news) (index + 1) ≡ start_at news index + count_at new (start_at news index) =
    end_next (shown new news) new news index refl now.0 (omega (arith, within, moved.long)) in
    omega (arith, at, kept, next, read.counted)

-- The row is cut after the last list.
pub cut_laid : (b : ArenaState) (row new : List ℤ) (starts : List ℕ) (end : ℕ) → shown row starts ≡ b →
    AreLaid row starts → end ≡ end_before b (length b.lists) → new ≡ take end row → AreLaid new starts ×
    (lists_in new (ranges_of new starts) ≡ b.lists)
cut_laid b row new starts end view laid is new_is =
    let all : length b.lists ≡ length starts = lists_room b row starts view in
    let last : IsEnd row starts (length starts) end = is_end b row starts (length starts) end view laid.0 (omega arith) (is ∙ ap (end_before b) all) in
    let moved : AreMoved row (take end row) starts starts = cut_moved row starts end laid.0 last in
    rw new_is (moved_laid row (take end row) starts starts laid moved, moved_lists row (take end row) starts starts laid.0 moved ∙ ap (λ (x : ArenaState). x.lists) view)

-- Each start has the id of its index.
pub ids_laid : (row : List ℤ) (starts : List ℕ) → AreLaid row starts → AreIds (shown row starts)
ids_laid row starts laid k low =
    let within : k < length starts = omega (arith, low, lists_room (shown row starts) row starts refl) in
    id_at_start (shown row starts) row starts k (start_at starts k) refl laid.0 low (sym (get_or_default starts k (start_at starts k) 0 within))
