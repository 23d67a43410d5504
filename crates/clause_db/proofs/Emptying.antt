-- A list in a row is emptied: the entry before it says length 0, and the other lists stay where they are.
use Rattle.std.proofs.Common.{◌≡◌, ℕ, ◌+◌, ◌-◌, ◌<◌, ◌≤◌, ℤ, pos, List, [], length, slice_index_or, slice_set, refl, ap, ◌∙◌, sym, subst, arith, take}
use Rattle.std.specs.List.{slice_range}
use Rattle.std.proofs.Math.Logic.{⊎_elim}
use Rattle.std.proofs.lemmas.Bool.{cases_eq, cases_lt}
use Rattle.std.proofs.lemmas.List.{length-set, get_or-set_same, get_or-set_other, same_lists}
use Rattle.sat_theory.specs.Formula.{variable}
use Rattle.clause_db.specs.ArenaRanges.{ArenaState, count_at, number_at, range_at, ranges_of, list_in, lists_in, AreRanges, AreLaid}
use Rattle.clause_db.proofs.Ranges.{range_same}
use Rattle.clause_db.proofs.Starts.{shown, start_at, headed_at, inside_at, after_at}
use Rattle.clause_db.proofs.Gaps.{apart_ranges, list_at, lists_long, start_here}

-- A list is emptied: its length becomes 0.
record IsEmptied (row new : List ℤ) (starts : List ℕ) (index : ℕ) : Type 0 where
  long : length new ≡ length row
  none : count_at new (start_at starts index) ≡ 0
  others : (p : ℕ) (d : ℤ) → (p ≡ start_at starts index - 1 → ⊥) → slice_index_or new p d ≡ slice_index_or row p d

emptied : (row : List ℤ) (starts : List ℕ) (index : ℕ) (h : ℤ) → AreRanges row (ranges_of row starts) →
    index < length starts → variable h ≡ 0 + 1 →
    IsEmptied row (slice_set row (start_at starts index - 1) h) starts index
emptied row starts index h are low is = record {
  long = length-set row (start_at starts index - 1) h;
  none = (let head : 1 < start_at starts index = headed_at row starts index are low in
      let end : start_at starts index + count_at row (start_at starts index) ≤ length row =
      inside_at row starts index are low in
      ap (λ (l : ℤ). variable l - 1) (get_or-set_same row (start_at starts index - 1) h (pos 1) (omega (arith, head, end))) ∙ rw is refl);
  others = λ p d apart. get_or-set_other row (start_at starts index - 1) p h d apart;
}

-- The other lists, and all ids, may have moved.
emptied_count : (row new : List ℤ) (starts : List ℕ) (index k : ℕ) → AreRanges row (ranges_of row starts) →
    IsEmptied row new starts index → index < length starts → k < length starts → (k ≡ index → ⊥) →
    count_at new (start_at starts k) ≡ count_at row (start_at starts k)
emptied_count row new starts index k are is within low apart = ap (λ (l : ℤ). variable l - 1) (is.others (start_at starts k - 1) (pos 1) (λ e.
    let head_k : 1 < start_at starts k = headed_at row starts k are low in
    let head : 1 < start_at starts index = headed_at row starts index are within in
    ⊎_elim
    (λ (early : k < index). (let following : start_at starts k + count_at row
    (start_at starts k) + 1 < start_at starts index = after_at row starts k index are early within in
    omega (arith, following, e, head, head_k)))
    (λ (late : index ≤ k). (let following : start_at starts index + count_at row
    (start_at starts index) + 1 < start_at starts k =
    after_at row starts index k are (omega (arith, late, apart)) low in omega (arith, following, e, head, head_k)))
    (cases_lt k index)))

emptied_number : (row new : List ℤ) (starts : List ℕ) (index k : ℕ) → AreRanges row (ranges_of row starts) →
    IsEmptied row new starts index → index < length starts → k < length starts →
    number_at new (start_at starts k) ≡ number_at row (start_at starts k)
emptied_number row new starts index k are is within low = ap (λ (l : ℤ). variable l - 1) (is.others (start_at starts k - 2) (pos 1) (λ e.
    let head_k : 1 < start_at starts k = headed_at row starts k are low in
    let head : 1 < start_at starts index = headed_at row starts index are within in
    ⊎_elim
    (λ (early : k < index). (let following : start_at starts k + count_at row
    (start_at starts k) + 1 < start_at starts index = after_at row starts k index are early within in
    omega (arith, following, e, head, head_k)))
    (λ (late : index ≤ k). ⊎_elim
    (λ (same : k ≡ index). (let here : start_at starts k ≡ start_at starts index = ap (start_at starts) same in omega (arith, here, e, head, head_k)))
    (λ (apart : k ≡ index → ⊥). (let following : start_at starts index + count_at row
    (start_at starts index) + 1 < start_at starts k =
    after_at row starts index k are (omega (arith, late, apart)) low in omega (arith, following, e, head, head_k)))
    (cases_eq k index))
    (cases_lt k index)))

emptied_list : (row new : List ℤ) (starts : List ℕ) (index k : ℕ) → AreRanges row (ranges_of row starts) →
    IsEmptied row new starts index → index < length starts → k < length starts → (k ≡ index → ⊥) →
    list_in new (range_at new (start_at starts k)) ≡ list_in row (range_at row (start_at starts k))
emptied_list row new starts index k are is within low apart =
    let s : ℕ = start_at starts k in
    let end : s + count_at row s ≤ length row = inside_at row starts k are low in
    ap (λ (n : ℕ). slice_range new s (s + n)) (emptied_count row new starts index k are is within low apart)
    ∙ range_same row new s (s + count_at row s) (omega arith) end (omega (arith, end, is.long)) (λ p d from to. is.others p d (λ e.
    let head : 1 < start_at starts index = headed_at row starts index are within in
    ⊎_elim
    (λ (early : k < index). (let following : s + count_at row s + 1 < start_at starts index = after_at row starts k index are early within in omega (arith, following, e, to)))
    (λ (late : index ≤ k). (let following : start_at starts index + count_at row (start_at starts index) + 1 < s =
    after_at row starts index k are (omega (arith, late, apart)) low in omega (arith, following, e, from)))
    (cases_lt k index)))

emptied_fewer : (row new : List ℤ) (starts : List ℕ) (index k : ℕ) → AreRanges row (ranges_of row starts) →
    IsEmptied row new starts index → index < length starts → k < length starts →
    count_at new (start_at starts k) ≤ count_at row (start_at starts k)
emptied_fewer row new starts index k are is within low = ⊎_elim
    (λ (e : k ≡ index). (let none : count_at new (start_at starts k) ≡ 0 = ap (λ (i : ℕ). count_at new (start_at starts i)) e ∙ is.none in omega (arith, none)))
    (λ (apart : k ≡ index → ⊥). (let same : count_at new (start_at starts k) ≡ count_at row (start_at starts k) = emptied_count row new starts index k are is within low apart in omega (arith, same)))
    (cases_eq k index)

emptied_laid : (row new : List ℤ) (starts : List ℕ) (index : ℕ) → AreLaid row starts → IsEmptied row new starts index → index < length starts → AreLaid new starts
emptied_laid row new starts index laid is within = (
  apart_ranges new starts (record {
    headed = λ k low. headed_at row starts k laid.0 low;
    inside = λ k low. (let end : start_at starts k + count_at row (start_at starts k) ≤ length row =
        inside_at row starts k laid.0 low in let fewer : count_at new (start_at starts k) ≤ count_at row
        (start_at starts k) = emptied_fewer row new starts index k laid.0 is within low in
        omega (arith, end, fewer, is.long));
    following = λ i k order low.
        let was : start_at starts i + count_at row (start_at starts i) + 1 < start_at starts k = after_at row starts i k laid.0 order low in
        let fewer : count_at new (start_at starts i) ≤ count_at row (start_at starts i) = emptied_fewer row new starts index i laid.0 is within (omega (arith, order, low)) in
        omega (arith, was, fewer);
  }),
  λ k low. emptied_number row new starts index k laid.0 is within low ∙ laid.1 k low,
)

emptied_lists : (row new : List ℤ) (starts : List ℕ) (index : ℕ) → AreRanges row (ranges_of row starts) →
    IsEmptied row new starts index → index < length starts →
    lists_in new (ranges_of new starts) ≡ slice_set (lists_in row (ranges_of row starts)) index []
emptied_lists row new starts index are is within =
    same_lists (lists_in new (ranges_of new starts)) (slice_set (lists_in row (ranges_of row starts)) index [])
    (lists_long new starts ∙ sym (length-set (lists_in row (ranges_of row starts)) index [] ∙ lists_long row starts))
    (λ k d at. one k d (omega (arith, at, lists_long new starts)))
  where
    none_taken : (xs : List ℤ) (n : ℕ) → n ≡ 0 → take n xs ≡ []
    none_taken xs n e = rw e refl

    one : (k : ℕ) (d : List ℤ) → k < length starts → slice_index_or (lists_in new (ranges_of new starts)) k d ≡ slice_index_or (slice_set (lists_in row (ranges_of row starts)) index []) k d
    one k d low = list_at new starts k d low ∙ ⊎_elim
        (λ (e : k ≡ index).
        ap (λ (i : ℕ). list_in new (range_at new (start_at starts i))) e ∙ none_taken _ _ (let none : count_at new (start_at starts index) ≡ 0 = is.none in omega (arith, none))
        ∙ sym (ap (λ (i : ℕ). slice_index_or (slice_set (lists_in row (ranges_of row starts)) index []) i d) e
        ∙ get_or-set_same (lists_in row (ranges_of row starts)) index [] d (rw (lists_long row starts) within)))
        (λ (apart : k ≡ index → ⊥). emptied_list row new starts index k are is within low apart
        ∙ sym (get_or-set_other (lists_in row (ranges_of row starts)) index k [] d apart
        ∙ list_at row starts k d low))
        (cases_eq k index)

pub empty_laid : (b : ArenaState) (row new : List ℤ) (starts : List ℕ) (index s : ℕ) (h : ℤ) → shown row starts ≡ b →
    AreLaid row starts → index < length b.lists → s ≡ slice_index_or starts index s → variable h ≡ 0 + 1 →
    new ≡ slice_set row (s - 1) h
    → AreLaid new starts × (lists_in new (ranges_of new starts) ≡ slice_set b.lists index [])
empty_laid b row new starts index s h view laid low here is new_is =
    let first = start_here b row starts index s view laid low here in
    let given : new ≡ slice_set row (start_at starts index - 1) h = new_is ∙ ap (λ (n : ℕ). slice_set row (n - 1) h) (sym first.2) in
    let what : IsEmptied row new starts index = subst (λ (xs : List ℤ). IsEmptied row xs starts index) (sym given) (emptied row starts index h laid.0 first.3 is) in
    (emptied_laid row new starts index laid what first.3, emptied_lists row new starts index laid.0 what first.3 ∙ ap (λ (x : ArenaState). slice_set x.lists index []) view)
