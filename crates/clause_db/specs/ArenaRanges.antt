-- The layout of the arena: all literals in one row, and before those of each list its id and its length, each
-- encoded as a literal.
use Rattle.std.specs.Prelude.{◌≡◌, ℕ, suc, ◌+◌, ◌-◌, ◌<◌, ◌≤◌, ◌==◌, if◌then◌else◌, ℤ, pos, List, [], ◌∷◌, map, length, slice_index_or, All, AllPairs}
use Rattle.std.specs.List.{slice_range}
use Rattle.sat_theory.specs.Formula.{variable}

-- lists, and where each begins
pub record ArenaState : Type 0 where
  pub lists : List (List ℤ)
  pub starts : List ℕ

-- where a list is in the row: from start, up to but excluding end
pub record Range : Type 0 where
  pub start : ℕ
  pub end : ℕ

-- The entry before a list is its length, as a literal whose variable is 1 + the number.
-- Example: in the row 2, 3, -4, 1 a list of two literals begins at 2.
abbrev pub count_at : List ℤ → ℕ → ℕ
count_at row start = variable (slice_index_or row (start - 1) (pos 1)) - 1

-- The entry before the length is its id, encoded likewise; in the example it is 1.
abbrev pub number_at : List ℤ → ℕ → ℕ
number_at row start = variable (slice_index_or row (start - 2) (pos 1)) - 1

-- the range of the list that begins at a position
abbrev pub range_at : List ℤ → ℕ → Range
range_at row start = record { start = start; end = start + count_at row start }

-- the range of each list
abbrev pub ranges_of : List ℤ → List ℕ → List Range
ranges_of row starts = map (range_at row) starts

-- the list in a range
abbrev pub list_in : List ℤ → Range → List ℤ
list_in row r = slice_range row r.start r.end

abbrev pub lists_in : List ℤ → List Range → List (List ℤ)
lists_in row ranges = map (list_in row) ranges

-- The id of a start is 1 + its first index among the starts.
-- Example: of the starts 2, 6, 9 the last one has the id 3.
unfoldable pub id_in : List ℕ → ℕ → ℕ
id_in [] s = 0
id_in (x ∷ xs) s = if x == s then 1 else suc (id_in xs s)

-- Each start has the id of its index.
abbrev pub AreIds : ArenaState → Type 0
AreIds b = (k : ℕ) → k < length b.lists → id_in b.starts (slice_index_or b.starts k 0) ≡ k + 1

-- where the list before an index ends
abbrev pub end_before : ArenaState → ℕ → ℕ
end_before b index = if index == 0 then 0 else slice_index_or b.starts (index - 1) 0 + length (slice_index_or b.lists (index - 1) [])

-- s is the start of a list.
pub record IsStart (b : ArenaState) (s : ℕ) : Type 0 where
  pub some : 0 < id_in b.starts s
  pub given : id_in b.starts s ≤ length b.lists
  pub is : slice_index_or b.starts (id_in b.starts s - 1) 0 ≡ s

-- The first n lists have the same starts and ids in both states.
abbrev pub KeepsIds : ArenaState → ArenaState → ℕ → Type 0
KeepsIds old new n = (s : ℕ) → IsStart old s → id_in old.starts s ≤ n → IsStart new s × (id_in new.starts s ≡ id_in old.starts s)

-- Each range lies within the row and after the ranges before it, with two entries for id and length in front
-- of it.
pub record AreRanges (row : List ℤ) (ranges : List Range) : Type 0 where
  pub headed : All (λ r. 1 < r.start) ranges
  pub inside : All (λ r. (r.start ≤ r.end) × (r.end ≤ length row)) ranges
  pub following : AllPairs (λ r s. r.end + 1 < s.start) ranges

-- Before each list is its id.
abbrev pub AreNumbered : List ℤ → List ℕ → Type 0
AreNumbered row starts = (k : ℕ) → k < length starts → number_at row (slice_index_or starts k 0) ≡ k + 1

-- the invariant of the row and the starts
abbrev pub AreLaid : List ℤ → List ℕ → Type 0
AreLaid row starts = AreRanges row (ranges_of row starts) × AreNumbered row starts
