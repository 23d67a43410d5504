-- The listed fences of a size with fewer levels than a bound: those with fewer levels come first, and those with
-- equally many levels are in lexicographic order.
use Rattle.std.specs.Prelude.{ℕ, Bool, ◌==◌, List, length}
use Rattle.std.specs.List.{filter, flat_map, range_with_len}
use Rattle.tt_core.specs.Words.{Words}
use Rattle.tt_core.specs.Live.{live_words}
use Rattle.fence_core.specs.Fence.{listed_fences}

-- the listed fences of r steps for the live outputs of tables, in lexicographic order
abbrev pub fences_for : Words → ℕ → List (List ℕ)
fences_for w r = listed_fences r (length (live_words w).on)

abbrev pub has_levels : ℕ → List ℕ → Bool
has_levels k fence = length fence == k

-- those with k levels, in their order
unfoldable pub of_levels : List (List ℕ) → ℕ → List (List ℕ)
of_levels fences k = filter (has_levels k) fences

-- those with fewer than d levels, by levels
-- Example: of 1 1 1 1, 1 2 1, 2 1 1 and 2 2, those with fewer than four levels are 2 2, 1 2 1 and 2 1 1.
unfoldable pub by_levels : List (List ℕ) → ℕ → List (List ℕ)
by_levels fences d = flat_map (of_levels fences) (range_with_len 0 d)

abbrev pub flatter : Words → ℕ → ℕ → List (List ℕ)
flatter w r d = by_levels (fences_for w r) d
