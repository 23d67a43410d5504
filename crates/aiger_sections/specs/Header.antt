-- The sections of bad states and invariant constraints in a header `aag M I L O A B C J F` (the AIGER 1.9 report), of which
-- the last four counts may be left out, from any of them on.
use Rattle.std.specs.Prelude.{ℕ, ◌+◌, ◌∷◌, ◌++◌, ◌&&◌, Bool, nat_lt, nat_le, List, [], Option, Some, None, codes, decimal, slice_index_or}
use Rattle.std.specs.List.{flat_map}
use Rattle.std.proofs.Common.{drop}
use Rattle.text_core.specs.Items.{items_of}
use Rattle.text_core.specs.Limits.{most_number}
use Rattle.text_core.specs.Numbers.{number_up_to}
use Rattle.text_core.specs.Words.{after}
use Rattle.aiger_sections.specs.declared.header.Sections.{Sections}

-- ---- the numbers of a header

-- a list made of a value; nothing where there is no value
abbrev pub or_nothing : {A : Type 0} → Option A → (A → List ℕ) → List ℕ
or_nothing None f = []
or_nothing (Some x) f = f x

-- `numbers` ++ the numbers of the items; nothing if one isn't a number
unfoldable pub numbers_from : List ℕ → List (List ℕ) → List ℕ
numbers_from numbers [] = numbers
numbers_from numbers (x ∷ xs) = or_nothing (number_up_to most_number x) (λ n. numbers_from (numbers ++ n ∷ []) xs)

-- the numbers of a header; nothing if the text isn't one
unfoldable pub header_numbers : List ℕ → List ℕ
header_numbers text = or_nothing (after (codes "aag ") text) (λ rest. numbers_from [] (items_of rest))

-- the number at a place, or 0 where it was left out
abbrev pub count_at : List ℕ → ℕ → ℕ
count_at numbers place = slice_index_or numbers place 0

-- ---- sections

-- how many outputs, bad states and constraints there are
abbrev pub sections_by : List ℕ → Sections
sections_by numbers = record {
  outputs = count_at numbers 3;
  bads = count_at numbers 5;
  constraints = count_at numbers 6;
}

abbrev pub total : Sections → ℕ
total s = s.outputs + s.bads + s.constraints

-- whether there are bad states or constraints, and in all no more than a header can say
unfoldable pub is_sectioned : Sections → Bool
is_sectioned s = nat_lt 0 (s.bads + s.constraints) && nat_le (total s) most_number

-- ---- the header of the plain text

-- the first five numbers, with the bad states and constraints counted as outputs
-- Example: of 6, 3, 1, 1, 2, 2 and 1 they are 6, 3, 1, 4 and 2.
abbrev pub plain_numbers : List ℕ → List ℕ
plain_numbers numbers = count_at numbers 0 ∷ count_at numbers 1 ∷ count_at numbers 2 ∷ total (sections_by numbers) ∷
    count_at numbers 4 ∷ []

-- the numbers after them: no bad state and no constraint, where counts of other properties follow
abbrev pub more_numbers : List ℕ → List ℕ
more_numbers [] = []
more_numbers (n ∷ ns) = 0 ∷ 0 ∷ n ∷ ns

abbrev pub number_text : ℕ → List ℕ
number_text n = 32 ∷ decimal n

unfoldable pub plain_header : List ℕ → List ℕ
plain_header numbers = codes "aag" ++ flat_map number_text (plain_numbers numbers) ++
    flat_map number_text (more_numbers (drop 7 numbers)) ++ 10 ∷ []

-- how many lines there are of inputs, latches, outputs, bad states, constraints and gates
unfoldable pub line_count : List ℕ → ℕ
line_count numbers = count_at numbers 1 + count_at numbers 2 + total (sections_by numbers) + count_at numbers 4
