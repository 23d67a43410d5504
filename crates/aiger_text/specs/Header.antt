-- Lines of numbers, and the header `aag M I L O A B C J F`: the greatest variable, and how many inputs, latches, outputs
-- and gates follow. The last four counts (bad states, constraints, justice and fairness properties) may be left out,
-- from any of them on.
use Rattle.std.specs.Prelude.{ℕ, ◌+◌, Bool, nat_lt, nat_le, ◌||◌, if◌then◌else◌, List, [], ◌∷◌, ◌++◌, length}
use Rattle.std.specs.Prelude.{Option, Some, None, Result, Ok, Err, codes, slice_index_or}
use Rattle.text_core.specs.Items.{items_of}
use Rattle.text_core.specs.Numbers.{number_up_to}
use Rattle.text_core.specs.Words.{after}
use Rattle.net_core.specs.declared.error.NetError.{NetError}
use Rattle.net_core.specs.declared.error.NetError.TheVariants.{Syntax, NotSupported}
use Rattle.aiger_text.specs.Reading.{◌>>=◌}
use Rattle.aiger_text.specs.declared.file.Counts.{Counts}
use Rattle.aiger_text.specs.Limits.{most_variables, most_sources, most_outputs, most_number}

abbrev pub or_syntax : {A : Type 0} → ℕ → Option A → Result A NetError
or_syntax line None = Err (Syntax line)
or_syntax line (Some x) = Ok x

-- the number that an item spells, if it is at most `limit`
abbrev pub number_in : ℕ → ℕ → List ℕ → Result ℕ NetError
number_in line limit item = or_syntax line (number_up_to limit item)

-- `numbers` ++ the numbers of the items
unfoldable pub numbers_from : ℕ → ℕ → List ℕ → List (List ℕ) → Result (List ℕ) NetError
numbers_from line limit numbers [] = Ok numbers
numbers_from line limit numbers (x ∷ xs) = number_in line limit x >>= λ n.
    numbers_from line limit (numbers ++ n ∷ []) xs

-- The numbers of a line, each at most `limit`, with one blank between each two.
-- Example: those of `6 13 15` are 6, 13 and 15.
abbrev pub numbers_of : ℕ → ℕ → List ℕ → Result (List ℕ) NetError
numbers_of line limit text = numbers_from line limit [] (items_of text)

-- the number at a place, or 0 where it was left out
abbrev pub count_at : List ℕ → ℕ → ℕ
count_at numbers place = slice_index_or numbers place 0

abbrev pub counts_in : List ℕ → Counts
counts_in numbers = record {
  variables = count_at numbers 0;
  inputs = count_at numbers 1;
  latches = count_at numbers 2;
  outputs = count_at numbers 3;
  gates = count_at numbers 4;
}

-- each input, latch and gate can have a variable of its own
unfoldable pub has_room : Counts → Bool
has_room c = nat_le (c.inputs + c.latches + c.gates) c.variables

abbrev pub letter_if : Bool → List ℕ → Option (List ℕ) → Option (List ℕ)
letter_if wanted letter next = if wanted then Some letter else next

-- the number of inputs and latches
abbrev pub source_count : List ℕ → ℕ
source_count numbers = count_at numbers 1 + count_at numbers 2

-- the letter of the first count that isn't supported: too many variables, sources or outputs, or a property
unfoldable pub unsupported_in : List ℕ → Option (List ℕ)
unsupported_in numbers = letter_if (nat_lt most_variables (count_at numbers 0)) (codes "M")
    (letter_if (nat_lt most_sources (source_count numbers)) (codes "I")
    (letter_if (nat_lt most_outputs (count_at numbers 3)) (codes "O")
    (letter_if (nat_lt 0 (count_at numbers 5)) (codes "B")
    (letter_if (nat_lt 0 (count_at numbers 6)) (codes "C")
    (letter_if (nat_lt 0 (count_at numbers 7)) (codes "J")
    (letter_if (nat_lt 0 (count_at numbers 8)) (codes "F") None))))))

abbrev pub counts_by : ℕ → List ℕ → Option (List ℕ) → Result Counts NetError
counts_by line numbers (Some letter) = Err (NotSupported line letter)
counts_by line numbers None = if has_room (counts_in numbers) then Ok (counts_in numbers) else Err (Syntax line)

-- the counts of a header with five to nine numbers
unfoldable pub counts_of : ℕ → List ℕ → Result Counts NetError
counts_of line numbers = if nat_lt (length numbers) 5 || nat_lt 9 (length numbers) then Err (Syntax line)
    else counts_by line numbers (unsupported_in numbers)

-- the counts of a header that begins with the given word
unfoldable pub header_of : List ℕ → List ℕ → Result Counts NetError
header_of word text = or_syntax 1 (after word text) >>= λ rest. numbers_of 1 most_number rest >>= λ numbers.
    counts_of 1 numbers
