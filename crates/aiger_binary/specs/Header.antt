-- The counts of a binary header: `aig M I L O A B C`, of which the last two may be left out, and after which there may be
-- further counts.
use Rattle.std.specs.Prelude.{ℕ, ◌+◌, ◌==◌, Bool, List, [], ◌∷◌, Option, Some, None, codes}
use Rattle.text_core.specs.Items.{items_of}
use Rattle.text_core.specs.Numbers.{number_up_to}
use Rattle.text_core.specs.Words.{after}
use Rattle.aiger_binary.specs.Options.{◌>>=◌}
use Rattle.aiger_binary.specs.declared.header.Counts.{Counts}

-- the greatest count: the most variables of a file
abbrev pub most_count : ℕ
most_count = 2097152

-- a number, and the items after it
pub record Found : Type 0 where
  pub number : ℕ
  pub more : List (List ℕ)

abbrev pub found : ℕ → List (List ℕ) → Found
found number more = record { number = number; more = more }

-- the count that is the first item
abbrev pub first_count : List (List ℕ) → Option Found
first_count [] = None
first_count (x ∷ xs) = number_up_to most_count x >>= λ n. Some (found n xs)

-- the count that is the first item, or 0 where it was left out
abbrev pub further_count : List (List ℕ) → Option Found
further_count [] = Some (found 0 [])
further_count (x ∷ xs) = first_count (x ∷ xs)

-- Bad states and constraints have lines as outputs have, and are counted with them.
abbrev pub counts_from : List (List ℕ) → Option Counts
counts_from items = first_count items >>= λ m. first_count m.more >>= λ i. first_count i.more >>= λ l.
    first_count l.more >>= λ o. first_count o.more >>= λ a. further_count a.more >>= λ b. further_count b.more >>= λ c. Some (record {
      variables = m.number;
      inputs = i.number;
      latches = l.number;
      outputs = o.number + b.number + c.number;
      gates = a.number;
    })

-- the counts of a header
abbrev pub counts_in : List ℕ → Option Counts
counts_in text = after (codes "aig ") text >>= λ rest. counts_from (items_of rest)

-- each variable is an input, a latch or a gate
abbrev pub is_packed : Counts → Bool
is_packed c = c.variables == c.inputs + c.latches + c.gates
