-- The words of `formula` after its name: options, each a name and a value, none of them twice.
use Rattle.std.specs.Prelude.{ℕ, Bool, true, false, if◌then◌else◌, List, [], ◌∷◌, codes, Option, Some, None, is_some}
use Rattle.std.specs.Str.{bytes_eq}
use Rattle.text_core.specs.Limits.{most_number}
use Rattle.text_core.specs.Numbers.{number_up_to}

abbrev pub is_same : List ℕ → List ℕ → Bool
is_same = bytes_eq

abbrev pub number_in : List ℕ → Option ℕ
number_in value = number_up_to most_number value

-- the part that is asked for: the first one if none is named
abbrev pub part_or_first : Option ℕ → ℕ
part_or_first None = 1
part_or_first (Some part) = part

-- the options so far, and whether all of them can be read
pub record Asked : Type 0 where
  pub size : Option ℕ
  pub part : Option ℕ
  pub log : Option (List ℕ)
  pub good : Bool

abbrev pub nothing : Asked
nothing = record { size = None; part = None; log = None; good = true }

abbrev pub bad : Asked → Asked
bad a = record { size = a.size; part = a.part; log = a.log; good = false }

abbrev pub sized : Asked → Option ℕ → Asked
sized a None = bad a
sized a (Some size) = if is_some a.size then bad a
    else record { size = Some size; part = a.part; log = a.log; good = a.good }

abbrev pub parted : Asked → Option ℕ → Asked
parted a None = bad a
parted a (Some part) = if is_some a.part then bad a
    else record { size = a.size; part = Some part; log = a.log; good = a.good }

abbrev pub logged : Asked → List ℕ → Asked
logged a file = if is_some a.log then bad a
    else record { size = a.size; part = a.part; log = Some file; good = a.good }

-- with one more option
unfoldable pub taken : Asked → List ℕ → List ℕ → Asked
taken a name value =
    if is_same name (codes "--size") then sized a (number_in value)
    else (if is_same name (codes "--part") then parted a (number_in value)
    else (if is_same name (codes "--log") then logged a value else bad a))

unfoldable pub asked_from : Asked → List (List ℕ) → Asked
asked_from a [] = a
asked_from a (name ∷ []) = bad a
asked_from a (name ∷ value ∷ words) = asked_from (taken a name value) words

abbrev pub if_good : Asked → Option Asked
if_good a = if a.good then Some a else None

-- what the words ask for; None if they aren't such options
abbrev pub asked_in : List (List ℕ) → Option Asked
asked_in words = if_good (asked_from nothing words)
