-- What the words of `improve` wish of the netlist that it writes, and the words without these wishes.
use Rattle.std.specs.Prelude.{ℕ, List, [], ◌∷◌, ◌++◌, Bool, true, false, not, Option, Some, None, codes, if◌then◌else◌}
use Rattle.text_core.specs.Numbers.{number_up_to}
use Rattle.command_line.specs.Options.{is_word, flag_in}
use Rattle.command_line.specs.CommandLine.{word_after, is_named}
use Rattle.file_words.specs.Formats.{ends_with}
use Rattle.file_words.specs.Sorting.{Line}
use Rattle.format_words.specs.FormatsAsked.{named_format, wants_aiger, basis_words}
use Rattle.wish_names.specs.declared.wishes.Wishes.{Wishes}
use Rattle.wish_names.specs.declared.wishes.LevelsAsked.{LevelsAsked}
use Rattle.wish_names.specs.declared.wishes.LevelsAsked.TheVariants.{Untold, Tell, Keep, Most}
use Rattle.wish_names.specs.declared.wishes.CoversAsked.{CoversAsked}
use Rattle.wish_names.specs.declared.wishes.CoversAsked.TheVariants.{Rows, Least}
use Rattle.wish_names.specs.declared.wishes.FormAsked.{FormAsked}
use Rattle.wish_names.specs.declared.wishes.FormAsked.TheVariants.{Given, Ascii, Binary}

-- the greatest number of levels that can be named
abbrev pub most_levels : ℕ
most_levels = 1000000

-- ---- the values of options; None: the word is no value

-- `--only yes` or `no`, by default `no`; not for AIGER, which has gates of its own
abbrev pub only_in : Bool → Option (List ℕ) → Option Bool
only_in aiger None = Some false
only_in aiger (Some word) = if aiger then None else flag_in word

abbrev pub most_in : Option ℕ → Option LevelsAsked
most_in None = None
most_in (Some n) = Some (Most n)

-- `--levels tell`, `keep` or a number
abbrev pub levels_in : Option (List ℕ) → Option LevelsAsked
levels_in None = Some Untold
levels_in (Some word) = if is_word word (codes "tell") then Some Tell
    else (if is_word word (codes "keep") then Some Keep else most_in (number_up_to most_levels word))

abbrev pub covers_named : List ℕ → Option CoversAsked
covers_named word = if is_word word (codes "rows") then Some Rows
    else (if is_word word (codes "least") then Some Least else None)

-- `--covers rows` or `least`, where the netlist is in BLIF: other formats have no covers
abbrev pub covers_in : Bool → Option (List ℕ) → Option CoversAsked
covers_in blif None = Some Rows
covers_in blif (Some word) = if blif then covers_named word else None

-- the netlist is in BLIF, by whether it is in AIGER and by the format that is named
abbrev pub is_blif : Bool → Option (List ℕ) → Bool
is_blif true named = false
is_blif false None = true
is_blif false (Some word) = not (is_word word (codes "bench"))

-- the form of an AIGER file, by the end of its name
abbrev pub form_named : Option (List ℕ) → FormAsked
form_named None = Given
form_named (Some file) = if ends_with file (codes ".aig") then Binary
    else (if ends_with file (codes ".aag") then Ascii else Given)

-- The end of the name of `-o` says the form of what is written, where AIGER is read.
abbrev pub form_in : Bool → Option (List ℕ) → FormAsked
form_in aiger output = if aiger then form_named output else Given

-- ---- wishes

abbrev pub is_asked : FormAsked → Bool
is_asked Given = false
is_asked form = true

-- a wish is named
abbrev pub names_wish : List (List ℕ) → FormAsked → Bool
names_wish options form = if is_named (codes "--only") options then true
    else (if is_named (codes "--levels") options then true
    else (if is_named (codes "--covers") options then true else is_asked form))

abbrev pub wishes_from : Option Bool → Option LevelsAsked → Option CoversAsked → FormAsked → Option Wishes
wishes_from (Some only) (Some levels) (Some covers) form =
    Some (record { only = only; levels = levels; form = form; covers = covers })
wishes_from (Some only) (Some levels) None form = None
wishes_from (Some only) None covers form = None
wishes_from None levels covers form = None

-- the wishes of options; None: there are none, or a value is none
abbrev pub wishes_in : List (List ℕ) → Bool → Bool → FormAsked → Option Wishes
wishes_in options aiger blif form =
    if names_wish options form then
    wishes_from (only_in aiger (word_after (codes "--only") options)) (levels_in (word_after (codes "--levels") options))
    (covers_in blif (word_after (codes "--covers") options)) form
    else None

-- ---- the words without wishes

-- pairs of a name and a value without the first pair of this name
unfoldable pub without : List ℕ → List (List ℕ) → List (List ℕ)
without option [] = []
without option (name ∷ []) = name ∷ []
without option (name ∷ word ∷ words) = if is_word option name then words else name ∷ word ∷ without option words

abbrev pub without_wishes : List (List ℕ) → List (List ℕ)
without_wishes options = without (codes "--only") (without (codes "--covers") (without (codes "--levels") options))

-- `improve` of AIGER is that of BLIF to `command_line`, over the gates of AIGER.
abbrev pub plain_options : Bool → List (List ℕ) → List (List ℕ)
plain_options true options = without (codes "--format") (without_wishes options) ++ basis_words options
plain_options false options = without_wishes options

-- ---- a line

-- what a line wishes, whether it reads AIGER, and its words without wishes
pub record Wished : Type 0 where
  pub wishes : Wishes
  pub aiger : Bool
  pub words : List (List ℕ)

abbrev pub wished_by : Option Wishes → Bool → List (List ℕ) → Option Wished
wished_by None aiger words = None
wished_by (Some wishes) aiger words = Some (record { wishes = wishes; aiger = aiger; words = words })

abbrev pub wished_as : Bool → Option (List ℕ) → List ℕ → List (List ℕ) → Option Wished
wished_as aiger output name options =
    wished_by (wishes_in options aiger (is_blif aiger (named_format options)) (form_in aiger output)) aiger
    (name ∷ plain_options aiger options)

abbrev pub wished_words : Line → List (List ℕ) → Option Wished
wished_words line [] = None
wished_words line (name ∷ options) =
    if is_word name (codes "improve") then
    wished_as (wants_aiger (named_format options) line.operands) line.output name options
    else None

-- What a line wishes; None if it is that of another command, wishes nothing, or has a value that is none.
-- Example: `improve --levels tell --cap 4 a.aag` wishes that the levels are told, and without wishes its words are
-- `improve --cap 4 --basis u2`.
abbrev pub wished_in : Line → Option Wished
wished_in line = wished_words line line.words
