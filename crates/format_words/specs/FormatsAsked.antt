-- The formats that words ask for, and the words that mean the same without them.
use Rattle.std.specs.Prelude.{ℕ, List, [], ◌∷◌, ◌++◌, Bool, true, false, not, ◌||◌, Option, Some, None, codes, if◌then◌else◌}
use Rattle.command_line.specs.Options.{is_word}
use Rattle.command_line.specs.CommandLine.{word_after, is_named}
use Rattle.file_words.specs.Formats.{ends_with}
use Rattle.file_words.specs.Sorting.{Line, file_line}
use Rattle.format_names.specs.declared.formats.NetFormat.{NetFormat}
use Rattle.format_names.specs.declared.formats.NetFormat.TheVariants.{Blif, Bench, Aiger}
use Rattle.format_words.specs.declared.asking.FormatsAsked.{FormatsAsked}
use Rattle.format_words.specs.declared.asking.FormatsAsked.TheVariants.{Own, ImproveAiger, Compare, Match}

-- ---- formats

-- AIGER by the end of a file's name
abbrev pub ends_as_aiger : List ℕ → Bool
ends_as_aiger file = ends_with file (codes ".aag") || ends_with file (codes ".aig")

-- the format of a file, by the end of its name
abbrev pub format_of_file : List ℕ → NetFormat
format_of_file file = if ends_as_aiger file then Aiger
    else (if ends_with file (codes ".bench") then Bench else Blif)

-- the format that a word names
abbrev pub format_named : List ℕ → Option NetFormat
format_named word = if is_word word (codes "aiger") then Some Aiger
    else (if is_word word (codes "bench") then Some Bench
    else (if is_word word (codes "blif") then Some Blif else None))

-- the value of `--format`
abbrev pub named_format : List (List ℕ) → Option (List ℕ)
named_format options = word_after (codes "--format") options

abbrev pub names_aiger : List (List ℕ) → Bool
names_aiger [] = false
names_aiger (file ∷ files) = ends_as_aiger file

-- ---- what is asked

-- `improve` reads AIGER if `--format aiger` says so, or without `--format` the end of its file's name.
abbrev pub wants_aiger : Option (List ℕ) → List (List ℕ) → Bool
wants_aiger (Some word) files = is_word word (codes "aiger")
wants_aiger None files = names_aiger files

abbrev pub improve_asked : Option (List ℕ) → List (List ℕ) → FormatsAsked
improve_asked named files = if wants_aiger named files then ImproveAiger else Own

abbrev pub pair_named : Option NetFormat → FormatsAsked
pair_named (Some format) = Compare (record { first = format; second = format })
pair_named None = Own

-- `equiv` reads both files in the format of `--format`, or each in that of its name.
abbrev pub pair_asked : Option (List ℕ) → List ℕ → List ℕ → FormatsAsked
pair_asked (Some word) first second = pair_named (format_named word)
pair_asked None first second = Compare (record { first = format_of_file first; second = format_of_file second })

-- `--match names`, and no option that asks for more than a comparison
abbrev pub is_names : Option (List ℕ) → Bool
is_names None = false
is_names (Some word) = is_word word (codes "names")

abbrev pub asks_more : List (List ℕ) → Bool
asks_more options =
    is_named (codes "--at") options || is_named (codes "--formula") options || is_named (codes "--log") options

abbrev pub by_names : List (List ℕ) → Bool
by_names options = if is_names (word_after (codes "--match") options) then not (asks_more options) else false

-- A comparison of two files is one by names, if the words ask for that.
abbrev pub matched : Bool → FormatsAsked → FormatsAsked
matched by (Compare pair) = if by then Match pair else Compare pair
matched by Own = Own
matched by ImproveAiger = ImproveAiger
matched by (Match pair) = Match pair

abbrev pub files_asked : Option (List ℕ) → List (List ℕ) → FormatsAsked
files_asked named [] = Own
files_asked named (first ∷ []) = Own
files_asked named (first ∷ second ∷ []) = pair_asked named first second
files_asked named (first ∷ second ∷ third ∷ files) = Own

abbrev pub equiv_asked : List (List ℕ) → List (List ℕ) → FormatsAsked
equiv_asked options files = matched (by_names options) (files_asked (named_format options) files)

-- by the words of a line, which are those of the command without files, and the files that it reads
abbrev pub asked_in : List (List ℕ) → List (List ℕ) → FormatsAsked
asked_in [] files = Own
asked_in (name ∷ options) files =
    if is_word name (codes "improve") then improve_asked (named_format options) files
    else (if is_word name (codes "equiv") then equiv_asked options files else Own)

abbrev pub asked_on : Option Line → FormatsAsked
asked_on None = Own
asked_on (Some line) = asked_in line.words line.operands

-- What words ask for. Examples: `improve a.aag`, `improve a.aig` and `improve --format aiger` ask for AIGER;
-- `equiv a.aag b.bench` asks for AIGER and BENCH, and with `--match names` for a comparison by names.
abbrev pub asked_of : List (List ℕ) → FormatsAsked
asked_of words = asked_on (file_line words)

-- ---- the words without formats

-- pairs of a name and a value without the first pair of this name
unfoldable pub without : List ℕ → List (List ℕ) → List (List ℕ)
without option [] = []
without option (name ∷ []) = name ∷ []
without option (name ∷ word ∷ words) = if is_word option name then words else name ∷ word ∷ without option words

abbrev pub plain_options : FormatsAsked → List (List ℕ) → List (List ℕ)
plain_options (Match pair) options = without (codes "--format") (without (codes "--match") options)
plain_options asked options = without (codes "--format") options

abbrev pub option_words : List ℕ → Option (List ℕ) → List (List ℕ)
option_words name None = []
option_words name (Some word) = name ∷ word ∷ []

-- the words of the outputs and of the files that are read
abbrev pub file_words_of : Line → List (List ℕ)
file_words_of line = option_words (codes "-o") line.output ++ option_words (codes "--certificate") line.certificate ++
    codes "--" ∷ line.operands

-- the basis of AND gates with complements, if none is named
abbrev pub basis_words : List (List ℕ) → List (List ℕ)
basis_words options = if is_named (codes "--basis") options then [] else codes "--basis" ∷ codes "u2" ∷ []

-- `improve` of AIGER is that of BLIF to a program that knows no AIGER, whatever the end of the file's name says.
abbrev pub extra_words : FormatsAsked → List (List ℕ) → List (List ℕ)
extra_words ImproveAiger options = codes "--format" ∷ codes "blif" ∷ basis_words options
extra_words asked options = []

abbrev pub rebuilt_from : FormatsAsked → Line → List (List ℕ) → List (List ℕ)
rebuilt_from asked line [] = []
rebuilt_from asked line (name ∷ options) =
    name ∷ plain_options asked options ++ extra_words asked options ++ file_words_of line

abbrev pub rebuilt : FormatsAsked → Line → List (List ℕ)
rebuilt asked line = rebuilt_from asked line line.words

abbrev pub names_format : List (List ℕ) → Bool
names_format [] = false
names_format (name ∷ options) = is_named (codes "--format") options

-- whether the words change
abbrev pub rebuilds : FormatsAsked → List (List ℕ) → Bool
rebuilds Own words = false
rebuilds ImproveAiger words = true
rebuilds (Compare pair) words = names_format words
rebuilds (Match pair) words = true

abbrev pub plain_in : FormatsAsked → List (List ℕ) → Line → List (List ℕ)
plain_in asked words line = if rebuilds asked line.words then rebuilt asked line else words

abbrev pub plain_on : Option Line → List (List ℕ) → List (List ℕ)
plain_on None words = words
plain_on (Some line) words = plain_in (asked_in line.words line.operands) words line

-- The words that mean the same to a program that knows none of these formats, and compares as is asked: without
-- `--format` and `--match names`; for `improve` of AIGER with `--format blif`, and with the basis `u2` if none is
-- named. Other words stay as they are.
-- Example: of `improve --format aiger --cap 4 a` they are `improve --cap 4 --format blif --basis u2 -- a`.
abbrev pub plain_words : List (List ℕ) → List (List ℕ)
plain_words words = plain_on (file_line words) words
