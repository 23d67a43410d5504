-- Which words of a command line are its own, and which name files.
use Rattle.std.specs.Prelude.{◌==◌, ℕ, List, [], ◌∷◌, ◌++◌, Bool, true, false, Option, None, Some, codes}
use Rattle.std.specs.Prelude.{if◌then◌else◌}
use Rattle.command_line.specs.Options.{is_word}
use Rattle.file_words.specs.Formats.{wants_bench}
use Rattle.file_words.specs.declared.line.Next.{Next}
use Rattle.file_words.specs.declared.line.Next.TheVariants.{Word, Value, Output, Certificate, Operand, Nothing}

-- a line up to some word: the command's own words, the files that are read, those of `-o` and `--certificate`, and what
-- comes next
pub record Line : Type 0 where
  pub words : List (List ℕ)
  pub operands : List (List ℕ)
  pub output : Option (List ℕ)
  pub certificate : Option (List ℕ)
  pub next : Next

abbrev pub is_same : List ℕ → List ℕ → Bool
is_same word other = is_word word other

-- `-` is standard input or output
abbrev pub is_standard : List ℕ → Bool
is_standard file = is_same file (codes "-")

-- An option's name begins with `-`, and isn't `-`.
unfoldable pub is_option : List ℕ → Bool
is_option [] = false
is_option (b ∷ []) = false
is_option (b ∷ c ∷ bs) = b == 45

-- ---- one word

abbrev pub word_taken : Line → List ℕ → Line
word_taken line word =
    if is_same word (codes "--") then record line { next = Operand }
    else if is_same word (codes "-o") then record line { next = Output }
    else if is_same word (codes "--certificate") then record line { next = Certificate }
    else if is_option word then record line { words = line.words ++ word ∷ []; next = Value }
    else record line { operands = line.operands ++ word ∷ [] }

-- `-o` has one value, and is named once.
abbrev pub output_taken : Option (List ℕ) → Line → List ℕ → Line
output_taken None line word = record line { output = Some word; next = Word }
output_taken (Some output) line word = record line { next = Nothing }

-- So has `--certificate`.
abbrev pub certificate_taken : Option (List ℕ) → Line → List ℕ → Line
certificate_taken None line word = record line { certificate = Some word; next = Word }
certificate_taken (Some certificate) line word = record line { next = Nothing }

abbrev pub stepped_at : Next → Line → List ℕ → Line
stepped_at Word line word = word_taken line word
stepped_at Value line word = record line { words = line.words ++ word ∷ []; next = Word }
stepped_at Output line word = output_taken line.output line word
stepped_at Certificate line word = certificate_taken line.certificate line word
stepped_at Operand line word = record line { operands = line.operands ++ word ∷ [] }
stepped_at Nothing line word = line

abbrev pub stepped : Line → List ℕ → Line
stepped line word = stepped_at line.next line word

-- ---- all words

unfoldable pub sorted : Line → List (List ℕ) → Line
sorted line [] = line
sorted line (word ∷ words) = sorted (stepped line word) words

abbrev pub first_line : List ℕ → Line
first_line name = record { words = name ∷ []; operands = []; output = None; certificate = None; next = Word }

-- A line ends where no value is missing.
abbrev pub is_whole : Next → Bool
is_whole Word = true
is_whole Operand = true
is_whole next = false

-- A netlist of `improve` is in BENCH if its file's name ends with `.bench` and `--format` isn't named.
abbrev pub formatted : Line → Line
formatted line =
    if wants_bench line.words line.operands then
    record line { words = line.words ++ codes "--format" ∷ codes "bench" ∷ [] }
    else line

abbrev pub ended : Line → Option Line
ended line = if is_whole line.next then Some (formatted line) else None

-- The first word is the command's name. None: there is no word, a value is missing, or `-o` or `--certificate` is named
-- twice.
-- Example: `improve in.blif --cap 4 -o out.blif` has the words `improve --cap 4`, and with `in.bench` the words
-- `improve --cap 4 --format bench`.
unfoldable pub file_line : List (List ℕ) → Option Line
file_line [] = None
file_line (name ∷ words) = ended (sorted (first_line name) words)
