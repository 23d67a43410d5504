-- What a command reports: a reply or a refusal, and the text of the error line.
use Rattle.std.specs.Prelude.{ℕ, List, [], ◌∷◌, ◌++◌, Option, codes, decimal}
use Rattle.frame_core.specs.declared.status.Status.{Status}
use Rattle.frame_core.specs.declared.status.Status.TheVariants as statuses

-- An answer: its text for the output, a report for the notes if the command makes one, and the status.
pub record Reply : Type 0 where
  pub text : List ℕ
  pub report : Option (List ℕ)
  pub status : Status

-- the concatenation of texts
unfoldable pub joined : List (List ℕ) → List ℕ
joined [] = []
joined (text ∷ texts) = text ++ joined texts

-- A report in parts: the first, those between, and the last.
abbrev pub parted : List ℕ → List (List ℕ) → List ℕ → List ℕ
parted first parts last = first ++ (joined parts ++ last)

-- A field of an error line. The first is the name of a variant.
pub data Field : Type 0 where
  Word : (word : List ℕ) → Field
  Number : (number : ℕ) → Field

-- no answer: the status, and the fields of the error line
pub record Refusal : Type 0 where
  pub status : Status
  pub named : List Field

-- a variant without fields, and one with a number
abbrev pub plain : List ℕ → List Field
plain name = Word name ∷ []

abbrev pub at : List ℕ → ℕ → List Field
at name number = Word name ∷ Number number ∷ []

abbrev pub field_text : Field → List ℕ
field_text (Word word) = word
field_text (Number number) = decimal number

-- fields, each after a blank
unfoldable pub fields_text : List Field → List ℕ
fields_text [] = []
fields_text (f ∷ fs) = (32 ∷ field_text f) ++ fields_text fs

-- The error line. Examples: `error: TooLong`, `error: BadRow 2`, `error: StepRefused 13 NotUnit 22`.
unfoldable pub error_line : List Field → List ℕ
error_line fields = codes "error:" ++ (fields_text fields ++ codes "\n")

-- the fields of the error lines that all commands have
unfoldable pub usage : List Field
usage = plain (codes "Usage")

unfoldable pub read_fault : List Field
read_fault = plain (codes "ReadFault")

unfoldable pub write_fault : List Field
write_fault = plain (codes "WriteFault")

unfoldable pub too_long : List Field
too_long = plain (codes "TooLong")

unfoldable pub memory : List Field
memory = plain (codes "Memory")

-- the refusals that every command may end with: the input is too long, reading failed, memory ran out
abbrev pub too_long_refusal : Refusal
too_long_refusal = record { status = statuses.Limit; named = too_long }

abbrev pub read_fault_refusal : Refusal
read_fault_refusal = record { status = statuses.ReadFault; named = read_fault }

abbrev pub memory_refusal : Refusal
memory_refusal = record { status = statuses.Memory; named = memory }
