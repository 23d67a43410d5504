-- The inputs of `agree`, and its answers.
use Rattle.std.specs.Prelude.{◌≡◌, ℕ, ◌+◌, ◌*◌, ◌&&◌, List, [], ◌∷◌, length, codes, Result, Ok, Err, ◌≤◌, if◌then◌else◌}
use Rattle.std.specs.Str.{bytes_eq}
use Rattle.chain_theory.specs.Specification.{Specification}
use Rattle.chain_theory.specs.Chain.{Chain}
use Rattle.chain_theory.specs.Agreement as agreement
use Rattle.chain_theory.specs.Difference.{IsFirstDifference}
use Rattle.text_core.specs.Lines.{Line, lines_of}
use Rattle.tt_core.specs.Words.{specification}
use Rattle.tt_core.specs.declared.error.SpecError.{SpecError}
use Rattle.chain_core.specs.declared.error.ChainError.{ChainError}
use Rattle.tt_core.specs.Tables as tables
use Rattle.chain_core.specs.Block as block
use Rattle.cmd_agree.specs.declared.agree.AgreeAnswer.{AgreeAnswer}
use Rattle.cmd_agree.specs.declared.agree.AgreeAnswer.TheVariants.{Agrees, Differs}
use Rattle.cmd_agree.specs.declared.agree.AgreeError.{AgreeError}
use Rattle.cmd_agree.specs.declared.agree.AgreeError.TheVariants.{Tables, Chained, BadEnd, Memory}
use Rattle.cmd_lines.specs.TableLines.{most_of_tables}

-- an input of `agree`: tables and a chain; the question is whether the chain implements them
pub record AgreeInput : Type 0 where
  pub tables : Specification
  pub chain : Chain

infixl 10 ◌>>=◌
abbrev pub ◌>>=◌ : {A B : Type 0} → Result A AgreeError → (A → Result B AgreeError) → Result B AgreeError
(Ok x) >>= f = f x
(Err e) >>= f = Err e

abbrev pub tables_in : Result tables.Read SpecError → Result tables.Read AgreeError
tables_in (Ok read) = Ok read
tables_in (Err fault) = Err (Tables fault)

abbrev pub chain_in : Result block.Read ChainError → Result block.Read AgreeError
chain_in (Ok read) = Ok read
chain_in (Err fault) = Err (Chained fault)

-- no further line
abbrev pub nothing_in : ℕ → List Line → Result Unit AgreeError
nothing_in number [] = Ok tt
nothing_in number (l ∷ ls) = Err (BadEnd number)

-- the line `end`, with nothing after it
unfoldable pub end_in : ℕ → List Line → Result Unit AgreeError
end_in number [] = Err (BadEnd number)
end_in number (l ∷ ls) = if l.ended && bytes_eq l.text (codes "end") then nothing_in (number + 1) ls
    else Err (BadEnd number)

-- the chain block after the tables, followed by the line `end`
unfoldable pub chain_following : tables.Read → Result Chain AgreeError
chain_following read = do
  found ← chain_in (block.chain_of (2 + length read.words.on) read.words.n (length read.words.on) read.rest)
  end ← end_in (3 + 2 * length read.words.on + length found.chain.steps) found.rest
  Ok found.chain

-- tables, a chain block for their inputs and outputs, and the line `end`
unfoldable pub question_in : List Line → Result AgreeInput AgreeError
question_in ls = do
  read ← tables_in (tables.tables_of ls)
  chain ← chain_following read
  Ok (record { tables = specification read.words; chain = chain })

-- the tables and the chain of the input
abbrev pub question_of : List ℕ → Result AgreeInput AgreeError
question_of bytes = question_in (lines_of bytes)

-- The bytes, no more than are read, are the spelling of this question.
pub record IsQuestion (bytes : List ℕ) (question : AgreeInput) : Type 0 where
  pub within : length bytes ≤ most_of_tables
  pub read : question_of bytes ≡ Ok question

-- The bytes, no more than are read, have this fault.
pub record HasFault (bytes : List ℕ) (error : AgreeError) : Type 0 where
  pub within : length bytes ≤ most_of_tables
  pub fault : question_of bytes ≡ Err error

-- the cause of an error; running out of memory has none
abbrev pub IsCause : List ℕ → AgreeError → Type 0
IsCause bytes Memory = Unit {0}
IsCause bytes error = HasFault bytes error

-- An error of a reader is the first fault of the input; memory may run out at any time.
abbrev pub Fails : {Y : Type 0} → AgreeError → Result Y AgreeError → Type 0
Fails Memory read = Unit {0}
Fails error read = read ≡ Err error

-- The result of a reader, seen through `view`, is the one of the definition.
abbrev pub Gives : {X Y : Type 0} → (X → Y) → Result X AgreeError → Result Y AgreeError → Type 0
Gives view (Ok x) read = read ≡ Ok (view x)
Gives view (Err e) read = Fails e read

-- the answer to a question: the chain implements the tables, or the first difference
abbrev pub IsAnswer : AgreeInput → AgreeAnswer → Type 0
IsAnswer question Agrees = agreement.Agrees question.chain question.tables
IsAnswer question (Differs output row) = IsFirstDifference question.chain question.tables output row

-- The bytes are a question with this answer.
pub record HasAnswer (bytes : List ℕ) (answer : AgreeAnswer) : Type 0 where
  pub question : AgreeInput
  pub asked : IsQuestion bytes question
  pub is_answer : IsAnswer question answer
