-- The bytes that are left in a source, and those that were written to a sink: known (Some) or not (None).
use Rattle.std.specs.Prelude.{◌≡◌, ℕ, ◌<◌, ◌≤◌, List, [], ◌++◌, Option, None, Some, take, length}

-- known bytes with text after them; unknown bytes stay unknown
unfoldable pub appended : Option (List ℕ) → List ℕ → Option (List ℕ)
appended None text = None
appended (Some before) text = Some (before ++ text)

-- known bytes with text before them; unknown bytes stay unknown
unfoldable pub prepended : List ℕ → Option (List ℕ) → Option (List ℕ)
prepended text None = None
prepended text (Some after) = Some (text ++ after)

-- `text` was appended to what had been written.
abbrev pub Appends : Option (List ℕ) → Option (List ℕ) → List ℕ → Type 0
Appends old new text = new ≡ appended old text

-- `text` was consumed: what was left before is `text` and then what is left now.
abbrev pub Consumes : Option (List ℕ) → Option (List ℕ) → List ℕ → Type 0
Consumes old new text = old ≡ prepended text new

-- If the bytes are known, none is left.
abbrev pub IsAtEnd : Option (List ℕ) → Type 0
IsAtEnd left = (rest : List ℕ) → left ≡ Some rest → rest ≡ []

-- A prefix of `text`, of `count` bytes, was appended to what had been written, and nothing else.
pub record AppendsPrefix (old new : Option (List ℕ)) (text : List ℕ) : Type 0 where
  pub count : ℕ
  pub within : count ≤ length text
  pub appends : Appends old new (take count text)

-- More than `room` bytes were consumed.
pub record TakesBeyond (room : ℕ) (old new : Option (List ℕ)) : Type 0 where
  pub taken : List ℕ
  pub consumes : Consumes old new taken
  pub beyond : room < length taken

-- What is left now is a suffix of what was left before.
pub record TakesPrefix (old new : Option (List ℕ)) : Type 0 where
  pub taken : List ℕ
  pub consumes : Consumes old new taken
