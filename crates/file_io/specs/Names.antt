-- What names hold, and what an open file shows of it.
use Rattle.std.specs.Prelude.{◌≡◌, ℕ, List, [], Bool, true, false, Option, None, Some}

-- what a name holds: contracts don't know it; no file; a file with these bytes
pub data Holding : Type 0 where
  Unknown : Holding
  Absent : Holding
  File : (bytes : List ℕ) → Holding

-- what each name holds
abbrev pub Names : Type 0
Names = List ℕ → Holding

-- The bytes that are left in a source are those of the file. Where there is none, none is opened.
abbrev pub Shows : Holding → Option (List ℕ) → Type 0
Shows Unknown left = left ≡ None
Shows Absent left = ⊥
Shows (File bytes) left = left ≡ Some bytes

-- a file with the bytes that were written to a sink
abbrev pub file_of : Option (List ℕ) → Holding
file_of None = Unknown
file_of (Some bytes) = File bytes

-- Each name holds what it held.
abbrev pub SameNames : Names → Names → Type 0
SameNames old new = (name : List ℕ) → new name ≡ old name

-- If the bytes that were written are known, there are none.
abbrev pub IsEmpty : Option (List ℕ) → Type 0
IsEmpty written = (bytes : List ℕ) → written ≡ Some bytes → bytes ≡ []

-- What was written to a new draft beside a name: nothing, known exactly where it is known what the name holds.
abbrev pub Begun : Holding → Option (List ℕ) → Type 0
Begun Unknown written = written ≡ None
Begun Absent written = written ≡ Some []
Begun (File bytes) written = written ≡ Some []

abbrev pub is_some_text : List ℕ → Bool
is_some_text [] = false
is_some_text text = true

-- If the bytes that were written are known, the answer says whether there are some.
abbrev pub Begins : Option (List ℕ) → Bool → Type 0
Begins written answer = (bytes : List ℕ) → written ≡ Some bytes → answer ≡ is_some_text bytes
