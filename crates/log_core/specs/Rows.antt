-- The lines of a log in one byte array, one after another. A head has the kind and the id of a line and the
-- number of bytes of each of its lists, so the splitting of the array doesn't depend on its bytes.
-- Example: the heads Add 5 1 2 and Delete 6 1 split the array 6, 14, 4, 8 into the line that adds the clause 3
-- with the id 5 by the hints 7, 9, and the line that deletes 4.
use Rattle.std.specs.Prelude.{◌≡◌, ℕ, ◌+◌, List, [], ◌∷◌, ◌++◌, length, take, drop}
use Rattle.sat_theory.specs.Line as theory
use Rattle.log_core.specs.declared.head.Head.{Head}
use Rattle.log_core.specs.declared.head.Head.TheVariants.{Add, Delete}
use Rattle.log_core.specs.Lists.{ids_of, literals_of}

-- how many bytes a line takes
abbrev pub size_of : Head → ℕ
size_of (Add id lits hints) = lits + hints
size_of (Delete id ids) = ids

-- the line that a head and its bytes spell: of an addition first the literals, then the hints
abbrev pub line_in : Head → List ℕ → theory.Line
line_in (Add id lits hints) bytes = theory.Add id (literals_of (take lits bytes)) (ids_of (drop lits bytes))
line_in (Delete id ids) bytes = theory.Delete id (ids_of bytes)

-- the lines of a byte array
unfoldable pub lines_in : List Head → List ℕ → List theory.Line
lines_in [] bytes = []
lines_in (h ∷ hs) bytes = line_in h (take (size_of h) bytes) ∷ lines_in hs (drop (size_of h) bytes)

-- how many bytes lines take
unfoldable pub sizes_of : List Head → ℕ
sizes_of [] = 0
sizes_of (h ∷ hs) = size_of h + sizes_of hs

-- the lines take exactly the bytes of the array
abbrev pub IsSplit : List Head → List ℕ → Type 0
IsSplit heads bytes = sizes_of heads ≡ length bytes

-- the old array is a prefix of the new one
abbrev pub BeginsAs : List ℕ → List ℕ → Type 0
BeginsAs old new = take (length old) new ≡ old

-- a line was appended to the array, and this is its head
pub record IsPacked (old new : List ℕ) (line : theory.Line) (h : Head) : Type 0 where
  pub more : List ℕ
  pub row : new ≡ old ++ more
  pub size : size_of h ≡ length more
  pub spells : line_in h more ≡ line
