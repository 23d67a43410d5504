-- Inputs that come in pieces.
use Rattle.std.specs.Prelude.{◌≡◌, ℕ, ◌≤◌, List, length, Option, Some, None}
use Rattle.port_io.specs.Bytes.{Consumes, IsAtEnd}

-- `count` is at most the number of bytes that are read, and 0 if nothing is read
abbrev pub IsCount : Option ℕ → ℕ → Type 0
IsCount None count = count ≡ 0
IsCount (Some most) count = count ≤ most

-- All bytes that were left were consumed, at most `most`, and `Holds` holds for them.
pub record WereTaken (most : ℕ) (old new : Option (List ℕ)) (Holds : List ℕ → Type 0) : Type 0 where
  pub bytes : List ℕ
  pub consumes : Consumes old new bytes
  pub end : IsAtEnd new
  pub within : length bytes ≤ most
  pub holds : Holds bytes
