-- A text split into lines, the last of which may be unfinished.
use Rattle.std.specs.Prelude.{◌≡◌, ℕ, ◌+◌, true, List, [], ◌∷◌, ◌++◌, length, All}
use Rattle.std.specs.List.{flat_map}
use Rattle.text_core.specs.Lines.{Line}
use Rattle.text_core.specs.Words.{is_free}

abbrev pub HasNoEnd : List ℕ → Type 0
HasNoEnd text = is_free 10 text ≡ true

-- a line with its LF
abbrev pub with_end : List ℕ → List ℕ
with_end text = text ++ 10 ∷ []

-- The text consists of whole lines, each with its LF, and the bytes of an unfinished line after them, whose
-- number is `number`.
pub record IsSplit (text : List ℕ) (number : ℕ) (unfinished : List ℕ) : Type 0 where
  pub lines : List (List ℕ)
  pub are_lines : All HasNoEnd lines
  pub is_unfinished : HasNoEnd unfinished
  pub text_is : text ≡ flat_map with_end lines ++ unfinished
  pub number_is : number ≡ length lines + 1

-- `lines` is a suffix of all lines, and its first line has this number
pub record IsPlace (number : ℕ) (lines all : List Line) : Type 0 where
  pub prefix : List Line
  pub all_is : all ≡ prefix ++ lines
  pub number_is : number ≡ length prefix + 1
