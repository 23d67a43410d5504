-- The state of the scan for `.end` over the lines of a text.
use Rattle.std.specs.Prelude.{◌≡◌, ℕ, ◌-◌, ◌≤◌, Bool, false, List, ◌++◌, length, All, Option, None, drop}
use Rattle.std.specs.List.{flat_map}
use Rattle.text_core.specs.Lines.{Line, lines_of, line_bytes}
use Rattle.blif_text.specs.Words.{words_of}
use Rattle.blif_text.specs.Logical.{Logical, logical_from}
use Rattle.equiv_run.specs.Split.{first_ends, says_end, logical_lines, or_first}

-- The lines so far make logical lines of which none begins with `.end`, and the current one; `first` is what is
-- known about its first word. Text after the current logical line begins a new word.
pub record IsScanned (bytes left : List ℕ) (first : Option Bool) : Type 0 where
  pub front : List Line
  pub whole : lines_of bytes ≡ front ++ lines_of left
  pub room : length left ≤ length bytes
  pub place_is : length bytes - length left ≡ length (flat_map line_bytes front)
  pub left_is : left ≡ drop (length bytes - length left) bytes
  pub others : List Logical
  pub number : ℕ
  pub begun : Logical
  pub lines : (ls : List Line) → logical_lines 1 (front ++ ls) ≡ others ++ logical_from number begun ls
  pub none_before : All (λ l. says_end l ≡ false) others
  pub first_is : first ≡ first_ends (words_of begun.text)
  pub parted : (more : List ℕ) → first_ends (words_of (begun.text ++ more)) ≡ or_first first (first_ends (words_of more))
  pub late : begun.first ≤ number
  pub nothing_yet : number ≡ begun.first → first ≡ None
