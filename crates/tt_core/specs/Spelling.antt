-- Texts of tables, as a relation to the specification that they spell: the character at each index.
use Rattle.std.specs.Prelude.{◌≡◌, ℕ, ◌+◌, ◌^◌, ◌<◌, ◌≤◌, true, List, [], ◌∷◌, ◌++◌, length, Some, slice_get}
use Rattle.std.specs.Prelude.{slice_index, codes, decimal}
use Rattle.std.proofs.Common.{drop}
use Rattle.chain_theory.specs.Specification.{Specification}
use Rattle.chain_theory.specs.declared.data.Cell.{Cell}
use Rattle.chain_theory.specs.declared.data.Cell.TheVariants.{Zero, One, Free}
use Rattle.text_core.specs.Lines.{Line}
use Rattle.text_core.specs.Words.{begins_lower}

-- `0`, `1` or `-`
abbrev pub character : Cell → ℕ
character Zero = 48
character One = 49
character Free = 45

-- `inputs N`, and an LF
abbrev pub inputs_line : ℕ → Line
inputs_line n = record { text = codes "inputs " ++ decimal n; ended = true }

-- the table of output h: character t, from 0, is the cell of row t, and an LF ends the line
pub record IsTableLine (s : Specification) (h : ℕ) (l : Line) : Type 0 where
  pub ended : l.ended ≡ true
  pub rows : length l.text ≡ 2 ^ s.inputs
  pub cells : (t : ℕ) → t < 2 ^ s.inputs → slice_index l.text t ≡ character (s.cell h t)

-- what may follow tables: nothing, or a line that begins with a lower-case letter
abbrev pub EndsTables : List Line → Type 0
EndsTables [] = Unit {0}
EndsTables (l ∷ ls) = begins_lower l.text ≡ true

-- Lines are the text of a specification, followed by the rest: a header, the table of output h as
-- line h + 1, and at least one table.
pub record SpellsTables (s : Specification) (ls rest : List Line) : Type 0 where
  pub inputs_first : slice_get ls 0 ≡ Some (inputs_line s.inputs)
  pub tables : (h : ℕ) → 0 < h → h ≤ s.outputs → (l : Line) × (slice_get ls h ≡ Some l) × IsTableLine s h l
  pub output : 0 < s.outputs
  pub following : rest ≡ drop (1 + s.outputs) ls
  pub end : EndsTables rest
