-- Cover lines: `1-0 1` in a table of three inputs, or the output value alone in one without inputs.
use Rattle.std.specs.Prelude.{ℕ, Bool, true, false, not, ◌||◌, ◌==◌, nat_le, if◌then◌else◌, List, [], ◌∷◌, ◌++◌, length}
use Rattle.std.specs.Prelude.{Option, Some, None, Result, Ok, Err}
use Rattle.net_theory.specs.Cover.{is_cube}
use Rattle.net_theory.specs.Document.{Table}
use Rattle.net_document.specs.Contents.{is_nothing}
use Rattle.net_core.specs.declared.error.NetError.{NetError}
use Rattle.net_core.specs.declared.error.NetError.TheVariants.{Syntax, MixedCover, TooManyRows}
use Rattle.net_theory.specs.Limits.{most_cubes}

pub record CoverRow : Type 0 where
  pub cube : List ℕ
  pub on : Bool

-- the bit of a word of the one byte `0` or `1`
unfoldable pub bit_in : List ℕ → Option Bool
bit_in (b ∷ []) = if b == 49 then Some true else (if b == 48 then Some false else None)
bit_in other = None

abbrev pub row_with : List ℕ → Option Bool → Option CoverRow
row_with cube None = None
row_with cube (Some on) = Some (record { cube = cube; on = on })

-- the cube and the output value of a cover line, in a table of the given width; None if it is malformed
unfoldable pub cover_line_in : ℕ → List (List ℕ) → Option CoverRow
cover_line_in width (value ∷ []) = if width == 0 then row_with [] (bit_in value) else None
cover_line_in width (cube ∷ value ∷ []) = if is_cube width cube then row_with cube (bit_in value) else None
cover_line_in width other = None

abbrev pub agrees : Bool → Bool → Bool
agrees true on = on
agrees false on = not on

-- a table with one more cover line
abbrev pub with_row : ℕ → Table → Option CoverRow → Result Table NetError
with_row line t None = Err (Syntax line)
with_row line t (Some row) = if nat_le most_cubes (length t.cover.cubes) then Err
    (TooManyRows line) else (if is_nothing t.cover.cubes ||
    agrees row.on t.cover.on then Ok (record {
      inputs = t.inputs;
      output = t.output;
      cover = record { width = t.cover.width; cubes = t.cover.cubes ++ row.cube ∷ []; on = row.on; parity = false };
    })
    else Err (MixedCover line))

-- Adds a cover line to a table. A malformed line is refused first, then a line past the 4,096th, then an output
-- value that differs from that of the table's first line.
unfoldable pub row_of : ℕ → Table → List (List ℕ) → Result Table NetError
row_of line t words = with_row line t (cover_line_in t.cover.width words)
