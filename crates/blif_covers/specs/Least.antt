-- Documents in which a table of two inputs with three rows of 1 is given by its one row of 0.
use Rattle.std.specs.Prelude.{ℕ, Bool, true, false, not, ◌&&◌, ◌==◌, if◌then◌else◌, List, [], ◌∷◌, ◌++◌, length, map}
use Rattle.net_theory.specs.Cover.{Cover}
use Rattle.net_theory.specs.Document.{has, Table, Document}
use Rattle.net_theory.specs.Circuit.{Circuit}
use Rattle.net_theory.specs.Limits.{default_gates}
use Rattle.net_document.specs.Format.{Format}
use Rattle.blif_text.specs.Statements.{listed_of}
use Rattle.blif_core.specs.Written.{row_if, written}
use Rattle.blif_core.specs.Spelling.{spelled}

-- the row, unless it is listed
abbrev pub unlisted : List (List ℕ) → List ℕ → List (List ℕ)
unlisted rows row = row_if (not (has rows row)) row

-- the rows of two inputs that aren't listed
unfoldable pub other_rows : List (List ℕ) → List (List ℕ)
other_rows rows = unlisted rows (48 ∷ 48 ∷ []) ++ unlisted rows (48 ∷ 49 ∷ []) ++
    unlisted rows (49 ∷ 48 ∷ []) ++ unlisted rows (49 ∷ 49 ∷ [])

-- three of the four rows of two inputs are listed
abbrev pub lists_three : Cover → Bool
lists_three c = c.width == 2 && length c.cubes == 3

-- Three rows of two inputs become the fourth, with the other value. The writer's tables have at most two inputs, so all
-- others have at most as many rows with 1 as with 0, or no row with 0.
-- Example: `01 1`, `10 1` and `11 1` become `00 0`.
unfoldable pub least_cover : Cover → Cover
least_cover c = if lists_three c then record { width = 2; cubes = other_rows c.cubes; on = not c.on; parity = false }
    else c

abbrev pub least_table : Table → Table
least_table t = record { inputs = t.inputs; output = t.output; cover = least_cover t.cover }

abbrev pub least : Document → Document
least d = record d { tables = map least_table d.tables }

-- the document of a circuit, and its text
abbrev pub least_written : Circuit → Document
least_written c = least (written c)

abbrev pub least_text : Circuit → List ℕ
least_text c = spelled (least_written c)

-- BLIF, written in this way
abbrev pub least_format : Format
least_format = record { listed = listed_of; written = least_written; text = least_text; operators = λ op. true; most = default_gates }
