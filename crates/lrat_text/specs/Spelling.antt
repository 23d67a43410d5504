-- How a line is written.
use Rattle.std.specs.Prelude.{ℕ, ℤ, List, [], ◌∷◌, ◌++◌, map, decimal, codes}
use Rattle.std.specs.Fmt.{signed_decimal}
use Rattle.std.specs.List.{join_with_byte}
use Rattle.sat_theory.specs.Line.{Line, Add, Delete}

-- An addition is its id, its literals and 0, its hints and 0. A deletion is its id, the letter d, the
-- ids and 0.
abbrev pub line_items : Line → List (List ℕ)
line_items (Add id lits hints) = decimal id ∷ (map signed_decimal lits ++
    codes "0" ∷ (map decimal hints ++ codes "0" ∷ []))
line_items (Delete id ids) = decimal id ∷ codes "d" ∷ (map decimal ids ++ codes "0" ∷ [])

-- There is a blank between each two items.
-- Example: the addition of the clause 2 under the id 5 by the hints 1 and 2 is "5 2 0 1 2 0".
abbrev pub line_body : Line → List ℕ
line_body l = join_with_byte 32 (line_items l)

-- and an LF ends the line
abbrev pub line_text : Line → List ℕ
line_text l = line_body l ++ 10 ∷ []

-- a number in a list, followed by a blank
abbrev pub id_item : ℕ → List ℕ
id_item id = decimal id ++ 32 ∷ []

abbrev pub literal_item : ℤ → List ℕ
literal_item l = signed_decimal l ++ 32 ∷ []
