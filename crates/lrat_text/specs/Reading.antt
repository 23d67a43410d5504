-- The grammar of a line, read from the left.
use Rattle.std.specs.Prelude.{ℕ, ℤ, Bool, ◌==◌, if◌then◌else◌, List, [], ◌∷◌, ◌++◌, Option, Some, None, Result, Ok, Err}
use Rattle.std.specs.List.{list_any}
use Rattle.text_core.specs.Items.{items_of}
use Rattle.sat_theory.specs.Formula.{variable}
use Rattle.sat_theory.specs.Line.{Line, Add, Delete}
use Rattle.lrat_text.specs.declared.error.LineError.{LineError}
use Rattle.lrat_text.specs.declared.error.LineError.TheVariants.{BadNumber, NoEnd, RatHint, RepeatedVariable}
use Rattle.lrat_text.specs.Numerals.{id_in, literal_in, begins_minus, is_letter_d}

-- the continuation after an item of a list: it isn't a number, it ends the list, or it is one more element
abbrev pub item_then : {X : Type 0} → Option (Option X) → Result Line LineError → (X → Result Line LineError) →
    Result Line LineError
item_then None end next = Err BadNumber
item_then (Some None) end next = end
item_then (Some (Some x)) end next = next x

-- nothing follows the last 0
abbrev pub end_of : Line → List (List ℕ) → Result Line LineError
end_of line [] = Ok line
end_of line (w ∷ ws) = Err NoEnd

abbrev pub has_variable : List ℤ → ℕ → Bool
has_variable lits v = list_any (λ m. variable m == v) lits

-- whether a literal has the variable of a literal before it
abbrev pub is_repeated : List ℤ → ℤ → Bool
is_repeated lits l = has_variable lits (variable l)

-- the hints of an addition, after those in the list have been read
unfoldable pub hints_of : ℕ → List ℤ → List ℕ → List (List ℕ) → Result Line LineError
hints_of id lits hints [] = Err NoEnd
hints_of id lits hints (w ∷ ws) = if begins_minus w then Err RatHint
    else item_then (id_in w) (end_of (Add id lits hints) ws) (λ h. hints_of id lits (hints ++ h ∷ []) ws)

-- the literals of an addition, after those in the list have been read, and then its hints
unfoldable pub lits_of : ℕ → List ℤ → List (List ℕ) → Result Line LineError
lits_of id lits [] = Err NoEnd
lits_of id lits (w ∷ ws) = item_then (literal_in w) (hints_of id lits [] ws) (λ l. if is_repeated lits l
    then Err RepeatedVariable else lits_of id (lits ++ l ∷ []) ws)

-- the ids of a deletion, after those in the list have been read
unfoldable pub ids_of : ℕ → List ℕ → List (List ℕ) → Result Line LineError
ids_of id ids [] = Err NoEnd
ids_of id ids (w ∷ ws) = item_then (id_in w) (end_of (Delete id ids) ws) (λ k. ids_of id (ids ++ k ∷ []) ws)

-- the items after the line's own id
abbrev pub after_id : ℕ → List (List ℕ) → Result Line LineError
after_id id [] = Err NoEnd
after_id id (w ∷ ws) = if is_letter_d w then ids_of id [] ws else lits_of id [] (w ∷ ws)

abbrev pub line_in_items : List (List ℕ) → Result Line LineError
line_in_items [] = Err NoEnd
line_in_items (w ∷ ws) = item_then (id_in w) (Err BadNumber) (λ id. after_id id ws)

-- a line without its LF
abbrev pub line_in : List ℕ → Result Line LineError
line_in text = line_in_items (items_of text)
