-- A text that spells a specification is read as it.
use Rattle.std.proofs.Common.{◌≡◌, ℕ, suc, ◌+◌, ◌-◌, ◌^◌, ◌<◌, ◌≤◌, ◌==◌, Bool, true, false, cond, List, [], ◌∷◌, ◌++◌}
use Rattle.std.proofs.Common.{length, get_or, drop, Some, None, Result, Ok, length-append, refl, sym, ap, ap₂, ◌∙◌}
use Rattle.std.proofs.Common.{arith, append_assoc, append-nil, inl, inr, eqb-true, eq-eqb, nat_lt, ltb-true}
use Rattle.std.specs.Prelude.{codes, decimal, slice_get, slice_index}
use Rattle.std.specs.List.{list_all}
use Rattle.std.specs.Int.{bit_at}
use Rattle.std.proofs.lemmas.Bool.{cases_lt}
use Rattle.std.proofs.lemmas.Grind.{common_steps}
use Rattle.std.proofs.lemmas.Nat.{pow_pos}
use Rattle.std.proofs.lemmas.Nat.Bits.{same_from_bits, bit_at-lt}
use Rattle.text_core.specs.Lines.{Line}
use Rattle.text_core.specs.Words.{begins_lower}
use Rattle.text_core.specs.ReadBack.{word_back, number_back}
use Rattle.chain_theory.specs.Operator.{digit}
use Rattle.chain_theory.specs.declared.data.Cell.{Cell}
use Rattle.chain_theory.specs.declared.data.Cell.TheVariants.{Zero, One, Free}
use Rattle.tt_core.specs.Cells.{is_cell, on_bit, care_bit}
use Rattle.tt_core.specs.Words.{Words, IsSpec, cell_of, specification}
use Rattle.tt_core.specs.declared.error.SpecError.{SpecError}
use Rattle.tt_core.specs.Tables.{Read, inputs_of, row_fault, with_row, rows_of, tables_of}
use Rattle.tt_core.specs.Spelling.{character, inputs_line, IsTableLine, EndsTables, SpellsTables}
use Rattle.tt_core.specs.CellWordLaws.{on_is_bit, care_is_bit}
use Rattle.tt_core.specs.KeepLaws.{word_bit, word_none}
use Rattle.tt_core.specs.SpelledLaws.{IsRow, on_word, care_word}
use Rattle.chain_theory.specs.Limits.{most_outputs}
use Rattle.text_core.specs.Limits.{most_number}

-- digits that agree as tests agree as numbers
same_digit : (a b : ℕ) → a < 2 → b < 2 → (a == 1) ≡ (b == 1) → a ≡ b
same_digit a b low_a low_b same = grind (arith, common_steps)

same_from_digits : (a b : ℕ) → ((t : ℕ) → digit a t ≡ digit b t) → a ≡ b
same_from_digits a b same = same_from_bits a b (λ t. same_digit (bit_at a t) (bit_at b t) (bit_at-lt a t) (bit_at-lt b t) (same t))

-- a property that holds at each index holds of all elements
all_pass : (p : ℕ → Bool) (xs : List ℕ) → ((t : ℕ) → t < length xs → p (get_or xs t 0) ≡ true) → list_all p xs ≡ true
all_pass p [] each = refl
all_pass p (x ∷ xs) each = grind (arith, common_steps, each 0, all_pass p xs (λ t within. each (suc t) (omega arith)))

character_is_cell : (c : Cell) → is_cell (character c) ≡ true
character_is_cell Zero = refl
character_is_cell One = refl
character_is_cell Free = refl

not_both : (b : Bool) → b ≡ true → b ≡ false → ⊥
not_both b yes_is no_is = cc

-- the bits of a cell's character
care_back : (care on : Bool) → (care_bit (character (cond care (cond on One Zero) Free)) == 1) ≡ care
care_back true true = refl
care_back true false = refl
care_back false on = refl

on_back : (care on : Bool) → (on ≡ true → care ≡ true) → (on_bit (character (cond care (cond on One Zero) Free)) == 1) ≡ on
on_back true true inside = refl
on_back true false inside = refl
on_back false true inside = absurd (not_both false (inside refl) refl)
on_back false false inside = refl

not_true : (b : Bool) → (b ≡ true → ⊥) → b ≡ false
not_true true never = absurd (never refl)
not_true false never = refl

-- a digit of the values is 1 only where the row is specified, and there are 2 ^ n rows
on_ends : (w : Words) (i t : ℕ) → IsSpec w → 2 ^ w.n ≤ t → digit (slice_index w.on i) t ≡ false
on_ends w i t spec past = not_true _ (λ one. not_both _ (spec.inside i t one) (spec.rows i t past))

-- the cell of the output at an index of the lists
cell_at : (w : Words) (i t : ℕ) → cell_of w (suc i) t ≡ cond (digit (slice_index w.care i) t) (cond (digit (slice_index w.on i) t) One Zero) Free
cell_at w i t = let place : suc i - 1 ≡ i = omega arith in rw place refl

-- the words of a table line
care_word_back : (w : Words) (i : ℕ) (l : Line) → IsSpec w → IsTableLine (specification w) (suc i) l → care_word l ≡ slice_index w.care i
care_word_back w i l spec table = same_from_digits _ _ (λ t. elim (cases_lt t (length l.text)) [
  | inl within ↦ ap (λ (b : ℕ). b == 1) (word_bit care_bit care_is_bit l.text t 0 within)
      ∙ ap (λ (c : ℕ). care_bit c == 1) (table.cells t (omega (arith, table.rows)) ∙ ap character (cell_at w i t))
      ∙ care_back _ _
  | inr past ↦ ap (λ (b : ℕ). b == 1) (word_none care_bit care_is_bit l.text t past) ∙ sym (spec.rows i t (omega (arith, table.rows)))
])

on_word_back : (w : Words) (i : ℕ) (l : Line) → IsSpec w → IsTableLine (specification w) (suc i) l → on_word l ≡ slice_index w.on i
on_word_back w i l spec table = same_from_digits _ _ (λ t. elim (cases_lt t (length l.text)) [
  | inl within ↦ ap (λ (b : ℕ). b == 1) (word_bit on_bit on_is_bit l.text t 0 within)
      ∙ ap (λ (c : ℕ). on_bit c == 1) (table.cells t (omega (arith, table.rows)) ∙ ap character (cell_at w i t))
      ∙ on_back _ _ (spec.inside i t)
  | inr past ↦ ap (λ (b : ℕ). b == 1) (word_none on_bit on_is_bit l.text t past) ∙ sym (on_ends w i t spec (omega (arith, table.rows)))
])

-- a table line is well-formed
row_back : (w : Words) (h : ℕ) (l : Line) → IsTableLine (specification w) h l → IsRow w.n l
row_back w h l table = record {
  ended = table.ended;
  rows = table.rows;
  cells = all_pass is_cell l.text (λ t within. rw (table.cells t (omega (arith, table.rows))) (character_is_cell (cell_of w h t)));
}

-- lines that spell the words of their index, up to the rest
pub record AreRows (n : ℕ) (ls : List Line) (us vs : List ℕ) : Type 0 where
  pub each : (i : ℕ) → i < length us → (l : Line) × (slice_get ls i ≡ Some l) × IsRow n l × (on_word l ≡ get_or us i 0) × (care_word l ≡ get_or vs i 0)

-- a line of cells doesn't begin with a lower-case letter
cell_not_lower : (xs : List ℕ) → 0 < length xs → list_all is_cell xs ≡ true → begins_lower xs ≡ false
cell_not_lower [] some good = absurd (omega arith)
cell_not_lower (x ∷ xs) some good = grind (arith, common_steps)

not_zero : (k : ℕ) → 0 < k → (k == 0) ≡ false
not_zero k some = not_true _ (λ is. let e : k ≡ 0 = eqb-true k 0 is in omega arith)

not_eight : (k : ℕ) → k < most_outputs → (k == most_outputs) ≡ false
not_eight k room = not_true _ (λ is. let e : k ≡ most_outputs = eqb-true k most_outputs is in omega arith)

-- a table line has at least one cell
has_row : (n : ℕ) (l : Line) → IsRow n l → 0 < length l.text
has_row n l good = omega (arith, good.rows, pow_pos n)

-- a well-formed line has no error
no_fault : (n number : ℕ) (l : Line) → IsRow n l → row_fault n number l ≡ None
no_fault n number l good = rw (good.ended, not_zero (length l.text) (has_row n l good), good.cells, eq-eqb (length l.text) (2 ^ n) good.rows) refl

-- the end of the tables
end_back : (w : Words) (rest : List Line) → EndsTables rest → 0 < length w.on → rows_of w rest ≡ Ok (record { words = w; rest = rest })
unfolding rows_of
end_back w [] end some = rw (not_zero (length w.on) some) refl
end_back w (l ∷ ls) end some = rw (end, not_zero (length w.on) some) refl

-- one more line
row_step : (w : Words) (l : Line) (ls : List Line) → IsRow w.n l → length w.on < most_outputs → rows_of w (l ∷ ls) ≡ rows_of (with_row w l.text) ls
unfolding rows_of
row_step w l ls good room = rw (cell_not_lower l.text (has_row w.n l good) good.cells, not_eight (length w.on) room, no_fault w.n (2 + length w.on) l good) refl

record FirstRow (n : ℕ) (l : Line) (u v : ℕ) : Type 0 where
  good : IsRow n l
  on : on_word l ≡ u
  care : care_word l ≡ v

same_line : (l t : Line) → slice_get (l ∷ []) 0 ≡ Some t → l ≡ t
same_line l t e = cc

first_row : (n : ℕ) (l : Line) (ls : List Line) (u v : ℕ) (us vs : List ℕ) → AreRows n (l ∷ ls) (u ∷ us) (v ∷ vs) → FirstRow n l u v
first_row n l ls u v us vs rows =
    let (t, found, good, on, care) = rows.each 0 (omega arith) in
    let e : l ≡ t = same_line l t found in
    record { good = rw e good; on = rw e on; care = rw e care }

other_rows : (n : ℕ) (l : Line) (ls : List Line) (u v : ℕ) (us vs : List ℕ) → AreRows n (l ∷ ls) (u ∷ us) (v ∷ vs) → AreRows n ls us vs
other_rows n l ls u v us vs rows = record { each = λ i within. rows.each (suc i) (omega arith) }

-- an element moves from the second list to the end of the first
regroup : (xs : List ℕ) (x y : ℕ) (ys : List ℕ) → x ≡ y → (xs ++ x ∷ []) ++ ys ≡ xs ++ y ∷ ys
regroup xs x y ys e = append_assoc xs (x ∷ []) ys ∙ ap (λ (z : ℕ). xs ++ z ∷ ys) e

-- lines that spell the words still to be read
rows_back : (n : ℕ) (on care us vs : List ℕ) (ls rest : List Line) → length vs ≡ length us → AreRows n ls us vs →
    rest ≡ drop (length us) ls → EndsTables rest → 0 < length on + length us → length on + length us ≤ most_outputs →
    rows_of (record { n = n; on = on; care = care }) ls ≡
    Ok (record { words = record { n = n; on = on ++ us; care = care ++ vs }; rest = rest })
rows_back n on care [] [] ls rest same rows following end some few = rw (append-nil on, append-nil care, ← following) (end_back (record { n = n; on = on; care = care }) rest end (omega arith))
rows_back n on care [] (v ∷ vs) ls rest same rows following end some few = absurd (omega arith)
rows_back n on care (u ∷ us) [] ls rest same rows following end some few = absurd (omega arith)
rows_back n on care (u ∷ us) (v ∷ vs) [] rest same rows following end some few = let (t, found, _, _, _) = rows.each 0 (omega arith) in absurd cc
rows_back n on care (u ∷ us) (v ∷ vs) (l ∷ ls) rest same rows following end some few =
    let first = first_row n l ls u v us vs rows in
    let count : length (on ++ on_word l ∷ []) ≡ length on + 1 = length-append on (on_word l ∷ []) in
    row_step (record { n = n; on = on; care = care }) l ls first.good (omega arith)
    ∙ rows_back n (on ++ on_word l ∷ []) (care ++ care_word l ∷ []) us vs ls rest (omega arith)
    (other_rows n l ls u v us vs rows) following end (omega (arith, count)) (omega (arith, count))
    ∙ ap₂ (λ (xs ys : List ℕ). let w : Words = record { n = n; on = xs; care = ys } in
    let r : Read = record { words = w; rest = rest } in let out : Result Read SpecError =
    Ok r in out) (regroup on (on_word l) u us first.on) (regroup care (care_word l) v vs first.care)

-- the header that is written for a number of inputs is read as it
header_back : (n : ℕ) → n ≤ 6 → inputs_of (inputs_line n) ≡ Some n
header_back n few = rw (word_back (codes "inputs ") (decimal n)) (number_back most_number n (omega arith) (omega arith))

not_over : (n : ℕ) → n ≤ 6 → nat_lt 6 n ≡ false
not_over n few = not_true _ (λ is. let e : 6 < n = ltb-true 6 n is in omega arith)

-- the table lines after a header
rows_spelled : (w : Words) (l : Line) (ls rest : List Line) → IsSpec w → SpellsTables (specification w) (l ∷ ls) rest → AreRows w.n ls w.on w.care
rows_spelled w l ls rest spec spells = record {
  each = λ i within.
      let (t, found, table) = spells.tables (suc i) (omega arith) (omega arith) in
      (t, found, row_back w (suc i) t table, on_word_back w i t spec table, care_word_back w i t spec table);
}

rest_is : (l : Line) (ls rest : List Line) (k : ℕ) → rest ≡ drop (1 + k) (l ∷ ls) → rest ≡ drop k ls
rest_is l ls rest k e = let more : 1 + k ≡ suc k = omega arith in rw more at e

-- Where lines spell a specification, it is read, followed by the rest.
pub tables_again : (w : Words) (ls rest : List Line) → IsSpec w → SpellsTables (specification w) ls rest → tables_of ls ≡ Ok (record { words = w; rest = rest })
tables_again w [] rest spec spells = absurd cc
tables_again w (l ∷ ls) rest spec spells =
    let inputs_first : l ≡ inputs_line w.n = same_line l (inputs_line w.n) spells.inputs_first in
    let rows = rows_back w.n [] [] w.on w.care ls rest spec.together (rows_spelled w l ls rest spec spells)
    (rest_is l ls rest (length w.on) spells.following) spells.end (omega (arith, spells.output))
    (omega (arith, spec.outputs)) in
    rw (inputs_first, header_back w.n spec.inputs, not_over w.n spec.inputs) rows
