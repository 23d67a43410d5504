-- Lines that are accepted as tables spell them.
use Rattle.std.proofs.Common.{◌≡◌, ◌⊎◌, ℕ, zero, suc, ◌+◌, ◌^◌, ◌<◌, ◌≤◌, ◌==◌, Bool, true, false, cond, List, [], ◌∷◌}
use Rattle.std.proofs.Common.{◌++◌, length, map, drop, Option, Some, None, Result, Ok, Err, refl, sym, ap, ◌∙◌, subst}
use Rattle.std.proofs.Common.{arith, inl, inr}
use Rattle.std.specs.Prelude.{slice_get, nat_lt}
use Rattle.std.specs.List.{range_with_len}
use Rattle.std.proofs.Math.Logic.{⊎_elim}
use Rattle.std.proofs.lemmas.Grind.{common_steps}
use Rattle.std.proofs.lemmas.Bool.Decides.{nat_tests}
use Rattle.std.proofs.lemmas.Nat.Bits.{bit_at-zero}
use Rattle.cert_laws.specs.LineSpellings.{chosen}
use Rattle.std.proofs.lemmas.List.FromFn.{fill_by_all}
use Rattle.text_core.specs.Lines.{Line}
use Rattle.text_core.specs.Words.{begins_lower}
use Rattle.tt_core.specs.Words.{Words, IsSpec, specification, cell_of}
use Rattle.tt_core.specs.Spelling.{character, inputs_line, IsTableLine, SpellsTables}
use Rattle.tt_core.specs.Tables.{Read, row_fault, with_row, end_of, unless_fault, rows_of, after_inputs, inputs_of, tables_of}
use Rattle.tt_core.specs.declared.error.SpecError.{SpecError}
use Rattle.tt_core.specs.declared.error.SpecError.TheVariants.{TooManyInputs, TooManyOutputs}
use Rattle.tt_core.specs.KeepLaws.{kept}
use Rattle.tt_core.specs.SpelledLaws.{tables_spelled}
use Rattle.chain_core.specs.WrittenListLaws.{line_is}
use Rattle.cert_theory.specs.Spelling.{table_text, table_line, tables_lines}
use Rattle.chain_theory.specs.Limits.{most_inputs, most_outputs}

-- ---- the tables are a specification

end_keeps : (w : Words) (rest : List Line) (r : Read) → end_of w rest ≡ Ok r → w ≡ r.words
end_keeps w rest r e = grind (arith, common_steps)

fault_rows : (n number : ℕ) (l : Line) → row_fault n number l ≡ None → length l.text ≡ 2 ^ n
fault_rows n number l e = grind (arith, common_steps)

unless_is : (fault : Option SpecError) (next : Result Read SpecError) (r : Read) → unless_fault fault next ≡ Ok r → (fault ≡ None) × (next ≡ Ok r)
unless_is None next r e = (refl, e)
unless_is (Some fault) next r e = absurd cc

row_by : (b c : Bool) (fault : Option SpecError) (end next : Result Read SpecError) (r : Read) →
    cond b end (cond c (Err TooManyOutputs) (unless_fault fault next)) ≡ Ok r → (end ≡ Ok r) ⊎
    ((c ≡ false) × (fault ≡ None) × (next ≡ Ok r))
row_by true c fault end next r e = inl e
row_by false true fault end next r e = absurd cc
row_by false false fault end next r e = let halves = unless_is fault next r e in inr (refl, halves.0, halves.1)

few_rows : (m : ℕ) → m ≤ most_outputs → (m == most_outputs) ≡ false → m < most_outputs
few_rows m few not_ = grind (arith, nat_tests)

rows_keep : (ls : List Line) (w : Words) (r : Read) → IsSpec w → rows_of w ls ≡ Ok r → IsSpec r.words
unfolding rows_of
rows_keep [] w r spec e = subst (λ (v : Words). IsSpec v) (end_keeps w [] r e) spec
rows_keep (l ∷ ls) w r spec e =
    ⊎_elim
    (λ (ends : end_of w (l ∷ ls) ≡ Ok r). subst (λ (v : Words). IsSpec v) (end_keeps w (l ∷ ls) r ends) spec)
    (λ (more : ((length w.on == most_outputs) ≡ false) × (row_fault w.n (2 + length w.on) l ≡ None) × (rows_of (with_row w l.text) ls ≡ Ok r)).
    rows_keep ls (with_row w l.text) r
    (kept w.n w.on w.care _ _ l.text spec (few_rows (length w.on) spec.outputs more.0) (fault_rows w.n (2 + length w.on) l more.1) refl refl)
    more.2)
    (row_by (begins_lower l.text) (length w.on == most_outputs) (row_fault w.n (2 + length w.on) l) (end_of w (l ∷ ls)) (rows_of (with_row w l.text) ls) r e)

empty_spec : (n : ℕ) → n ≤ most_inputs → IsSpec (record { n = n; on = []; care = [] })
empty_spec n low = record { inputs = low; outputs = omega arith; together = refl; inside = λ i t e. e; rows = λ i t past. ap (λ (x : ℕ). x == 1) (bit_at-zero t) }

low_is : (n : ℕ) → nat_lt most_inputs n ≡ false → n ≤ most_inputs
low_is n e = grind (arith, nat_tests)

abbrev too_many : Result Read SpecError
too_many = Err TooManyInputs

inputs_keep : (o : Option ℕ) (ls : List Line) (r : Read) → after_inputs o ls ≡ Ok r → IsSpec r.words
inputs_keep None ls r e = absurd cc
inputs_keep (Some n) ls r e =
    ⊎_elim
    (λ (yes_ : (nat_lt most_inputs n ≡ true) × (too_many ≡ Ok r)). absurd (let f = yes_.1 in cc))
    (λ (no_ : (nat_lt most_inputs n ≡ false) × (rows_of (record { n = n; on = []; care = [] }) ls ≡ Ok r)). rows_keep ls (record { n = n; on = []; care = [] }) r (empty_spec n (low_is n no_.0)) no_.1)
    (chosen (nat_lt most_inputs n) too_many (rows_of (record { n = n; on = []; care = [] }) ls) (Ok r) e)

pub read_spec : (ls : List Line) (r : Read) → tables_of ls ≡ Ok r → IsSpec r.words
read_spec [] r e = absurd cc
read_spec (l ∷ ls) r e = inputs_keep (inputs_of l) ls r e

-- ---- and the lines are their text

table_is : (w : Words) (h : ℕ) (l : Line) → IsTableLine (specification w) h l → l ≡ table_line w h
unfolding table_text
table_is w h l is = line_is l (table_text w h) is.ended (fill_by_all (λ t. character (cell_of w h t)) l.text (2 ^ w.n) 0 is.rows (λ t low. is.cells t low))

line_some : (l m : Line) → Some l ≡ Some m → l ≡ m
line_some l m e = cc

-- the tables of the outputs after the first k
tables_from : (w : Words) (m k : ℕ) (ls rest : List Line) →
    ((i : ℕ) → i < m → slice_get ls i ≡ Some (table_line w (k + i + 1))) → rest ≡ drop m ls →
    ls ≡ map (λ i. table_line w (i + 1)) (range_with_len k m) ++ rest
tables_from w zero k ls rest each is = sym is
tables_from w (suc m) k [] rest each is = let first = each 0 (omega arith) in absurd cc
tables_from w (suc m) k (l ∷ ls) rest each is =
    let here : k + 0 + 1 ≡ k + 1 = omega arith in
    let first : l ≡ table_line w (k + 1) = line_some l (table_line w (k + 0 + 1)) (each 0 (omega arith)) ∙ ap (table_line w) here in
    let others = tables_from w m (k + 1) ls rest (λ i low. let next : k + suc i + 1 ≡ k + 1 + i + 1 = omega arith in each (suc i) (omega arith) ∙ ap (λ (n : ℕ). Some (table_line w n)) next) is in
    λ i. first i ∷ others i

table_of : (w : Words) (ls rest : List Line) (l : Line) → SpellsTables (specification w) (l ∷ ls) rest → (i : ℕ) → i < length w.on → slice_get ls i ≡ Some (table_line w (0 + i + 1))
table_of w ls rest l spells i low =
    let table = spells.tables (suc i) (omega arith) (omega arith) in
    let same : suc i ≡ 0 + i + 1 = omega arith in
    table.1 ∙ ap (λ (m : Line). Some m) (table_is w (suc i) table.0 table.2) ∙ ap (λ (n : ℕ). Some (table_line w n)) same

-- the lines of the tables, and those after them
pub tables_are : (w : Words) (ls rest : List Line) → SpellsTables (specification w) ls rest → ls ≡ tables_lines w ++ rest
tables_are w [] rest spells = let inputs_first = spells.inputs_first in absurd cc
tables_are w (l ∷ ls) rest spells =
    let first : l ≡ inputs_line w.n = line_some l (inputs_line w.n) spells.inputs_first in
    let following : rest ≡ drop (length w.on) ls = spells.following ∙ ap (λ (n : ℕ). drop n (l ∷ ls)) (one_more (length w.on)) in
    let others = tables_from w (length w.on) 0 ls rest (table_of w ls rest l spells) following in
    λ i. first i ∷ others i
  where
    one_more : (n : ℕ) → 1 + n ≡ suc n
    one_more n = omega arith

pub record ReadTables (ls : List Line) (r : Read) : Type 0 where
  pub spec : IsSpec r.words
  pub output : 0 < length r.words.on
  pub lines : ls ≡ tables_lines r.words ++ r.rest

pub tables_read : (ls : List Line) (r : Read) → tables_of ls ≡ Ok r → ReadTables ls r
tables_read ls r e =
    let spells = tables_spelled ls r e in
    record { spec = read_spec ls r e; output = spells.output; lines = tables_are r.words ls r.rest spells }
