-- Tables that are read are a specification.
use Rattle.std.specs.Prelude.{◌≡◌, ℕ, ◌+◌, ◌<◌, ◌≤◌, ◌^◌, ◌==◌, ◌&&◌, Bool, true, false, cond, List, [], ◌∷◌, ◌++◌, length, Option, Some, None, Result, Ok, Err, nat_lt, not}
use Rattle.std.specs.List.{list_all}
use Rattle.std.proofs.Common.{refl, ap, subst, arith}
use Rattle.std.proofs.lemmas.Bool.Decides.{nat_tests}
use Rattle.text_core.specs.Lines.{Line}
use Rattle.text_core.specs.Words.{begins_lower}
use Rattle.tt_core.specs.Cells.{is_cell, on_bit, care_bit, word_of}
use Rattle.tt_core.specs.Words.{Words, IsSpec}
use Rattle.tt_core.specs.Tables.{Read, inputs_of, row_fault, with_row, end_of, unless_fault, rows_of, after_inputs, tables_of}
use Rattle.tt_core.specs.KeepLaws.{kept}
use Rattle.tt_core.specs.declared.error.SpecError.{SpecError}
use Rattle.tt_core.specs.declared.error.SpecError.TheVariants.{BadRow, WrongLength, TooManyInputs, TooManyOutputs, NoOutput}

abbrev read_so : Read → Result Read SpecError
read_so x = Ok x

ok_words : (a b : Read) → read_so a ≡ read_so b → a.words ≡ b.words
ok_words a b e = let same : a ≡ b = cc in ap (λ (x : Read). x.words) same

-- what came before the end is what was read
at_end : (none : Bool) (w : Words) (rest : List Line) (r : Read) → cond none (Err NoOutput) (Ok (record { words = w; rest = rest })) ≡ Ok r → w ≡ r.words
at_end true w rest r e = absurd cc
at_end false w rest r e = ok_words (record { words = w; rest = rest }) r e

-- a line without a fault has a cell for each row
has_length : (good long : Bool) (number : ℕ) → cond good (cond long None (Some (WrongLength number))) (Some (BadRow number)) ≡ None → long ≡ true
has_length true true number e = refl
has_length true false number e = absurd cc
has_length false long number e = absurd cc

none_or : (fault : Option SpecError) (read : Result Read SpecError) (r : Read) → unless_fault fault read ≡ Ok r → (fault ≡ None) × (read ≡ Ok r)
none_or None read r e = (refl, e)
none_or (Some fault) read r e = absurd cc

-- one more line, or the end
row_step : (lower full : Bool) (w : Words) (l : Line) (ls : List Line) (r : Read) → (length w.on == 8) ≡ full →
    IsSpec w → (IsSpec (with_row w l.text) → rows_of (with_row w l.text) ls ≡ Ok r → IsSpec r.words) →
    cond lower (end_of w (l ∷ ls)) (cond full (Err TooManyOutputs)
    (unless_fault (row_fault w.n (2 + length w.on) l) (rows_of (with_row w l.text) ls))) ≡ Ok r → IsSpec r.words
row_step true full w l ls r is spec next e = subst (λ (x : Words). IsSpec x) (at_end (length w.on == 0) w (l ∷ ls) r e) spec
row_step false true w l ls r is spec next e = absurd cc
row_step false false w l ls r is spec next e =
    let parts = none_or (row_fault w.n (2 + length w.on) l) (rows_of (with_row w l.text) ls) r e in
    let long : (length l.text == 2 ^ w.n) ≡ true = has_length ((l.ended && not (length l.text == 0)) && list_all is_cell l.text) (length l.text == 2 ^ w.n) (2 + length w.on) parts.0 in
    let rows : length l.text ≡ 2 ^ w.n = grind (arith, nat_tests) in
    let few = spec.outputs in
    let room : length w.on < 8 = grind (arith, nat_tests) in
    next (kept w.n w.on w.care (w.on ++ word_of on_bit l.text ∷ []) (w.care ++ word_of care_bit l.text ∷ []) l.text spec room rows refl refl) parts.1

rows_whole : (w : Words) (ls : List Line) (r : Read) → IsSpec w → rows_of w ls ≡ Ok r → IsSpec r.words
unfolding rows_of
rows_whole w [] r spec e = subst (λ (x : Words). IsSpec x) (at_end (length w.on == 0) w [] r e) spec
rows_whole w (l ∷ ls) r spec e =
    row_step (begins_lower l.text) (length w.on == 8) w l ls r refl spec (λ next more. rows_whole (with_row w l.text) ls r next more) e

-- the specification without outputs
nothing_whole : (n : ℕ) → n ≤ 6 → IsSpec (record { n = n; on = []; care = [] })
nothing_whole n low = record {
  inputs = low;
  outputs = omega arith;
  together = refl;
  inside = λ i t is. is;
  rows = λ i t past. grind (arith);
}

header_whole : (many : Bool) (n : ℕ) (ls : List Line) (r : Read) → nat_lt 6 n ≡ many → cond many (Err TooManyInputs) (rows_of (record { n = n; on = []; care = [] }) ls) ≡ Ok r → IsSpec r.words
header_whole true n ls r is e = absurd cc
header_whole false n ls r is e =
    let low : n ≤ 6 = grind (arith, nat_tests) in
    rows_whole (record { n = n; on = []; care = [] }) ls r (nothing_whole n low) e

inputs_whole : (o : Option ℕ) (ls : List Line) (r : Read) → after_inputs o ls ≡ Ok r → IsSpec r.words
inputs_whole None ls r e = absurd cc
inputs_whole (Some n) ls r e = header_whole (nat_lt 6 n) n ls r refl e

pub tables_whole : (ls : List Line) (r : Read) → tables_of ls ≡ Ok r → IsSpec r.words
tables_whole [] r e = absurd cc
tables_whole (l ∷ ls) r e = inputs_whole (inputs_of l) ls r e
