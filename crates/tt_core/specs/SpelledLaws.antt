-- The text spells what is read.
use Rattle.std.proofs.Common.{◌≡◌, ◌⊎◌, ℕ, zero, suc, ◌+◌, ◌-◌, ◌^◌, ◌<◌, ◌≤◌, Bool, true, false, cond, List, [], ◌∷◌}
use Rattle.std.proofs.Common.{◌++◌, length, get_or, map, drop, Option, Some, None, Result, Ok, Err, refl, sym, ap, ap₂}
use Rattle.std.proofs.Common.{◌∙◌, arith, append_assoc, append-nil, inl, inr, ◌==◌, lit<}
use Rattle.std.specs.Prelude.{codes, decimal, slice_get, slice_index}
use Rattle.std.specs.Option.{option_and_then}
use Rattle.std.specs.List.{list_all, AllByRecursion}
use Rattle.std.proofs.lemmas.Grind.{common_steps}
use Rattle.std.proofs.lemmas.List.{length-map, drop_at}
use Rattle.text_core.specs.Lines.{Line}
use Rattle.text_core.specs.Numbers.{number_up_to}
use Rattle.text_core.specs.Words.{after, begins_lower}
use Rattle.text_core.specs.ReadBack.{word_spells, number_spells}
use Rattle.tt_core.specs.Cells.{is_cell, on_bit, care_bit, word_of}
use Rattle.chain_theory.specs.declared.data.Cell.TheVariants.{Zero, One, Free}
use Rattle.tt_core.specs.Words.{Words, specification}
use Rattle.tt_core.specs.declared.error.SpecError.{SpecError}
use Rattle.tt_core.specs.Tables.{Read, inputs_of, row_fault, with_row, end_of, unless_fault, rows_of, after_inputs, tables_of}
use Rattle.tt_core.specs.Spelling.{character, inputs_line, IsTableLine, EndsTables, SpellsTables}
use Rattle.tt_core.specs.CellWordLaws.{on_is_bit, care_is_bit}
use Rattle.tt_core.specs.KeepLaws.{word_bit}
use Rattle.text_core.specs.Limits.{most_number}

-- a well-formed table line: cells alone, as many as there are rows, and an LF
pub record IsRow (n : ℕ) (l : Line) : Type 0 where
  pub ended : l.ended ≡ true
  pub rows : length l.text ≡ 2 ^ n
  pub cells : list_all is_cell l.text ≡ true

-- the words that its output has
abbrev pub on_word : Line → ℕ
on_word l = word_of on_bit l.text

abbrev pub care_word : Line → ℕ
care_word l = word_of care_bit l.text

-- the table lines that were read after those of w
pub record ReadsRows (w : Words) (ls : List Line) (r : Read) : Type 0 where
  pub tables : List Line
  pub lines : ls ≡ tables ++ r.rest
  pub inputs : r.words.n ≡ w.n
  pub on : r.words.on ≡ w.on ++ map on_word tables
  pub care : r.words.care ≡ w.care ++ map care_word tables
  pub good : AllByRecursion (IsRow w.n) tables
  pub output : 0 < length r.words.on
  pub end : EndsTables r.rest

-- the tables end without an error
end_ok : (w : Words) (ls : List Line) (r : Read) → end_of w ls ≡ Ok r → (0 < length w.on) × (r ≡ record { words = w; rest = ls })
end_ok w ls r e = (grind (arith, common_steps), grind (arith, common_steps))

-- a table line without an error
row_ok : (n number : ℕ) (l : Line) (read : Result Read SpecError) (r : Read) → unless_fault (row_fault n number l) read ≡ Ok r → IsRow n l × (read ≡ Ok r)
row_ok n number l read r e = (record { ended = grind (arith, common_steps); rows = grind (arith, common_steps); cells = grind (arith, common_steps) }, grind (arith, common_steps))

-- one table line before those that were read
row_prefix : (w : Words) (l : Line) (ls : List Line) (r : Read) → IsRow w.n l → ReadsRows (with_row w l.text) ls r → ReadsRows w (l ∷ ls) r
row_prefix w l ls r good reads = record {
  tables = l ∷ reads.tables;
  lines = ap (λ (xs : List Line). l ∷ xs) reads.lines;
  inputs = reads.inputs;
  on = reads.on ∙ append_assoc w.on (on_word l ∷ []) (map on_word reads.tables);
  care = reads.care ∙ append_assoc w.care (care_word l ∷ []) (map care_word reads.tables);
  good = (good, reads.good);
  output = reads.output;
  end = reads.end;
}

-- no further table line
no_row : (w : Words) (ls : List Line) (r : Read) → EndsTables ls → end_of w ls ≡ Ok r → ReadsRows w ls r
no_row w ls r end e =
    let done = end_ok w ls r e in
    rw done.1 record { tables = []; lines = refl; inputs = refl; on = sym (append-nil w.on); care = sym (append-nil w.care); good = tt; output = done.0; end = end }

-- a test that went one way or the other
chosen : {A : Type 0} (b : Bool) (x y z : A) → cond b x y ≡ z → ((b ≡ true) × (x ≡ z)) ⊎ ((b ≡ false) × (y ≡ z))
chosen true x y z e = inl (refl, e)
chosen false x y z e = inr (refl, e)

not_full : (b : Bool) (fault : SpecError) (read : Result Read SpecError) (r : Read) → cond b (Err fault) read ≡ Ok r → read ≡ Ok r
not_full true fault read r e = absurd cc
not_full false fault read r e = e

rows_read : (w : Words) (ls : List Line) (r : Read) → rows_of w ls ≡ Ok r → ReadsRows w ls r
unfolding rows_of
rows_read w [] r e = no_row w [] r tt e
rows_read w (l ∷ ls) r e =
    elim (chosen (begins_lower l.text) _ _ _ e) [
      | inl (lower, at_end) ↦ no_row w (l ∷ ls) r lower at_end
      | inr (_, more) ↦
          let step = row_ok w.n _ l _ r (not_full _ _ _ _ more) in
          row_prefix w l ls r step.0 (rows_read (with_row w l.text) ls r step.1)
    ]

-- the value that a chain of two options gave
and_then_ok : {A : Type 0} (o : Option A) (f : A → Option ℕ) (n : ℕ) → option_and_then f o ≡ Some n → (x : A) × (o ≡ Some x) × (f x ≡ Some n)
and_then_ok None f n e = absurd cc
and_then_ok (Some x) f n e = (x, refl, e)

line_is : (l : Line) (text : List ℕ) → l.text ≡ text → l.ended ≡ true → l ≡ record { text = text; ended = true }
line_is l text e ended = let line : List ℕ → Bool → Line = λ t b. record { text = t; ended = b } in ap₂ line e ended

-- a header that is read spells its number of inputs
header_read : (l : Line) (n : ℕ) → inputs_of l ≡ Some n → l ≡ inputs_line n
header_read l n e =
    elim (chosen l.ended _ _ _ e) [
      | inl (ended, some) ↦
          let digits = and_then_ok (after (codes "inputs ") l.text) (number_up_to most_number) n some in
          let spelled = number_spells most_number n digits.0 (lit< tt) digits.2 in
          line_is l (codes "inputs " ++ decimal n) (word_spells (codes "inputs ") l.text digits.0 digits.1 ∙ ap (λ (xs : List ℕ). codes "inputs " ++ xs) spelled.1) ended
      | inr (_, none) ↦ absurd cc
    ]

-- the table line at an index: its words are at the same index
record TableAt (n i : ℕ) (tables rest : List Line) : Type 0 where
  line : Line
  found : slice_get (tables ++ rest) i ≡ Some line
  good : IsRow n line
  on : get_or (map on_word tables) i 0 ≡ on_word line
  care : get_or (map care_word tables) i 0 ≡ care_word line

table_at : (n i : ℕ) (tables rest : List Line) → AllByRecursion (IsRow n) tables → i < length tables → TableAt n i tables rest
table_at n i [] rest good within = absurd (omega arith)
table_at n zero (l ∷ tables) rest good within = record { line = l; found = refl; good = good.0; on = refl; care = refl }
table_at n (suc i) (l ∷ tables) rest good within =
    let inner = table_at n i tables rest good.1 (omega arith) in
    record { line = inner.line; found = inner.found; good = inner.good; on = inner.on; care = inner.care }

-- the character of a cell gives the cell
cell_back : (c : ℕ) → is_cell c ≡ true → character (cond (care_bit c == 1) (cond (on_bit c == 1) One Zero) Free) ≡ c
cell_back c good = grind (arith, common_steps)

-- a header without an error, and the lines after it
header_ok : (o : Option ℕ) (ls : List Line) (r : Read) → after_inputs o ls ≡ Ok r → (n : ℕ) × (o ≡ Some n) × ReadsRows (record { n = n; on = []; care = [] }) ls r
header_ok None ls r e = absurd cc
header_ok (Some n) ls r e = (n, refl, rows_read (record { n = n; on = []; care = [] }) ls r (not_full _ _ _ _ e))

-- a property of all elements holds at an index
pass_at : (p : ℕ → Bool) (xs : List ℕ) (i : ℕ) → i < length xs → list_all p xs ≡ true → p (get_or xs i 0) ≡ true
pass_at p [] i within all = absurd (omega arith)
pass_at p (x ∷ xs) zero within all = grind (arith, common_steps)
pass_at p (x ∷ xs) (suc i) within all = pass_at p xs i (omega arith) (grind (arith, common_steps))

-- a well-formed line spells its output
line_spelled : (w : Words) (i : ℕ) (l : Line) → IsRow w.n l → slice_index w.on i ≡ on_word l → slice_index w.care i ≡ care_word l → IsTableLine (specification w) (suc i) l
line_spelled w i l good on care = record {
  ended = good.ended;
  rows = good.rows;
  cells = λ t low.
      let within : t < length l.text = omega (arith, good.rows) in
      let place : suc i - 1 ≡ i = omega arith in
      rw (
        place,
        care,
        on,
        word_bit care_bit care_is_bit l.text t 0 within,
        word_bit on_bit on_is_bit l.text t 0 within,
      )
      (sym (cell_back (get_or l.text t 0) (pass_at is_cell l.text t within good.cells)));
}

table_spelled : (l : Line) (ls : List Line) (r : Read) (n : ℕ) →
    ReadsRows (record { n = n; on = []; care = [] }) ls r → (h : ℕ) → 0 < h → h ≤ length r.words.on → (t : Line) ×
    (slice_get (l ∷ ls) h ≡ Some t) × IsTableLine (specification r.words) h t
table_spelled l ls r n reads zero some low = absurd (omega arith)
table_spelled l ls r n reads (suc i) some low =
    let count : length r.words.on ≡ length reads.tables = ap length reads.on ∙ length-map reads.tables on_word in
    let at = table_at n i reads.tables r.rest reads.good (omega arith) in
    let good : IsRow r.words.n at.line = rw reads.inputs at.good in
    let on : slice_index r.words.on i ≡ on_word at.line = ap (λ (xs : List ℕ). slice_index xs i) reads.on ∙ at.on in
    let care : slice_index r.words.care i ≡ care_word at.line = ap (λ (xs : List ℕ). slice_index xs i) reads.care ∙ at.care in
    (at.line, ap (λ (xs : List Line). slice_get xs i) reads.lines ∙ at.found, line_spelled r.words i at.line good on care)

rest_after : (l : Line) (tables rest ls : List Line) (k : ℕ) → ls ≡ tables ++ rest → k ≡ length tables → rest ≡ drop (1 + k) (l ∷ ls)
rest_after l tables rest ls k e count = let more : 1 + k ≡ suc k = omega arith in rw (more, e) (sym (drop_at tables rest k (sym count)))

-- Lines that are read spell what was read.
pub tables_spelled : (ls : List Line) (r : Read) → tables_of ls ≡ Ok r → SpellsTables (specification r.words) ls r.rest
tables_spelled [] r e = absurd cc
tables_spelled (l ∷ ls) r e =
    let found = header_ok (inputs_of l) ls r e in
    let reads = found.2 in
    let count : length r.words.on ≡ length reads.tables = ap length reads.on ∙ length-map reads.tables on_word in
    record {
      inputs_first = ap (λ (x : Line). Some x) (header_read l r.words.n (found.1 ∙ ap (λ (k : ℕ). Some k) (sym reads.inputs)));
      tables = table_spelled l ls r found.0 reads;
      output = reads.output;
      following = rest_after l reads.tables r.rest ls (length r.words.on) reads.lines count;
      end = reads.end;
    }
