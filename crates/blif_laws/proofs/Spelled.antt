-- The text of a document is parsed as that document.
use Rattle.std.specs.Prelude.{◌≡◌, ℕ, zero, suc, ◌+◌, ◌≤◌, Bool, true, false, not, ◌||◌, ◌==◌, if◌then◌else◌, List, [], ◌∷◌, ◌++◌, length, map, All, Option, Some, None, Result, Ok, codes, refl}
use Rattle.std.specs.List.{flat_map, filter_map, cons_option, list_all}
use Rattle.std.specs.Option.{option_map}
use Rattle.std.proofs.Common.{arith, sym, ◌∙◌, ap, subst, ⊎_elim, append_assoc, append-nil, length-append}
use Rattle.std.proofs.lemmas.Bool.{cond_both, cond-false, eqb-true, eqb-false, cases_lt, and_parts, and_from, or_cases, not_from_false}
use Rattle.std.proofs.lemmas.Grind.{flat_map-append}
use Rattle.std.proofs.lemmas.List.Elements.{All-nil, All-cons, All-append, All-push, All-head, All-tail}
use Rattle.net_theory.specs.declared.data.Trigger.{Trigger}
use Rattle.net_theory.specs.declared.data.Trigger.TheVariants.{Fe, Re, Ah, Al, As}
use Rattle.net_theory.specs.Cover.{is_cube, is_cube_byte}
use Rattle.net_theory.specs.Document.{Name, IsName, is_name, is_name_byte, has, Table, LatchLine, Document, table_output, latch_of}
use Rattle.net_theory.specs.WellFormed.{IsTable, IsLatchLine, IsControl, IsInit, IsFreeOf}
use Rattle.net_theory.specs.Naming.{control_of, second_of}
use Rattle.net_core.specs.declared.error.NetError.{NetError}
use Rattle.net_document.specs.Listed.{AreControlsFree}
use Rattle.blif_text.specs.Logical.{logical_of}
use Rattle.blif_text.specs.Reading.{◌>>=◌}
use Rattle.blif_text.specs.Statements.{Said, Control, nothing, steps, said_of, listed_of, listed_by, control_fault, unless}
use Rattle.blif_text.specs.SaidLaws.{control_name}
use Rattle.blif_text.specs.StepLaws.{IsComplete}
use Rattle.blif_text.specs.ListingLaws.{said_whole, text_listed}
use Rattle.blif_core.specs.Spelling.{word_text, words_text, rest_text, list_text, clocks_text, trigger_text, control_text, init_text, latch_text, digit_text, row_text, table_text, model_text, spelled}
use Rattle.net_document.specs.Format.{IsReadBack}
use Rattle.blif_core.specs.Blif.{blif_format}
use Rattle.blif_laws.specs.Spelled.{IsSpelledTable, IsBlifSpelling}
use Rattle.blif_laws.proofs.WordLines.{line_of}
use Rattle.blif_laws.proofs.Saying.{WordLine, line, line_text, IsLine, said_by, lines_said, Says, says_none, says_then}
use Rattle.blif_laws.proofs.Saying.{Has, model_line, model_alone, model_said, rest_lines, list_said, add_inputs}
use Rattle.blif_laws.proofs.Saying.{add_outputs, add_clocks, adds_inputs, adds_outputs, adds_clocks, control_words}
use Rattle.blif_laws.proofs.Saying.{init_words, latch_words, latch_line, add_latches, latches_said, end_line, end_said}
use Rattle.blif_laws.proofs.TableLines.{names_line, row_line, table_lines, add_tables, tables_said}
use Rattle.net_theory.specs.Limits.{most_table_inputs, most_name_bytes}

-- ---- its lines

abbrev list_lines : Name → List Name → List WordLine
list_lines keyword names = rest_lines keyword [] 0 names

abbrev clock_lines : List Name → List WordLine
clock_lines [] = []
clock_lines (n ∷ ns) = list_lines (codes ".clock") (n ∷ ns)

abbrev input_part : Document → List WordLine
input_part d = (model_line d.model ∷ []) ++ list_lines (codes ".inputs") d.inputs

abbrev output_part : Document → List WordLine
output_part d = input_part d ++ list_lines (codes ".outputs") d.outputs

abbrev clock_part : Document → List WordLine
clock_part d = output_part d ++ clock_lines d.clocks

abbrev latch_part : Document → List WordLine
latch_part d = clock_part d ++ map latch_line d.latches

abbrev table_part : Document → List WordLine
table_part d = latch_part d ++ flat_map table_lines d.tables

abbrev document_lines : Document → List WordLine
document_lines d = table_part d ++ end_line ∷ []

-- ---- the text consists of these lines

abbrev lines_text : List WordLine → List ℕ
lines_text ls = flat_map line_text ls

words_push : (ws : List Name) (n : Name) → words_text (ws ++ n ∷ []) ≡ words_text ws ++ word_text n
words_push ws n = flat_map-append word_text ws (n ∷ []) ∙ ap (λ (xs : List ℕ). words_text ws ++ xs) (append-nil (word_text n))

-- the first line of a list, and a continued one
first_word : (keyword n : Name) (rest : List ℕ) → line_of keyword (n ∷ []) ++ rest ≡ (keyword ++ word_text n) ++ rest
first_word keyword n rest = ap (λ (xs : List ℕ). (keyword ++ xs) ++ rest) (append-nil (word_text n))

next_word : (keyword : Name) (names : List Name) (n : Name) (rest : List ℕ) → line_of keyword (names ++ n ∷ []) ++ rest ≡ line_of keyword names ++ (word_text n ++ rest)
next_word keyword names n rest =
    ap (λ (xs : List ℕ). (keyword ++ xs) ++ rest) (words_push names n)
    ∙ ap (λ (xs : List ℕ). xs ++ rest) (sym (append_assoc keyword (words_text names) (word_text n)))
    ∙ append_assoc (line_of keyword names) (word_text n) rest

-- one more name, on the current or a new line
rest_by : (keyword : Name) (names : List Name) (count : ℕ) (n : Name) (ns : List Name) (full : Bool) →
    line_of keyword (n ∷ []) ++ rest_text keyword 1 ns ≡ lines_text (rest_lines keyword (n ∷ []) 1 ns) →
    line_of keyword (names ++ n ∷ []) ++ rest_text keyword (count + 1) ns ≡ lines_text (rest_lines keyword (names ++ n ∷ []) (count + 1) ns) →
    line_of keyword names ++ (if full then 10 ∷ (keyword ++ word_text n ++ rest_text keyword 1 ns) else word_text n ++ rest_text keyword (count + 1) ns)
    ≡ lines_text (if full then line keyword names ∷ rest_lines keyword (n ∷ []) 1 ns else rest_lines keyword (names ++ n ∷ []) (count + 1) ns)
rest_by keyword names count n ns true first next =
    sym (append_assoc (line_of keyword names) (10 ∷ []) (keyword ++ word_text n ++ rest_text keyword 1 ns))
    ∙ ap (λ (xs : List ℕ). (line_of keyword names ++ 10 ∷ []) ++ xs) (sym (first_word keyword n (rest_text keyword 1 ns)) ∙ first)
rest_by keyword names count n ns false first next = sym (next_word keyword names n (rest_text keyword (count + 1) ns)) ∙ next

rest_spelled : (keyword : Name) (names : List Name) (count : ℕ) (ns : List Name) → line_of keyword names ++ rest_text keyword count ns ≡ lines_text (rest_lines keyword names count ns)
unfolding rest_text rest_lines
rest_spelled keyword names count [] = sym (append-nil (line_of keyword names ++ 10 ∷ []))
rest_spelled keyword names count (n ∷ ns) =
    rest_by keyword names count n ns (count == 16) (rest_spelled keyword (n ∷ []) 1 ns) (rest_spelled keyword (names ++ n ∷ []) (count + 1) ns)

list_spelled : (keyword : Name) (names : List Name) → list_text keyword names ≡ lines_text (list_lines keyword names)
list_spelled keyword names = ap (λ (xs : List ℕ). xs ++ rest_text keyword 0 names) (sym (append-nil keyword)) ∙ rest_spelled keyword [] 0 names

clocks_spelled : (clocks : List Name) → clocks_text clocks ≡ lines_text (clock_lines clocks)
clocks_spelled [] = refl
clocks_spelled (n ∷ ns) = list_spelled (codes ".clock") (n ∷ ns)

init_spelled : (init : Option ℕ) → words_text (init_words init) ≡ init_text init
init_spelled None = refl
init_spelled (Some init) = refl

control_spelled : (control : Option (Trigger × Name)) → words_text (control_words control) ≡ control_text control
control_spelled None = refl
control_spelled (Some c) = ap (λ (xs : List ℕ). word_text (trigger_text c.0) ++ xs) (append-nil (word_text c.1))

tail_spelled : (control : Option (Trigger × Name)) (init : Option ℕ) → words_text (control_words control ++ init_words init) ≡ control_text control ++ init_text init
tail_spelled control init =
    flat_map-append word_text (control_words control) (init_words init)
    ∙ ap (λ (xs : List ℕ). xs ++ words_text (init_words init)) (control_spelled control)
    ∙ ap (λ (xs : List ℕ). control_text control ++ xs) (init_spelled init)

five : (a b c d e : List ℕ) → (((a ++ b) ++ c) ++ d) ++ e ≡ a ++ (b ++ (c ++ (d ++ e)))
five a b c d e = append_assoc ((a ++ b) ++ c) d e ∙ append_assoc (a ++ b) c (d ++ e) ∙ append_assoc a b (c ++ (d ++ e))

latch_spelled : (l : LatchLine) → latch_text l ≡ line_text (latch_line l)
latch_spelled l =
    ap (λ (xs : List ℕ). xs ++ 10 ∷ []) (five (codes ".latch") (word_text l.input) (word_text l.latch.output) (control_text l.latch.control) (init_text l.latch.init))
    ∙ ap (λ (xs : List ℕ). (codes ".latch" ++ (word_text l.input ++ (word_text l.latch.output ++ xs))) ++ 10 ∷ []) (sym (tail_spelled l.latch.control l.latch.init))

latches_spelled : (ls : List LatchLine) → flat_map latch_text ls ≡ lines_text (map latch_line ls)
latches_spelled [] = refl
latches_spelled (l ∷ ls) =
    ap (λ (xs : List ℕ). xs ++ flat_map latch_text ls) (latch_spelled l) ∙ ap (λ (xs : List ℕ). line_text (latch_line l) ++ xs) (latches_spelled ls)

row_spelled : (on : Bool) (cube : List ℕ) → row_text on cube ≡ line_text (row_line on cube)
row_spelled on [] = refl
row_spelled on (b ∷ bs) =
    append_assoc (b ∷ bs) (32 ∷ []) (digit_text on ∷ 10 ∷ []) ∙ sym (append_assoc (b ∷ bs) (32 ∷ digit_text on ∷ []) (10 ∷ []))

rows_spelled : (on : Bool) (cubes : List (List ℕ)) → flat_map (row_text on) cubes ≡ lines_text (map (row_line on) cubes)
rows_spelled on [] = refl
rows_spelled on (c ∷ cs) =
    ap (λ (xs : List ℕ). xs ++ flat_map (row_text on) cs) (row_spelled on c)
    ∙ ap (λ (xs : List ℕ). line_text (row_line on c) ++ xs) (rows_spelled on cs)

table_spelled : (t : Table) → table_text t ≡ lines_text (table_lines t)
table_spelled t =
    ap (λ (xs : List ℕ). (xs ++ 10 ∷ []) ++ flat_map (row_text t.cover.on) t.cover.cubes)
    (append_assoc (codes ".names") (words_text t.inputs) (word_text t.output)
    ∙ ap (λ (xs : List ℕ). codes ".names" ++ xs) (sym (words_push t.inputs t.output)))
    ∙ ap (λ (xs : List ℕ). line_text (names_line t) ++ xs) (rows_spelled t.cover.on t.cover.cubes)

tables_spelled : (ts : List Table) → flat_map table_text ts ≡ lines_text (flat_map table_lines ts)
tables_spelled [] = refl
tables_spelled (t ∷ ts) =
    ap (λ (xs : List ℕ). xs ++ flat_map table_text ts) (table_spelled t)
    ∙ ap (λ (xs : List ℕ). lines_text (table_lines t) ++ xs) (tables_spelled ts)
    ∙ sym (flat_map-append line_text (table_lines t) (flat_map table_lines ts))

joined_spelled : (text rest : List ℕ) (lines more : List WordLine) → text ≡ lines_text lines → rest ≡ lines_text more → text ++ rest ≡ lines_text (lines ++ more)
joined_spelled text rest lines more e f =
    ap (λ (xs : List ℕ). xs ++ rest) e ∙ ap (λ (xs : List ℕ). lines_text lines ++ xs) f ∙ sym (flat_map-append line_text lines more)

model_spelled : (model : Name) → model_text model ≡ lines_text (model_line model ∷ [])
model_spelled model =
    ap (λ (xs : List ℕ). (codes ".model" ++ xs) ++ 10 ∷ []) (sym (append-nil (word_text model))) ∙ sym (append-nil (line_text (model_line model)))

document_spelled : (d : Document) → spelled d ≡ lines_text (document_lines d)
unfolding spelled
document_spelled d =
    joined_spelled _ (codes ".end\n") (table_part d) (end_line ∷ [])
    (joined_spelled _ (flat_map table_text d.tables) (latch_part d) (flat_map table_lines d.tables)
    (joined_spelled _ (flat_map latch_text d.latches) (clock_part d) (map latch_line d.latches)
    (joined_spelled _ (clocks_text d.clocks) (output_part d) (clock_lines d.clocks)
    (joined_spelled _ (list_text (codes ".outputs") d.outputs) (input_part d) (list_lines (codes ".outputs") d.outputs)
    (joined_spelled (model_text d.model) (list_text (codes ".inputs") d.inputs) (model_line d.model ∷ [])
    (list_lines (codes ".inputs") d.inputs) (model_spelled d.model) (list_spelled (codes ".inputs") d.inputs))
    (list_spelled (codes ".outputs") d.outputs))
    (clocks_spelled d.clocks))
    (latches_spelled d.latches))
    (tables_spelled d.tables))
    refl

-- ---- each line is a line of words

keyword_name : (keyword : Name) → is_name keyword ≡ true → length keyword ≤ most_name_bytes → IsName keyword
keyword_name keyword e short = record { spelled = e; short = short }

short_line : (keyword : Name) (names : List Name) → IsName keyword → All IsName names → length names ≤ 1000 → IsLine (line keyword names)
short_line keyword names is all few = record { names = All-cons IsName keyword names is all; few = few }

rest_are : (keyword : Name) (names : List Name) (count : ℕ) (ns : List Name) → IsName keyword → All IsName names →
    All IsName ns → length names ≡ count → count ≤ 16 → All IsLine (rest_lines keyword names count ns)
unfolding rest_lines
rest_are keyword names count [] is all more same low = All-cons IsLine (line keyword names) [] (short_line keyword names is all (omega (arith, same, low))) (All-nil IsLine)
rest_are keyword names count (n ∷ ns) is all more same low =
    let head = All-head IsName n ns more in
    let tail = All-tail IsName n ns more in
    cond_both (count == 16) (line keyword names ∷ rest_lines keyword (n ∷ []) 1 ns) (rest_lines keyword (names ++ n ∷ []) (count + 1) ns) (All IsLine)
    (λ full. All-cons IsLine (line keyword names) (rest_lines keyword (n ∷ []) 1 ns) (short_line keyword names is all (omega (arith, same, low)))
    (rest_are keyword (n ∷ []) 1 ns is (All-cons IsName n [] head (All-nil IsName)) tail refl (omega arith)))
    (λ room. let other = eqb-false count 16 room in
    rest_are keyword (names ++ n ∷ []) (count + 1) ns is (All-push IsName names n all head) tail
    (omega (arith, same, length-append names (n ∷ [])))
    (⊎_elim (λ lt. omega (arith, lt)) (λ ge. absurd (other (omega (arith, low, ge)))) (cases_lt count 16)))

clocks_are : (clocks : List Name) → All IsName clocks → All IsLine (clock_lines clocks)
unfolding is_name
clocks_are [] all = All-nil IsLine
clocks_are (n ∷ ns) all = rest_are (codes ".clock") [] 0 (n ∷ ns) (keyword_name (codes ".clock") refl (omega arith)) (All-nil IsName) all refl (omega arith)

trigger_name : (t : Trigger) → IsName (trigger_text t)
unfolding is_name
trigger_name Fe = record { spelled = refl; short = omega arith }
trigger_name Re = record { spelled = refl; short = omega arith }
trigger_name Ah = record { spelled = refl; short = omega arith }
trigger_name Al = record { spelled = refl; short = omega arith }
trigger_name As = record { spelled = refl; short = omega arith }

control_are : (control : Option (Trigger × Name)) → IsControl control → All IsName (control_words control) × (length (control_words control) ≤ 2)
control_are None is = (All-nil IsName, omega arith)
control_are (Some c) is = (All-cons IsName (trigger_text c.0) (c.1 ∷ []) (trigger_name c.0) (All-cons IsName c.1 [] is (All-nil IsName)), omega arith)

init_name : (init : ℕ) → init ≤ 3 → IsName ((48 + init) ∷ [])
unfolding is_name
init_name zero low = record { spelled = refl; short = omega arith }
init_name (suc zero) low = record { spelled = refl; short = omega arith }
init_name (suc (suc zero)) low = record { spelled = refl; short = omega arith }
init_name (suc (suc (suc zero))) low = record { spelled = refl; short = omega arith }
init_name (suc (suc (suc (suc n)))) low = absurd (omega arith)

init_are : (init : Option ℕ) → IsInit init → All IsName (init_words init) × (length (init_words init) ≤ 1)
init_are None is = (All-nil IsName, omega arith)
init_are (Some init) is = (All-cons IsName ((48 + init) ∷ []) [] (init_name init is) (All-nil IsName), omega arith)

latch_is : (l : LatchLine) → IsLatchLine l → IsLine (latch_line l)
unfolding is_name
latch_is l is =
    let c = control_are l.latch.control is.latch.control in
    let i = init_are l.latch.init is.latch.init in
    let tail = All-append IsName (control_words l.latch.control) (init_words l.latch.init) c.0 i.0 in
    short_line (codes ".latch") (latch_words l) (keyword_name (codes ".latch") refl (omega arith))
    (All-cons IsName l.input (l.latch.output ∷ (control_words l.latch.control ++ init_words l.latch.init)) is.input
    (All-cons IsName l.latch.output (control_words l.latch.control ++ init_words l.latch.init) is.latch.output tail))
    (omega (arith, c.1, i.1, length-append (control_words l.latch.control) (init_words l.latch.init)))

latches_are : (ls : List LatchLine) → All IsLatchLine ls → All IsLine (map latch_line ls)
latches_are [] all = All-nil IsLine
latches_are (l ∷ ls) all = All-cons IsLine (latch_line l) (map latch_line ls) (latch_is l (All-head IsLatchLine l ls all)) (latches_are ls (All-tail IsLatchLine l ls all))

cube_byte_name : (b : ℕ) → is_cube_byte b ≡ true → (is_name_byte b ≡ true) × ((b == 92) ≡ false)
cube_byte_name b is =
    ⊎_elim
    (λ digits. ⊎_elim (λ zero. one 48 (eqb-true b 48 zero) refl refl) (λ a. one 49 (eqb-true b 49 a) refl refl) (or_cases (b == 48) (b == 49) digits))
    (λ dash. one 45 (eqb-true b 45 dash) refl refl)
    (or_cases (b == 48 || b == 49) (b == 45) is) where
      one : (k : ℕ) → b ≡ k → is_name_byte k ≡ true → (k == 92) ≡ false → (is_name_byte b ≡ true) × ((b == 92) ≡ false)
      one k same good other = (subst (λ (x : ℕ). is_name_byte x ≡ true) (sym same) good, subst (λ (x : ℕ). (x == 92) ≡ false) (sym same) other)

cube_name : (b : ℕ) (bs : List ℕ) → list_all is_cube_byte (b ∷ bs) ≡ true → is_name (b ∷ bs) ≡ true
unfolding is_name
cube_name b [] e =
    let r = cube_byte_name b (and_parts (is_cube_byte b) true e).0 in
    and_from (is_name_byte b) (not (b == 92)) r.0 (not_from_false (b == 92) r.1)
cube_name b (c ∷ bs) e =
    let p = and_parts (is_cube_byte b) (list_all is_cube_byte (c ∷ bs)) e in
    and_from (is_name_byte b) (is_name (c ∷ bs)) (cube_byte_name b p.0).0 (cube_name c bs p.1)

digit_name : (on : Bool) → IsName (digit_text on ∷ [])
unfolding is_name
digit_name true = record { spelled = refl; short = omega arith }
digit_name false = record { spelled = refl; short = omega arith }

row_is : (width : ℕ) (on : Bool) (cube : List ℕ) → width ≤ most_table_inputs → is_cube width cube ≡ true → IsLine (row_line on cube)
row_is width on [] low is = short_line (digit_text on ∷ []) [] (digit_name on) (All-nil IsName) (omega arith)
row_is width on (b ∷ bs) low is =
    let p = and_parts (length (b ∷ bs) == width) (list_all is_cube_byte (b ∷ bs)) is in
    let size = eqb-true (length (b ∷ bs)) width p.0 in
    short_line (b ∷ bs) ((digit_text on ∷ []) ∷ []) (record { spelled = cube_name b bs p.1; short = omega (arith, size, low) })
    (All-cons IsName (digit_text on ∷ []) [] (digit_name on) (All-nil IsName)) (omega arith)

rows_are : (width : ℕ) (on : Bool) (cubes : List (List ℕ)) → width ≤ most_table_inputs →
    All (λ cube. is_cube width cube ≡ true) cubes → All IsLine (map (row_line on) cubes)
rows_are width on [] low all = All-nil IsLine
rows_are width on (c ∷ cs) low all =
    All-cons IsLine (row_line on c) (map (row_line on) cs) (row_is width on c low (All-head (λ (x : List ℕ). is_cube width x ≡ true) c cs all))
    (rows_are width on cs low (All-tail (λ (x : List ℕ). is_cube width x ≡ true) c cs all))

table_are : (t : Table) → IsTable t → All IsLine (table_lines t)
unfolding is_name
table_are t is =
    All-cons IsLine (names_line t) (map (row_line t.cover.on) t.cover.cubes)
    (short_line (codes ".names") (t.inputs ++ t.output ∷ []) (keyword_name (codes ".names") refl (omega arith))
    (All-push IsName t.inputs t.output is.inputs is.output)
    (omega (arith, is.narrow, length-append t.inputs (t.output ∷ []))))
    (rows_are t.cover.width t.cover.on t.cover.cubes (omega (arith, is.width, is.narrow)) is.cover.cubes)

tables_are : (ts : List Table) → All IsSpelledTable ts → All IsLine (flat_map table_lines ts)
tables_are [] all = All-nil IsLine
tables_are (t ∷ ts) all = All-append IsLine (table_lines t) (flat_map table_lines ts) (table_are t (All-head IsSpelledTable t ts all).table) (tables_are ts (All-tail IsSpelledTable t ts all))

list_are : (keyword : Name) (names : List Name) → IsName keyword → All IsName names → All IsLine (list_lines keyword names)
list_are keyword names is all = rest_are keyword [] 0 names is (All-nil IsName) all refl (omega arith)

end_are : All IsLine (end_line ∷ [])
unfolding is_name
end_are = All-cons IsLine end_line [] (short_line (codes ".end") [] (keyword_name (codes ".end") refl (omega arith)) (All-nil IsName) (omega arith)) (All-nil IsLine)

document_are : (d : Document) → IsBlifSpelling d → All IsLine (document_lines d)
unfolding is_name
document_are d is =
    All-append IsLine (table_part d) (end_line ∷ [])
    (All-append IsLine (latch_part d) (flat_map table_lines d.tables)
    (All-append IsLine (clock_part d) (map latch_line d.latches)
    (All-append IsLine (output_part d) (clock_lines d.clocks)
    (All-append IsLine (input_part d) (list_lines (codes ".outputs") d.outputs)
    (All-append IsLine (model_line d.model ∷ []) (list_lines (codes ".inputs") d.inputs)
    (All-cons IsLine (model_line d.model) [] (short_line (codes ".model") (d.model ∷ [])
    (keyword_name (codes ".model") refl (omega arith)) (All-cons IsName d.model [] is.model (All-nil IsName))
    (omega arith)) (All-nil IsLine))
    (list_are (codes ".inputs") d.inputs (keyword_name (codes ".inputs") refl (omega arith)) is.inputs))
    (list_are (codes ".outputs") d.outputs (keyword_name (codes ".outputs") refl (omega arith)) is.outputs))
    (clocks_are d.clocks is.clocks))
    (latches_are d.latches is.latches))
    (tables_are d.tables is.tables))
    end_are

-- ---- the state after the lines

clocks_said : (n : ℕ) (clocks : List Name) (d : Document) (s : Said) → All IsName clocks → Has d s → Says n (clock_lines clocks) s (Has (add_clocks clocks d))
clocks_said n [] d s all has =
    says_none n s (Has (add_clocks [] d)) (subst (λ (e : Document). Has e s) (ap (λ (ns : List Name). let e : Document = record d { clocks = ns } in e) (sym (append-nil d.clocks))) has)
clocks_said n (c ∷ cs) d s all has = list_said (codes ".clock") add_clocks adds_clocks n [] 0 (c ∷ cs) d s (All-nil IsName) all has

abbrev named : Document → Document
named d = add_clocks d.clocks (add_outputs d.outputs (add_inputs d.inputs (model_alone d.model)))

abbrev tabled : Document → Document
tabled d = add_tables d.tables (add_latches d.latches (named d))

parts_said : (d : Document) → IsBlifSpelling d → Says 1 (table_part d) nothing (Has (tabled d))
parts_said d is =
    says_then 1 (latch_part d) (flat_map table_lines d.tables) nothing (Has (add_latches d.latches (named d))) (Has (tabled d))
    (says_then 1 (clock_part d) (map latch_line d.latches) nothing (Has (named d)) (Has (add_latches d.latches (named d)))
    (says_then 1 (output_part d) (clock_lines d.clocks) nothing (Has (add_outputs d.outputs (add_inputs d.inputs (model_alone d.model)))) (Has (named d))
    (says_then 1 (input_part d) (list_lines (codes ".outputs") d.outputs) nothing
    (Has (add_inputs d.inputs (model_alone d.model)))
    (Has (add_outputs d.outputs (add_inputs d.inputs (model_alone d.model))))
    (says_then 1 (model_line d.model ∷ []) (list_lines (codes ".inputs") d.inputs) nothing (Has (model_alone d.model)) (Has (add_inputs d.inputs (model_alone d.model)))
    (model_said d.model is.model)
    (λ n s has. list_said (codes ".inputs") add_inputs adds_inputs n [] 0 d.inputs (model_alone d.model) s (All-nil IsName) is.inputs has))
    (λ n s has. list_said (codes ".outputs") add_outputs adds_outputs n [] 0 d.outputs (add_inputs d.inputs (model_alone d.model)) s (All-nil IsName) is.outputs has))
    (λ n s has. clocks_said n d.clocks (add_outputs d.outputs (add_inputs d.inputs (model_alone d.model))) s is.clocks has))
    (λ n s has. latches_said n d.latches (named d) s is.latches has))
    (λ n s has. tables_said n d.tables (add_latches d.latches (named d)) s is.tables has)

document_said : (d : Document) → IsBlifSpelling d → (s : Said) × (said_by 1 nothing (document_lines d) ≡ Ok s) × ((listed_by s).document ≡ d)
document_said d is =
    let t = parts_said d is in
    let e = end_said t.next d t.end t.good in
    (e.0, t.says (end_line ∷ []) ∙ e.1, e.2)

-- ---- the document

said_back : (d : Document) → IsBlifSpelling d → (s : Said) × (said_of (spelled d) ≡ Ok s) × ((listed_by s).document ≡ d)
unfolding said_of
said_back d is =
    let r = document_said d is in
    (r.0, ap (λ (bytes : List ℕ). steps nothing (logical_of 1 bytes)) (document_spelled d) ∙ lines_said 1 nothing (document_lines d) (document_are d is) ∙ r.1, r.2)

abbrev AreNone : List Name → List Name → Type 0
AreNone ns [] = Unit {0}
AreNone ns (m ∷ ms) = (has ns m ≡ false) × AreNone ns ms

no_fault : (ns : List Name) (cs : List Control) → AreNone ns (map control_name cs) → control_fault ns cs ≡ None
unfolding control_fault
no_fault ns [] none = refl
no_fault ns (c ∷ cs) none = cond-false (has ns c.name) _ _ none.0 ∙ no_fault ns cs none.1

free_first : (ns : List Name) (c : Option (Trigger × Name)) (ms : List Name) → IsFreeOf ns c → AreNone ns ms → AreNone ns (cons_option (option_map second_of c) ms)
free_first ns None ms free rest = rest
free_first ns (Some c) ms free rest = (free, rest)

free_all : (ns : List Name) (ls : List LatchLine) → All (λ (l : LatchLine). IsFreeOf ns l.latch.control) ls → AreNone ns (filter_map control_of (map latch_of ls))
free_all ns [] all = tt
free_all ns (l ∷ ls) all =
    free_first ns l.latch.control (filter_map control_of (map latch_of ls)) (All-head (λ (x : LatchLine). IsFreeOf ns x.latch.control) l ls all)
    (free_all ns ls (All-tail (λ (x : LatchLine). IsFreeOf ns x.latch.control) l ls all))

controls_free : (s : Said) (size : ℕ) → IsComplete s size → AreControlsFree (listed_by s).document → control_fault (map table_output s.tables) s.controls ≡ None
controls_free s size is free =
    no_fault (map table_output s.tables) s.controls (subst (λ (ms : List Name). AreNone (map table_output s.tables) ms) (sym is.said.controls) (free_all (map table_output s.tables) s.latches free))

-- a document with a BLIF text is read back
pub read_back : (d : Document) → IsBlifSpelling d → AreControlsFree d → IsReadBack blif_format (spelled d) d
unfolding listed_of
read_back d is free =
    let r = said_back d is in
    let none = controls_free r.0 _ (said_whole (spelled d) r.0 r.1) (subst AreControlsFree (sym r.2) free) in
    record {
      listed = listed_by r.0;
      said = ap (λ (x : Result Said NetError). x >>= λ s. unless (control_fault (map table_output s.tables) s.controls)
          (listed_by s)) r.1 ∙ ap (λ (f : Option NetError). unless f (listed_by r.0)) none;
      document = r.2;
      is = text_listed (spelled d) r.0 r.1;
    }
