-- What is written is read back as the same file.
use Rattle.std.proofs.Common.{◌≡◌, ℕ, ◌+◌, ◌^◌, ◌≤◌, ◌<◌, ◌%◌, Bool, true, false, List, [], ◌∷◌, ◌++◌, length, Option, Some, None, refl, ap, ◌∙◌, sym, arith, length-append, append_assoc, append-nil}
use Rattle.std.specs.Prelude.{◌&&◌, ◌==◌, nat_lt, nat_le, if◌then◌else◌, Result, Ok, Err, All, codes, decimal}
use Rattle.std.specs.List.{flat_map}
use Rattle.std.proofs.lemmas.Grind.{common_steps}
use Rattle.std.proofs.lemmas.Bool.{cond-true, cond-false, and_parts, and_from, lt-ltb, le-ltb, le-leb, lt-leb, leb-true, eq-eqb, ne_eqb}
use Rattle.std.proofs.lemmas.List.Elements.{All-nil, All-cons, All-head, All-tail}
use Rattle.text_core.specs.Lines.{Line, lines_from, lines_of}
use Rattle.text_core.specs.Items.{items_of}
use Rattle.text_core.specs.Words.{is_free}
use Rattle.text_core.specs.ReadBack.{line_back, item_back, last_item_back, word_back, number_back, free_both, free_decimal}
use Rattle.net_theory.specs.Document.{IsName, is_name}
use Rattle.net_theory.specs.Limits.{most_name_bytes}
use Rattle.net_document.specs.Limits.{is_long_word}
use Rattle.net_core.specs.declared.error.NetError.{NetError}
use Rattle.net_core.specs.declared.error.NetError.TheVariants.{Syntax}
use Rattle.aiger_text.specs.declared.file.Counts.{Counts}
use Rattle.aiger_text.specs.declared.file.Reset.{Reset}
use Rattle.aiger_text.specs.declared.file.Reset.TheVariants.{Zero, One, Undefined}
use Rattle.aiger_text.specs.declared.file.AigLatch.{AigLatch}
use Rattle.aiger_text.specs.declared.file.AigGate.{AigGate}
use Rattle.aiger_text.specs.declared.file.PortKind.{PortKind}
use Rattle.aiger_text.specs.declared.file.PortKind.TheVariants.{Input, Latch, Output}
use Rattle.aiger_text.specs.declared.file.Symbol.{Symbol}
use Rattle.aiger_text.specs.File.{AigFile}
use Rattle.aiger_text.specs.Reading.{◌>>=◌}
use Rattle.aiger_text.specs.Limits.{most_variables, most_sources, most_outputs, most_number}
use Rattle.aiger_text.specs.Header.{or_syntax, number_in, numbers_from, numbers_of, has_room, letter_if, unsupported_in, counts_by, counts_of, header_of}
use Rattle.aiger_text.specs.Statements.{most_literal, is_variable, input_of, reset_of, latch_by, latch_with, latch_of, output_of, gate_of, kind_of, count_of, is_reserved, name_in, symbol_at, symbol_of}
use Rattle.aiger_text.specs.Statements.{nothing, with_input, with_latch, with_output, with_gate, with_symbol, stated, step, is_full, is_mark, is_comment, steps, begun, file_by, file_of}
use Rattle.aiger_text.specs.Spelling.{number_text, numbers_text, numbers_line, header_numbers, literal_line, latch_numbers, latch_text, gate_text, kind_byte, symbol_text, spelled}
use Rattle.aiger_text.specs.Valid.{counts_of as counts_of_file, IsLiteral, IsVariable, IsLatchAt, IsGateAt, IsSymbolAt, AreCounts, IsAig}
use Rattle.aiger_text.specs.FileLaws.{named_symbol}

-- ---- numbers

abbrev AllLow : ℕ → List ℕ → Type 0
AllLow limit [] = Unit {0}
AllLow limit (n ∷ ns) = (n ≤ limit) × AllLow limit ns

number_read : (line limit n : ℕ) → limit < 2 ^ 32 → n ≤ limit → number_in line limit (decimal n) ≡ Ok n
number_read line limit n narrow fits = ap (or_syntax line) (number_back limit n (omega (arith, narrow, fits)) fits)

items_read : (line limit : ℕ) (before : List ℕ) (n : ℕ) (ns : List ℕ) → limit < 2 ^ 32 → AllLow limit (n ∷ ns) →
    numbers_from line limit before (items_of (numbers_text (n ∷ ns))) ≡ Ok (before ++ n ∷ ns)
unfolding numbers_from
items_read line limit before n [] narrow all =
    ap (λ (t : List ℕ). numbers_from line limit before (items_of t)) (append-nil (decimal n))
    ∙ ap (numbers_from line limit before) (last_item_back (decimal n) (free_decimal 32 n (omega arith) (omega (arith, narrow, all.0))))
    ∙ ap (λ (r : Result ℕ NetError). r >>= λ m. numbers_from line limit (before ++ m ∷ []) []) (number_read line limit n narrow all.0)
items_read line limit before n (m ∷ ms) narrow all =
    ap (numbers_from line limit before) (item_back (decimal n) (numbers_text (m ∷ ms)) (free_decimal 32 n (omega arith) (omega (arith, narrow, all.0))))
    ∙ ap (λ (r : Result ℕ NetError). r >>= λ k. numbers_from line limit (before ++ k ∷ []) (items_of (numbers_text (m ∷ ms)))) (number_read line limit n narrow all.0)
    ∙ items_read line limit (before ++ n ∷ []) m ms narrow all.1
    ∙ ap Ok (append_assoc before (n ∷ []) (m ∷ ms))

numbers_read : (line limit n : ℕ) (ns : List ℕ) → limit < 2 ^ 32 → AllLow limit (n ∷ ns) → numbers_of line limit (numbers_text (n ∷ ns)) ≡ Ok (n ∷ ns)
numbers_read line limit n ns narrow all = items_read line limit [] n ns narrow all

more_free : (limit : ℕ) (ns : List ℕ) → limit < 2 ^ 32 → AllLow limit ns → is_free 10 (flat_map number_text ns) ≡ true
unfolding is_free
more_free limit [] narrow all = refl
more_free limit (n ∷ ns) narrow all =
    free_both 10 (number_text n) (flat_map number_text ns) (free_decimal 10 n (omega arith) (omega (arith, narrow, all.0))) (more_free limit ns narrow all.1)

numbers_free : (limit n : ℕ) (ns : List ℕ) → limit < 2 ^ 32 → AllLow limit (n ∷ ns) → is_free 10 (numbers_text (n ∷ ns)) ≡ true
numbers_free limit n ns narrow all =
    free_both 10 (decimal n) (flat_map number_text ns) (free_decimal 10 n (omega arith) (omega (arith, narrow, all.0))) (more_free limit ns narrow all.1)

-- ---- lines

abbrev whole : List ℕ → Line
whole text = record { text = text; ended = true }

numbers_line_read : (limit n : ℕ) (ns rest : List ℕ) → limit < 2 ^ 32 → AllLow limit (n ∷ ns) →
    lines_of (numbers_line (n ∷ ns) ++ rest) ≡ whole (numbers_text (n ∷ ns)) ∷ lines_of rest
unfolding numbers_line
numbers_line_read limit n ns rest narrow all =
    ap lines_of (append_assoc (numbers_text (n ∷ ns)) (10 ∷ []) rest) ∙ line_back (numbers_text (n ∷ ns)) rest (numbers_free limit n ns narrow all)

no_comment : (c : Counts) (f : AigFile) (text : List ℕ) → is_full c f ≡ false → is_comment c f (whole text) ≡ false
unfolding is_comment
no_comment c f text short = ap (λ (b : Bool). b && true && is_mark text) short

step_on : (line : ℕ) (c : Counts) (f g : AigFile) (text : List ℕ) (ls : List Line) → is_comment c f (whole text) ≡ false →
    stated line c f text ≡ Ok g → steps line c f (whole text ∷ ls) ≡ steps (line + 1) c g ls
unfolding steps step
step_on line c f g text ls short e =
    cond-false (is_comment c f (whole text)) _ _ short
    ∙ ap (λ (r : Result AigFile NetError). r >>= λ h. steps (line + 1) c h ls) e

-- the lines of `text`, from f on, lead to g before `rest`
abbrev Reaches : Counts → AigFile → List ℕ → AigFile → List ℕ → Type 0
Reaches c f text g rest = (line : ℕ) → (k : ℕ) × (steps line c f (lines_of text) ≡ steps k c g (lines_of rest))

reach_on : (c : Counts) (f g h : AigFile) (a b d : List ℕ) → Reaches c f a g b → Reaches c g b h d → Reaches c f a h d
reach_on c f g h a b d x y line = let p = x line in let q = y p.0 in (q.0, p.1 ∙ q.1)

-- a section: each element is a line, by which the list of the file grows
section_back : {A : Type 0} (c : Counts) (line_of text : A → List ℕ) (file : List A → AigFile) (P : A → Type 0) (n : ℕ) →
    ((y : A) (rest : List ℕ) → P y → lines_of (line_of y ++ rest) ≡ whole (text y) ∷ lines_of rest) →
    ((line : ℕ) (xs : List A) (y : A) (ls : List Line) → P y → length xs < n →
    steps line c (file xs) (whole (text y) ∷ ls) ≡ steps (line + 1) c (file (xs ++ y ∷ [])) ls) →
    (xs ys : List A) (rest : List ℕ) → All P ys → length xs + length ys ≤ n →
    Reaches c (file xs) (flat_map line_of ys ++ rest) (file (xs ++ ys)) rest
section_back {A} c line_of text file P n reads takes xs [] rest all low line =
    (line, ap (λ (zs : List A). steps line c (file zs) (lines_of rest)) (sym (append-nil xs)))
section_back {A} c line_of text file P n reads takes xs (y ∷ ys) rest all low line =
    let more = section_back c line_of text file P n reads takes (xs ++ y ∷ []) ys rest (All-tail P y ys all) (omega (arith, low, length-append xs (y ∷ []))) (line + 1) in (
      more.0,
      ap (λ (t : List ℕ). steps line c (file xs) (lines_of t)) (append_assoc (line_of y) (flat_map line_of ys) rest)
          ∙ ap (steps line c (file xs)) (reads y (flat_map line_of ys ++ rest) (All-head P y ys all))
          ∙ takes line xs y (lines_of (flat_map line_of ys ++ rest)) (All-head P y ys all) (omega (arith, low))
          ∙ more.1
          ∙ ap (λ (zs : List A). steps more.0 c (file zs) (lines_of rest)) (append_assoc xs (y ∷ []) ys),
    )

-- ---- when a file isn't full

and_false : (a b : Bool) → b ≡ false → (a && b) ≡ false
and_false false b e = refl
and_false true b e = e

short_first : (a b d e : Bool) → a ≡ false → (a && b && d && e) ≡ false
short_first a b d e h = ap (λ (x : Bool). x && b && d && e) h

short_second : (a b d e : Bool) → b ≡ false → (a && b && d && e) ≡ false
short_second a b d e h = ap (λ (x : Bool). x && d && e) (and_false a b h)

short_third : (a b d e : Bool) → d ≡ false → (a && b && d && e) ≡ false
short_third a b d e h = ap (λ (x : Bool). x && e) (and_false (a && b) d h)

short_last : (a b d e : Bool) → e ≡ false → (a && b && d && e) ≡ false
short_last a b d e h = and_false (a && b && d) e h

-- ---- sections

abbrev made : ℕ → List ℕ → List AigLatch → List ℕ → List AigGate → List Symbol → AigFile
made v xs ls os gs ss = record { variables = v; inputs = xs; latches = ls; outputs = os; gates = gs; symbols = ss }

abbrev Narrow : Counts → Type 0
Narrow c = most_literal c < 2 ^ 32

input_taken : (c : Counts) (v line : ℕ) (xs : List ℕ) (y : ℕ) (ls : List Line) → Narrow c → IsVariable c y → length xs < c.inputs →
    steps line c (made v xs [] [] [] []) (whole (numbers_text (y ∷ [])) ∷ ls) ≡ steps (line + 1) c (made v (xs ++ y ∷ []) [] [] [] []) ls
unfolding is_full stated input_of
input_taken c v line xs y ls narrow is low =
    let f = made v xs [] [] [] [] in
    step_on line c f (made v (xs ++ y ∷ []) [] [] [] []) (numbers_text (y ∷ [])) ls
    (no_comment c f (numbers_text (y ∷ [])) (short_first (nat_le c.inputs (length xs)) (nat_le c.latches 0) (nat_le c.outputs 0) (nat_le c.gates 0) (lt-leb c.inputs (length xs) low)))
    (cond-true (nat_lt (length xs) c.inputs) _ _ (lt-ltb (length xs) c.inputs low)
    ∙ ap (λ (r : Result (List ℕ) NetError). r >>= λ ns. input_of line ns >>= λ lit. Ok (with_input f lit)) (numbers_read line (most_literal c) y [] narrow (is.within, tt))
    ∙ ap (λ (r : Result ℕ NetError). r >>= λ lit. Ok (with_input f lit)) (cond-true (is_variable y) _ _ is.variable))

output_taken : (c : Counts) (v line : ℕ) (is : List ℕ) (qs : List AigLatch) (xs : List ℕ) (y : ℕ) (ls : List Line) → Narrow c →
    c.inputs ≤ length is → c.latches ≤ length qs → y ≤ most_literal c → length xs < c.outputs →
    steps line c (made v is qs xs [] []) (whole (numbers_text (y ∷ [])) ∷ ls) ≡ steps (line + 1) c (made v is qs (xs ++ y ∷ []) [] []) ls
unfolding is_full stated output_of
output_taken c v line is qs xs y ls narrow all_is all_qs fits low =
    let f = made v is qs xs [] [] in
    step_on line c f (made v is qs (xs ++ y ∷ []) [] []) (numbers_text (y ∷ [])) ls
    (no_comment c f (numbers_text (y ∷ [])) (short_third (nat_le c.inputs (length is)) (nat_le c.latches (length qs)) (nat_le c.outputs (length xs)) (nat_le c.gates 0) (lt-leb c.outputs (length xs) low)))
    (cond-false (nat_lt (length is) c.inputs) _ _ (le-ltb (length is) c.inputs all_is)
    ∙ cond-false (nat_lt (length qs) c.latches) _ _ (le-ltb (length qs) c.latches all_qs)
    ∙ cond-true (nat_lt (length xs) c.outputs) _ _ (lt-ltb (length xs) c.outputs low)
    ∙ ap (λ (r : Result (List ℕ) NetError). r >>= λ ns. output_of line ns >>= λ lit. Ok (with_output f lit)) (numbers_read line (most_literal c) y [] narrow (fits, tt)))

gate_taken : (c : Counts) (v line : ℕ) (is : List ℕ) (qs : List AigLatch) (os : List ℕ) (xs : List AigGate) (y : AigGate) (ls : List Line) → Narrow c →
    c.inputs ≤ length is → c.latches ≤ length qs → c.outputs ≤ length os → IsGateAt c y → length xs < c.gates →
    steps line c (made v is qs os xs []) (whole (numbers_text (y.literal ∷ y.first ∷ y.second ∷ [])) ∷ ls) ≡ steps (line + 1) c (made v is qs os (xs ++ y ∷ []) []) ls
unfolding is_full stated gate_of
gate_taken c v line is qs os xs y ls narrow all_is all_qs all_os gate low =
    let f = made v is qs os xs [] in
    let text = numbers_text (y.literal ∷ y.first ∷ y.second ∷ []) in
    step_on line c f (made v is qs os (xs ++ y ∷ []) []) text ls
    (no_comment c f text (short_last (nat_le c.inputs (length is)) (nat_le c.latches (length qs)) (nat_le c.outputs (length os)) (nat_le c.gates (length xs)) (lt-leb c.gates (length xs) low)))
    (cond-false (nat_lt (length is) c.inputs) _ _ (le-ltb (length is) c.inputs all_is)
    ∙ cond-false (nat_lt (length qs) c.latches) _ _ (le-ltb (length qs) c.latches all_qs)
    ∙ cond-false (nat_lt (length os) c.outputs) _ _ (le-ltb (length os) c.outputs all_os)
    ∙ cond-true (nat_lt (length xs) c.gates) _ _ (lt-ltb (length xs) c.gates low)
    ∙ ap (λ (r : Result (List ℕ) NetError). r >>= λ ns. gate_of line ns >>= λ g. Ok (with_gate f g)) (numbers_read line (most_literal c) y.literal (y.first ∷ y.second ∷ []) narrow (gate.literal.within, (gate.first, (gate.second, tt))))
    ∙ ap (λ (r : Result AigGate NetError). r >>= λ g. Ok (with_gate f g)) (cond-true (is_variable y.literal) _ _ gate.literal.variable))

-- ---- latches

two_low : (lit : ℕ) → is_variable lit ≡ true → 2 ≤ lit
unfolding is_variable
two_low lit e = leb-true 2 lit (and_parts (nat_le 2 lit) (lit % 2 == 0) e).0

own_reset : (lit : ℕ) → is_variable lit ≡ true → reset_of lit lit ≡ Some Undefined
unfolding reset_of
own_reset lit e =
    cond-false (lit == 0) _ _ (ne_eqb lit 0 (λ z. omega (arith, z, two_low lit e)))
    ∙ cond-false (lit == 1) _ _ (ne_eqb lit 1 (λ z. omega (arith, z, two_low lit e)))
    ∙ cond-true (lit == lit) _ _ (eq-eqb lit lit refl)

abbrev latch_made : ℕ → ℕ → Reset → AigLatch
latch_made lit next reset = record { literal = lit; next = next; reset = reset }

latch_by_value : (line lit next value : ℕ) (reset : Reset) → is_variable lit ≡ true → reset_of lit value ≡ Some reset → latch_with line lit next value ≡ Ok (latch_made lit next reset)
unfolding latch_with
latch_by_value line lit next value reset variable e = cond-true (is_variable lit) _ _ variable ∙ ap (latch_by line lit next) e

latch_read : (line : ℕ) (c : Counts) (lit next : ℕ) (reset : Reset) → Narrow c → IsVariable c lit → next ≤ most_literal c →
    (numbers_of line (most_literal c) (numbers_text (latch_numbers lit next reset)) >>= λ ns. latch_of line ns) ≡ Ok (latch_made lit next reset)
unfolding latch_of reset_of
latch_read line c lit next Zero narrow is fits =
    ap (λ (r : Result (List ℕ) NetError). r >>= λ ns. latch_of line ns) (numbers_read line (most_literal c) lit (next ∷ []) narrow (is.within, (fits, tt)))
    ∙ latch_by_value line lit next 0 Zero is.variable refl
latch_read line c lit next One narrow is fits =
    ap (λ (r : Result (List ℕ) NetError). r >>= λ ns. latch_of line ns) (numbers_read line (most_literal c) lit (next ∷ 1 ∷ []) narrow (is.within, (fits, (omega (arith, is.within, two_low lit is.variable), tt))))
    ∙ latch_by_value line lit next 1 One is.variable refl
latch_read line c lit next Undefined narrow is fits =
    ap (λ (r : Result (List ℕ) NetError). r >>= λ ns. latch_of line ns) (numbers_read line (most_literal c) lit (next ∷ lit ∷ []) narrow (is.within, (fits, (is.within, tt))))
    ∙ latch_by_value line lit next lit Undefined is.variable (own_reset lit is.variable)

bind_assoc : {A B C : Type 0} (r : Result A NetError) (f : A → Result B NetError) (k : B → Result C NetError) → (r >>= λ x. (f x >>= k)) ≡ ((r >>= f) >>= k)
bind_assoc (Ok x) f k = refl
bind_assoc (Err e) f k = refl

latch_taken : (c : Counts) (v line : ℕ) (is : List ℕ) (xs : List AigLatch) (y : AigLatch) (ls : List Line) → Narrow c →
    c.inputs ≤ length is → IsLatchAt c y → length xs < c.latches →
    steps line c (made v is xs [] [] []) (whole (numbers_text (latch_numbers y.literal y.next y.reset)) ∷ ls) ≡ steps (line + 1) c (made v is (xs ++ y ∷ []) [] [] []) ls
unfolding is_full stated
latch_taken c v line is xs y ls narrow all_is latch low =
    let f = made v is xs [] [] [] in
    let text = numbers_text (latch_numbers y.literal y.next y.reset) in
    step_on line c f (made v is (xs ++ y ∷ []) [] [] []) text ls
    (no_comment c f text (short_second (nat_le c.inputs (length is)) (nat_le c.latches (length xs)) (nat_le c.outputs 0) (nat_le c.gates 0) (lt-leb c.latches (length xs) low)))
    (cond-false (nat_lt (length is) c.inputs) _ _ (le-ltb (length is) c.inputs all_is)
    ∙ cond-true (nat_lt (length xs) c.latches) _ _ (lt-ltb (length xs) c.latches low)
    ∙ bind_assoc (numbers_of line (most_literal c) text) (latch_of line) (λ l. Ok (with_latch f l))
    ∙ ap (λ (r : Result AigLatch NetError). r >>= λ l. Ok (with_latch f l)) (latch_read line c y.literal y.next y.reset narrow latch.literal latch.next))

latch_line_read : (c : Counts) (lit next : ℕ) (reset : Reset) (rest : List ℕ) → Narrow c → IsVariable c lit → next ≤ most_literal c →
    lines_of (numbers_line (latch_numbers lit next reset) ++ rest) ≡ whole (numbers_text (latch_numbers lit next reset)) ∷ lines_of rest
latch_line_read c lit next Zero rest narrow is fits = numbers_line_read (most_literal c) lit (next ∷ []) rest narrow (is.within, (fits, tt))
latch_line_read c lit next One rest narrow is fits = numbers_line_read (most_literal c) lit (next ∷ 1 ∷ []) rest narrow (is.within, (fits, (omega (arith, is.within, two_low lit is.variable), tt)))
latch_line_read c lit next Undefined rest narrow is fits = numbers_line_read (most_literal c) lit (next ∷ lit ∷ []) rest narrow (is.within, (fits, (is.within, tt)))

-- ---- symbols

name_free : (byte : ℕ) (n : List ℕ) → byte < 33 → is_name n ≡ true → is_free byte n ≡ true
unfolding is_free is_name
name_free byte [] low e = refl
name_free byte (b ∷ []) low e = grind (arith, common_steps)
name_free byte (b ∷ d ∷ bs) low e = grind (arith, common_steps, name_free byte (d ∷ bs) low)

abbrev symbol_key : Symbol → List ℕ
symbol_key s = kind_byte s.kind ∷ decimal s.position

abbrev symbol_line_text : Symbol → List ℕ
symbol_line_text s = symbol_key s ++ 32 ∷ s.name

key_free : (byte : ℕ) (kind : PortKind) (position : ℕ) → byte < 48 → position < 2 ^ 32 → is_free byte (kind_byte kind ∷ decimal position) ≡ true
unfolding is_free
key_free byte Input position low small = cond-false (105 == byte) _ _ (ne_eqb 105 byte (λ e. omega (arith, e, low))) ∙ free_decimal byte position low (omega (arith, small))
key_free byte Latch position low small = cond-false (108 == byte) _ _ (ne_eqb 108 byte (λ e. omega (arith, e, low))) ∙ free_decimal byte position low (omega (arith, small))
key_free byte Output position low small = cond-false (111 == byte) _ _ (ne_eqb 111 byte (λ e. omega (arith, e, low))) ∙ free_decimal byte position low (omega (arith, small))

blank_free : (n : List ℕ) → is_free 10 n ≡ true → is_free 10 (32 ∷ n) ≡ true
unfolding is_free
blank_free n e = e

symbol_line_read : (s : Symbol) (rest : List ℕ) → is_name s.name ≡ true → s.position < 2 ^ 32 → lines_of (symbol_text s ++ rest) ≡ whole (symbol_line_text s) ∷ lines_of rest
unfolding symbol_text
symbol_line_read s rest name small =
    ap lines_of (append_assoc (symbol_line_text s) (10 ∷ []) rest)
    ∙ line_back (symbol_line_text s) rest
    (free_both 10 (symbol_key s) (32 ∷ s.name) (key_free 10 s.kind s.position (omega arith) small) (blank_free s.name (name_free 10 s.name (omega arith) name)))

kind_read : (kind : PortKind) → kind_of (kind_byte kind) ≡ Some kind
unfolding kind_of
kind_read Input = refl
kind_read Latch = refl
kind_read Output = refl

not_mark : (kind : PortKind) (text : List ℕ) → is_mark (kind_byte kind ∷ text) ≡ false
not_mark Input text = refl
not_mark Latch text = refl
not_mark Output text = refl

name_read : (line : ℕ) (n : List ℕ) → IsName n → is_reserved n ≡ false → name_in line n ≡ Ok n
unfolding name_in
name_read line n is free =
    cond-false (is_long_word n) _ _ (le-ltb most_name_bytes (length n) is.short)
    ∙ cond-true (is_name n) _ _ is.spelled
    ∙ cond-false (is_reserved n) _ _ free

symbol_read : (line : ℕ) (c : Counts) (s : Symbol) → IsSymbolAt c s → s.position ≤ most_number → symbol_at line c (symbol_key s) s.name ≡ Ok s
unfolding symbol_at
symbol_read line c s is small =
    ap (λ (r : Option PortKind). or_syntax line r >>= λ kind. number_in line most_number (decimal s.position) >>= λ position.
    (if nat_lt position (count_of c kind) then (name_in line s.name >>= λ name. Ok (named_symbol kind position name)) else Err (Syntax line))) (kind_read s.kind)
    ∙ ap (λ (r : Result ℕ NetError). r >>= λ position.
    (if nat_lt position (count_of c s.kind) then (name_in line s.name >>= λ name. Ok (named_symbol s.kind position name)) else Err (Syntax line))) (number_read line most_number s.position (omega arith) small)
    ∙ cond-true (nat_lt s.position (count_of c s.kind)) _ _ (lt-ltb s.position (count_of c s.kind) is.low)
    ∙ ap (λ (r : Result (List ℕ) NetError). r >>= λ name. Ok (named_symbol s.kind s.position name)) (name_read line s.name is.name is.free)

symbol_items : (s : Symbol) → is_name s.name ≡ true → s.position < 2 ^ 32 → items_of (symbol_line_text s) ≡ symbol_key s ∷ s.name ∷ []
symbol_items s name small =
    item_back (symbol_key s) s.name (key_free 32 s.kind s.position (omega arith) small)
    ∙ ap (λ (xs : List (List ℕ)). symbol_key s ∷ xs) (last_item_back s.name (name_free 32 s.name (omega arith) name))

-- the sizes of the sections of a file with all but its symbols
record AreAll (c : Counts) (is : List ℕ) (qs : List AigLatch) (os : List ℕ) (gs : List AigGate) : Type 0 where
  inputs : c.inputs ≡ length is
  latches : c.latches ≡ length qs
  outputs : c.outputs ≡ length os
  gates : c.gates ≡ length gs

symbol_taken : (c : Counts) (v line : ℕ) (is : List ℕ) (qs : List AigLatch) (os : List ℕ) (gs : List AigGate) (xs : List Symbol) (y : Symbol) (ls : List Line) →
    AreAll c is qs os gs → IsSymbolAt c y → y.position ≤ most_number →
    steps line c (made v is qs os gs xs) (whole (symbol_line_text y) ∷ ls) ≡ steps (line + 1) c (made v is qs os gs (xs ++ y ∷ [])) ls
unfolding stated symbol_of is_comment
symbol_taken c v line is qs os gs xs y ls all symbol small =
    let f = made v is qs os gs xs in
    let text = symbol_line_text y in
    step_on line c f (made v is qs os gs (xs ++ y ∷ [])) text ls
    (and_false (is_full c f && true) (is_mark text) (not_mark y.kind (decimal y.position ++ 32 ∷ y.name)))
    (cond-false (nat_lt (length is) c.inputs) _ _ (le-ltb (length is) c.inputs (omega (arith, all.inputs)))
    ∙ cond-false (nat_lt (length qs) c.latches) _ _ (le-ltb (length qs) c.latches (omega (arith, all.latches)))
    ∙ cond-false (nat_lt (length os) c.outputs) _ _ (le-ltb (length os) c.outputs (omega (arith, all.outputs)))
    ∙ cond-false (nat_lt (length gs) c.gates) _ _ (le-ltb (length gs) c.gates (omega (arith, all.gates)))
    ∙ ap (λ (items : List (List ℕ)). symbol_of line c items >>= λ s. Ok (with_symbol f s)) (symbol_items y symbol.name.spelled (omega (arith, small)))
    ∙ ap (λ (r : Result Symbol NetError). r >>= λ s. Ok (with_symbol f s)) (symbol_read line c y symbol small))

-- ---- files

assoc_five : (h a b c d e : List ℕ) → (h ++ a ++ b ++ c ++ d ++ e) ≡ h ++ (a ++ (b ++ (c ++ (d ++ (e ++ [])))))
assoc_five h a b c d e =
    ap (λ (x : List ℕ). h ++ a ++ b ++ c ++ d ++ x) (sym (append-nil e))
    ∙ append_assoc (h ++ a ++ b ++ c) d (e ++ [])
    ∙ append_assoc (h ++ a ++ b) c (d ++ (e ++ []))
    ∙ append_assoc (h ++ a) b (c ++ (d ++ (e ++ [])))
    ∙ append_assoc h a (b ++ (c ++ (d ++ (e ++ []))))

header_line_read : (c : Counts) (rest : List ℕ) → AllLow most_number (header_numbers c) →
    lines_of ((codes "aag " ++ numbers_line (header_numbers c)) ++ rest) ≡ whole (codes "aag " ++ numbers_text (header_numbers c)) ∷ lines_of rest
unfolding numbers_line is_free
header_line_read c rest all =
    let text = codes "aag " ++ numbers_text (header_numbers c) in
    ap (λ (t : List ℕ). lines_of (t ++ rest)) (sym (append_assoc (codes "aag ") (numbers_text (header_numbers c)) (10 ∷ [])))
    ∙ ap lines_of (append_assoc text (10 ∷ []) rest)
    ∙ line_back text rest (free_both 10 (codes "aag ") (numbers_text (header_numbers c)) refl
    (numbers_free most_number c.variables (c.inputs ∷ c.latches ∷ c.outputs ∷ c.gates ∷ []) (omega arith) all))

counts_read : (c : Counts) → AreCounts c → counts_of 1 (header_numbers c) ≡ Ok c
unfolding counts_of unsupported_in has_room
counts_read c are =
    ap (λ (b : Bool). counts_by 1 (header_numbers c) (letter_if b (codes "M") (letter_if (nat_lt most_sources (c.inputs + c.latches)) (codes "I") (letter_if (nat_lt most_outputs c.outputs) (codes "O") None)))) (le-ltb most_variables c.variables are.variables)
    ∙ ap (λ (b : Bool). counts_by 1 (header_numbers c) (letter_if b (codes "I") (letter_if (nat_lt most_outputs c.outputs) (codes "O") None))) (le-ltb most_sources (c.inputs + c.latches) are.sources)
    ∙ ap (λ (b : Bool). counts_by 1 (header_numbers c) (letter_if b (codes "O") None)) (le-ltb most_outputs c.outputs are.outputs)
    ∙ cond-true (nat_le (c.inputs + c.latches + c.gates) c.variables) _ _ (le-leb (c.inputs + c.latches + c.gates) c.variables are.room)

begun_read : (c : Counts) → AreCounts c → AllLow most_number (header_numbers c) → begun (whole (codes "aag " ++ numbers_text (header_numbers c))) ≡ Ok c
unfolding begun header_of
begun_read c are all =
    ap (λ (r : Option (List ℕ)). or_syntax 1 r >>= λ rest. numbers_of 1 most_number rest >>= λ ns. counts_of 1 ns) (word_back (codes "aag ") (numbers_text (header_numbers c)))
    ∙ ap (λ (r : Result (List ℕ) NetError). r >>= λ ns. counts_of 1 ns) (numbers_read 1 most_number c.variables (c.inputs ∷ c.latches ∷ c.outputs ∷ c.gates ∷ []) (omega arith) all)
    ∙ counts_read c are

-- a full file is closed
closed_read : (k v : ℕ) (c : Counts) (is : List ℕ) (qs : List AigLatch) (os : List ℕ) (gs : List AigGate) (ss : List Symbol) → AreAll c is qs os gs →
    steps k c (made v is qs os gs ss) (lines_of []) ≡ Ok (made v is qs os gs ss)
unfolding steps is_full lines_from
closed_read k v c is qs os gs ss all =
    cond-true (is_full c (made v is qs os gs ss)) _ _
    (and_from (nat_le c.inputs (length is) && nat_le c.latches (length qs) && nat_le c.outputs (length os)) (nat_le c.gates (length gs))
    (and_from (nat_le c.inputs (length is) && nat_le c.latches (length qs)) (nat_le c.outputs (length os))
    (and_from (nat_le c.inputs (length is)) (nat_le c.latches (length qs)) (le-leb c.inputs (length is) (omega (arith, all.inputs))) (le-leb c.latches (length qs) (omega (arith, all.latches))))
    (le-leb c.outputs (length os) (omega (arith, all.outputs))))
    (le-leb c.gates (length gs) (omega (arith, all.gates))))

abbrev IsSmallSymbol : Counts → Symbol → Type 0
IsSmallSymbol c s = IsSymbolAt c s × (s.position ≤ most_number)

lines_reach : (f : AigFile) → IsAig f → All (IsSmallSymbol (counts_of_file f)) f.symbols → Narrow (counts_of_file f) →
    Reaches (counts_of_file f) (nothing (counts_of_file f))
    (flat_map literal_line f.inputs ++ (flat_map latch_text f.latches ++ (flat_map literal_line f.outputs ++
    (flat_map gate_text f.gates ++ (flat_map symbol_text f.symbols ++ []))))) f []
lines_reach f is small narrow =
    let c = counts_of_file f in
    let v = f.variables in
    let most = most_literal c in
    let e = flat_map symbol_text f.symbols ++ [] in
    let d = flat_map gate_text f.gates ++ e in
    let b = flat_map literal_line f.outputs ++ d in
    let a = flat_map latch_text f.latches ++ b in
    let one = section_back c literal_line (λ y. numbers_text (y ∷ [])) (λ xs. made v xs [] [] [] []) (IsVariable c) c.inputs
    (λ y rest p. numbers_line_read most y [] rest narrow (p.within, tt))
    (λ line xs y ls p low. input_taken c v line xs y ls narrow p low) [] f.inputs a is.inputs (omega arith) in
    let two = section_back c latch_text (λ y. numbers_text (latch_numbers y.literal y.next y.reset)) (λ xs. made v f.inputs xs [] [] []) (IsLatchAt c) c.latches
    (λ y rest p. latch_line_read c y.literal y.next y.reset rest narrow p.literal p.next)
    (λ line xs y ls p low. latch_taken c v line f.inputs xs y ls narrow (omega arith) p low) [] f.latches b is.latches (omega arith) in
    let three = section_back c literal_line (λ y. numbers_text (y ∷ [])) (λ xs. made v f.inputs f.latches xs [] []) (IsLiteral c) c.outputs
    (λ y rest p. numbers_line_read most y [] rest narrow (p, tt))
    (λ line xs y ls p low. output_taken c v line f.inputs f.latches xs y ls narrow (omega arith) (omega arith) p low) [] f.outputs d is.outputs (omega arith) in
    let four = section_back c gate_text (λ y. numbers_text (y.literal ∷ y.first ∷ y.second ∷ [])) (λ xs. made v f.inputs f.latches f.outputs xs []) (IsGateAt c) c.gates
    (λ y rest p. numbers_line_read most y.literal (y.first ∷ y.second ∷ []) rest narrow (p.literal.within, (p.first, (p.second, tt))))
    (λ line xs y ls p low. gate_taken c v line f.inputs f.latches f.outputs xs y ls narrow (omega arith) (omega arith) (omega arith) p low) [] f.gates e is.gates (omega arith) in
    let all : AreAll c f.inputs f.latches f.outputs f.gates = record { inputs = refl; latches = refl; outputs = refl; gates = refl } in
    let five = section_back c symbol_text symbol_line_text (λ xs. made v f.inputs f.latches f.outputs f.gates xs) (IsSmallSymbol c) (length f.symbols)
    (λ y rest p. symbol_line_read y rest p.0.name.spelled (omega (arith, p.1)))
    (λ line xs y ls p low. symbol_taken c v line f.inputs f.latches f.outputs f.gates xs y ls all p.0 p.1) [] f.symbols [] small (omega arith) in
    reach_on c (made v [] [] [] [] []) (made v f.inputs [] [] [] []) f (flat_map literal_line f.inputs ++ a) a [] one
    (reach_on c (made v f.inputs [] [] [] []) (made v f.inputs f.latches [] [] []) f a b [] two
    (reach_on c (made v f.inputs f.latches [] [] []) (made v f.inputs f.latches f.outputs [] []) f b d [] three
    (reach_on c (made v f.inputs f.latches f.outputs [] []) (made v f.inputs f.latches f.outputs f.gates []) f d e [] four five)))

symbols_small : (c : Counts) (ss : List Symbol) → All (IsSymbolAt c) ss → ((kind : PortKind) → count_of c kind ≤ most_number) → All (IsSmallSymbol c) ss
symbols_small c [] all few = All-nil (IsSmallSymbol c)
symbols_small c (s ∷ ss) all few =
    let first = All-head (IsSymbolAt c) s ss all in
    All-cons (IsSmallSymbol c) s ss (first, omega (arith, first.low, few s.kind)) (symbols_small c ss (All-tail (IsSymbolAt c) s ss all) few)

counts_few : (f : AigFile) → IsAig f → (kind : PortKind) → count_of (counts_of_file f) kind ≤ most_number
counts_few f is Input = omega (arith, is.counts.sources)
counts_few f is Latch = omega (arith, is.counts.sources)
counts_few f is Output = omega (arith, is.counts.outputs)

-- a file that can be written is read back
pub files_read : (f : AigFile) → IsAig f → file_of (spelled f) ≡ Ok f
unfolding file_of spelled
files_read f is =
    let c = counts_of_file f in
    let narrow : Narrow c = omega (arith, is.counts.variables) in
    let low : AllLow most_number (header_numbers c) =
    (omega (arith, is.counts.variables), (omega (arith, is.counts.sources), (omega (arith, is.counts.sources), (omega (arith, is.counts.outputs), (omega (arith, is.counts.room, is.counts.variables), tt))))) in
    let h = codes "aag " ++ numbers_line (header_numbers c) in
    let rest = flat_map literal_line f.inputs ++ (flat_map latch_text f.latches ++ (flat_map literal_line f.outputs ++ (flat_map gate_text f.gates ++ (flat_map symbol_text f.symbols ++ [])))) in
    let reach = lines_reach f is (symbols_small c f.symbols is.symbols (counts_few f is)) narrow 2 in
    ap (λ (t : List ℕ). file_by (lines_of t)) (assoc_five h (flat_map literal_line f.inputs) (flat_map latch_text f.latches) (flat_map literal_line f.outputs) (flat_map gate_text f.gates) (flat_map symbol_text f.symbols))
    ∙ ap file_by (header_line_read c rest low)
    ∙ ap (λ (r : Result Counts NetError). r >>= λ k. steps 2 k (nothing k) (lines_of rest)) (begun_read c is.counts low)
    ∙ reach.1
    ∙ closed_read reach.0 f.variables c f.inputs f.latches f.outputs f.gates f.symbols (record { inputs = refl; latches = refl; outputs = refl; gates = refl })
