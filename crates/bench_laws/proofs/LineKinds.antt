-- Written lines of each kind are parsed back.
use Rattle.std.proofs.Common.{◌≡◌, ℕ, ◌+◌, ◌≤◌, Bool, true, false, List, [], ◌∷◌, ◌++◌, length, Option, Some, None, refl, ap, ◌∙◌, sym, arith, append_assoc, length-append}
use Rattle.std.specs.Prelude.{◌==◌, ◌&&◌, not, nat_lt, All, Result, Ok, codes, option_to_list}
use Rattle.std.specs.List.{list_all}
use Rattle.std.proofs.lemmas.Bool.{and_parts, cond-true, cond-false, or_from, le-ltb}
use Rattle.std.proofs.lemmas.List.Elements.{All-head}
use Rattle.text_core.specs.Lines.{lines_of}
use Rattle.net_theory.specs.Document.{Name, is_name, LatchLine}
use Rattle.net_document.specs.Contents.{is_blank, is_nothing}
use Rattle.blif_text.specs.Words.{has_long}
use Rattle.blif_text.specs.Reading.{◌>>=◌}
use Rattle.net_document.specs.Listed.{Listed}
use Rattle.net_core.specs.declared.joining.Connective.{Connective}
use Rattle.net_core.specs.declared.joining.Connective.TheVariants.{And, Or, Xor}
use Rattle.net_core.specs.declared.error.NetError.{NetError}
use Rattle.bench_text.specs.declared.keywords.GateKey.{GateKey}
use Rattle.bench_text.specs.declared.keywords.BenchKeyword.TheVariants.{Gate}
use Rattle.bench_text.specs.Items.{is_mark, is_mark_item, items_of}
use Rattle.bench_text.specs.Statements.{with_input, with_output, with_latch, with_table, keyword_of, is_key}
use Rattle.bench_text.specs.Statements.{operands_from, operands_of, names_by, names_of, is_counted, gate_table}
use Rattle.bench_text.specs.Statements.{table_of, plain_latch, latch_of as latch_from, port_by, port_of, ported, driven}
use Rattle.bench_text.specs.Statements.{driven_by, stated, steps}
use Rattle.bench_text.specs.SaidLaws.{IsPlainName, IsPlainLatch}
use Rattle.bench_core.specs.Gates.{GateLine, line_table}
use Rattle.bench_core.specs.Spelling.{port_text, latch_text, key_by_text, key_text, second_text, gate_text}
use Rattle.bench_laws.specs.Spelled.{IsPlainLine}
use Rattle.bench_laws.proofs.Lines.{AreWordBytes, AreClean, clean_both, IsText, name_text, plain_clean, plain_item, word_mark, word_blank, mark_first, blank_first, no_items, line_on}
use Rattle.net_theory.specs.Limits.{most_name_bytes}

-- ---- fixed words

abbrev is_plain_byte : ℕ → Bool
is_plain_byte b = not (is_blank b) && not (is_mark b)

not_true : (b : Bool) → not b ≡ true → b ≡ false
not_true false e = refl
not_true true e = absurd cc

bytes_by : (w : List ℕ) → list_all is_plain_byte w ≡ true → AreWordBytes w
bytes_by [] e = tt
bytes_by (b ∷ bs) e =
    let p = and_parts (is_plain_byte b) (list_all is_plain_byte bs) e in
    let q = and_parts (not (is_blank b)) (not (is_mark b)) p.0 in
    (record { blank = not_true (is_blank b) q.0; mark = not_true (is_mark b) q.1 }, bytes_by bs p.1)

text_by : (w : List ℕ) → list_all is_plain_byte w ≡ true → is_nothing w ≡ false → IsText w
text_by [] e f = absurd cc
text_by (b ∷ bs) e f = record { first = b; rest = bs; is = refl; bytes = bytes_by (b ∷ bs) e }

abbrev is_clean_byte : ℕ → Bool
is_clean_byte b = not (b == 35) && not (b == 10)

clean_by : (w : List ℕ) → list_all is_clean_byte w ≡ true → AreClean w
clean_by [] e = tt
clean_by (b ∷ bs) e =
    let p = and_parts (is_clean_byte b) (list_all is_clean_byte bs) e in
    let q = and_parts (not (b == 35)) (not (b == 10)) p.0 in
    (not_true (b == 35) q.0, not_true (b == 10) q.1, clean_by bs p.1)

abbrev AreShort : List (List ℕ) → Type 0
AreShort [] = Unit {0}
AreShort (w ∷ ws) = (length w ≤ most_name_bytes) × AreShort ws

none_long : (ws : List (List ℕ)) → AreShort ws → has_long ws ≡ false
unfolding has_long
none_long [] is = refl
none_long (w ∷ ws) is = or_from (nat_lt most_name_bytes (length w)) (has_long ws) (le-ltb most_name_bytes (length w) is.0) (none_long ws is.1)

-- ---- operands

one_operand : (a : Name) → is_mark_item a ≡ false → operands_of ((40 ∷ []) ∷ a ∷ (41 ∷ []) ∷ []) ≡ Some (a ∷ [])
unfolding operands_of operands_from
one_operand a e = cond-false (is_mark_item a) _ _ e

two_operands : (a b : Name) → is_mark_item a ≡ false → is_mark_item b ≡ false → operands_of ((40 ∷ []) ∷ a ∷ (44 ∷ []) ∷ b ∷ (41 ∷ []) ∷ []) ≡ Some (a ∷ b ∷ [])
unfolding operands_of operands_from
two_operands a b e f = cond-false (is_mark_item a) _ _ e ∙ cond-false (is_mark_item b) _ _ f

named_one : (a : Name) → is_name a ≡ true → list_all is_name (a ∷ []) ≡ true
named_one a e = ap (λ (b : Bool). b && true) e

named_two : (a b : Name) → is_name a ≡ true → is_name b ≡ true → list_all is_name (a ∷ b ∷ []) ≡ true
named_two a b e f = ap (λ (x : Bool). x && (is_name b && true)) e ∙ ap (λ (x : Bool). x && true) f

names_one : (line : ℕ) (a : Name) → IsPlainName a → names_of line ((40 ∷ []) ∷ a ∷ (41 ∷ []) ∷ []) ≡ Ok (a ∷ [])
unfolding names_of
names_one line a is = ap (names_by line) (one_operand a (plain_item a is)) ∙ cond-true _ _ _ (named_one a is.name.spelled)

names_two : (line : ℕ) (a b : Name) → IsPlainName a → IsPlainName b → names_of line ((40 ∷ []) ∷ a ∷ (44 ∷ []) ∷ b ∷ (41 ∷ []) ∷ []) ≡ Ok (a ∷ b ∷ [])
unfolding names_of
names_two line a b x y = ap (names_by line) (two_operands a b (plain_item a x) (plain_item b y)) ∙ cond-true _ _ _ (named_two a b x.name.spelled y.name.spelled)

port_one : (line : ℕ) (a : Name) → IsPlainName a → port_of line ((40 ∷ []) ∷ a ∷ (41 ∷ []) ∷ []) ≡ Ok a
unfolding port_of
port_one line a is = ap (port_by line) (one_operand a (plain_item a is)) ∙ cond-true (is_name a) _ _ is.name.spelled

-- ---- inputs and outputs

input_stated : (line : ℕ) (s : Listed) (n : Name) → IsPlainName n → stated line s (codes "INPUT" ∷ (40 ∷ []) ∷ n ∷ (41 ∷ []) ∷ []) ≡ Ok (with_input s n)
unfolding stated ported keyword_of is_key
input_stated line s n is = ap (λ (r : Result Name NetError). r >>= λ a. Ok (with_input s a)) (port_one line n is)

output_stated : (line : ℕ) (s : Listed) (n : Name) → IsPlainName n → stated line s (codes "OUTPUT" ∷ (40 ∷ []) ∷ n ∷ (41 ∷ []) ∷ []) ≡ Ok (with_output s n)
unfolding stated ported keyword_of is_key
output_stated line s n is = ap (λ (r : Result Name NetError). r >>= λ a. Ok (with_output s a)) (port_one line n is)

port_items : (key : List ℕ) (n : Name) → IsText key → IsPlainName n → items_of (key ++ 40 ∷ (n ++ 41 ∷ [])) ≡ key ∷ (40 ∷ []) ∷ n ∷ (41 ∷ []) ∷ []
port_items key n text is =
    word_mark key (n ++ 41 ∷ []) 40 text refl refl
    ∙ ap (λ (ws : List (List ℕ)). key ∷ (40 ∷ []) ∷ ws) (word_mark n [] 41 (name_text n is) refl refl)
    ∙ ap (λ (ws : List (List ℕ)). key ∷ (40 ∷ []) ∷ n ∷ (41 ∷ []) ∷ ws) no_items

pub input_read : (line : ℕ) (s : Listed) (n : Name) (rest : List ℕ) → IsPlainName n → steps line s (lines_of (port_text (codes "INPUT(") n ++ rest)) ≡ steps (line + 1) (with_input s n) (lines_of rest)
input_read line s n rest is =
    line_on line s (with_input s n) (codes "INPUT(" ++ n) rest (codes "INPUT" ∷ (40 ∷ []) ∷ n ∷ (41 ∷ []) ∷ [])
    (clean_both (codes "INPUT(" ++ n) (41 ∷ []) (clean_both (codes "INPUT(") n (clean_by (codes "INPUT(") refl) (plain_clean n is)) (clean_by (41 ∷ []) refl))
    (omega (arith, length-append n (41 ∷ []), is.name.short))
    (port_items (codes "INPUT") n (text_by (codes "INPUT") refl refl) is)
    (none_long (codes "INPUT" ∷ (40 ∷ []) ∷ n ∷ (41 ∷ []) ∷ []) (omega arith, (omega arith, (is.name.short, (omega arith, tt)))))
    (input_stated line s n is)

pub output_read : (line : ℕ) (s : Listed) (n : Name) (rest : List ℕ) → IsPlainName n →
    steps line s (lines_of (port_text (codes "OUTPUT(") n ++ rest)) ≡ steps (line + 1) (with_output s n) (lines_of rest)
output_read line s n rest is =
    line_on line s (with_output s n) (codes "OUTPUT(" ++ n) rest (codes "OUTPUT" ∷ (40 ∷ []) ∷ n ∷ (41 ∷ []) ∷ [])
    (clean_both (codes "OUTPUT(" ++ n) (41 ∷ []) (clean_both (codes "OUTPUT(") n (clean_by (codes "OUTPUT(") refl) (plain_clean n is)) (clean_by (41 ∷ []) refl))
    (omega (arith, length-append n (41 ∷ []), is.name.short))
    (port_items (codes "OUTPUT") n (text_by (codes "OUTPUT") refl refl) is)
    (none_long (codes "OUTPUT" ∷ (40 ∷ []) ∷ n ∷ (41 ∷ []) ∷ []) (omega arith, (omega arith, (is.name.short, (omega arith, tt)))))
    (output_stated line s n is)

-- ---- latches

dff_of : (line : ℕ) (q d : Name) → is_name q ≡ true → latch_from line q (d ∷ []) ≡ Ok (plain_latch q d)
unfolding latch_from
dff_of line q d e = cond-true (is_name q) _ _ e

latch_stated : (line : ℕ) (s : Listed) (q d : Name) → IsPlainName q → IsPlainName d → stated line s (q ∷ (61 ∷ []) ∷ codes "DFF" ∷ (40 ∷ []) ∷ d ∷ (41 ∷ []) ∷ []) ≡ Ok (with_latch s (plain_latch q d))
unfolding stated driven_by driven keyword_of is_key
latch_stated line s q d x y =
    cond-false (is_mark_item q) _ _ (plain_item q x)
    ∙ ap (λ (r : Result (List Name) NetError). r >>= λ inputs. latch_from line q inputs >>= λ l. Ok (with_latch s l)) (names_one line d y)
    ∙ ap (λ (r : Result LatchLine NetError). r >>= λ l. Ok (with_latch s l)) (dff_of line q d x.name.spelled)

-- a word, `=`, a word and `(`
equal_items : (q key rest : List ℕ) → IsText q → IsText key → items_of (q ++ 32 ∷ 61 ∷ 32 ∷ (key ++ 40 ∷ rest)) ≡ q ∷ (61 ∷ []) ∷ key ∷ (40 ∷ []) ∷ items_of rest
equal_items q key rest x y =
    word_blank q (61 ∷ 32 ∷ (key ++ 40 ∷ rest)) x
    ∙ ap (λ (ws : List (List ℕ)). q ∷ ws) (mark_first (32 ∷ (key ++ 40 ∷ rest)) 61 refl refl)
    ∙ ap (λ (ws : List (List ℕ)). q ∷ (61 ∷ []) ∷ ws) (blank_first (key ++ 40 ∷ rest) ∙ word_mark key rest 40 y refl refl)

plain_is : (l : LatchLine) → IsPlainLatch l → plain_latch l.latch.output l.input ≡ l
plain_is l is = λ i. record { input = l.input; latch = record { output = l.latch.output; control = sym is.control i; init = sym is.init i } }

latch_shape : (q d : Name) → ((q ++ codes " = DFF(") ++ d) ++ 41 ∷ [] ≡ q ++ 32 ∷ 61 ∷ 32 ∷ (codes "DFF" ++ 40 ∷ (d ++ 41 ∷ []))
latch_shape q d = append_assoc (q ++ codes " = DFF(") d (41 ∷ []) ∙ append_assoc q (codes " = DFF(") (d ++ 41 ∷ [])

pub latch_read : (line : ℕ) (s : Listed) (l : LatchLine) (rest : List ℕ) → IsPlainLatch l → steps line s (lines_of (latch_text l ++ rest)) ≡ steps (line + 1) (with_latch s l) (lines_of rest)
latch_read line s l rest is =
    let q = l.latch.output in
    let d = l.input in
    line_on line s (with_latch s (plain_latch q d)) ((q ++ codes " = DFF(") ++ d) rest (q ∷ (61 ∷ []) ∷ codes "DFF" ∷ (40 ∷ []) ∷ d ∷ (41 ∷ []) ∷ [])
    (clean_both ((q ++ codes " = DFF(") ++ d) (41 ∷ []) (clean_both (q ++
    codes " = DFF(") d (clean_both q (codes " = DFF(") (plain_clean q is.output) (clean_by (codes " = DFF(") refl))
    (plain_clean d is.input)) (clean_by (41 ∷ []) refl))
    (omega (arith, length-append ((q ++ codes " = DFF(") ++ d) (41 ∷ []), length-append (q ++ codes " = DFF(") d, length-append q (codes " = DFF("), is.output.name.short, is.input.name.short))
    (ap items_of (latch_shape q d)
    ∙ equal_items q (codes "DFF") (d ++ 41 ∷ []) (name_text q is.output) (text_by (codes "DFF") refl refl)
    ∙ ap (λ (ws : List (List ℕ)). q ∷ (61 ∷ []) ∷ codes "DFF" ∷ (40 ∷ []) ∷ ws) (word_mark d [] 41 (name_text d is.input) refl refl ∙ ap (λ (ws : List (List ℕ)). d ∷ (41 ∷ []) ∷ ws) no_items))
    (none_long (q ∷ (61 ∷ []) ∷ codes "DFF" ∷ (40 ∷ []) ∷ d ∷ (41 ∷ []) ∷ []) (is.output.name.short, (omega arith, (omega arith, (omega arith, (is.input.name.short, (omega arith, tt)))))))
    (latch_stated line s q d is.output is.input)
    ∙ ap (λ (x : LatchLine). steps (line + 1) (with_latch s x) (lines_of rest)) (plain_is l is)

-- ---- gates

-- a keyword of one to four plain bytes without `#`
abbrev IsShortKey : List ℕ → Type 0
IsShortKey text = (list_all is_plain_byte text ≡ true) × (is_nothing text ≡ false) × (list_all is_clean_byte text ≡ true) × (length text ≤ 4)

key_is : (k : Connective) (on single : Bool) → IsShortKey (key_by_text k on single)
key_is And true true = (refl, refl, refl, omega arith)
key_is And false true = (refl, refl, refl, omega arith)
key_is And true false = (refl, refl, refl, omega arith)
key_is And false false = (refl, refl, refl, omega arith)
key_is Or true single = (refl, refl, refl, omega arith)
key_is Or false single = (refl, refl, refl, omega arith)
key_is Xor true single = (refl, refl, refl, omega arith)
key_is Xor false single = (refl, refl, refl, omega arith)

-- the items of the operands after the opening parenthesis
abbrev operand_items : Name → Option Name → List (List ℕ)
operand_items a None = a ∷ (41 ∷ []) ∷ []
operand_items a (Some b) = a ∷ (44 ∷ []) ∷ b ∷ (41 ∷ []) ∷ []

operands_read : (a : Name) (second : Option Name) → IsPlainName a → All IsPlainName (option_to_list second) → items_of (a ++ (second_text second ++ 41 ∷ [])) ≡ operand_items a second
operands_read a None x all = word_mark a [] 41 (name_text a x) refl refl ∙ ap (λ (ws : List (List ℕ)). a ∷ (41 ∷ []) ∷ ws) no_items
operands_read a (Some b) x all =
    let y = All-head IsPlainName b [] all in
    word_mark a (32 ∷ (b ++ 41 ∷ [])) 44 (name_text a x) refl refl
    ∙ ap (λ (ws : List (List ℕ)). a ∷ (44 ∷ []) ∷ ws) (blank_first (b ++ 41 ∷ []) ∙ word_mark b [] 41 (name_text b y) refl refl ∙ ap (λ (ws : List (List ℕ)). b ∷ (41 ∷ []) ∷ ws) no_items)

operands_named : (line : ℕ) (a : Name) (second : Option Name) → IsPlainName a →
    All IsPlainName (option_to_list second) → names_of line ((40 ∷ []) ∷ operand_items a second) ≡
    Ok (a ∷ option_to_list second)
operands_named line a None x all = names_one line a x
operands_named line a (Some b) x all = names_two line a b x (All-head IsPlainName b [] all)

operands_short : (a : Name) (second : Option Name) → IsPlainName a → All IsPlainName (option_to_list second) → AreShort (operand_items a second)
operands_short a None x all = (x.name.short, (omega arith, tt))
operands_short a (Some b) x all = (x.name.short, (omega arith, ((All-head IsPlainName b [] all).name.short, (omega arith, tt))))

second_clean : (second : Option Name) → All IsPlainName (option_to_list second) → AreClean (second_text second)
second_clean None all = tt
second_clean (Some b) all = clean_both (codes ", ") b (clean_by (codes ", ") refl) (plain_clean b (All-head IsPlainName b [] all))

second_short : (second : Option Name) → All IsPlainName (option_to_list second) → length (second_text second) ≤ 1026
second_short None all = omega arith
second_short (Some b) all = omega (arith, (All-head IsPlainName b [] all).name.short)

both_true : (a b : Bool) → a ≡ true → b ≡ true → (a && b) ≡ true
both_true a b e f = ap (λ (x : Bool). x && b) e ∙ f

gate_of : (line : ℕ) (key : GateKey) (output : Name) (inputs : List Name) → is_name output ≡ true → is_counted key inputs ≡ true → table_of line key output inputs ≡ Ok (gate_table key output inputs)
unfolding table_of
gate_of line key output inputs e f = cond-true _ _ _ (both_true (is_name output) (is_counted key inputs) e f)

by_key : (line : ℕ) (s : Listed) (output word : Name) (items : List (List ℕ)) (key : GateKey) (inputs : List Name) →
    names_of line items ≡ Ok inputs → table_of line key output inputs ≡ Ok (gate_table key output inputs) →
    driven line s output word items (Gate key) ≡ Ok (with_table s (gate_table key output inputs))
unfolding driven
by_key line s output word items key inputs e f =
    ap (λ (r : Result (List Name) NetError). r >>= λ xs. table_of line key output xs >>= λ t. Ok (with_table s t)) e
    ∙ ap (λ (r : Result _ NetError). r >>= λ t. Ok (with_table s t)) f

gate_stated : (line : ℕ) (s : Listed) (l : GateLine) → IsPlainLine l →
    stated line s (l.output ∷ (61 ∷ []) ∷ key_text l.key ∷ (40 ∷ []) ∷ operand_items l.first l.second) ≡
    Ok (with_table s (line_table l))
unfolding stated driven_by
gate_stated line s l is =
    cond-false (is_mark_item l.output) _ _ (plain_item l.output is.output)
    ∙ ap (driven line s l.output (key_text l.key) ((40 ∷ []) ∷ operand_items l.first l.second)) is.key
    ∙ by_key line s l.output (key_text l.key) ((40 ∷ []) ∷ operand_items l.first l.second) l.key
    (l.first ∷ option_to_list l.second) (operands_named line l.first l.second is.first is.second)
    (gate_of line l.key l.output (l.first ∷ option_to_list l.second) is.output.name.spelled is.counted)

gate_shape : (y k a b : List ℕ) → (((((y ++ codes " = ") ++ k) ++ codes "(") ++ a) ++ b) ++ 41 ∷ [] ≡ y ++ 32 ∷ 61 ∷ 32 ∷ (k ++ 40 ∷ (a ++ (b ++ 41 ∷ [])))
gate_shape y k a b =
    append_assoc ((((y ++ codes " = ") ++ k) ++ codes "(") ++ a) b (41 ∷ [])
    ∙ append_assoc (((y ++ codes " = ") ++ k) ++ codes "(") a (b ++ 41 ∷ [])
    ∙ append_assoc ((y ++ codes " = ") ++ k) (codes "(") (a ++ (b ++ 41 ∷ []))
    ∙ append_assoc (y ++ codes " = ") k (40 ∷ (a ++ (b ++ 41 ∷ [])))
    ∙ append_assoc y (codes " = ") (k ++ 40 ∷ (a ++ (b ++ 41 ∷ [])))

pub gate_read : (line : ℕ) (s : Listed) (l : GateLine) (rest : List ℕ) → IsPlainLine l → steps line s (lines_of (gate_text l ++ rest)) ≡ steps (line + 1) (with_table s (line_table l)) (lines_of rest)
unfolding gate_text
gate_read line s l rest is =
    let y = l.output in
    let k = key_text l.key in
    let a = l.first in
    let b = second_text l.second in
    let key = key_is l.key.connective l.key.on l.key.is_single in
    line_on line s (with_table s (line_table l)) (((((y ++ codes " = ") ++ k) ++ codes "(") ++ a) ++ b) rest (y ∷ (61 ∷ []) ∷ k ∷ (40 ∷ []) ∷ operand_items a l.second)
    (clean_both (((((y ++ codes " = ") ++ k) ++ codes "(") ++ a) ++ b) (41 ∷ [])
    (clean_both ((((y ++ codes " = ") ++ k) ++ codes "(") ++ a) b
    (clean_both (((y ++ codes " = ") ++ k) ++ codes "(") a
    (clean_both ((y ++ codes " = ") ++ k) (codes "(")
    (clean_both (y ++ codes " = ") k
    (clean_both y (codes " = ") (plain_clean y is.output) (clean_by (codes " = ") refl))
    (clean_by k key.2))
    (clean_by (codes "(") refl))
    (plain_clean a is.first))
    (second_clean l.second is.second))
    (clean_by (41 ∷ []) refl))
    (omega (
      arith,
      length-append (((((y ++ codes " = ") ++ k) ++ codes "(") ++ a) ++ b) (41 ∷ []),
      length-append ((((y ++ codes " = ") ++ k) ++ codes "(") ++ a) b,
      length-append (((y ++ codes " = ") ++ k) ++ codes "(") a,
      length-append ((y ++ codes " = ") ++ k) (codes "("),
      length-append (y ++ codes " = ") k,
      length-append y (codes " = "),
      is.output.name.short,
      is.first.name.short,
      key.3,
      second_short l.second is.second,
    ))
    (ap items_of (gate_shape y k a b)
    ∙ equal_items y k (a ++ (b ++ 41 ∷ [])) (name_text y is.output) (text_by k key.0 key.1)
    ∙ ap (λ (ws : List (List ℕ)). y ∷ (61 ∷ []) ∷ k ∷ (40 ∷ []) ∷ ws) (operands_read a l.second is.first is.second))
    (none_long (y ∷ (61 ∷ []) ∷ k ∷ (40 ∷ []) ∷ operand_items a l.second) (is.output.name.short, (omega arith, (omega (arith, key.3), (omega arith, operands_short a l.second is.first is.second)))))
    (gate_stated line s l is)
