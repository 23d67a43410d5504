-- A text lists a document of gates, and of latches without control and initial value, that is no larger than the
-- text.
use Rattle.std.proofs.Common.{◌≡◌, ℕ, suc, ◌+◌, ◌*◌, ◌≤◌, Bool, true, false, List, [], ◌∷◌, ◌++◌, length, map, refl, ap, ◌∙◌, sym, subst, arith, length-append}
use Rattle.std.specs.Prelude.{◌==◌, ◌||◌, nat_lt, if◌then◌else◌, Result, Ok, Err, IfOk, All, sum_by, codes}
use Rattle.std.specs.List.{list_any, flat_map}
use Rattle.std.proofs.lemmas.Bool.{cond_both}
use Rattle.std.proofs.lemmas.List.{length-map}
use Rattle.std.proofs.lemmas.List.Elements.{All-nil, All-head, All-tail}
use Rattle.std.proofs.lemmas.List.Sums.{sum_by-cons}
use Rattle.text_core.specs.Lines.{Line, lines_from, lines_of, last_line}
use Rattle.net_theory.specs.Cover.{Cover, cover_value}
use Rattle.net_theory.specs.Cost.{unary_cost, binary_cost, unary_cover, merged, merged_table, cover_cost, table_cost, cost}
use Rattle.net_theory.specs.Expansion.{unary_word, binary_word}
use Rattle.net_theory.specs.Document.{Name, IsName, is_name, is_same, Table, LatchLine, table_output, table_inputs, latch_of, latch_input, latch_output}
use Rattle.net_theory.specs.NameLaws.{all_at, at_all}
use Rattle.net_theory.specs.WellFormed.{IsTable, IsLatchLine, IsControl, IsInit, IsFreeOf}
use Rattle.net_theory.specs.NetOf.{source_count}
use Rattle.net_core.specs.declared.whole.Whole.{Whole}
use Rattle.net_core.specs.Wholes.{whole_cover}
use Rattle.net_core.specs.BodyLaws.{whole_cost-wide}
use Rattle.net_core.specs.declared.error.NetError.{NetError}
use Rattle.net_core.specs.declared.error.NetError.TheVariants.{Syntax, NotSupported, LineTooLong, NameTooLong}
use Rattle.net_document.specs.Listed.{Listed, IsWellListed, AreControlsFree}
use Rattle.net_document.specs.TimesLaws.{times-append}
use Rattle.blif_text.specs.Reading.{◌>>=◌}
use Rattle.blif_text.specs.SaidLaws.{bind_fine}
use Rattle.net_document.specs.Contents.{is_blank, is_nothing, content_of}
use Rattle.blif_text.specs.Words.{word_then}
use Rattle.blif_text.specs.Words.{has_long}
use Rattle.blif_text.specs.SaidLaws.{AreShort, short_cons, short_words}
use Rattle.net_document.specs.SizeLaws.{content_short}
use Rattle.bench_text.specs.declared.keywords.BenchKeyword.{BenchKeyword}
use Rattle.bench_text.specs.declared.keywords.BenchKeyword.TheVariants.{Input, Output, Gate, Dff, Lut, Constant, Unknown}
use Rattle.bench_text.specs.Items.{is_mark, is_mark_item, items_from, items_of}
use Rattle.bench_text.specs.Statements.{nothing, with_input, with_output, with_latch, with_table, names_of, table_of}
use Rattle.bench_text.specs.Statements.{latch_of as latch_from, port_of, ported, driven, driven_by, keyword_of, stated}
use Rattle.bench_text.specs.Statements.{step, steps, listed_of}
use Rattle.bench_text.specs.SaidLaws.{IsWord, AreItems, IsPlainName, IsPlainLatch, IsGateTable, IsFine, AreOperandNames}
use Rattle.bench_text.specs.SaidLaws.{gate_is_table, table_width, nothing_fine, fine_more, input_fine, output_fine}
use Rattle.bench_text.specs.SaidLaws.{latch_fine, table_fine, names_fine, port_fine, gate_fine, dff_fine}
use Rattle.net_theory.specs.Limits.{most_line_bytes}

-- ---- items

abbrev ArePlain : List (List ℕ) → Type 0
ArePlain [] = Unit {0}
ArePlain (w ∷ ws) = (is_mark_item w ≡ false → list_any is_mark w ≡ false) × ArePlain ws

or_false : (a b : Bool) → a ≡ false → b ≡ false → (a || b) ≡ false
or_false false b e f = f
or_false true b e f = absurd cc

marks_push : (prefix : List ℕ) (b : ℕ) → list_any is_mark prefix ≡ false → is_mark b ≡ false → list_any is_mark (prefix ++ b ∷ []) ≡ false
marks_push [] b e f = or_false (is_mark b) false f refl
marks_push (c ∷ prefix) b e f = or_false (is_mark c) (list_any is_mark (prefix ++ b ∷ []))
    (head (is_mark c) (list_any is_mark prefix) e)
    (marks_push prefix b (tail (is_mark c) (list_any is_mark prefix) e) f) where
      head : (a b : Bool) → (a || b) ≡ false → a ≡ false
      head false b e = refl
      head true b e = absurd cc

      tail : (a b : Bool) → (a || b) ≡ false → b ≡ false
      tail false b e = e
      tail true b e = absurd cc

then_plain : (prefix : List ℕ) (ws : List (List ℕ)) → list_any is_mark prefix ≡ false → ArePlain ws → ArePlain (word_then prefix ws)
then_plain [] ws e is = is
then_plain (b ∷ prefix) ws e is = (λ f. e, is)

mark_plain : (b : ℕ) (ws : List (List ℕ)) → is_mark b ≡ true → ArePlain ws → ArePlain ((b ∷ []) ∷ ws)
mark_plain b ws e is = ((λ f. absurd (let g : true ≡ false = sym e ∙ f in cc)), is)

items_plain : (prefix text : List ℕ) → list_any is_mark prefix ≡ false → ArePlain (items_from prefix text)
unfolding items_from
items_plain prefix [] e = then_plain prefix [] e tt
items_plain prefix (b ∷ bs) e =
    cond_both (is_blank b) (word_then prefix (items_from [] bs)) (if is_mark b then word_then prefix ((b ∷ []) ∷ items_from [] bs) else items_from (prefix ++ b ∷ []) bs) ArePlain
    (λ blank. then_plain prefix (items_from [] bs) e (items_plain [] bs refl))
    (λ none. cond_both (is_mark b) (word_then prefix ((b ∷ []) ∷ items_from [] bs)) (items_from (prefix ++ b ∷ []) bs) ArePlain
    (λ mark. then_plain prefix ((b ∷ []) ∷ items_from [] bs) e (mark_plain b (items_from [] bs) mark (items_plain [] bs refl)))
    (λ other. items_plain (prefix ++ b ∷ []) bs (marks_push prefix b e other)))

are_items : (ws : List (List ℕ)) → ArePlain ws → AreShort ws → AreItems ws
are_items [] plain short = tt
are_items (w ∷ ws) plain short = let s = short_cons w ws short in (record { short = s.0; plain = plain.0 }, are_items ws plain.1 s.1)

pub items_fine : (text : List ℕ) → has_long (items_of text) ≡ false → AreItems (items_of text)
items_fine text e = are_items (items_of text) (items_plain [] text refl) (short_words (items_of text) e)

then_long : (prefix : List ℕ) (ws : List (List ℕ)) (k : ℕ) → length ws ≤ k → length (word_then prefix ws) ≤ length prefix + k
then_long [] ws k h = omega (arith, h)
then_long (b ∷ prefix) ws k h = omega (arith, h)

items_fit : (prefix text : List ℕ) → length (items_from prefix text) ≤ length prefix + length text
unfolding items_from
items_fit prefix [] = then_long prefix [] 0 (omega arith)
items_fit prefix (b ∷ bs) =
    cond_both (is_blank b) (word_then prefix (items_from [] bs))
    (if is_mark b then word_then prefix ((b ∷ []) ∷ items_from [] bs) else items_from (prefix ++ b ∷ []) bs)
    (λ (ws : List (List ℕ)). length ws ≤ length prefix + suc (length bs))
    (λ blank. then_long prefix (items_from [] bs) (suc (length bs)) (omega (arith, items_fit [] bs)))
    (λ none. cond_both (is_mark b) (word_then prefix ((b ∷ []) ∷ items_from [] bs)) (items_from (prefix ++ b ∷ []) bs) (λ (ws : List (List ℕ)). length ws ≤ length prefix + suc (length bs))
    (λ mark. then_long prefix ((b ∷ []) ∷ items_from [] bs) (suc (length bs)) (omega (arith, items_fit [] bs)))
    (λ other. omega (arith, items_fit (prefix ++ b ∷ []) bs, length-append prefix (b ∷ []))))

-- ---- lines

abbrev Fine : ℕ → Result Listed NetError → Type 0
Fine size r = IfOk r (λ s. IsFine s size)

ported_fine : (line : ℕ) (s : Listed) (items : List (List ℕ)) (k : BenchKeyword) (size more : ℕ) → IsFine s size → AreItems items → size + 2 ≤ more → Fine more (ported line s items k)
unfolding ported
ported_fine line s items Input size more is items_are h =
    bind_fine (port_of line items) (λ n. Ok (with_input s n)) IsPlainName (λ x. IsFine x more)
    (port_fine line items items_are) (λ n name. input_fine s size more n is name h)
ported_fine line s items Output size more is items_are h =
    bind_fine (port_of line items) (λ n. Ok (with_output s n)) IsPlainName (λ x. IsFine x more)
    (port_fine line items items_are) (λ n name. output_fine s size more n is name h)
ported_fine line s items (Gate key) size more is items_are h = tt
ported_fine line s items Dff size more is items_are h = tt
ported_fine line s items Lut size more is items_are h = tt
ported_fine line s items Constant size more is items_are h = tt
ported_fine line s items Unknown size more is items_are h = tt

driven_fine : (line : ℕ) (s : Listed) (output word : Name) (items : List (List ℕ)) (k : BenchKeyword) (size more : ℕ) →
    IsFine s size → IsWord output → AreItems items → size + 2 + length items ≤ more →
    Fine more (driven line s output word items k)
unfolding driven
driven_fine line s output word items (Gate key) size more is out items_are h =
    bind_fine (names_of line items) (λ inputs. table_of line key output inputs >>= λ t. Ok (with_table s t))
    (λ ns. AreOperandNames ns (length items)) (λ x. IsFine x more) (names_fine line items items_are)
    (λ inputs are. bind_fine (table_of line key output inputs) (λ t. Ok (with_table s t)) (λ t. IsGateTable t ×
    (length t.inputs ≤ length items)) (λ x. IsFine x more) (gate_fine line key output inputs (length items) out are)
    (λ t gate. table_fine s size more t is gate.0 (omega (arith, gate.1, h))))
driven_fine line s output word items Dff size more is out items_are h =
    bind_fine (names_of line items) (λ inputs. latch_from line output inputs >>= λ l. Ok (with_latch s l))
    (λ ns. AreOperandNames ns (length items)) (λ x. IsFine x more) (names_fine line items items_are)
    (λ inputs are. bind_fine (latch_from line output inputs) (λ l. Ok (with_latch s l)) IsPlainLatch (λ x. IsFine x more) (dff_fine line output inputs (length items) out are)
    (λ l latch. latch_fine s size more l is latch (omega (arith, h))))
driven_fine line s output word items Lut size more is out items_are h = tt
driven_fine line s output word items Constant size more is out items_are h = cond_both (is_nothing items) (Err (NotSupported line word)) (Err (Syntax line)) (Fine more) (λ e. tt) (λ e. tt)
driven_fine line s output word items Input size more is out items_are h = tt
driven_fine line s output word items Output size more is out items_are h = tt
driven_fine line s output word items Unknown size more is out items_are h = tt

driven_by_fine : (line : ℕ) (s : Listed) (output : Name) (items : List (List ℕ)) (size more : ℕ) → IsFine s size →
    IsWord output → AreItems items → size + 2 + length items ≤ more → Fine more (driven_by line s output items)
unfolding driven_by
driven_by_fine line s output [] size more is out items_are h = tt
driven_by_fine line s output (w ∷ items) size more is out items_are h = driven_fine line s output w items (keyword_of w) size more is out items_are.1 (omega (arith, h))

stated_fine : (line : ℕ) (s : Listed) (items : List (List ℕ)) (size more : ℕ) → IsFine s size → AreItems items → size + length items ≤ more → Fine more (stated line s items)
unfolding stated
stated_fine line s [] size more is items_are h = fine_more s size more (omega (arith, h)) is
stated_fine line s (w ∷ []) size more is items_are h = tt
stated_fine line s (w ∷ m ∷ items) size more is items_are h =
    cond_both (is_mark_item w) (Err (Syntax line)) (if is_same m (codes "=") then driven_by line s w items else ported line s (m ∷ items) (keyword_of w)) (Fine more)
    (λ mark. tt)
    (λ word. cond_both (is_same m (codes "=")) (driven_by line s w items) (ported line s (m ∷ items) (keyword_of w)) (Fine more)
    (λ equal. driven_by_fine line s w items size more is (record { short = items_are.0.short; plain = items_are.0.plain word }) items_are.1.1 (omega (arith, h)))
    (λ other. ported_fine line s (m ∷ items) (keyword_of w) size more is items_are.1 (omega (arith, h))))

step_fine : (line : ℕ) (s : Listed) (l : Line) (size : ℕ) → IsFine s size → Fine (size + length l.text) (step line s l)
unfolding step
step_fine line s l size is =
    cond_both (nat_lt most_line_bytes (length l.text)) (Err (LineTooLong line))
    (if has_long (items_of (content_of l)) then Err (NameTooLong line) else stated line s (items_of (content_of l)))
    (Fine (size + length l.text))
    (λ e. tt)
    (λ e. cond_both (has_long (items_of (content_of l))) (Err (NameTooLong line)) (stated line s (items_of (content_of l))) (Fine (size + length l.text))
    (λ f. tt)
    (λ f. stated_fine line s (items_of (content_of l)) size (size + length l.text) is (items_fine (content_of l) f) (omega (arith, items_fit [] (content_of l), content_short l))))

abbrev line_size : Line → ℕ
line_size l = length l.text

steps_fine : (line : ℕ) (s : Listed) (ls : List Line) (size : ℕ) → IsFine s size → Fine (size + sum_by line_size ls) (steps line s ls)
unfolding steps
steps_fine line s [] size is = fine_more s size (size + 0) (omega arith) is
steps_fine line s (l ∷ ls) size is =
    bind_fine (step line s l) (λ t. steps (line + 1) t ls) (λ t. IsFine t (size + length l.text)) (λ t. IsFine t (size + sum_by line_size (l ∷ ls))) (step_fine line s l size is)
    (λ t fine. subst (λ (k : ℕ). Fine k (steps (line + 1) t ls)) (omega (arith, sum_by-cons line_size l ls)) (steps_fine (line + 1) t ls (size + length l.text) fine))

last_size : (prefix : List ℕ) → sum_by line_size (last_line prefix) ≤ length prefix
last_size [] = omega arith
last_size (b ∷ prefix) = omega (arith, sum_by-cons line_size (record { text = b ∷ prefix; ended = false }) [])

lines_size : (prefix bytes : List ℕ) → sum_by line_size (lines_from prefix bytes) ≤ length prefix + length bytes
unfolding lines_from
lines_size prefix [] = omega (arith, last_size prefix)
lines_size prefix (b ∷ bs) =
    cond_both (b == 10) (record { text = prefix; ended = true } ∷ lines_from [] bs) (lines_from (prefix ++ b ∷ []) bs) (λ (ls : List Line). sum_by line_size ls ≤ length prefix + suc (length bs))
    (λ e. omega (arith, sum_by-cons line_size (record { text = prefix; ended = true }) (lines_from [] bs), lines_size [] bs))
    (λ e. omega (arith, lines_size (prefix ++ b ∷ []) bs, length-append prefix (b ∷ [])))

listed_by_fine : (bytes : List ℕ) → Fine (0 + sum_by line_size (lines_of bytes)) (listed_of bytes)
unfolding listed_of
listed_by_fine bytes = steps_fine 1 nothing (lines_of bytes) 0 nothing_fine

pub text_fine : (bytes : List ℕ) (l : Listed) → listed_of bytes ≡ Ok l → IsFine l (length bytes)
text_fine bytes l e = fine_more l (0 + sum_by line_size (lines_of bytes)) (length bytes)
    (omega (arith, lines_size [] bytes)) (subst (Fine (0 + sum_by line_size (lines_of bytes))) e (listed_by_fine bytes))

-- ---- the listed document

all_names : (ns : List Name) → All IsPlainName ns → All IsName ns
all_names ns all = at_all IsName ns (λ k n e. (all_at IsPlainName ns k n all e).name)

latch_is : (l : LatchLine) → IsPlainLatch l → IsLatchLine l
latch_is l is = record {
  input = is.input.name;
  latch = record {
    output = is.output.name;
    control = subst IsControl (sym is.control) tt;
    init = subst IsInit (sym is.init) tt;
  };
}

pub fine_listed : (l : Listed) (size : ℕ) → IsFine l size → IsWellListed l
unfolding is_name
fine_listed l size is = record {
  model = subst IsName (sym is.model) (record { spelled = refl; short = omega arith });
  inputs = all_names l.document.inputs is.inputs;
  outputs = all_names l.document.outputs is.outputs;
  clocks = subst (All IsName) (sym is.clocks) (All-nil IsName);
  latches = at_all IsLatchLine l.document.latches (λ k x e. latch_is x (all_at IsPlainLatch l.document.latches k x is.latches e));
  tables = at_all IsTable l.document.tables (λ k x e. gate_is_table x (all_at IsGateTable l.document.tables k x is.tables e));
  driven = λ n. omega (
    arith,
    is.driven n,
    times-append n (l.document.inputs ++ map latch_output (map latch_of l.document.latches)) (map table_output l.document.tables),
    times-append n l.document.inputs (map latch_output (map latch_of l.document.latches)),
  );
  used = λ n. omega (
    arith,
    is.used n,
    times-append n l.used l.document.outputs,
    times-append n (flat_map table_inputs l.document.tables) (l.document.outputs ++ map latch_input l.document.latches),
    times-append n l.document.outputs (map latch_input l.document.latches),
  );
}

free_is : (names : List Name) (l : LatchLine) → IsPlainLatch l → IsFreeOf names l.latch.control
free_is names l is = subst (IsFreeOf names) (sym is.control) tt

pub fine_free : (l : Listed) (size : ℕ) → IsFine l size → AreControlsFree l.document
fine_free l size is = at_all (λ (x : LatchLine). IsFreeOf (map table_output l.document.tables) x.latch.control)
    l.document.latches (λ k x e. free_is (map table_output l.document.tables) x
    (all_at IsPlainLatch l.document.latches k x is.latches e))

-- ---- costs

unary_small : (w : ℕ) → unary_cost w ≤ 1
unary_small w = cond_both (w == 2) 1 0 (λ (n : ℕ). n ≤ 1) (λ e. omega arith) (λ e. omega arith)

binary_small : (w : ℕ) → binary_cost w ≤ 1
binary_small w = cond_both _ 0 1 (λ (n : ℕ). n ≤ 1) (λ e. omega arith) (λ e. omega arith)

cover_small : (w : Whole) (c : Cover) (ns : List Name) → c ≡ whole_cover w → w.width ≡ length ns → cover_cost c ns ≤ length ns
cover_small w c [] e wide = omega arith
cover_small w c (a ∷ []) e wide = omega (arith, unary_small (unary_word c))
cover_small w c (a ∷ b ∷ []) e wide = omega (arith, binary_small (binary_word c))
cover_small w c (a ∷ b ∷ d ∷ ns) e wide = omega (arith, ap (λ (x : Cover). cover_cost x (a ∷ b ∷ d ∷ ns)) e, whole_cost-wide w (a ∷ b ∷ d ∷ ns) wide (omega arith), wide)

merged_small : (w : Whole) (t : Table) (ns : List Name) → t.cover ≡ whole_cover w → w.width ≡ length ns → t.inputs ≡ ns → cover_cost (merged t ns).cover (merged t ns).inputs ≤ length ns
merged_small w t [] e wide same = subst (λ (xs : List Name). cover_cost t.cover xs ≤ 0) (sym same) (omega arith)
merged_small w t (a ∷ []) e wide same = subst (λ (xs : List Name). cover_cost t.cover xs ≤ 1) (sym same) (cover_small w t.cover (a ∷ []) e wide)
merged_small w t (a ∷ b ∷ []) e wide same =
    cond_both (is_same a b) _ t (λ (m : Table). cover_cost m.cover m.inputs ≤ 2)
    (λ one. omega (arith, unary_small (unary_word (unary_cover (cover_value t.cover (false ∷ false ∷ [])) (cover_value t.cover (true ∷ true ∷ []))))))
    (λ other. subst (λ (xs : List Name). cover_cost t.cover xs ≤ 2) (sym same) (cover_small w t.cover (a ∷ b ∷ []) e wide))
merged_small w t (a ∷ b ∷ c ∷ ns) e wide same = subst (λ (xs : List Name). cover_cost t.cover xs ≤ length (a ∷ b ∷ c ∷ ns)) (sym same) (cover_small w t.cover (a ∷ b ∷ c ∷ ns) e wide)

table_small : (t : Table) → IsGateTable t → table_cost t ≤ table_width t
unfolding table_cost merged_table table_width
table_small t is =
    let whole : Whole = record { connective = is.connective; width = length t.inputs; on = is.on } in
    merged_small whole t t.inputs is.cover refl refl

tables_small : (ts : List Table) → All IsGateTable ts → sum_by table_cost ts ≤ sum_by table_width ts
tables_small [] all = omega arith
tables_small (t ∷ ts) all =
    omega (arith, sum_by-cons table_cost t ts, sum_by-cons table_width t ts, table_small t (All-head IsGateTable t ts all), tables_small ts (All-tail IsGateTable t ts all))

tables_few : (ts : List Table) → All IsGateTable ts → length ts ≤ sum_by table_width ts
unfolding table_width
tables_few [] all = omega arith
tables_few (t ∷ ts) all = omega (arith, sum_by-cons table_width t ts, (All-head IsGateTable t ts all).some, tables_few ts (All-tail IsGateTable t ts all))

pub fine_small : (l : Listed) (size : ℕ) → IsFine l size → 2 * source_count l.document + cost l.document ≤ size
unfolding cost
fine_small l size is =
    let ls = l.document.latches in
    let sources : length (l.document.inputs ++ map latch_output (map latch_of ls)) ≡
    length l.document.inputs + length ls = length-append l.document.inputs (map latch_output (map latch_of ls))
    ∙ ap (λ k. length l.document.inputs + k) (length-map (map latch_of ls) latch_output ∙ length-map ls latch_of) in
    omega (arith, is.small, tables_small l.document.tables is.tables, sources)

pub fine_few : (l : Listed) (size : ℕ) → IsFine l size → length l.document.tables ≤ size
fine_few l size is = omega (arith, is.small, tables_few l.document.tables is.tables)

-- ---- texts

pub texts_list : (bytes : List ℕ) (l : Listed) → listed_of bytes ≡ Ok l → IsWellListed l
texts_list bytes l e = fine_listed l (length bytes) (text_fine bytes l e)

pub texts_are_free : (bytes : List ℕ) (l : Listed) → listed_of bytes ≡ Ok l → AreControlsFree l.document
texts_are_free bytes l e = fine_free l (length bytes) (text_fine bytes l e)

pub texts_are_small : (bytes : List ℕ) (l : Listed) → listed_of bytes ≡ Ok l → 2 * source_count l.document + cost l.document ≤ length bytes
texts_are_small bytes l e = fine_small l (length bytes) (text_fine bytes l e)

pub texts_are_few : (bytes : List ℕ) (l : Listed) → listed_of bytes ≡ Ok l → length l.document.tables ≤ length bytes
texts_are_few bytes l e = fine_few l (length bytes) (text_fine bytes l e)

pub ruleset listings = (texts_list, texts_are_free, texts_are_small, texts_are_few)
