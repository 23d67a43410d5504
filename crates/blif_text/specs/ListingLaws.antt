-- What a text lists is within the limits and consistent.
use Rattle.std.proofs.Common.{◌≡◌, ℕ, ◌+◌, ◌*◌, ◌≤◌, true, false, List, [], ◌∷◌, ◌++◌, length, map, Option, Some, None, refl, ap, ◌∙◌, sym, subst, arith, length-append, inl, inr}
use Rattle.std.specs.Prelude.{◌-◌, ◌==◌, Result, Ok, Err, IfOk, All, sum_by}
use Rattle.std.specs.List.{flat_map, filter_map, cons_option}
use Rattle.std.specs.Option.{option_map}
use Rattle.std.proofs.lemmas.Bool.{cond_both, cases_Bool, cond-true, cond-false}
use Rattle.std.proofs.lemmas.List.Elements.{All-nil, All-cons, All-head, All-tail}
use Rattle.std.proofs.lemmas.List.Sums.{sum_by-cons}
use Rattle.std.proofs.lemmas.List.{length-map}
use Rattle.net_theory.specs.declared.data.Trigger.{Trigger}
use Rattle.net_theory.specs.Cover.{Cover, cover_value}
use Rattle.net_theory.specs.Cost.{unary_cost, binary_cost, unary_cover, merged, merged_table, is_not, cubes_cost, wide_cost, cover_cost, table_cost, cost, literal_sum}
use Rattle.net_theory.specs.Expansion.{unary_word, binary_word, is_constant_cover}
use Rattle.net_theory.specs.Document.{Name, has, is_same, Table, LatchLine, table_output, table_inputs, latch_of, latch_input, latch_output}
use Rattle.net_theory.specs.NameLaws.{all_at, at_all}
use Rattle.net_theory.specs.WellFormed.{IsTable, IsFreeOf}
use Rattle.net_theory.specs.NetOf.{source_count}
use Rattle.net_theory.specs.Naming.{control_of, second_of}
use Rattle.net_core.specs.declared.error.NetError.{NetError}
use Rattle.net_core.specs.declared.error.NetError.TheVariants.{NotSupported}
use Rattle.net_document.specs.Listed.{Listed, IsWellListed, AreControlsFree, times}
use Rattle.net_document.specs.TimesLaws.{times-append}
use Rattle.blif_text.specs.Logical.{logical_of}
use Rattle.blif_text.specs.Statements.{Control, Said, nothing, said_of, listed_by, listed_of, control_fault, unless}
use Rattle.blif_text.specs.Reading.{◌>>=◌}
use Rattle.blif_text.specs.SizeLaws.{said_size, text_short}
use Rattle.blif_text.specs.SaidLaws.{IsCubeTable, control_name, table_size, nothing_said, tables_none}
use Rattle.blif_text.specs.StepLaws.{IsComplete, steps_fine}

-- ---- the parser state as a listed document

list_said : (s : Said) (size : ℕ) → IsComplete s size → IsWellListed (listed_by s)
list_said s size is = record {
  model = is.said.model;
  inputs = is.said.inputs;
  outputs = is.said.outputs;
  clocks = is.said.clocks;
  latches = is.said.latches;
  tables = at_all IsTable s.tables (λ k t e. (all_at IsCubeTable s.tables k t is.said.tables e).table);
  driven = λ n. omega (
    arith,
    is.said.driven n,
    ap (λ (ts : List Table). times n (map table_output ts)) (tables_none s is.whole),
    times-append n (s.inputs ++ map latch_output (map latch_of s.latches)) (map table_output s.tables),
    times-append n s.inputs (map latch_output (map latch_of s.latches)),
  );
  used = λ n. omega (
    arith,
    is.said.used n,
    ap (λ (ts : List Table). times n (flat_map table_inputs ts)) (tables_none s is.whole),
    times-append n s.used s.outputs,
    times-append n (flat_map table_inputs s.tables) (s.outputs ++ map latch_input s.latches),
    times-append n s.outputs (map latch_input s.latches),
  );
}

-- ---- its costs

unary_small : (w : ℕ) → unary_cost w ≤ 1
unary_small w = cond_both (w == 2) 1 0 (λ (n : ℕ). n ≤ 1) (λ e. omega arith) (λ e. omega arith)

binary_small : (w : ℕ) → binary_cost w ≤ 1
binary_small w = cond_both _ 0 1 (λ (n : ℕ). n ≤ 1) (λ e. omega arith) (λ e. omega arith)

cubes_small : (c : Cover) → cubes_cost c ≤ 1 + literal_sum c.cubes
unfolding cubes_cost
cubes_small c =
    cond_both (is_constant_cover c.cubes) 0 _ (λ (n : ℕ). n ≤ 1 + literal_sum c.cubes)
    (λ e. omega arith)
    (λ e. cond_both (is_not c.on c.cubes) 1 0 (λ (n : ℕ). (literal_sum c.cubes - 1) + n ≤ 1 + literal_sum c.cubes) (λ f. omega arith) (λ f. omega arith))

wide_small : (c : Cover) → c.parity ≡ false → wide_cost c ≤ 1 + literal_sum c.cubes
unfolding wide_cost
wide_small c cubes = subst (λ (n : ℕ). n ≤ 1 + literal_sum c.cubes) (sym (cond-false c.parity _ _ cubes)) (cubes_small c)

cover_small : {A : Type 0} (c : Cover) (xs : List A) → c.parity ≡ false → cover_cost c xs ≤ 1 + literal_sum c.cubes
cover_small c [] cubes = omega arith
cover_small c (a ∷ []) cubes = omega (arith, unary_small (unary_word c))
cover_small c (a ∷ b ∷ []) cubes = omega (arith, binary_small (binary_word c))
cover_small c (a ∷ b ∷ d ∷ xs) cubes = wide_small c cubes

merged_small : (t : Table) (ns : List Name) → t.cover.parity ≡ false → t.inputs ≡ ns → cover_cost (merged t ns).cover (merged t ns).inputs ≤ table_size t
unfolding table_size
merged_small t [] cubes e = cover_small t.cover t.inputs cubes
merged_small t (a ∷ []) cubes e = cover_small t.cover t.inputs cubes
merged_small t (a ∷ b ∷ []) cubes e =
    cond_both (is_same a b) _ t (λ (m : Table). cover_cost m.cover m.inputs ≤ 1 + literal_sum t.cover.cubes)
    (λ same. omega (arith, unary_small (unary_word (unary_cover (cover_value t.cover (false ∷ false ∷ [])) (cover_value t.cover (true ∷ true ∷ []))))))
    (λ other. cover_small t.cover t.inputs cubes)
merged_small t (a ∷ b ∷ c ∷ ns) cubes e = cover_small t.cover t.inputs cubes

table_small : (t : Table) → IsCubeTable t → table_cost t ≤ table_size t
unfolding table_cost merged_table
table_small t is = merged_small t t.inputs is.parity refl

tables_small : (ts : List Table) → All IsCubeTable ts → sum_by table_cost ts ≤ sum_by table_size ts
tables_small [] all = omega arith
tables_small (t ∷ ts) all =
    omega (arith, sum_by-cons table_cost t ts, sum_by-cons table_size t ts, table_small t (All-head IsCubeTable t ts all), tables_small ts (All-tail IsCubeTable t ts all))

size_said : (s : Said) (size : ℕ) → IsComplete s size → 2 * source_count (listed_by s).document + cost (listed_by s).document ≤ size
unfolding cost
size_said s size is =
    let sources : length (s.inputs ++ map latch_output (map latch_of s.latches)) ≡ length s.inputs + length s.latches =
    length-append s.inputs (map latch_output (map latch_of s.latches))
    ∙ ap (λ k. length s.inputs + k) (length-map (map latch_of s.latches) latch_output
    ∙ length-map s.latches latch_of) in
    omega (arith, is.said.small, ap (λ (ts : List Table). sum_by table_size ts) (tables_none s is.whole), tables_small s.tables is.said.tables, sources)

-- ---- its controls

fault_first : (ns : List Name) (c : Control) (cs : List Control) → control_fault ns (c ∷ cs) ≡ None → (has ns c.name ≡ false) × (control_fault ns cs ≡ None)
unfolding control_fault
fault_first ns c cs e =
    elim (cases_Bool (has ns c.name)) as (λ _. (has ns c.name ≡ false) × (control_fault ns cs ≡ None)) [
      | inl there ↦ absurd (let f : Some (NotSupported c.line c.name) ≡ None = sym (cond-true _ _ _ there) ∙ e in cc)
      | inr apart ↦ (apart, sym (cond-false _ _ _ apart) ∙ e)
    ]

abbrev AreNone : List Name → List Name → Type 0
AreNone ns [] = Unit {0}
AreNone ns (m ∷ ms) = (has ns m ≡ false) × AreNone ns ms

faults_none : (ns : List Name) (cs : List Control) → control_fault ns cs ≡ None → AreNone ns (map control_name cs)
faults_none ns [] e = tt
faults_none ns (c ∷ cs) e = let f = fault_first ns c cs e in (f.0, faults_none ns cs f.1)

latch_free : (ns : List Name) (c : Option (Trigger × Name)) (ms : List Name) → AreNone ns (cons_option (option_map second_of c) ms) → IsFreeOf ns c × AreNone ns ms
latch_free ns None ms h = (tt, h)
latch_free ns (Some c) ms h = h

latches_free : (ns : List Name) (ls : List LatchLine) → AreNone ns (filter_map control_of (map latch_of ls)) → All (λ (l : LatchLine). IsFreeOf ns l.latch.control) ls
latches_free ns [] h = All-nil (λ (l : LatchLine). IsFreeOf ns l.latch.control)
latches_free ns (l ∷ ls) h =
    let f = latch_free ns l.latch.control (filter_map control_of (map latch_of ls)) h in
    All-cons (λ (x : LatchLine). IsFreeOf ns x.latch.control) l ls f.0 (latches_free ns ls f.1)

free_said : (s : Said) (size : ℕ) → IsComplete s size → control_fault (map table_output s.tables) s.controls ≡ None → AreControlsFree (listed_by s).document
free_said s size is e = latches_free (map table_output s.tables) s.latches
    (subst (λ (ms : List Name). AreNone (map table_output s.tables) ms) is.said.controls
    (faults_none (map table_output s.tables) s.controls e))

-- ---- texts

abbrev Whole : ℕ → Result Said NetError → Type 0
Whole size r = IfOk r (λ s. IsComplete s size)

said_fine : (bytes : List ℕ) → Whole (0 + said_size (logical_of 1 bytes)) (said_of bytes)
unfolding said_of
said_fine bytes = steps_fine nothing (logical_of 1 bytes) 0 nothing_said

pub said_whole : (bytes : List ℕ) (s : Said) → said_of bytes ≡ Ok s → IsComplete s (0 + said_size (logical_of 1 bytes))
said_whole bytes s e = subst (Whole (0 + said_size (logical_of 1 bytes))) e (said_fine bytes)

pub text_listed : (bytes : List ℕ) (s : Said) → said_of bytes ≡ Ok s → IsWellListed (listed_by s)
text_listed bytes s e = list_said s _ (said_whole bytes s e)

pub text_free : (bytes : List ℕ) (s : Said) → said_of bytes ≡ Ok s → control_fault (map table_output s.tables) s.controls ≡ None → AreControlsFree (listed_by s).document
text_free bytes s e none = free_said s _ (said_whole bytes s e) none

pub text_small : (bytes : List ℕ) (s : Said) → said_of bytes ≡ Ok s → 2 * source_count (listed_by s).document + cost (listed_by s).document ≤ length bytes
text_small bytes s e = omega (arith, size_said s _ (said_whole bytes s e), text_short 1 bytes)

tables_count : (ts : List Table) → length ts ≤ sum_by table_size ts
unfolding table_size
tables_count [] = omega arith
tables_count (t ∷ ts) = omega (arith, sum_by-cons table_size t ts, tables_count ts)

few_said : (s : Said) (size : ℕ) → IsComplete s size → length s.tables ≤ size
few_said s size is = omega (arith, is.said.small, ap (λ (ts : List Table). sum_by table_size ts) (tables_none s is.whole), tables_count s.tables)

pub text_few : (bytes : List ℕ) (s : Said) → said_of bytes ≡ Ok s → length (listed_by s).document.tables ≤ length bytes
text_few bytes s e = omega (arith, few_said s _ (said_whole bytes s e), text_short 1 bytes)

-- there are no more outputs and clocks than bytes
pub text_named : (bytes : List ℕ) (s : Said) → said_of bytes ≡ Ok s → length s.outputs + length s.clocks ≤ length bytes
text_named bytes s e = omega (arith, (said_whole bytes s e).said.named, text_short 1 bytes)

-- ---- what a text lists

-- `l` is the document of a final parser state
pub record IsSaidBy (bytes : List ℕ) (l : Listed) : Type 0 where
  pub state : Said
  pub said : said_of bytes ≡ Ok state
  pub same : listed_by state ≡ l

unless_ok : (f : Option NetError) (k l : Listed) → unless f k ≡ Ok l → k ≡ l
unless_ok None k l e = cc
unless_ok (Some f) k l e = absurd cc

said_by_parts : (bytes : List ℕ) (l : Listed) (r : Result Said NetError) → said_of bytes ≡ r →
    (r >>= λ s. unless (control_fault (map table_output s.tables) s.controls) (listed_by s)) ≡ Ok l → IsSaidBy bytes l
said_by_parts bytes l (Ok s) e f = record { state = s; said = e; same = unless_ok (control_fault (map table_output s.tables) s.controls) (listed_by s) l f }
said_by_parts bytes l (Err x) e f = absurd cc

listed_said : (bytes : List ℕ) (l : Listed) → listed_of bytes ≡ Ok l → IsSaidBy bytes l
unfolding listed_of
listed_said bytes l e = said_by_parts bytes l (said_of bytes) refl e

-- the listed names, latches and tables are within their limits
pub texts_list : (bytes : List ℕ) (l : Listed) → listed_of bytes ≡ Ok l → IsWellListed l
texts_list bytes l e = let s = listed_said bytes l e in subst IsWellListed s.same (text_listed bytes s.state s.said)
