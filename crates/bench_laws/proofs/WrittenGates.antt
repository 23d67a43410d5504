-- The writer's document of a writable circuit has a BENCH text.
use Rattle.std.proofs.Common.{zero, ◌≡◌, ℕ, Bool, true, false, List, [], ◌∷◌, ◌++◌, None, refl, ◌∙◌, sym, subst, drop, length, ap, suc}
use Rattle.std.specs.Prelude.{◌≢◌, ◌==◌, ◌||◌, All}
use Rattle.std.specs.List.{list_any}
use Rattle.std.proofs.lemmas.Bool.{cond_both, eqb-true, eqb-false}
use Rattle.std.proofs.lemmas.List.Elements.{All-nil, All-cons, All-head, All-tail, All-append}
use Rattle.chain_theory.specs.Operator.{apply}
use Rattle.net_theory.specs.declared.data.Sig.{Sig}
use Rattle.net_theory.specs.declared.data.Sig.TheVariants.{Zero, One, Node}
use Rattle.net_theory.specs.declared.data.Gate.{Gate}
use Rattle.net_theory.specs.Cover.{Cover, cover_value, matches}
use Rattle.net_theory.specs.Expansion.{binary_word}
use Rattle.net_theory.specs.Document.{Name, IsName, has, Table, Latch, LatchLine}
use Rattle.net_theory.specs.NameLaws.{all_at, at_all}
use Rattle.net_theory.specs.WellFormed.{IsTable, IsLatchLine, IsWellFormed}
use Rattle.net_theory.specs.Circuit.{Circuit}
use Rattle.net_theory.specs.Naming.{gate_names, first_spare, second_spare, node_name}
use Rattle.blif_core.specs.Written.{constant_table, unary_table, binary_cubes, binary_table, with_node, with_bit}
use Rattle.blif_core.specs.Written.{table_by, gate_table, gate_tables, is_zero, is_one, next_states, one_name, sig_name}
use Rattle.blif_core.specs.Written.{table_if, constant_tables, latch_lines, output_table, output_tables, driven_before}
use Rattle.blif_core.specs.Written.{tables_of, written}
use Rattle.bench_text.specs.declared.keywords.BenchKeyword.TheVariants.{Gate as GateWord}
use Rattle.bench_text.specs.Statements.{keyword_of, gate_key_of, is_key, is_counted}
use Rattle.bench_text.specs.SaidLaws.{IsPlainName, IsPlainLatch}
use Rattle.bench_core.specs.Gates.{constant_line, unary_line, binary_key, line_by, line_of}
use Rattle.bench_core.specs.Spelling.{key_text}
use Rattle.bench_core.specs.Bench.{is_gate_word}
use Rattle.bench_core.specs.Writable.{IsPlainState, HasGateWord}
use Rattle.bench_laws.specs.Spelled.{CanSpellBy, CanSpell, IsPlainLine, IsBenchSpelling, IsMarkFree, IsWritable}
use Rattle.bench_laws.proofs.Operators.{either}
use Rattle.bench_laws.proofs.FreeNames.{outputs_free, gates_free, first_spare_free, second_spare_free, node_free}

-- ---- tables

pub record IsFit (t : Table) : Type 0 where
  pub output : IsMarkFree t.output
  pub inputs : All IsMarkFree t.inputs
  pub spell : CanSpell t

one_free : (a : Name) → IsMarkFree a → All IsMarkFree (a ∷ [])
one_free a is = All-cons IsMarkFree a [] is (All-nil IsMarkFree)

constant_fit : (bit : Bool) (o : Name) → IsMarkFree o → IsFit (constant_table bit o)
constant_fit bit o out = record { output = out; inputs = All-nil IsMarkFree; spell = tt }

unary_fit : (z w : Bool) (a o : Name) → IsMarkFree a → IsMarkFree o → IsFit (unary_table z w a o)
unary_fit z w a o x out = record { output = out; inputs = one_free a x; spell = tt }

abbrev pair_cover : ℕ → Cover
pair_cover op = record { width = 2; cubes = binary_cubes op; on = true; parity = false }

abbrev IsPairWord : ℕ → Type 0
IsPairWord op = is_gate_word (binary_word (pair_cover op)) ≡ true

by_words : (Q : ℕ → Type 0) (op : ℕ) → Q 1 → Q 6 → Q 7 → Q 8 → Q 9 → Q 14 → is_gate_word op ≡ true → Q op
unfolding is_gate_word
by_words Q op q1 q6 q7 q8 q9 q14 e =
    either (Q op) (op == 1 || op == 6 || op == 7 || op == 8 || op == 9) (op == 14) e
    (λ e9. either (Q op) (op == 1 || op == 6 || op == 7 || op == 8) (op == 9) e9
    (λ e8. either (Q op) (op == 1 || op == 6 || op == 7) (op == 8) e8
    (λ e7. either (Q op) (op == 1 || op == 6) (op == 7) e7
    (λ e6. either (Q op) (op == 1) (op == 6) e6 (λ f. subst Q (sym (eqb-true op 1 f)) q1) (λ f. subst Q (sym (eqb-true op 6 f)) q6))
    (λ f. subst Q (sym (eqb-true op 7 f)) q7))
    (λ f. subst Q (sym (eqb-true op 8 f)) q8))
    (λ f. subst Q (sym (eqb-true op 9 f)) q9))
    (λ f. subst Q (sym (eqb-true op 14 f)) q14)

pair_word : (op : ℕ) → is_gate_word op ≡ true → IsPairWord op
unfolding is_gate_word binary_cubes cover_value matches
pair_word op e = by_words (λ k. IsPairWord k) op refl refl refl refl refl refl e

binary_fit : (op : ℕ) (a b o : Name) → is_gate_word op ≡ true → IsMarkFree a → IsMarkFree b → IsMarkFree o → IsFit (binary_table op a b o)
binary_fit op a b o e x y out = record { output = out; inputs = All-cons IsMarkFree a (b ∷ []) x (one_free b y); spell = pair_word op e }

node_fit : (name : ℕ → Name) (o : Name) (op p : ℕ) (s : Sig) → ((k : ℕ) → IsMarkFree (name k)) → IsMarkFree o →
    ((q : ℕ) → s ≡ Node q → p ≢ q → is_gate_word op ≡ true) → IsFit (with_node name o op p s)
node_fit name o op p Zero free out word = unary_fit (apply op false false) (apply op true false) (name p) o (free p) out
node_fit name o op p One free out word = unary_fit (apply op false true) (apply op true true) (name p) o (free p) out
node_fit name o op p (Node q) free out word =
    cond_both (p == q) (unary_table (apply op false false) (apply op true true) (name p) o) (binary_table op (name p) (name q) o) IsFit
    (λ f. unary_fit (apply op false false) (apply op true true) (name p) o (free p) out)
    (λ f. binary_fit op (name p) (name q) o (word q refl (eqb-false p q f)) (free p) (free q) out)

bit_fit : (name : ℕ → Name) (o : Name) (op : ℕ) (a : Bool) (s : Sig) → ((k : ℕ) → IsMarkFree (name k)) → IsMarkFree o → IsFit (with_bit name o op a s)
bit_fit name o op a Zero free out = constant_fit (apply op a false) o out
bit_fit name o op a One free out = constant_fit (apply op a true) o out
bit_fit name o op a (Node q) free out = unary_fit (apply op a false) (apply op a true) (name q) o (free q) out

by_fit : (name : ℕ → Name) (o : Name) (op : ℕ) (a b : Sig) → ((k : ℕ) → IsMarkFree (name k)) → IsMarkFree o →
    ((p q : ℕ) → a ≡ Node p → b ≡ Node q → p ≢ q → is_gate_word op ≡ true) → IsFit (table_by name o op a b)
by_fit name o op Zero b free out word = bit_fit name o op false b free out
by_fit name o op One b free out word = bit_fit name o op true b free out
by_fit name o op (Node p) b free out word = node_fit name o op p b free out (λ q e. word p q refl e)

gate_fit : (name : ℕ → Name) (o : Name) (g : Gate) → ((k : ℕ) → IsMarkFree (name k)) → IsMarkFree o → HasGateWord g → IsFit (gate_table name o g)
unfolding gate_table
gate_fit name o g free out word = by_fit name o g.op g.a g.b free out word

gates_fit : (name : ℕ → Name) (gs : List Gate) (ns : List Name) → ((k : ℕ) → IsMarkFree (name k)) → All IsMarkFree ns → All HasGateWord gs → All IsFit (gate_tables name gs ns)
unfolding gate_tables
gates_fit name [] ns free outs words = All-nil IsFit
gates_fit name (g ∷ gs) [] free outs words = All-nil IsFit
gates_fit name (g ∷ gs) (n ∷ ns) free outs words =
    All-cons IsFit (gate_table name n g) (gate_tables name gs ns)
    (gate_fit name n g free (All-head IsMarkFree n ns outs) (All-head HasGateWord g gs words))
    (gates_fit name gs ns free (All-tail IsMarkFree n ns outs) (All-tail HasGateWord g gs words))

if_fit : (b : Bool) (t : Table) → IsFit t → All IsFit (table_if b t)
if_fit true t is = All-cons IsFit t [] is (All-nil IsFit)
if_fit false t is = All-nil IsFit

one_name_free : (c : Circuit) → IsWritable c → IsMarkFree (one_name c)
one_name_free c can = cond_both (list_any is_zero (next_states c)) (second_spare c) (first_spare c) IsMarkFree (λ e. second_spare_free c can) (λ e. first_spare_free c can)

constants_fit : (c : Circuit) → IsWritable c → All IsFit (constant_tables c)
unfolding constant_tables
constants_fit c can =
    All-append IsFit (table_if (list_any is_zero (next_states c)) (constant_table false (first_spare c))) (table_if (list_any is_one (next_states c)) (constant_table true (one_name c)))
    (if_fit (list_any is_zero (next_states c)) (constant_table false (first_spare c)) (constant_fit false (first_spare c) (first_spare_free c can)))
    (if_fit (list_any is_one (next_states c)) (constant_table true (one_name c)) (constant_fit true (one_name c) (one_name_free c can)))

output_fit : (name : ℕ → Name) (o : Name) (s : Sig) → ((k : ℕ) → IsMarkFree (name k)) → IsMarkFree o → IsFit (output_table name o s)
output_fit name o Zero free out = constant_fit false o out
output_fit name o One free out = constant_fit true o out
output_fit name o (Node p) free out = unary_fit false true (name p) o (free p) out

outputs_fit : (name : ℕ → Name) (done outs : List Name) (sinks : List Sig) → ((k : ℕ) → IsMarkFree (name k)) → All IsMarkFree outs → All IsFit (output_tables name done outs sinks)
unfolding output_tables
outputs_fit name done [] sinks free all = All-nil IsFit
outputs_fit name done (o ∷ os) [] free all = All-nil IsFit
outputs_fit name done (o ∷ os) (s ∷ sinks) free all =
    cond_both (has done o) (output_tables name done os sinks) (output_table name o s ∷ output_tables name (done ++ o ∷ []) os sinks) (λ (ts : List Table). All IsFit ts)
    (λ e. outputs_fit name done os sinks free (All-tail IsMarkFree o os all))
    (λ e. All-cons IsFit (output_table name o s) (output_tables name (done ++ o ∷ []) os sinks)
    (output_fit name o s free (All-head IsMarkFree o os all)) (outputs_fit name (done ++
    o ∷ []) os sinks free (All-tail IsMarkFree o os all)))

tables_fit : (c : Circuit) → IsWritable c → All IsFit (tables_of c)
tables_fit c can =
    All-append IsFit (gate_tables (node_name c) c.net.gates (gate_names c) ++ constant_tables c) (output_tables (node_name c) (driven_before c) c.outputs c.net.sinks)
    (All-append IsFit (gate_tables (node_name c) c.net.gates (gate_names c)) (constant_tables c)
    (gates_fit (node_name c) c.net.gates (gate_names c) (λ k. node_free c k can)
    (gates_free c can) can.fits.operators) (constants_fit c can))
    (outputs_fit (node_name c) (driven_before c) c.outputs c.net.sinks (λ k. node_free c k can) (outputs_free c can))

pub written_fit : (c : Circuit) → IsWritable c → All IsFit (written c).tables
unfolding written
written_fit c can = tables_fit c can

-- ---- latches

pub record IsQuiet (l : LatchLine) : Type 0 where
  pub input : IsMarkFree l.input
  pub output : IsPlainName l.latch.output
  pub control : l.latch.control ≡ None
  pub init : l.latch.init ≡ None

sig_free : (c : Circuit) (s : Sig) → IsWritable c → IsMarkFree (sig_name c s)
sig_free c Zero can = first_spare_free c can
sig_free c One can = one_name_free c can
sig_free c (Node p) can = node_free c p can

lines_quiet : (name : Sig → Name) (ls : List Latch) (sinks : List Sig) → ((s : Sig) → IsMarkFree (name s)) → All IsPlainState ls → All IsQuiet (latch_lines name ls sinks)
unfolding latch_lines
lines_quiet name [] sinks free all = All-nil IsQuiet
lines_quiet name (l ∷ ls) [] free all = All-nil IsQuiet
lines_quiet name (l ∷ ls) (s ∷ sinks) free all =
    let is = All-head IsPlainState l ls all in
    All-cons IsQuiet (record { input = name s; latch = l }) (latch_lines name ls sinks) (record {
      input = free s;
      output = is.output;
      control = is.control;
      init =
          is.init;
    }) (lines_quiet name ls sinks free (All-tail IsPlainState l ls all))

pub written_quiet : (c : Circuit) → IsWritable c → All IsQuiet (written c).latches
unfolding written
written_quiet c can = lines_quiet (sig_name c) c.latches (next_states c) (λ s. sig_free c s can) can.fits.latches

-- ---- lines

plain : (n : Name) → IsName n → IsMarkFree n → IsPlainName n
plain n name free = record { name = name; plain = free }

one_plain : (n : Name) → IsPlainName n → All IsPlainName (n ∷ [])
one_plain n is = All-cons IsPlainName n [] is (All-nil IsPlainName)

constant_plain : (o a : Name) (bit : Bool) → IsPlainName o → IsPlainName a → IsPlainLine (constant_line o a bit)
unfolding keyword_of gate_key_of is_key
constant_plain o a true x y = record { output = x; first = y; second = one_plain a y; key = refl; counted = refl }
constant_plain o a false x y = record { output = x; first = y; second = one_plain a y; key = refl; counted = refl }

unary_plain : (o a : Name) (z w : Bool) → IsPlainName o → IsPlainName a → IsPlainLine (unary_line o a z w)
unfolding keyword_of gate_key_of is_key
unary_plain o a false false x y = constant_plain o a false x y
unary_plain o a true true x y = constant_plain o a true x y
unary_plain o a false true x y = record { output = x; first = y; second = All-nil IsPlainName; key = refl; counted = refl }
unary_plain o a true false x y = record { output = x; first = y; second = All-nil IsPlainName; key = refl; counted = refl }

pub record IsReadKey (word : ℕ) : Type 0 where
  pub key : keyword_of (key_text (binary_key word)) ≡ GateWord (binary_key word)
  pub counted : (a b : Name) → is_counted (binary_key word) (a ∷ b ∷ []) ≡ true

key_read : (word : ℕ) → is_gate_word word ≡ true → IsReadKey word
unfolding is_gate_word binary_key keyword_of gate_key_of is_key
key_read word can = record {
  key = by_words (λ k. keyword_of (key_text (binary_key k)) ≡ GateWord (binary_key k)) word refl refl refl refl refl refl can;
  counted = λ a b. by_words (λ k. is_counted (binary_key k) (a ∷ b ∷ []) ≡ true) word refl refl refl refl refl refl can;
}

line_plain : (source : Name) (t : Table) (ns : List Name) → IsPlainName source → IsPlainName t.output → All IsPlainName ns → CanSpellBy t ns → IsPlainLine (line_by source t ns)
line_plain source t [] s out all can = constant_plain t.output source (cover_value t.cover []) out s
line_plain source t (a ∷ []) s out all can = unary_plain t.output a (cover_value t.cover (false ∷ [])) (cover_value t.cover (true ∷ [])) out (All-head IsPlainName a [] all)
line_plain source t (a ∷ b ∷ []) s out all can =
    let key = key_read (binary_word t.cover) can in
    record {
      output = out;
      first = All-head IsPlainName a (b ∷ []) all;
      second = All-tail IsPlainName a (b ∷ []) all;
      key = key.key;
      counted = key.counted a b;
    }
line_plain source t (a ∷ b ∷ c ∷ ns) s out all can = absurd can

plain_all : (ns : List Name) → All IsName ns → All IsMarkFree ns → All IsPlainName ns
plain_all [] x y = All-nil IsPlainName
plain_all (n ∷ ns) x y = All-cons IsPlainName n ns (plain n (All-head IsName n ns x) (All-head IsMarkFree n ns y)) (plain_all ns (All-tail IsName n ns x) (All-tail IsMarkFree n ns y))

table_plain : (source : Name) (t : Table) → IsPlainName source → IsTable t → IsFit t → IsPlainLine (line_of source t)
unfolding line_of
table_plain source t s is fit = line_plain source t t.inputs s (plain t.output is.output fit.output) (plain_all t.inputs is.inputs fit.inputs) fit.spell

latch_plain : (l : LatchLine) → IsLatchLine l → IsQuiet l → IsPlainLatch l
latch_plain l is quiet = record { input = plain l.input is.input quiet.input; output = quiet.output; control = quiet.control; init = quiet.init }

-- ---- the document

written_inputs : (c : Circuit) → (written c).inputs ≡ c.inputs
unfolding written
written_inputs c = refl

written_outputs : (c : Circuit) → (written c).outputs ≡ c.outputs
unfolding written
written_outputs c = refl

written_clocks : (c : Circuit) → (written c).clocks ≡ c.clocks
unfolding written
written_clocks c = refl

pub written_model : (c : Circuit) → (written c).model ≡ c.model
unfolding written
written_model c = refl

pub lines_plain : (c : Circuit) (source : Name) → IsWritable c → IsPlainName source → IsWellFormed (written c) → All (λ (t : Table). IsPlainLine (line_of source t)) (written c).tables
lines_plain c source can s well = at_all (λ (t : Table). IsPlainLine (line_of source t)) (written c).tables (λ k t e.
    table_plain source t s (all_at IsTable (written c).tables k t well.tables e)
    (all_at IsFit (written c).tables k t (written_fit c can) e))

pub written_spelled : (c : Circuit) (source : Name) → IsWritable c →
    All (λ (t : Table). IsPlainLine (line_of source t)) (written c).tables → IsWellFormed (written c) →
    IsBenchSpelling source (written c)
written_spelled c source can lines well = record {
  model = written_model c ∙ can.fits.model;
  inputs = subst (All IsPlainName) (sym (written_inputs c)) can.fits.inputs;
  outputs = subst (All IsPlainName) (sym (written_outputs c)) can.fits.outputs;
  clocks = written_clocks c ∙ can.fits.clocks;
  latches = at_all IsPlainLatch (written c).latches (λ k l e.
      latch_plain l (all_at IsLatchLine (written c).latches k l well.latches e)
      (all_at IsQuiet (written c).latches k l (written_quiet c can) e));
  tables = lines;
}

pub written_spell : (c : Circuit) → IsWritable c → All CanSpell (written c).tables
written_spell c can = at_all CanSpell (written c).tables (λ k t e. (all_at IsFit (written c).tables k t (written_fit c can) e).spell)

-- ---- circuits without gates and sinks

no_gates : (name : ℕ → Name) (gs : List Gate) (ns : List Name) → gs ≡ [] → gate_tables name gs ns ≡ []
unfolding gate_tables
no_gates name [] ns e = refl
no_gates name (g ∷ gs) ns e = absurd cc

no_outputs : (name : ℕ → Name) (done outs : List Name) (sinks : List Sig) → sinks ≡ [] → output_tables name done outs sinks ≡ []
unfolding output_tables
no_outputs name done [] sinks e = refl
no_outputs name done (o ∷ os) [] e = refl
no_outputs name done (o ∷ os) (s ∷ sinks) e = absurd cc

no_ifs : (z w : Bool) (t u : Table) → z ≡ false → w ≡ false → table_if z t ++ table_if w u ≡ []
no_ifs false false t u e f = refl
no_ifs true w t u e f = absurd cc
no_ifs false true t u e f = absurd cc

drop_none : (k : ℕ) (xs : List Sig) → xs ≡ [] → drop k xs ≡ []
drop_none zero xs e = e
drop_none (suc k) [] e = refl
drop_none (suc k) (x ∷ xs) e = absurd cc

no_constants : (c : Circuit) → c.net.sinks ≡ [] → constant_tables c ≡ []
unfolding constant_tables
no_constants c e =
    let none : next_states c ≡ [] = drop_none (length c.outputs) c.net.sinks e in
    no_ifs (list_any is_zero (next_states c)) (list_any is_one (next_states c)) (constant_table false (first_spare c))
    (constant_table true (one_name c)) (ap (list_any is_zero) none) (ap (list_any is_one) none)

pub no_tables : (c : Circuit) → c.net.gates ≡ [] → c.net.sinks ≡ [] → (written c).tables ≡ []
unfolding written
no_tables c e f =
    ap (λ (ts : List Table). (ts ++ constant_tables c) ++ output_tables (node_name c) (driven_before c) c.outputs c.net.sinks) (no_gates (node_name c) c.net.gates (gate_names c) e)
    ∙ ap (λ (ts : List Table). ts ++ output_tables (node_name c) (driven_before c) c.outputs c.net.sinks) (no_constants c f)
    ∙ no_outputs (node_name c) (driven_before c) c.outputs c.net.sinks f
