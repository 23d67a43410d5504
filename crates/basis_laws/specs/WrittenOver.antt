-- What is written of a circuit over a basis is over the basis: in BLIF with either covers, and in BENCH.
use Rattle.std.specs.Prelude.{◌≡◌, ℕ, ◌<◌, Bool, true, false, ◌==◌, ◌||◌, refl}
use Rattle.std.specs.Prelude.{[], ◌∷◌, ◌++◌, slice_get, Some, All}
use Rattle.std.proofs.Common.{sym, ◌∙◌, subst, map-id}
use Rattle.std.proofs.lemmas.Bool.{eqb-true}
use Rattle.chain_theory.specs.Operator.{apply, Basis}
use Rattle.op_basis.specs.Closed.{of_values}
use Rattle.op_basis.specs.ReadBack.{operator_is}
use Rattle.net_theory.specs.declared.data.Gate.{Gate}
use Rattle.net_theory.specs.Circuit.{Circuit, IsProper}
use Rattle.net_theory.specs.Cost.{merged_table}
use Rattle.net_theory.specs.Cover.{Cover, cover_value, matches}
use Rattle.net_theory.specs.Document.{Name, has, is_same, Table}
use Rattle.net_theory.specs.Expansion.{binary_word}
use Rattle.net_theory.specs.NameLaws.{same_itself, all_at}
use Rattle.net_core.specs.Wholes.{joined_cover}
use Rattle.blif_core.specs.Written.{row_if, constant_table, unary_table, binary_cubes, binary_table}
use Rattle.blif_core.specs.Written.{written}
use Rattle.blif_covers.specs.Least.{other_rows, least_cover, least_table, least}
use Rattle.bench_core.specs.Bench.{is_gate_word}
use Rattle.bench_core.specs.Gates.{constant_line, unary_line, binary_key, binary_line, line_of, line_table, as_gates}
use Rattle.net_basis.specs.DocumentOver.{is_unary_over, is_cover_over}
use Rattle.net_basis.specs.DocumentOver.{is_table_over, IsDocumentOver}
use Rattle.net_basis.specs.OverBasis.{HaveOperatorsIn}
use Rattle.basis_laws.specs.TablesOver.{NeedsNot, merged_by, pair_over, KeepsOver, FitsGate, AreOver, tables_over}

-- ---- BLIF with the rows of 1

abbrev four : Bool → Bool → Bool → Bool → Cover
four a b c d = record {
  width = 2;
  cubes = row_if a (48 ∷ 48 ∷ []) ++ row_if b (48 ∷ 49 ∷ []) ++ row_if c (49 ∷ 48 ∷ []) ++ row_if d (49 ∷ 49 ∷ []);
  on = true;
  parity = false;
}

four_word : (a b c d : Bool) → binary_word (four a b c d) ≡ of_values a b c d
unfolding cover_value matches
four_word true true true true = refl
four_word true true true false = refl
four_word true true false true = refl
four_word true true false false = refl
four_word true false true true = refl
four_word true false true false = refl
four_word true false false true = refl
four_word true false false false = refl
four_word false true true true = refl
four_word false true true false = refl
four_word false true false true = refl
four_word false true false false = refl
four_word false false true true = refl
four_word false false true false = refl
four_word false false false true = refl
four_word false false false false = refl

binary_is : (op : ℕ) (a b output : Name) → op < 16 → binary_word (binary_table op a b output).cover ≡ op
unfolding binary_cubes
binary_is op a b output low =
    four_word (apply op false false) (apply op false true) (apply op true false) (apply op true true) ∙ operator_is op low

constant_table_over : (basis : Basis) (bit : Bool) (output : Name) →
    is_table_over basis (constant_table bit output) ≡ true
unfolding merged_table is_cover_over
constant_table_over basis bit output = refl

unary_table_over : (basis : Basis) (z o : Bool) (input output : Name) → NeedsNot basis z o →
    is_table_over basis (unary_table z o input output) ≡ true
unfolding merged_table is_cover_over is_unary_over cover_value matches
unary_table_over basis true true input output needs = refl
unary_table_over basis true false input output needs = needs refl refl
unary_table_over basis false true input output needs = refl
unary_table_over basis false false input output needs = refl

abbrev any_operator : ℕ → Bool
any_operator op = true

rows_keep : (basis : Basis) → KeepsOver basis any_operator (λ (t : Table). t)
rows_keep basis = record {
  constant = λ bit output. constant_table_over basis bit output;
  unary = λ z o input output needs. unary_table_over basis z o input output needs;
  binary = λ op a b output low member word.
      pair_over basis (binary_table op a b output) a b op refl low member (binary_is op a b output low);
}

-- ---- BLIF with the least covers

least_word : (a b c d : Bool) → binary_word (least_cover (four a b c d)) ≡ of_values a b c d
unfolding cover_value matches least_cover other_rows has
least_word true true true true = refl
least_word true true true false = refl
least_word true true false true = refl
least_word true true false false = refl
least_word true false true true = refl
least_word true false true false = refl
least_word true false false true = refl
least_word true false false false = refl
least_word false true true true = refl
least_word false true true false = refl
least_word false true false true = refl
least_word false true false false = refl
least_word false false true true = refl
least_word false false true false = refl
least_word false false false true = refl
least_word false false false false = refl

least_is : (op : ℕ) (a b output : Name) → op < 16 → binary_word (least_table (binary_table op a b output)).cover ≡ op
unfolding binary_cubes
least_is op a b output low =
    least_word (apply op false false) (apply op false true) (apply op true false) (apply op true true) ∙ operator_is op low

least_constant : (basis : Basis) (bit : Bool) (output : Name) →
    is_table_over basis (least_table (constant_table bit output)) ≡ true
unfolding merged_table is_cover_over
least_constant basis bit output = refl

least_unary : (basis : Basis) (z o : Bool) (input output : Name) → NeedsNot basis z o →
    is_table_over basis (least_table (unary_table z o input output)) ≡ true
unfolding merged_table is_cover_over is_unary_over cover_value matches least_cover
least_unary basis true true input output needs = refl
least_unary basis true false input output needs = needs refl refl
least_unary basis false true input output needs = refl
least_unary basis false false input output needs = refl

least_keeps : (basis : Basis) → KeepsOver basis any_operator least_table
least_keeps basis = record {
  constant = λ bit output. least_constant basis bit output;
  unary = λ z o input output needs. least_unary basis z o input output needs;
  binary = λ op a b output low member word.
      pair_over basis (least_table (binary_table op a b output)) a b op refl low member (least_is op a b output low);
}

-- ---- BENCH

-- XOR of a signal with itself is 0, and XNOR is 1
abbrev alone : Bool → Table → Name → Table
alone same t a = merged_by same t a

constant_by : (basis : Basis) (same : Bool) (source output : Name) (bit : Bool) → same ≡ true →
    is_cover_over basis (alone same (line_table (constant_line output source bit)) source).cover
    (alone same (line_table (constant_line output source bit)) source).inputs ≡ true
unfolding is_cover_over is_unary_over cover_value matches
constant_by basis true source output true is = refl
constant_by basis true source output false is = refl
constant_by basis false source output bit is = absurd cc

constant_line_over : (basis : Basis) (source output : Name) (bit : Bool) →
    is_table_over basis (line_table (constant_line output source bit)) ≡ true
unfolding merged_table
constant_line_over basis source output bit =
    constant_by basis (is_same source source) source output bit (same_itself source)

unary_line_over : (basis : Basis) (z o : Bool) (a output : Name) → NeedsNot basis z o →
    is_table_over basis (line_table (unary_line output a z o)) ≡ true
unfolding merged_table is_cover_over is_unary_over cover_value matches
unary_line_over basis true true a output needs = constant_line_over basis a output true
unary_line_over basis false false a output needs = constant_line_over basis a output false
unary_line_over basis true false a output needs = needs refl refl
unary_line_over basis false true a output needs = refl

abbrev HasWord : ℕ → Type 0
HasWord word = binary_word (joined_cover (binary_key word).connective 2 (binary_key word).on) ≡ word

word_1 : HasWord 1
unfolding binary_key cover_value matches
word_1 = refl

word_6 : HasWord 6
unfolding binary_key cover_value matches
word_6 = refl

word_7 : HasWord 7
unfolding binary_key cover_value matches
word_7 = refl

word_8 : HasWord 8
unfolding binary_key cover_value matches
word_8 = refl

word_9 : HasWord 9
unfolding binary_key cover_value matches
word_9 = refl

word_14 : HasWord 14
unfolding binary_key cover_value matches
word_14 = refl

at_word : (word k : ℕ) → HasWord k → (word == k) ≡ true → HasWord word
at_word word k h is = subst HasWord (sym (eqb-true word k is)) h

either : (P : Type 0) (a b : Bool) → (a || b) ≡ true → (a ≡ true → P) → (b ≡ true → P) → P
either P true b e f g = f refl
either P false b e f g = g e

-- the truth table of a key
key_word : (word : ℕ) → is_gate_word word ≡ true → HasWord word
unfolding is_gate_word
key_word word e =
    either (HasWord word) (word == 1 || word == 6 || word == 7 || word == 8 || word == 9) (word == 14) e
    (λ e9. either (HasWord word) (word == 1 || word == 6 || word == 7 || word == 8) (word == 9) e9
    (λ e8. either (HasWord word) (word == 1 || word == 6 || word == 7) (word == 8) e8
    (λ e7. either (HasWord word) (word == 1 || word == 6) (word == 7) e7
    (λ e6. either (HasWord word) (word == 1) (word == 6) e6 (at_word word 1 word_1) (at_word word 6 word_6))
    (at_word word 7 word_7))
    (at_word word 8 word_8))
    (at_word word 9 word_9))
    (at_word word 14 word_14)

abbrev gate_line_table : Name → Table → Table
gate_line_table source t = line_table (line_of source t)

bench_constant : (basis : Basis) (source : Name) (bit : Bool) (output : Name) →
    is_table_over basis (gate_line_table source (constant_table bit output)) ≡ true
unfolding line_of
bench_constant basis source bit output =
    constant_line_over basis source output (cover_value (constant_table bit output).cover [])

bench_unary : (basis : Basis) (source : Name) (z o : Bool) (input output : Name) → NeedsNot basis z o →
    is_table_over basis (gate_line_table source (unary_table z o input output)) ≡ true
unfolding line_of cover_value matches
bench_unary basis source true true input output needs = unary_line_over basis true true input output needs
bench_unary basis source true false input output needs = unary_line_over basis true false input output needs
bench_unary basis source false true input output needs = unary_line_over basis false true input output needs
bench_unary basis source false false input output needs = unary_line_over basis false false input output needs

bench_binary : (basis : Basis) (source : Name) (op : ℕ) (a b output : Name) → op < 16 → basis op ≡ true →
    is_gate_word op ≡ true → is_table_over basis (gate_line_table source (binary_table op a b output)) ≡ true
unfolding line_of
bench_binary basis source op a b output low member word =
    let own : binary_word (binary_table op a b output).cover ≡ op = binary_is op a b output low in
    subst (λ (w : ℕ). is_table_over basis (line_table (binary_line output a b w)) ≡ true) (sym own)
    (pair_over basis (line_table (binary_line output a b op)) a b op refl low member (key_word op word))

bench_keeps : (basis : Basis) (source : Name) → KeepsOver basis is_gate_word (gate_line_table source)
bench_keeps basis source = record {
  constant = λ bit output. bench_constant basis source bit output;
  unary = λ z o input output needs. bench_unary basis source z o input output needs;
  binary = λ op a b output low member word. bench_binary basis source op a b output low member word;
}

-- ---- documents

fits_any : (basis : Basis) (c : Circuit) → IsProper c → HaveOperatorsIn basis c.net.gates →
    (i : ℕ) (g : Gate) → slice_get c.net.gates i ≡ Some g → FitsGate basis any_operator g.op
fits_any basis c is over i g at = record {
  low = (is.net.gates.each i g at).operator;
  member = over.each i g at;
  word = refl;
}

pub written_over : (basis : Basis) (c : Circuit) → IsProper c → HaveOperatorsIn basis c.net.gates →
    IsDocumentOver basis (written c)
written_over basis c is over =
    subst (AreOver basis) (map-id (written c).tables)
    (tables_over basis any_operator (λ (t : Table). t) c (rows_keep basis) (fits_any basis c is over))

pub least_over : (basis : Basis) (c : Circuit) → IsProper c → HaveOperatorsIn basis c.net.gates →
    IsDocumentOver basis (least (written c))
least_over basis c is over =
    tables_over basis any_operator least_table c (least_keeps basis) (fits_any basis c is over)

pub gates_written_over : (basis : Basis) (source : Name) (c : Circuit) → IsProper c →
    HaveOperatorsIn basis c.net.gates → All (λ (g : Gate). is_gate_word g.op ≡ true) c.net.gates →
    IsDocumentOver basis (as_gates source (written c))
gates_written_over basis source c is over words =
    tables_over basis is_gate_word (gate_line_table source) c (bench_keeps basis source) (λ i g at. record {
      low = (is.net.gates.each i g at).operator;
      member = over.each i g at;
      word = all_at (λ (h : Gate). is_gate_word h.op ≡ true) c.net.gates i g words at;
    })
