-- The tables of a circuit have at most two inputs.
use Rattle.std.proofs.Common.{◌≡◌, ℕ, Bool, true, false, List, [], ◌∷◌, ◌++◌, refl, sym, subst, arith}
use Rattle.std.specs.Prelude.{◌==◌, All}
use Rattle.std.specs.List.{list_any}
use Rattle.std.proofs.lemmas.Grind.{common_steps}
use Rattle.std.proofs.lemmas.Bool.{cond_both}
use Rattle.std.proofs.lemmas.List.Elements.{All-nil, All-cons, All-append}
use Rattle.chain_theory.specs.Operator.{apply}
use Rattle.net_theory.specs.declared.data.Sig.{Sig}
use Rattle.net_theory.specs.declared.data.Sig.TheVariants.{Zero, One, Node}
use Rattle.net_theory.specs.declared.data.Gate.{Gate}
use Rattle.net_theory.specs.Cover.{is_cube}
use Rattle.net_theory.specs.Document.{Name, has, Table, Document}
use Rattle.net_theory.specs.Circuit.{Circuit}
use Rattle.net_theory.specs.Naming.{gate_names, first_spare, node_name}
use Rattle.blif_core.specs.Written.{row_if, constant_table, unary_table, binary_cubes, binary_table, with_node}
use Rattle.blif_core.specs.Written.{with_bit, table_by, gate_table, gate_tables, is_zero, is_one, next_states, one_name}
use Rattle.blif_core.specs.Written.{table_if, constant_tables, output_table, output_tables, driven_before, tables_of}
use Rattle.blif_core.specs.Written.{written}
use Rattle.bench_core.specs.Spelling.{IsSmallTable}

abbrev AreCubes : ℕ → List (List ℕ) → Type 0
AreCubes width cubes = All (λ (cube : List ℕ). is_cube width cube ≡ true) cubes

row_cubes : (width : ℕ) (b : Bool) (row : List ℕ) → is_cube width row ≡ true → AreCubes width (row_if b row)
row_cubes width true row e = All-cons (λ (cube : List ℕ). is_cube width cube ≡ true) row [] e (All-nil (λ (cube : List ℕ). is_cube width cube ≡ true))
row_cubes width false row e = All-nil (λ (cube : List ℕ). is_cube width cube ≡ true)

both_cubes : (width : ℕ) (xs ys : List (List ℕ)) → AreCubes width xs → AreCubes width ys → AreCubes width (xs ++ ys)
both_cubes width xs ys x y = All-append (λ (cube : List ℕ). is_cube width cube ≡ true) xs ys x y

constant_small : (bit : Bool) (output : Name) → IsSmallTable (constant_table bit output)
constant_small bit output = record { width = refl; cover = record { cubes = row_cubes 0 bit [] refl; parity = λ e. absurd cc }; narrow = omega arith }

unary_small : (z o : Bool) (a output : Name) → IsSmallTable (unary_table z o a output)
unary_small z o a output = record {
  width = refl;
  cover = record {
    cubes = both_cubes 1 (row_if z (48 ∷ [])) (row_if o (49 ∷ [])) (row_cubes 1 z (48 ∷ []) refl)
        (row_cubes 1 o (49 ∷ []) refl);
    parity = λ e. absurd cc;
  };
  narrow = omega arith;
}

binary_are_cubes : (op : ℕ) → AreCubes 2 (binary_cubes op)
unfolding binary_cubes
binary_are_cubes op =
    let a = row_if (apply op false false) (48 ∷ 48 ∷ []) in
    let b = row_if (apply op false true) (48 ∷ 49 ∷ []) in
    let c = row_if (apply op true false) (49 ∷ 48 ∷ []) in
    let d = row_if (apply op true true) (49 ∷ 49 ∷ []) in
    both_cubes 2 (a ++ b ++ c) d
    (both_cubes 2 (a ++ b) c
    (both_cubes 2 a b (row_cubes 2 (apply op false false) (48 ∷ 48 ∷ []) refl) (row_cubes 2 (apply op false true) (48 ∷ 49 ∷ []) refl))
    (row_cubes 2 (apply op true false) (49 ∷ 48 ∷ []) refl))
    (row_cubes 2 (apply op true true) (49 ∷ 49 ∷ []) refl)

binary_small : (op : ℕ) (a b output : Name) → IsSmallTable (binary_table op a b output)
binary_small op a b output = record { width = refl; cover = record { cubes = binary_are_cubes op; parity = λ e. absurd cc }; narrow = omega arith }

-- ---- gates

node_small : (name : ℕ → Name) (output : Name) (op p : ℕ) (s : Sig) → IsSmallTable (with_node name output op p s)
node_small name output op p Zero = unary_small (apply op false false) (apply op true false) (name p) output
node_small name output op p One = unary_small (apply op false true) (apply op true true) (name p) output
node_small name output op p (Node q) =
    cond_both (p == q) (unary_table (apply op false false) (apply op true true) (name p) output) (binary_table op (name p) (name q) output) IsSmallTable
    (λ e. unary_small (apply op false false) (apply op true true) (name p) output)
    (λ e. binary_small op (name p) (name q) output)

bit_small : (name : ℕ → Name) (output : Name) (op : ℕ) (a : Bool) (s : Sig) → IsSmallTable (with_bit name output op a s)
bit_small name output op a Zero = constant_small (apply op a false) output
bit_small name output op a One = constant_small (apply op a true) output
bit_small name output op a (Node q) = unary_small (apply op a false) (apply op a true) (name q) output

by_small : (name : ℕ → Name) (output : Name) (op : ℕ) (a b : Sig) → IsSmallTable (table_by name output op a b)
by_small name output op Zero b = bit_small name output op false b
by_small name output op One b = bit_small name output op true b
by_small name output op (Node p) b = node_small name output op p b

gate_small : (name : ℕ → Name) (output : Name) (g : Gate) → IsSmallTable (gate_table name output g)
unfolding gate_table
gate_small name output g = by_small name output g.op g.a g.b

gates_small : (name : ℕ → Name) (gs : List Gate) (ns : List Name) → All IsSmallTable (gate_tables name gs ns)
unfolding gate_tables
gates_small name [] ns = All-nil IsSmallTable
gates_small name (g ∷ gs) [] = All-nil IsSmallTable
gates_small name (g ∷ gs) (n ∷ ns) = All-cons IsSmallTable (gate_table name n g) (gate_tables name gs ns) (gate_small name n g) (gates_small name gs ns)

-- ---- constants and outputs

if_small : (b : Bool) (t : Table) → IsSmallTable t → All IsSmallTable (table_if b t)
if_small true t is = All-cons IsSmallTable t [] is (All-nil IsSmallTable)
if_small false t is = All-nil IsSmallTable

constants_small : (c : Circuit) → All IsSmallTable (constant_tables c)
unfolding constant_tables
constants_small c =
    All-append IsSmallTable (table_if (list_any is_zero (next_states c)) (constant_table false (first_spare c))) (table_if (list_any is_one (next_states c)) (constant_table true (one_name c)))
    (if_small (list_any is_zero (next_states c)) (constant_table false (first_spare c)) (constant_small false (first_spare c)))
    (if_small (list_any is_one (next_states c)) (constant_table true (one_name c)) (constant_small true (one_name c)))

output_small : (name : ℕ → Name) (output : Name) (s : Sig) → IsSmallTable (output_table name output s)
output_small name output Zero = constant_small false output
output_small name output One = constant_small true output
output_small name output (Node p) = unary_small false true (name p) output

outputs_small : (name : ℕ → Name) (done outs : List Name) (sinks : List Sig) → All IsSmallTable (output_tables name done outs sinks)
unfolding output_tables
outputs_small name done [] sinks = All-nil IsSmallTable
outputs_small name done (o ∷ os) [] = All-nil IsSmallTable
outputs_small name done (o ∷ os) (s ∷ sinks) =
    cond_both (has done o) (output_tables name done os sinks) (output_table name o s ∷ output_tables name (done ++ o ∷ []) os sinks) (λ (ts : List Table). All IsSmallTable ts)
    (λ e. outputs_small name done os sinks)
    (λ e. All-cons IsSmallTable (output_table name o s) (output_tables name (done ++ o ∷ []) os sinks) (output_small name o s) (outputs_small name (done ++ o ∷ []) os sinks))

tables_small : (c : Circuit) → All IsSmallTable (tables_of c)
tables_small c =
    All-append IsSmallTable (gate_tables (node_name c) c.net.gates (gate_names c) ++ constant_tables c) (output_tables (node_name c) (driven_before c) c.outputs c.net.sinks)
    (All-append IsSmallTable (gate_tables (node_name c) c.net.gates (gate_names c)) (constant_tables c) (gates_small (node_name c) c.net.gates (gate_names c)) (constants_small c))
    (outputs_small (node_name c) (driven_before c) c.outputs c.net.sinks)

pub written_tables_small : (c : Circuit) (d : Document) → d ≡ written c → All IsSmallTable d.tables
unfolding written
written_tables_small c d e = subst (λ (x : Document). All IsSmallTable x.tables) (sym e) (tables_small c)

pub ruleset smalls = (common_steps, written_tables_small)
