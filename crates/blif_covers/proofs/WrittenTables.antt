-- The least cover of each table that the writer makes is the same.
use Rattle.std.specs.Prelude.{ℕ, Bool, true, false, ◌==◌, List, [], ◌∷◌, ◌++◌, All}
use Rattle.std.specs.List.{list_any}
use Rattle.std.proofs.lemmas.Bool.{cond_both}
use Rattle.std.proofs.lemmas.List.Elements.{All-nil, All-cons, All-append}
use Rattle.chain_theory.specs.Operator.{apply}
use Rattle.net_theory.specs.declared.data.Sig.{Sig}
use Rattle.net_theory.specs.declared.data.Sig.TheVariants.{Zero, One, Node}
use Rattle.net_theory.specs.declared.data.Gate.{Gate}
use Rattle.net_theory.specs.Document.{Name, has}
use Rattle.net_theory.specs.Circuit.{Circuit}
use Rattle.net_theory.specs.Naming.{gate_names, node_name, first_spare}
use Rattle.blif_core.specs.Written.{constant_table, unary_table, binary_table, with_node, with_bit, table_by}
use Rattle.blif_core.specs.Written.{gate_table, gate_tables, table_if, constant_tables, output_table, output_tables}
use Rattle.blif_core.specs.Written.{driven_before, is_zero, is_one, next_states, one_name, written}
use Rattle.blif_covers.proofs.SameCovers.{IsKept, constant_kept, unary_kept, binary_kept}

node_kept : (name : ℕ → Name) (output : Name) (op p : ℕ) (b : Sig) → IsKept (with_node name output op p b)
node_kept name output op p Zero = unary_kept (apply op false false) (apply op true false) (name p) output
node_kept name output op p One = unary_kept (apply op false true) (apply op true true) (name p) output
node_kept name output op p (Node q) =
    cond_both (p == q) (unary_table (apply op false false) (apply op true true) (name p) output)
    (binary_table op (name p) (name q) output) IsKept
    (λ same. unary_kept (apply op false false) (apply op true true) (name p) output)
    (λ other. binary_kept op (name p) (name q) output)

bit_kept : (name : ℕ → Name) (output : Name) (op : ℕ) (a : Bool) (b : Sig) → IsKept (with_bit name output op a b)
bit_kept name output op a Zero = constant_kept (apply op a false) output
bit_kept name output op a One = constant_kept (apply op a true) output
bit_kept name output op a (Node q) = unary_kept (apply op a false) (apply op a true) (name q) output

kept_by : (name : ℕ → Name) (output : Name) (op : ℕ) (a b : Sig) → IsKept (table_by name output op a b)
kept_by name output op Zero b = bit_kept name output op false b
kept_by name output op One b = bit_kept name output op true b
kept_by name output op (Node p) b = node_kept name output op p b

gate_kept : (name : ℕ → Name) (output : Name) (g : Gate) → IsKept (gate_table name output g)
unfolding gate_table
gate_kept name output g = kept_by name output g.op g.a g.b

gates_kept : (name : ℕ → Name) (gs : List Gate) (ns : List Name) → All IsKept (gate_tables name gs ns)
unfolding gate_tables
gates_kept name [] ns = All-nil IsKept
gates_kept name (g ∷ gs) [] = All-nil IsKept
gates_kept name (g ∷ gs) (n ∷ ns) =
    All-cons IsKept (gate_table name n g) (gate_tables name gs ns) (gate_kept name n g) (gates_kept name gs ns)

if_kept : (is : Bool) (bit : Bool) (output : Name) → All IsKept (table_if is (constant_table bit output))
if_kept true bit output = All-cons IsKept (constant_table bit output) [] (constant_kept bit output) (All-nil IsKept)
if_kept false bit output = All-nil IsKept

constants_kept : (c : Circuit) → All IsKept (constant_tables c)
unfolding constant_tables
constants_kept c =
    let zero = list_any is_zero (next_states c) in
    let one = list_any is_one (next_states c) in
    All-append IsKept (table_if zero (constant_table false (first_spare c)))
    (table_if one (constant_table true (one_name c)))
    (if_kept zero false (first_spare c)) (if_kept one true (one_name c))

output_kept : (name : ℕ → Name) (output : Name) (s : Sig) → IsKept (output_table name output s)
output_kept name output Zero = constant_kept false output
output_kept name output One = constant_kept true output
output_kept name output (Node p) = unary_kept false true (name p) output

outputs_kept : (name : ℕ → Name) (done outs : List Name) (sinks : List Sig) →
    All IsKept (output_tables name done outs sinks)
unfolding output_tables
outputs_kept name done [] sinks = All-nil IsKept
outputs_kept name done (o ∷ os) [] = All-nil IsKept
outputs_kept name done (o ∷ os) (s ∷ sinks) =
    cond_both (has done o) (output_tables name done os sinks)
    (output_table name o s ∷ output_tables name (done ++ o ∷ []) os sinks) (All IsKept)
    (λ there. outputs_kept name done os sinks)
    (λ new. All-cons IsKept (output_table name o s) (output_tables name (done ++ o ∷ []) os sinks)
    (output_kept name o s) (outputs_kept name (done ++ o ∷ []) os sinks))

pub written_kept : (c : Circuit) → All IsKept (written c).tables
unfolding written
written_kept c =
    All-append IsKept (gate_tables (node_name c) c.net.gates (gate_names c) ++ constant_tables c)
    (output_tables (node_name c) (driven_before c) c.outputs c.net.sinks)
    (All-append IsKept (gate_tables (node_name c) c.net.gates (gate_names c)) (constant_tables c)
    (gates_kept (node_name c) c.net.gates (gate_names c)) (constants_kept c))
    (outputs_kept (node_name c) (driven_before c) c.outputs c.net.sinks)
