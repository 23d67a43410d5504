-- The document that the writer makes of a circuit.
use Rattle.std.specs.Prelude.{ℕ, Bool, true, false, ◌==◌, if◌then◌else◌, List, [], ◌∷◌, ◌++◌, length}
use Rattle.std.specs.List.{list_any}
use Rattle.std.proofs.Common.{drop}
use Rattle.chain_theory.specs.Operator.{apply}
use Rattle.net_theory.specs.declared.data.Sig.{Sig}
use Rattle.net_theory.specs.declared.data.Sig.TheVariants.{Zero, One, Node}
use Rattle.net_theory.specs.declared.data.Gate.{Gate}
use Rattle.net_theory.specs.Document.{Name, has, Table, Latch, LatchLine, Document}
use Rattle.net_theory.specs.Circuit.{Circuit, sources_of}
use Rattle.net_theory.specs.Naming.{each_once, gate_names, first_spare, second_spare, node_name}

-- ---- covers from values

abbrev pub row_if : Bool → List ℕ → List (List ℕ)
row_if true row = row ∷ []
row_if false row = []

abbrev pub table_with : List Name → List (List ℕ) → Name → Table
table_with inputs cubes output = record {
  inputs = inputs;
  output = output;
  cover = record { width = length inputs; cubes = cubes; on = true; parity = false };
}

-- a table without inputs
abbrev pub constant_table : Bool → Name → Table
constant_table bit output = table_with [] (row_if bit []) output

-- a table of one input, by its values at 0 and 1
abbrev pub unary_table : Bool → Bool → Name → Name → Table
unary_table at_zero at_one input output = table_with (input ∷ []) (row_if at_zero (48 ∷ []) ++
    row_if at_one (49 ∷ [])) output

-- the rows 00, 01, 10 and 11 on which an operator is 1
unfoldable pub binary_cubes : ℕ → List (List ℕ)
binary_cubes op = row_if (apply op false false) (48 ∷ 48 ∷ []) ++ row_if (apply op false true) (48 ∷ 49 ∷ []) ++
    row_if (apply op true false) (49 ∷ 48 ∷ []) ++ row_if (apply op true true) (49 ∷ 49 ∷ [])

abbrev pub binary_table : ℕ → Name → Name → Name → Table
binary_table op first second output = table_with (first ∷ second ∷ []) (binary_cubes op) output

-- ---- gates

-- a gate whose first operand is a node
abbrev pub with_node : (ℕ → Name) → Name → ℕ → ℕ → Sig → Table
with_node name output op p (Node q) = if p == q then unary_table (apply op false false) (apply op true true)
    (name p) output else binary_table op (name p) (name q) output
with_node name output op p Zero = unary_table (apply op false false) (apply op true false) (name p) output
with_node name output op p One = unary_table (apply op false true) (apply op true true) (name p) output

-- a gate whose first operand is a constant
abbrev pub with_bit : (ℕ → Name) → Name → ℕ → Bool → Sig → Table
with_bit name output op a (Node q) = unary_table (apply op a false) (apply op a true) (name q) output
with_bit name output op a Zero = constant_table (apply op a false) output
with_bit name output op a One = constant_table (apply op a true) output

abbrev pub table_by : (ℕ → Name) → Name → ℕ → Sig → Sig → Table
table_by name output op (Node p) b = with_node name output op p b
table_by name output op Zero b = with_bit name output op false b
table_by name output op One b = with_bit name output op true b

-- A gate is written as a function of its distinct fanins, in the order of its operands.
unfoldable pub gate_table : (ℕ → Name) → Name → Gate → Table
gate_table name output g = table_by name output g.op g.a g.b

-- the tables of gates, with their names, in the order of their nodes
unfoldable pub gate_tables : (ℕ → Name) → List Gate → List Name → List Table
gate_tables name [] ns = []
gate_tables name (g ∷ gs) [] = []
gate_tables name (g ∷ gs) (n ∷ ns) = gate_table name n g ∷ gate_tables name gs ns

-- ---- constants that latches read

abbrev pub is_zero : Sig → Bool
is_zero Zero = true
is_zero One = false
is_zero (Node p) = false

abbrev pub is_one : Sig → Bool
is_one Zero = false
is_one One = true
is_one (Node p) = false

-- the sinks that are the latches' inputs
abbrev pub next_states : Circuit → List Sig
next_states c = drop (length c.outputs) c.net.sinks

-- the name of the constant 1, the one after the name of 0 if a latch reads 0
abbrev pub one_name : Circuit → Name
one_name c = if list_any is_zero (next_states c) then second_spare c else first_spare c

abbrev pub sig_name : Circuit → Sig → Name
sig_name c Zero = first_spare c
sig_name c One = one_name c
sig_name c (Node p) = node_name c p

abbrev pub table_if : Bool → Table → List Table
table_if true t = t ∷ []
table_if false t = []

unfoldable pub constant_tables : Circuit → List Table
constant_tables c = table_if (list_any is_zero (next_states c)) (constant_table false (first_spare c)) ++
    table_if (list_any is_one (next_states c)) (constant_table true (one_name c))

unfoldable pub latch_lines : (Sig → Name) → List Latch → List Sig → List LatchLine
latch_lines name [] sinks = []
latch_lines name (l ∷ ls) [] = []
latch_lines name (l ∷ ls) (s ∷ sinks) = record { input = name s; latch = l } ∷ latch_lines name ls sinks

-- ---- outputs

-- the table of an output: a constant, or a copy of a node
abbrev pub output_table : (ℕ → Name) → Name → Sig → Table
output_table name output Zero = constant_table false output
output_table name output One = constant_table true output
output_table name output (Node p) = unary_table false true (name p) output

-- the tables of the outputs whose names aren't in `written`
unfoldable pub output_tables : (ℕ → Name) → List Name → List Name → List Sig → List Table
output_tables name written [] sinks = []
output_tables name written (o ∷ os) [] = []
output_tables name written (o ∷ os) (s ∷ sinks) =
    if has written o then output_tables name written os sinks
    else output_table name o s ∷ output_tables name (written ++ o ∷ []) os sinks

-- ---- the document

-- the names of the sources and the gates
abbrev pub driven_before : Circuit → List Name
driven_before c = each_once [] (sources_of c ++ gate_names c)

abbrev pub tables_of : Circuit → List Table
tables_of c = gate_tables (node_name c) c.net.gates (gate_names c) ++ constant_tables c ++
    output_tables (node_name c) (driven_before c) c.outputs c.net.sinks

-- the document of a circuit, without its latches and tables
abbrev pub header : Circuit → Document
header c = record {
  model = c.model;
  inputs = c.inputs;
  outputs = c.outputs;
  clocks = c.clocks;
  latches = [];
  tables = [];
}

-- The gates in the order of their nodes, then the constants that latches read, then the outputs that no source or
-- gate names. A gate that drives outputs has the name of the first of them.
-- Example: for XOR of a and b with the outputs y and z it is `.names a b y` with `01 1` and `10 1`,
-- and `.names y z` with `1 1`.
unfoldable pub written : Circuit → Document
written c = record (header c) {
  latches = latch_lines (sig_name c) c.latches (next_states c);
  tables = tables_of c;
}
