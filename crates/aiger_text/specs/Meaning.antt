-- What a file means as a netlist: a document with a table for each gate, in which a complement of a fanin is a 0 in the
-- gate's cube. A gate whose complement alone is an output or a next state is listed as its complement (NAND), and all
-- that read it read the complement. Other complements that are outputs or next states are tables of their own (NOT), one
-- for each variable.
use Rattle.std.specs.Prelude.{ℕ, zero, suc, ◌+◌, ◌*◌, ◌/◌, ◌%◌, Bool, true, false, not, ◌&&◌, ◌==◌, if◌then◌else◌, List, [], ◌∷◌, ◌++◌}
use Rattle.std.specs.Prelude.{map, Some, None, codes, replicate, slice_index_or, slice_set}
use Rattle.std.specs.List.{flat_map}
use Rattle.net_theory.specs.Document.{Name, is_same, Table, LatchLine, Document, table_inputs, latch_input, driven_names}
use Rattle.net_document.specs.Listed.{Listed}
use Rattle.aiger_text.specs.declared.file.AigLatch.{AigLatch}
use Rattle.aiger_text.specs.declared.file.AigGate.{AigGate}
use Rattle.aiger_text.specs.declared.file.Reset.{Reset}
use Rattle.aiger_text.specs.declared.file.Reset.TheVariants.{Zero, One, Undefined}
use Rattle.aiger_text.specs.File.{AigFile}
use Rattle.aiger_text.specs.Naming.{numbered, variable_names, output_names, name_at}

-- ---- which literals are outputs or next states

abbrev pub next_of : AigLatch → ℕ
next_of l = l.next

abbrev pub bit_at : List Bool → ℕ → Bool
bit_at bits place = slice_index_or bits place false

-- bits by literal, those of some literals set
unfoldable pub with_marks : List Bool → List ℕ → List Bool
with_marks marks [] = marks
with_marks marks (lit ∷ lits) = with_marks (slice_set marks lit true) lits

-- by literal, whether it is an output or a next state
abbrev pub marks_of : AigFile → List Bool
marks_of f = with_marks (with_marks (replicate (f.variables * 2 + 2) false) f.outputs) (map next_of f.latches)

-- whether the complement of a literal, but not the literal, is an output or a next state
abbrev pub is_turned : List Bool → ℕ → Bool
is_turned marks lit = bit_at marks (lit + 1) && not (bit_at marks lit)

-- bits by variable, those of some gates set to whether they are listed as their complements
unfoldable pub with_turns : List Bool → List Bool → List AigGate → List Bool
with_turns marks turns [] = turns
with_turns marks turns (g ∷ gs) = with_turns marks (slice_set turns (g.literal / 2) (is_turned marks g.literal)) gs

-- by variable, whether it is a gate that is listed as its complement
abbrev pub turns_of : AigFile → List Bool
turns_of f = with_turns (marks_of f) (replicate (f.variables + 1) false) f.gates

-- the names of the variables; the literals that are outputs or next states; the variables listed as complements
pub record Signals : Type 0 where
  pub names : List Name
  pub marks : List Bool
  pub turns : List Bool

abbrev pub signals_of : AigFile → Signals
signals_of f = record { names = variable_names f; marks = marks_of f; turns = turns_of f }

-- whether a literal is the complement of what is listed for its variable
unfoldable pub is_complement : Signals → ℕ → Bool
is_complement s lit = if bit_at s.turns (lit / 2) then lit % 2 == 0 else lit % 2 == 1

-- ---- tables

abbrev pub table_with : List Name → List (List ℕ) → ℕ → Bool → Name → Table
table_with inputs cubes width on output = record {
  inputs = inputs;
  output = output;
  cover = record { width = width; cubes = cubes; on = on; parity = false };
}

-- the constant 0, as variable 0
abbrev pub zero_table : Table
zero_table = table_with [] [] 0 true (numbered (codes "&") 0)

-- the constant 1, as the complement of variable 0
abbrev pub one_table : Table
one_table = table_with [] ([] ∷ []) 0 true (numbered (codes "&") 1)

-- `0` for a complement, else `1`
abbrev pub byte_of : Signals → ℕ → ℕ
byte_of s lit = if is_complement s lit then 48 else 49

-- the table of a gate: AND, or NAND if it is listed as its complement
-- Example: the gate `6 2 5` is the table `.names i0 i1 &6` with `10 1`.
abbrev pub gate_table : Signals → AigGate → Table
gate_table s g = table_with (name_at s.names g.first ∷ name_at s.names g.second ∷ [])
    ((byte_of s g.first ∷ byte_of s g.second ∷ []) ∷ []) 2 (not (bit_at s.turns (g.literal / 2)))
    (name_at s.names g.literal)

-- the name of a literal that is an output or a next state
abbrev pub sink_name : Signals → ℕ → Name
sink_name s lit = if is_complement s lit then numbered (codes "&") lit else name_at s.names lit

-- whether a variable's complement has a table of its own
abbrev pub needs_not : Signals → ℕ → Bool
needs_not s variable = bit_at s.marks (variable * 2 + 1) && not (bit_at s.turns variable)

-- a copy for the byte `1`, or NOT for `0`
abbrev pub unary_table : Name → ℕ → Name → Table
unary_table input byte output = table_with (input ∷ []) ((byte ∷ []) ∷ []) 1 true output

-- the complement of a variable
abbrev pub not_table : Signals → ℕ → Table
not_table s variable = unary_table (name_at s.names (variable * 2)) 48 (numbered (codes "&") (variable * 2 + 1))

-- those of `n` variables, from `variable` on
unfoldable pub not_tables : Signals → ℕ → ℕ → List Table
not_tables s variable zero = []
not_tables s variable (suc n) = if needs_not s variable then not_table s variable ∷ not_tables s (variable + 1) n
    else not_tables s (variable + 1) n

-- ---- latches

-- the initial value: 0, 1, or 2 for don't-care
abbrev pub init_of : Reset → ℕ
init_of Zero = 0
init_of One = 1
init_of Undefined = 2

abbrev pub latch_line : Signals → AigLatch → LatchLine
latch_line s l = record {
  input = sink_name s l.next;
  latch = record { output = name_at s.names l.literal; control = None; init = Some (init_of l.reset) };
}

-- ---- outputs

-- whether an output has the name of the variable that it is
unfoldable pub is_driver : List Name → ℕ → Name → Bool
is_driver names lit output = lit % 2 == 0 && is_same (name_at names lit) output

-- an output whose name is that of its variable needs no table
unfoldable pub output_tables : Signals → List ℕ → List Name → List Table
output_tables s [] os = []
output_tables s (lit ∷ lits) [] = []
output_tables s (lit ∷ lits) (o ∷ os) = if is_driver s.names lit o then output_tables s lits os
    else unary_table (sink_name s lit) 49 o ∷ output_tables s lits os

-- ---- documents

-- the constants, the gates, the complements and the outputs
unfoldable pub tables_of : Signals → List Name → AigFile → List Table
tables_of s outputs f = zero_table ∷ one_table ∷ [] ++ map (gate_table s) f.gates ++ not_tables s 1 f.variables ++
    output_tables s f.outputs outputs

abbrev pub document_by : Signals → List Name → AigFile → Document
document_by s outputs f = record {
  model = codes "top";
  inputs = map (name_at s.names) f.inputs;
  outputs = outputs;
  clocks = [];
  latches = map (latch_line s) f.latches;
  tables = tables_of s outputs f;
}

-- The document of a file. The model's name is `top`, and there are no clocks.
unfoldable pub document_of : AigFile → Document
document_of f = document_by (signals_of f) (output_names f) f

-- a document with its driven and its used names, in its own order
unfoldable pub listed_with : Document → Listed
listed_with d = record {
  document = d;
  driven = driven_names d;
  used = flat_map table_inputs d.tables ++ map latch_input d.latches;
}

abbrev pub listed : AigFile → Listed
listed f = listed_with (document_of f)
