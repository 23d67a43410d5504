-- Tables of at most two inputs, as all tables of a circuit's document, written as gates of the same function.
use Rattle.std.specs.Prelude.{ℕ, Bool, true, false, not, ◌==◌, if◌then◌else◌, List, [], ◌∷◌, map, slice_index_or}
use Rattle.std.specs.Prelude.{Option, Some, None, option_to_list}
use Rattle.net_theory.specs.Cover.{cover_value}
use Rattle.net_theory.specs.Expansion.{binary_word}
use Rattle.net_theory.specs.Document.{Name, Table, Document}
use Rattle.net_theory.specs.Circuit.{Circuit, sources_of}
use Rattle.net_core.specs.declared.joining.Connective.{Connective}
use Rattle.net_core.specs.declared.joining.Connective.TheVariants.{And, Or, Xor}
use Rattle.bench_text.specs.declared.keywords.GateKey.{GateKey}
use Rattle.bench_text.specs.Statements.{gate_table}
use Rattle.blif_core.specs.Written.{written}

-- a line `output = KEY(first)` or `output = KEY(first, second)`
pub record GateLine : Type 0 where
  pub output : Name
  pub key : GateKey
  pub first : Name
  pub second : Option Name

abbrev pub key_by : Connective → Bool → Bool → GateKey
key_by connective on is_single = record { connective = connective; on = on; is_single = is_single }

-- XOR of a name with itself is 0, and XNOR is 1.
abbrev pub constant_line : Name → Name → Bool → GateLine
constant_line output name bit = record {
  output = output;
  key = key_by Xor (not bit) false;
  first = name;
  second = Some name;
}

-- a function of one input, by its values at 0 and 1: a copy is BUFF, the complement is NOT
abbrev pub unary_line : Name → Name → Bool → Bool → GateLine
unary_line output name false false = constant_line output name false
unary_line output name true true = constant_line output name true
unary_line output name false true = record { output = output; key = key_by And true true; first = name; second = None }
unary_line output name true false = record { output = output; key = key_by And false true; first = name; second = None }

-- the key of a truth table of two operands: AND, NAND, OR, NOR or XOR, and XNOR for any other
unfoldable pub binary_key : ℕ → GateKey
binary_key word = if word == 1 then key_by And true false
    else (if word == 14 then key_by And false false
    else (if word == 7 then key_by Or true false
    else (if word == 8 then key_by Or false false else (if word == 6 then key_by Xor true false else key_by Xor false
    false))))

abbrev pub binary_line : Name → Name → Name → ℕ → GateLine
binary_line output first second word = record {
  output = output;
  key = binary_key word;
  first = first;
  second = Some second;
}

-- A table without inputs becomes a gate over a source.
abbrev pub line_by : Name → Table → List Name → GateLine
line_by source t [] = constant_line t.output source (cover_value t.cover [])
line_by source t (a ∷ []) = unary_line t.output a (cover_value t.cover (false ∷ [])) (cover_value t.cover (true ∷ []))
line_by source t (a ∷ b ∷ ns) = binary_line t.output a b (binary_word t.cover)

-- Example: the table `.names a b y` with `01 1` and `10 1` becomes `y = XOR(a, b)`, and `.names y` becomes
-- `y = XOR(s, s)`, where s is a source.
unfoldable pub line_of : Name → Table → GateLine
line_of source t = line_by source t t.inputs

-- the table that a line lists
abbrev pub line_table : GateLine → Table
line_table l = gate_table l.key l.output (l.first ∷ option_to_list l.second)

-- the first source of a circuit
abbrev pub first_source : Circuit → Name
first_source c = slice_index_or (sources_of c) 0 []

-- a document with its tables replaced by the tables of gates
abbrev pub as_gates : Name → Document → Document
as_gates source d = record {
  model = d.model;
  inputs = d.inputs;
  outputs = d.outputs;
  clocks = d.clocks;
  latches = d.latches;
  tables = map (λ t. line_table (line_of source t)) d.tables;
}

-- The document that the writer makes of a circuit: gates in the order of their nodes, constants that latches
-- read, and outputs that no source or gate names.
abbrev pub bench_written : Circuit → Document
bench_written c = as_gates (first_source c) (written c)
