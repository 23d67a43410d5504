-- The text of a document of gates.
use Rattle.std.specs.Prelude.{◌≡◌, ℕ, ◌≤◌, length, Bool, true, false, List, [], ◌++◌, Option, Some, None, codes}
use Rattle.std.specs.List.{flat_map}
use Rattle.net_theory.specs.Cover.{IsCover}
use Rattle.net_theory.specs.Document.{Name, LatchLine, Table, Document}
use Rattle.net_theory.specs.Circuit.{Circuit}
use Rattle.net_core.specs.declared.joining.Connective.{Connective}
use Rattle.net_core.specs.declared.joining.Connective.TheVariants.{And, Or, Xor}
use Rattle.bench_text.specs.declared.keywords.GateKey.{GateKey}
use Rattle.blif_core.specs.Written.{written}
use Rattle.bench_core.specs.Gates.{GateLine, line_of, first_source}

-- Example: `INPUT(a)`.
abbrev pub port_text : List ℕ → Name → List ℕ
port_text keyword name = keyword ++ name ++ codes ")\n"

-- Example: `q = DFF(d)`.
abbrev pub latch_text : LatchLine → List ℕ
latch_text l = l.latch.output ++ codes " = DFF(" ++ l.input ++ codes ")\n"

abbrev pub key_by_text : Connective → Bool → Bool → List ℕ
key_by_text And true true = codes "BUFF"
key_by_text And false true = codes "NOT"
key_by_text And true false = codes "AND"
key_by_text And false false = codes "NAND"
key_by_text Or true single = codes "OR"
key_by_text Or false single = codes "NOR"
key_by_text Xor true single = codes "XOR"
key_by_text Xor false single = codes "XNOR"

abbrev pub key_text : GateKey → List ℕ
key_text k = key_by_text k.connective k.on k.is_single

abbrev pub second_text : Option Name → List ℕ
second_text None = []
second_text (Some b) = codes ", " ++ b

-- Example: `y = NAND(a, b)`.
unfoldable pub gate_text : GateLine → List ℕ
gate_text l = l.output ++ codes " = " ++ key_text l.key ++ codes "(" ++ l.first ++ second_text l.second ++ codes ")\n"

abbrev pub table_text : Name → Table → List ℕ
table_text source t = gate_text (line_of source t)

-- a table of at most two inputs
pub record IsSmallTable (t : Table) : Type 0 where
  pub width : t.cover.width ≡ length t.inputs
  pub cover : IsCover t.cover
  pub narrow : length t.inputs ≤ 2

-- inputs, outputs, latches and gates, each on a line of its own
unfoldable pub spelled : Name → Document → List ℕ
spelled source d = flat_map (port_text (codes "INPUT(")) d.inputs ++
    flat_map (port_text (codes "OUTPUT(")) d.outputs ++ flat_map latch_text d.latches ++
    flat_map (table_text source) d.tables

-- the text of a circuit
abbrev pub circuit_text : Circuit → List ℕ
circuit_text c = spelled (first_source c) (written c)
