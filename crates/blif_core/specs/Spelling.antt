-- The text of a document in BLIF.
use Rattle.std.specs.Prelude.{ℕ, ◌+◌, Bool, true, false, ◌==◌, if◌then◌else◌, List, [], ◌∷◌, ◌++◌, codes, Option, Some}
use Rattle.std.specs.Prelude.{None}
use Rattle.std.specs.List.{flat_map}
use Rattle.net_theory.specs.declared.data.Trigger.{Trigger}
use Rattle.net_theory.specs.declared.data.Trigger.TheVariants.{Fe, Re, Ah, Al, As}
use Rattle.net_theory.specs.Document.{Name, Table, LatchLine, Document}
use Rattle.net_theory.specs.WellFormed.{IsInit}
use Rattle.net_theory.specs.Circuit.{Circuit}
use Rattle.blif_core.specs.Written.{written}

-- a blank and a name
abbrev pub word_text : Name → List ℕ
word_text name = 32 ∷ name

abbrev pub words_text : List Name → List ℕ
words_text names = flat_map word_text names

-- Names after a keyword, 16 on a line; the current line already has `count` of them.
unfoldable pub rest_text : List ℕ → ℕ → List Name → List ℕ
rest_text keyword count [] = 10 ∷ []
rest_text keyword count (n ∷ ns) = if count == 16 then 10 ∷ (keyword ++ word_text n ++ rest_text keyword 1 ns)
    else word_text n ++ rest_text keyword (count + 1) ns

-- Example: `.inputs a b`; without names it is `.inputs`.
abbrev pub list_text : List ℕ → List Name → List ℕ
list_text keyword names = keyword ++ rest_text keyword 0 names

abbrev pub clocks_text : List Name → List ℕ
clocks_text [] = []
clocks_text (n ∷ ns) = list_text (codes ".clock") (n ∷ ns)

abbrev pub trigger_text : Trigger → List ℕ
trigger_text Fe = codes "fe"
trigger_text Re = codes "re"
trigger_text Ah = codes "ah"
trigger_text Al = codes "al"
trigger_text As = codes "as"

abbrev pub control_text : Option (Trigger × Name) → List ℕ
control_text None = []
control_text (Some c) = word_text (trigger_text c.0) ++ word_text c.1

abbrev pub init_text : Option ℕ → List ℕ
init_text None = []
init_text (Some init) = 32 ∷ (48 + init) ∷ []

-- the initial value has one digit
abbrev pub HasInit : LatchLine → Type 0
HasInit l = IsInit l.latch.init

-- Example: `.latch d q re clk 2`.
abbrev pub latch_text : LatchLine → List ℕ
latch_text l = codes ".latch" ++ word_text l.input ++ word_text l.latch.output ++ control_text l.latch.control ++
    init_text l.latch.init ++ 10 ∷ []

abbrev pub digit_text : Bool → ℕ
digit_text true = 49
digit_text false = 48

-- a cube and a blank; nothing if the table has no inputs
abbrev pub cube_text : List ℕ → List ℕ
cube_text [] = []
cube_text (b ∷ bs) = (b ∷ bs) ++ 32 ∷ []

-- a cover line; in a table without inputs it has only the value
abbrev pub row_text : Bool → List ℕ → List ℕ
row_text on cube = cube_text cube ++ digit_text on ∷ 10 ∷ []

-- Example: `.names a b y` with `01 1` and `10 1`.
abbrev pub table_text : Table → List ℕ
table_text t = codes ".names" ++ words_text t.inputs ++ word_text t.output ++ 10 ∷ [] ++
    flat_map (row_text t.cover.on) t.cover.cubes

abbrev pub model_text : Name → List ℕ
model_text model = codes ".model" ++ word_text model ++ 10 ∷ []

-- model, inputs, outputs and clocks
abbrev pub header_text : Document → List ℕ
header_text d = model_text d.model ++ list_text (codes ".inputs") d.inputs ++ list_text (codes ".outputs") d.outputs ++
    clocks_text d.clocks

-- the whole text: model, inputs, outputs, clocks, latches, tables and `.end`
unfoldable pub spelled : Document → List ℕ
spelled d = header_text d ++ flat_map latch_text d.latches ++ flat_map table_text d.tables ++ codes ".end\n"

-- the text of a circuit
abbrev pub circuit_text : Circuit → List ℕ
circuit_text c = spelled (written c)
