-- Tables that can be written as gates of the same function.
use Rattle.std.specs.Prelude.{◌≡◌, true, false, List, [], ◌∷◌, All, option_to_list, codes}
use Rattle.std.specs.List.{list_any}
use Rattle.net_theory.specs.declared.data.Gate.{Gate}
use Rattle.net_theory.specs.Circuit.{Circuit}
use Rattle.net_core.specs.Names.{HasRoomForNames}
use Rattle.net_core.specs.declared.error.NetError.{NetError}
use Rattle.net_core.specs.declared.error.NetError.TheVariants.{Syntax, NotSupported, TooWide, LineTooLong, NameTooLong}
use Rattle.bench_text.specs.Items.{is_mark}
use Rattle.net_theory.specs.Document.{Name, Table, Document}
use Rattle.net_theory.specs.Expansion.{binary_word}
use Rattle.bench_text.specs.declared.keywords.BenchKeyword.TheVariants.{Gate as GateWord}
use Rattle.bench_text.specs.Statements.{keyword_of, is_counted}
use Rattle.bench_text.specs.SaidLaws.{IsPlainName, IsPlainLatch}
use Rattle.bench_core.specs.Gates.{GateLine, line_of}
use Rattle.bench_core.specs.Spelling.{key_text}
use Rattle.bench_core.specs.Bench.{is_gate_word}
use Rattle.bench_core.specs.Writable.{IsBenchCircuit}

abbrev pub CanSpellBy : Table → List Name → Type 0
CanSpellBy t [] = Unit {0}
CanSpellBy t (a ∷ []) = Unit {0}
CanSpellBy t (a ∷ b ∷ []) = is_gate_word (binary_word t.cover) ≡ true
CanSpellBy t (a ∷ b ∷ c ∷ ns) = ⊥

-- A table of at most two inputs; with two inputs it is AND, OR, XOR or a complement of these.
abbrev pub CanSpell : Table → Type 0
CanSpell t = CanSpellBy t t.inputs

-- a line of plain names whose key is read back
pub record IsPlainLine (l : GateLine) : Type 0 where
  pub output : IsPlainName l.output
  pub first : IsPlainName l.first
  pub second : All IsPlainName (option_to_list l.second)
  pub key : keyword_of (key_text l.key) ≡ GateWord l.key
  pub counted : is_counted l.key (l.first ∷ option_to_list l.second) ≡ true

-- A document with a BENCH text: the model's name is `top`, there are no clocks, names contain no marks, latches
-- have no controls and initial values, and tables have at most two inputs.
pub record IsBenchSpelling (source : Name) (d : Document) : Type 0 where
  pub model : d.model ≡ codes "top"
  pub inputs : All IsPlainName d.inputs
  pub outputs : All IsPlainName d.outputs
  pub clocks : d.clocks ≡ []
  pub latches : All IsPlainLatch d.latches
  pub tables : All (λ (t : Table). IsPlainLine (line_of source t)) d.tables

-- a name without marks
abbrev pub IsMarkFree : Name → Type 0
IsMarkFree n = list_any is_mark n ≡ false

-- A circuit that BENCH can express and whose gates can be named.
pub record IsWritable (c : Circuit) : Type 0 where
  pub fits : IsBenchCircuit c
  pub room : HasRoomForNames c

-- a gate with an operator of the format
abbrev pub IsGateWord : Gate → Type 0
IsGateWord g = is_gate_word g.op ≡ true

-- such a circuit whose gates all have operators of the format, as in the circuit of a text
pub record CanWriteBench (c : Circuit) : Type 0 where
  pub writable : IsWritable c
  pub operators : All IsGateWord c.net.gates

-- the errors of lines; BENCH has no cover lines, which could be mixed or too many
abbrev pub IsLineFault : NetError → Type 0
IsLineFault (Syntax line) = Unit {0}
IsLineFault (NotSupported line word) = Unit {0}
IsLineFault (TooWide line) = Unit {0}
IsLineFault (LineTooLong line) = Unit {0}
IsLineFault (NameTooLong line) = Unit {0}
IsLineFault e = ⊥
