-- Circuits that BENCH can express.
use Rattle.std.specs.Prelude.{◌≡◌, ◌≢◌, ℕ, ◌<◌, ◌⊎◌, true, [], All, None, codes}
use Rattle.net_theory.specs.declared.data.Sig.TheVariants.{Node}
use Rattle.net_theory.specs.declared.data.Gate.{Gate}
use Rattle.net_theory.specs.Circuit.{Circuit, IsProper}
use Rattle.net_theory.specs.Document.{Latch}
use Rattle.bench_text.specs.SaidLaws.{IsPlainName}
use Rattle.bench_core.specs.Bench.{is_gate_word}

-- a latch without control and initial value
pub record IsPlainState (l : Latch) : Type 0 where
  pub output : IsPlainName l.output
  pub control : l.control ≡ None
  pub init : l.init ≡ None

-- a gate with two distinct fanins is AND, OR, XOR or a complement of these
abbrev pub HasGateWord : Gate → Type 0
HasGateWord g = (p q : ℕ) → g.a ≡ Node p → g.b ≡ Node q → p ≢ q → is_gate_word g.op ≡ true

-- A circuit that BENCH can express: the model's name is `top`, there are no clocks, names contain no marks,
-- latches have no controls and initial values, and gates with two distinct fanins have operators of the format.
-- It has a source, over which constants are written, or it is empty.
pub record IsBenchCircuit (c : Circuit) : Type 0 where
  pub proper : IsProper c
  pub model : c.model ≡ codes "top"
  pub inputs : All IsPlainName c.inputs
  pub outputs : All IsPlainName c.outputs
  pub clocks : c.clocks ≡ []
  pub latches : All IsPlainState c.latches
  pub operators : All HasGateWord c.net.gates
  pub source : (0 < c.net.sources) ⊎ ((c.net.gates ≡ []) × (c.net.sinks ≡ []))
