-- Circuits that can be written in AIGER.
use Rattle.std.specs.Prelude.{◌≡◌, ℕ, ◌≤◌, ◌<◌, true, false, [], ◌++◌, length, All, slice_get, Some, None, codes}
use Rattle.net_theory.specs.declared.data.Gate.{Gate}
use Rattle.net_theory.specs.Document.{Name, has, Latch}
use Rattle.net_theory.specs.Circuit.{Circuit, sources_of, IsProper}
use Rattle.aiger_text.specs.Limits.{most_sources, most_outputs}
use Rattle.aiger_text.specs.Statements.{is_reserved}
use Rattle.aiger_core.specs.Written.{is_and_word}

abbrev pub IsFreeName : Name → Type 0
IsFreeName n = is_reserved n ≡ false

-- a latch without a control, and with the initial value 0, 1 or don't-care
pub record HasReset (l : Latch) : Type 0 where
  pub control : l.control ≡ None
  pub init : ℕ
  pub is : l.init ≡ Some init
  pub low : init ≤ 2

abbrev pub IsAndGate : Gate → Type 0
IsAndGate g = is_and_word g.op ≡ true

-- The model's name is `top`, there are no clocks, each gate is AND or OR with complements, a constant, a copy or a
-- complement, no name is reserved for gates, and two outputs with one name are a source.
pub record CanWriteAiger (c : Circuit) : Type 0 where
  pub proper : IsProper c
  pub model : c.model ≡ codes "top"
  pub clocks : c.clocks ≡ []
  pub latches : All HasReset c.latches
  pub free : All IsFreeName (sources_of c ++ c.outputs)
  pub apart : (i j : ℕ) (n : Name) → i < j → slice_get c.outputs i ≡ Some n → slice_get c.outputs j ≡ Some n →
      has (sources_of c) n ≡ true
  pub gates : All IsAndGate c.net.gates
  pub sources : length (sources_of c) ≤ most_sources
  pub outputs : length c.outputs ≤ most_outputs
