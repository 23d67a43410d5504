-- Nets as they grow.
use Rattle.std.specs.Prelude.{◌≡◌, ℕ, ◌+◌, ◌<◌, ◌^◌, List, length, All}
use Rattle.net_theory.specs.declared.data.Sig.{Sig}
use Rattle.net_theory.specs.declared.data.Gate.{Gate}
use Rattle.net_theory.specs.Net.{IsSigBelow, AreGates}

-- a net without sinks
pub record GrownNet : Type 0 where
  pub sources : ℕ
  pub gates : List Gate

pub record IsGrownNet (b : GrownNet) : Type 0 where
  pub gates : AreGates b.sources b.gates
  pub nodes : b.sources + length b.gates < 2 ^ 31

-- as many sinks as signals, each of them in the net
pub record HasSignals (b : GrownNet) (signals sinks : List Sig) : Type 0 where
  pub count : length sinks ≡ length signals
  pub below : All (IsSigBelow (b.sources + 1 + length b.gates)) sinks
