-- When a net implements another: it is functionally equivalent and has no more gates.
use Rattle.std.specs.Prelude.{◌≡◌, ℕ, ◌+◌, ◌≤◌, ◌<◌, Bool, length, slice_get, slice_index_or, Some}
use Rattle.net_theory.specs.declared.data.Sig.{Sig}
use Rattle.net_theory.specs.declared.data.Sig.TheVariants.{Zero, One, Node}
use Rattle.net_theory.specs.Net.{Net, IsNet, sink_values}
use Rattle.net_theory.specs.Reach.{IsReached}

-- the signal is a constant or a source (a trivial sink)
abbrev pub IsTrivialSink : ℕ → Sig → Type 0
IsTrivialSink sources Zero = Unit {0}
IsTrivialSink sources One = Unit {0}
IsTrivialSink sources (Node p) = p ≤ sources

-- m implements n: it has as many sources and sinks, its sinks have the same values under every
-- assignment (functional equivalence), and it has no more gates. Trivial sinks of n are unchanged in m, and
-- equal sinks stay equal, so that m can replace n in a circuit whose outputs share names.
pub record Implements (n m : Net) : Type 0 where
  pub net : IsNet m
  pub sources : m.sources ≡ n.sources
  pub sink_count : length m.sinks ≡ length n.sinks
  pub values : (given : ℕ → Bool) → sink_values m given ≡ sink_values n given
  pub fewer : length m.gates ≤ length n.gates
  pub still : (i : ℕ) (s : Sig) → slice_get n.sinks i ≡ Some s → IsTrivialSink n.sources s → slice_get m.sinks i ≡ Some s
  pub equal : (i j : ℕ) (d : Sig) → i < length n.sinks → j < length n.sinks →
      slice_index_or n.sinks i d ≡ slice_index_or n.sinks j d → slice_index_or m.sinks i d ≡ slice_index_or m.sinks j d

-- m implements n and has no dangling gate: each gate is in the transitive fanin of a sink
pub record IsCleanedUp (n m : Net) : Type 0 where
  pub implements : Implements n m
  pub reached : (i : ℕ) → i < length m.gates → IsReached m (m.sources + 1 + i)
