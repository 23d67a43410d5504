-- The sinks of one net as signals of another one: each node of the first is replaced by a signal of the second.
use Rattle.std.specs.Prelude.{◌≡◌, ℕ, ◌≤◌, length, slice_get, slice_index_or, Some, ◌<◌}
use Rattle.net_theory.specs.declared.data.Sig.{Sig}
use Rattle.net_theory.specs.declared.data.Sig.TheVariants.{Node}
use Rattle.net_theory.specs.Net.{Net, IsSigBelow}
use Rattle.net_theory.specs.Implements.{IsTrivialSink}

-- sources stay, and each node has a signal below `end`
pub record IsSinkMap (sources end : ℕ) (nodes : ℕ → Sig) : Type 0 where
  pub stay : (p : ℕ) → p ≤ sources → nodes p ≡ Node p
  pub below : (p : ℕ) → 1 ≤ p → IsSigBelow end (nodes p)

-- The second net has equally many sources and sinks; a sink of the first that is a constant or a source is the
-- same in the second, and equal sinks stay equal.
pub record HasSinksOf (n m : Net) : Type 0 where
  pub sources : m.sources ≡ n.sources
  pub sink_count : length m.sinks ≡ length n.sinks
  pub still : (i : ℕ) (s : Sig) → slice_get n.sinks i ≡ Some s → IsTrivialSink n.sources s → slice_get m.sinks i ≡ Some s
  pub equal : (i j : ℕ) (d : Sig) → i < length n.sinks → j < length n.sinks → slice_index_or n.sinks i d ≡ slice_index_or n.sinks j d → slice_index_or m.sinks i d ≡ slice_index_or m.sinks j d
