-- The tables of the index, while loops over the gates fill them.
use Rattle.std.specs.Prelude.{◌≡◌, ℕ, ◌+◌, ◌<◌, min, if◌then◌else◌, List, length, slice_get, slice_index_or, Some}
use Rattle.net_theory.specs.declared.data.Sig.{Sig}
use Rattle.net_theory.specs.declared.data.Sig.TheVariants as sigs
use Rattle.net_theory.specs.declared.data.Gate.{Gate}
use Rattle.net_theory.specs.Net.{Net, end_of}
use Rattle.net_theory.specs.Reach.{is_node}
use Rattle.window_core.specs.Fanouts.{IsEarlier, IsEarlierOf, IsLater, IsLaterOf}
use Rattle.window_core.specs.declared.fanouts.Nearest.{Nearest}

-- a signal that is a node is below `end`
abbrev pub IsOperandBelow : ℕ → Sig → Type 0
IsOperandBelow end sigs.Zero = Unit {0}
IsOperandBelow end sigs.One = Unit {0}
IsOperandBelow end (sigs.Node p) = p < end

-- so are all operands of the gates
pub record AreBefore (end : ℕ) (gs : List Gate) : Type 0 where
  pub first : (i : ℕ) (g : Gate) → slice_get gs i ≡ Some g → IsOperandBelow end g.a
  pub second : (i : ℕ) (g : Gate) → slice_get gs i ≡ Some g → IsOperandBelow end g.b

-- the number of each node p in a table grew by `more p`; 255 stands for all numbers from 255 on
pub record AreGrown (more : ℕ → ℕ) (old new : List ℕ) : Type 0 where
  pub size : length new ≡ length old
  pub each : (p : ℕ) → p < length old → slice_index_or new p 0 ≡ min (slice_index_or old p 0 + more p) 255

-- Numbers grow from `old` by `all` in steps; they have `left` still to grow.
pub record IsCounting (all left : ℕ → ℕ) (old now : List ℕ) : Type 0 where
  pub size : length now ≡ length old
  pub each : (p : ℕ) → p < length old → min (slice_index_or now p 0 + left p) 255 ≡ min (slice_index_or old p 0 + all p) 255

-- The gate `node` became the last fanout of the node that the signal names.
pub record IsNotedFanout (s : Sig) (node : ℕ) (old new : List ℕ) : Type 0 where
  pub size : length new ≡ length old
  pub each : (p : ℕ) → p < length old → slice_index_or new p 0 ≡ (if is_node p s then node else slice_index_or old p 0)

-- The table has the last fanout of each node among the first `count` gates.
pub record HasNoted (n : Net) (count : ℕ) (last : List ℕ) : Type 0 where
  pub size : length last ≡ end_of n
  pub each : (p : ℕ) → p < end_of n → IsEarlier n (n.sources + 1 + count) p (slice_index_or last p 0)

-- and the list has the earlier fanouts of these gates' operands
pub record AreNoted (n : Net) (count : ℕ) (last : List ℕ) (list : List Nearest) : Type 0 where
  pub noted : HasNoted n count last
  pub size : length list ≡ count
  pub each : (i : ℕ) (g : Gate) (e : Nearest) → slice_get n.gates i ≡ Some g → slice_get list i ≡ Some e → IsEarlierOf n (n.sources + 1 + i) g e

-- The table has the first fanout of each node among the gates from index `from` on.
pub record HasFirst (n : Net) (from : ℕ) (first : List ℕ) : Type 0 where
  pub size : length first ≡ end_of n
  pub each : (p : ℕ) → p < end_of n → IsLater n (n.sources + 1 + from) p (slice_index_or first p 0)

-- and the list has the later fanouts of these gates' operands; `taken` gates were taken, from the last one
-- on, and `left` remain
pub record AreAfter (n : Net) (taken : ℕ) (first : List ℕ) (list : List Nearest) : Type 0 where
  pub left : ℕ
  pub all : left + taken ≡ length n.gates
  pub noted : HasFirst n left first
  pub size : length list ≡ taken
  pub each : (i j : ℕ) (g : Gate) (e : Nearest) → i + j + 1 ≡ length n.gates → slice_get n.gates i ≡ Some g → slice_get list j ≡ Some e → IsLaterOf n (n.sources + 1 + i) g e
