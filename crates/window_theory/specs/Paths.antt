-- Paths through the gates of a net.
use Rattle.std.specs.Prelude.{◌≡◌, ℕ, ◌+◌, Bool, true, slice_get, Some}
use Rattle.net_theory.specs.declared.data.Gate.{Gate}
use Rattle.net_theory.specs.Net.{Net}
use Rattle.net_theory.specs.Reach.{ReadsNode}

-- p is the node of a gate
pub record IsGate (n : Net) (p : ℕ) : Type 0 where
  pub index : ℕ
  pub gate : Gate
  pub at : slice_get n.gates index ≡ Some gate
  pub node : n.sources + 1 + index ≡ p

-- p is a fanin of the gate at g
pub record Reads (n : Net) (g p : ℕ) : Type 0 where
  pub fanout : IsGate n g
  pub reads : ReadsNode fanout.gate p

-- g is in the transitive fanout (TFO) of p: it reads p, or a node to which a path leads from p.
pub data HasPath (n : Net) : ℕ → ℕ → Type 0 where
  at_once : (p g : ℕ) → Reads n g p → HasPath n p g
  by_way_of : (p q g : ℕ) → HasPath n p q → Reads n g q → HasPath n p g

-- A convex subgraph: no path leaves the set and comes back.
-- Example: where gate 4 reads gate 3 and gate 5 reads gate 4, the set of 3 and 5 isn't convex.
abbrev pub IsConvex : Net → (ℕ → Bool) → Type 0
IsConvex n set = (p q r : ℕ) → set p ≡ true → set r ≡ true → HasPath n p q → HasPath n q r → set q ≡ true
