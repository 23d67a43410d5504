-- Boolean chains (TAOCP 7.1.2).
use Rattle.std.specs.Prelude.{◌≡◌, ℕ, ◌+◌, ◌≤◌, ◌<◌, List, length, slice_get, Some, All}
use Rattle.chain_theory.specs.declared.data.Out.{Out}
use Rattle.chain_theory.specs.declared.data.Out.TheVariants.{Zero, One, Place}

-- A step (gate): an operator on the values of two places, which may be equal.
-- Example: the step x5 = x3 AND x4 is j = 3, k = 4, op = 1.
pub record Step : Type 0 where
  pub j : ℕ
  pub k : ℕ
  pub op : ℕ

-- A Boolean chain (a network of two-input gates). Places number its signals: 1 to n are the inputs,
-- and n + 1, n + 2 and so on are the steps, in order. The outs are 0, 1 or a place.
-- Example: XOR is n = 2, the one step j = 1, k = 2, op = 6, and the one out Place 3.
pub record Chain : Type 0 where
  pub n : ℕ
  pub steps : List Step
  pub outs : List Out

-- the operands of the step at a place are lower places
pub record IsStepAt (place : ℕ) (s : Step) : Type 0 where
  pub j_from : 1 ≤ s.j
  pub j_below : s.j < place
  pub k_from : 1 ≤ s.k
  pub k_below : s.k < place
  pub op_below : s.op < 16

-- each step is at its place: the first at n + 1
pub record AreSteps (n : ℕ) (steps : List Step) : Type 0 where
  pub each : (i : ℕ) (s : Step) → slice_get steps i ≡ Some s → IsStepAt (n + 1 + i) s

-- an out is a constant or one of the places 1 to last
abbrev pub NamesPlace : ℕ → Out → Type 0
NamesPlace last Zero = Unit {0}
NamesPlace last One = Unit {0}
NamesPlace last (Place p) = (1 ≤ p) × (p ≤ last)

-- operands are lower places, and outs are constants or places of the chain
pub record IsChain (c : Chain) : Type 0 where
  pub steps : AreSteps c.n c.steps
  pub outs : All (NamesPlace (c.n + length c.steps)) c.outs
