-- Gates that are looked up, and the greatest of some nodes below a bound.
use Rattle.std.specs.Prelude.{◌≡◌, ℕ, ◌+◌, ◌≤◌, ◌<◌, true, List, [], ◌∷◌, slice_get, Option, Some, None, ◌⊎◌}
use Rattle.net_theory.specs.declared.data.Sig.{Sig}
use Rattle.net_theory.specs.declared.data.Sig.TheVariants as sigs
use Rattle.net_theory.specs.declared.data.Gate.{Gate}
use Rattle.net_theory.specs.Net.{Net, end_of}
use Rattle.window_theory.specs.Nodes.{among}
use Rattle.window_theory.specs.Window.{IsRootOrPartner, IsReadBy}

-- the gate of the node p is g
pub record IsGateOf (n : Net) (p : ℕ) (g : Gate) : Type 0 where
  pub index : ℕ
  pub at : slice_get n.gates index ≡ Some g
  pub node : n.sources + 1 + index ≡ p

-- `result` is the greater of `best` and p, as far as p is below the bound
pub record IsGreater (bound best p result : ℕ) : Type 0 where
  pub from : best ≤ result
  pub found : (result ≡ best) ⊎ ((result ≡ p) × (p < bound))
  pub most : p < bound → p ≤ result

-- the same where there may be no node
abbrev pub IsGreaterIn : ℕ → ℕ → Option ℕ → ℕ → Type 0
IsGreaterIn bound best None result = result ≡ best
IsGreaterIn bound best (Some p) result = IsGreater bound best p result

abbrev pub IsGreaterSig : ℕ → ℕ → Sig → ℕ → Type 0
IsGreaterSig bound best sigs.Zero result = result ≡ best
IsGreaterSig bound best sigs.One result = result ≡ best
IsGreaterSig bound best (sigs.Node p) result = IsGreater bound best p result

-- the root, the partner, or a fanin of a gate that is taken
abbrev pub IsWanted : Net → ℕ → Option ℕ → List ℕ → ℕ → Type 0
IsWanted n root partner taken q = IsRootOrPartner root partner q ⊎ IsReadBy n taken q

-- `best` is the greatest wanted gate below the bound as far as the taken gates `left` don't matter. Where
-- none was found yet, it is the last source.
pub record IsSought (n : Net) (root : ℕ) (partner : Option ℕ) (taken : List ℕ) (bound : ℕ) (left : List ℕ) (best : ℕ) : Type 0 where
  pub within : (q : ℕ) → among left q ≡ true → among taken q ≡ true
  pub from : n.sources ≤ best
  pub found : (best ≡ n.sources) ⊎ (IsWanted n root partner taken best × (best < bound))
  pub most : (q : ℕ) → IsWanted n root partner taken q → n.sources < q → q < bound → (q ≤ best) ⊎ IsReadBy n left q

-- the gate that was taken last, which is the least; before any is taken, the first number after the nodes
abbrev pub bound_of : Net → List ℕ → ℕ
bound_of n [] = end_of n
bound_of n (p ∷ before) = p
