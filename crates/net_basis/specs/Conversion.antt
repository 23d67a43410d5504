-- What becomes of a gate, and of all gates.
use Rattle.std.specs.Prelude.{◌≡◌, ℕ, ◌+◌, ◌⊎◌, ◌≤◌, ◌<◌, ◌^◌, Bool, true, false, ◌&&◌, if◌then◌else◌}
use Rattle.std.specs.Prelude.{List, [], ◌∷◌, length}
use Rattle.std.specs.Prelude.{slice_get, Some, Option, None}
use Rattle.chain_theory.specs.Operator.{apply, Basis}
use Rattle.net_theory.specs.declared.data.Gate.{Gate}
use Rattle.net_theory.specs.Net.{Net, end_of, sig_value, gate_value}
use Rattle.net_theory.specs.Moving.{Kept}
use Rattle.net_theory.specs.Limits.{default_gates}
use Rattle.net_basis.specs.declared.recipe.Recipe.{Recipe}
use Rattle.net_basis.specs.declared.expressing.Expressed.{Expressed}
use Rattle.net_basis.specs.declared.expressing.Expressed.TheVariants as gates
use Rattle.net_basis.specs.declared.converting.Passed.{Passed}
use Rattle.net_basis.specs.declared.converting.Passed.TheVariants as all
use Rattle.net_basis.specs.Joins.{operands}
use Rattle.net_basis.specs.OverBasis.{IsInexpressible, IsInexpressibleAt, MayHaveTooMany, IsFewOver}
use Rattle.net_basis.specs.OverBasis.{most_for_one}
use Rattle.net_basis.specs.Placing.{IsExpressed, IsConverted, net_with}

-- ---- how many gates

abbrev pub is_made_of : Option Recipe → Bool
is_made_of None = false
is_made_of (Some r) = r.is_made

-- the gates of a recipe, or the most that may be where there is none
abbrev pub steps_of : Option Recipe → ℕ
steps_of None = most_for_one
steps_of (Some r) = if r.is_made then length r.joins.items else most_for_one

-- the gates that take the place of one, by its function
unfoldable pub lengths_by : Basis → List Recipe → ℕ → ℕ
lengths_by basis rs word = if operands word then 0 else (if basis word then 1 else steps_of (slice_get rs word))

-- ---- gates of the basis

-- whether each gate has an operator of the basis
unfoldable pub are_in : Basis → List Gate → Bool
are_in basis [] = true
are_in basis (g ∷ gs) = basis g.op && are_in basis gs

-- ---- answers

-- the function has the gate's value, of the gate's operands
abbrev pub IsFunctionOf : ℕ → Gate → Type 0
IsFunctionOf word g = (f : ℕ → Bool) → apply word (sig_value f g.a) (sig_value f g.b) ≡ gate_value f g

-- with so many more gates a net could have too many gates or nodes
abbrev pub MayEndAt : ℕ → ℕ → ℕ → Type 0
MayEndAt sources count more = default_gates < count + more ⊎ 2 ^ 31 ≤ sources + 1 + count + more

-- A gate has a signal of its value over the basis, or its function can't be expressed, or with so many more gates there
-- could be too many.
abbrev pub IsGateAnswer : Basis → ℕ → ℕ → ℕ → List Gate → List Gate → Gate → Expressed → Type 0
IsGateAnswer basis word more sources old new g (gates.By s) = IsExpressed basis sources old new g.a g.b g.op s
IsGateAnswer basis word more sources old new g gates.Cannot = IsInexpressible basis word
IsGateAnswer basis word more sources old new g gates.TooMany = MayEndAt sources (length old) more

-- all gates have signals of their values, and a net may have so many
pub record IsPassed (basis : Basis) (n : Net) (k : Kept) : Type 0 where
  pub converted : IsConverted basis n (end_of n) k
  pub few : length k.gates ≤ default_gates
  pub room : n.sources + length k.gates < 2 ^ 31
  pub fewer : IsFewOver basis n (net_with n k)

-- all gates have signals of their values, or one of them can't be expressed
abbrev pub IsPassAnswer : Basis → Net → (List Gate → Kept) → Passed → Type 0
IsPassAnswer basis n kept (all.All gs) = IsPassed basis n (kept gs.items)
IsPassAnswer basis n kept (all.Cannot node) = IsInexpressibleAt basis n node
IsPassAnswer basis n kept all.TooMany = MayHaveTooMany basis n
