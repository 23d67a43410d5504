-- The claims of the cache about specifications.
use Rattle.std.specs.Prelude.{◌≡◌, ℕ, nat_eq, Bool, false, List, ◌∷◌, ◌++◌, Option, None, Some}
use Rattle.std.specs.Cmp.Lexicographic.{pointwise}
use Rattle.std.specs.Map.{lookup}
use Rattle.chain_theory.specs.Chain.{Chain}
use Rattle.chain_theory.specs.Operator.{Basis}
use Rattle.chain_theory.specs.Agreement.{NoneBelow}
use Rattle.op_basis.specs.Basis.{members}
use Rattle.tt_core.specs.Words.{Words, IsSpec, specification}
use Rattle.spec_cache.specs.declared.cache.Found.{Found}

-- The words of a specification as one list: the number of inputs, the outputs' values, and their care sets.
-- Example: XOR of two inputs is 2 ∷ 6 ∷ 15 ∷ [].
abbrev pub spelled : Words → List ℕ
spelled w = (w.n ∷ w.on) ++ w.care

-- No chain over the basis with fewer steps implements the specification that the words spell.
-- Example: over NAND alone, every number up to 4 is such a bound for XOR.
abbrev pub IsProvedBound : Basis → List ℕ → ℕ → Type 0
IsProvedBound basis key fewest = (w : Words) → IsSpec w → spelled w ≡ key → NoneBelow (specification w) basis fewest

-- The contents of a cache: its basis, and the latest entry of each key.
pub record CacheContents : Type 0 where
  pub basis : ℕ
  pub entries : List (List ℕ × Found)

-- the entry of a key
abbrev pub found_at : CacheContents → List ℕ → Option Found
found_at m key = lookup (pointwise nat_eq key) m.entries

-- each entry has a proved lower bound
abbrev pub HasProvedBounds : CacheContents → Type 0
HasProvedBounds m = (key : List ℕ) (found : Found) → found_at m key ≡ Some found → IsProvedBound (members m.basis) key found.fewest

-- the lower bound of an entry, or 0 without one
abbrev pub fewest_of : Option Found → ℕ
fewest_of None = 0
fewest_of (Some found) = found.fewest

-- the chain of an entry, if it has one
abbrev pub chain_of : Option Found → Option Chain
chain_of None = None
chain_of (Some found) = found.chain

-- whether an entry says that a search was left open
abbrev pub open_of : Option Found → Bool
open_of None = false
open_of (Some found) = found.open

-- The new cache has this entry at the key, and at each other key what the old one has.
pub record IsNoted (old new : CacheContents) (key : List ℕ) (found : Found) : Type 0 where
  pub here : found_at new key ≡ Some found
  pub others : (other : List ℕ) → (other ≡ key → ⊥) → found_at new other ≡ found_at old other
