-- The pairs of operands, in their order, and their selection variables.
use Rattle.std.specs.Prelude.{ℕ, zero, suc, ◌+◌, ◌-◌, Bool, List, [], ◌∷◌, length, if◌then◌else◌}
use Rattle.std.specs.List.{range_with_len, flat_map}
use Rattle.enc_theory.specs.declared.data.Dimensions.{Dimensions}
use Rattle.enc_theory.specs.declared.data.Pair.{Pair}
use Rattle.enc_theory.specs.declared.data.Slot.{Slot}
use Rattle.enc_theory.specs.Numbering.{s_first}

abbrev pub pair : ℕ → ℕ → Pair
pair j k = record { j = j; k = k }

-- Pairs are ordered by their larger operand. Of those with the same one, the pair of equal operands is first;
-- the others follow by their smaller operand, (j, k) with j < k before (k, j).
-- Example: the pairs below 3 are (1,1), (2,2), (1,2), (2,1); those with j <= k are (1,1), (2,2), (1,2).
-- With `ordered`, only those with j <= k are listed.
unfoldable pub pairs_of : Bool → ℕ → ℕ → List Pair
pairs_of ordered large small = if ordered then pair small large ∷ [] else pair small large ∷ pair large small ∷ []

unfoldable pub pairs_with : Bool → ℕ → List Pair
pairs_with ordered large = pair large large ∷ flat_map (pairs_of ordered large) (range_with_len 1 (large - 1))

-- the pairs of places below `place`, all or only those with j <= k
unfoldable pub pairs_below : Bool → ℕ → List Pair
pairs_below ordered place = flat_map (pairs_with ordered) (range_with_len 1 (place - 1))

-- a step, and its pairs with their variables, in their order
pub record StepSlots : Type 0 where
  pub place : ℕ
  pub slots : List Slot

-- The pairs get consecutive variables, from v on.
unfoldable pub numbered : ℕ → List Pair → List Slot
numbered v [] = []
numbered v (p ∷ ps) = record { j = p.j; k = p.k; var = v } ∷ numbered (v + 1) ps

-- r steps from a place on, with the pairs that each may have; the selection variables are consecutive, from v
-- on
unfoldable pub laid : (ℕ → List Pair) → ℕ → ℕ → ℕ → List StepSlots
laid pairs v place zero = []
laid pairs v place (suc count) = record {
  place = place;
  slots = numbered v (pairs place);
} ∷ laid pairs (v + length (pairs place)) (place + 1) count

-- All steps with the pairs that each may have: the selection variables follow all other variables, those of the
-- first step first. Encodings by pairs differ in `pairs`.
abbrev pub layout : (ℕ → List Pair) → Dimensions → List StepSlots
layout pairs z = laid pairs (s_first z) (z.n + 1) z.r

-- how many pairs there are
unfoldable pub slot_count : List StepSlots → ℕ
slot_count [] = 0
slot_count (s ∷ steps) = length s.slots + slot_count steps

-- the number of all variables
abbrev pub vars_of : Dimensions → List StepSlots → ℕ
vars_of z steps = s_first z - 1 + slot_count steps
