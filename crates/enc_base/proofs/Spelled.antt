-- The chain that an assignment spells, iteration by iteration of the loops.
use Rattle.std.proofs.Common.{◌≡◌, ℕ, zero, suc, ◌+◌, ◌-◌, ◌≤◌, ◌<◌, true, false, List, [], ◌∷◌, Some, None, length, refl, arith, length-append}
use Rattle.std.specs.List.{range_with_len}
use Rattle.std.proofs.lemmas.Grind.{common_steps}
use Rattle.chain_theory.specs.Specification.{Specification}
use Rattle.chain_theory.specs.declared.data.Out.{Out}
use Rattle.sat_theory.specs.Formula.{Assignment}
use Rattle.tt_core.specs.Live.{trivial_of, is_live, live_among}
use Rattle.enc_theory.specs.declared.data.Dimensions.{Dimensions}
use Rattle.enc_theory.specs.declared.data.Slot.{Slot}
use Rattle.enc_theory.specs.Pairs.{pair}
use Rattle.enc_theory.specs.Numbering.{g_var}
use Rattle.enc_theory.specs.Decode.{first_pair, first_driver}
use Rattle.clause_core.specs.RangeLaws.{map-turn_from}

-- ---- the first pair

pub first_pair-none : (v : Assignment) → first_pair v [] ≡ pair 1 1
unfolding first_pair
first_pair-none v = refl

pub first_pair-found : (v : Assignment) (u : Slot) (us : List Slot) → v u.var ≡ true → first_pair v (u ∷ us) ≡ pair u.j u.k
unfolding first_pair
first_pair-found v u us is = rw is refl

pub first_pair-next : (v : Assignment) (u : Slot) (us : List Slot) → v u.var ≡ false → first_pair v (u ∷ us) ≡ first_pair v us
unfolding first_pair
first_pair-next v u us is = rw is refl

pub ruleset pairs = (common_steps, first_pair-none, first_pair-found, first_pair-next)

-- ---- the first step for an output

pub driver-none : (z : Dimensions) (v : Assignment) (h i last : ℕ) → last ≤ i → first_driver z v h (range_with_len i (last - i)) ≡ z.n + 1
unfolding first_driver
driver-none z v h i last low = let e : last - i ≡ 0 = omega arith in rw e refl

pub driver-found : (z : Dimensions) (v : Assignment) (h i last : ℕ) → i < last → v (g_var z h i) ≡ true → first_driver z v h (range_with_len i (last - i)) ≡ i
unfolding first_driver
driver-found z v h i last low is = let e : last - i ≡ suc (last - (i + 1)) = omega arith in rw e (rw is refl)

pub driver-next : (z : Dimensions) (v : Assignment) (h i last : ℕ) → i < last → v (g_var z h i) ≡ false →
    first_driver z v h (range_with_len i (last - i)) ≡ first_driver z v h (range_with_len (i + 1) (last - (i + 1)))
unfolding first_driver
driver-next z v h i last low is = let e : last - i ≡ suc (last - (i + 1)) = omega arith in rw e (rw is refl)

pub ruleset drivers = (common_steps, driver-none, driver-found, driver-next)

-- ---- live outputs among the first

pub living-none : (s : Specification) → length (live_among s 0) ≡ 0
unfolding live_among
living-none s = refl

pub living-more : (s : Specification) (h : ℕ) → 1 ≤ h → trivial_of s h ≡ None → length (live_among s h) ≡ length (live_among s (h - 1)) + 1
unfolding live_among is_live
living-more s zero some none = absurd (omega arith)
living-more s (suc k) some none = let e : suc k - 1 ≡ k = omega arith in rw (none, e) (rw length-append refl)

pub living-same : (s : Specification) (h : ℕ) (out : Out) → 1 ≤ h → trivial_of s h ≡ Some out → length (live_among s h) ≡ length (live_among s (h - 1))
unfolding live_among is_live
living-same s zero out some found = absurd (omega arith)
living-same s (suc k) out some found = let e : suc k - 1 ≡ k = omega arith in rw (found, e) refl

pub ruleset living = (common_steps, living-more)

pub ruleset restoring = (common_steps, living-none, map-turn_from)
