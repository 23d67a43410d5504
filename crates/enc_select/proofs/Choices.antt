-- The operands that an assignment spells, iteration by iteration of the loops.
use Rattle.std.proofs.Common.{◌≡◌, ℕ, suc, ◌+◌, ◌-◌, ◌≤◌, ◌<◌, true, false, refl, arith}
use Rattle.std.specs.List.{range_with_len}
use Rattle.std.proofs.lemmas.Grind.{common_steps}
use Rattle.sat_theory.specs.Formula.{Assignment}
use Rattle.enc_theory.specs.declared.data.Side.{Side}
use Rattle.enc_theory.specs.declared.data.Dimensions.{Dimensions}
use Rattle.enc_theory.specs.Select.{choice_var, first_choice}
use Rattle.clause_core.specs.RangeLaws.{map-turn_from}

pub choice-none : (z : Dimensions) (v : Assignment) (side : Side) (i j last : ℕ) → last ≤ j → first_choice z v side i (range_with_len j (last - j)) ≡ 1
unfolding first_choice
choice-none z v side i j last low = let e : last - j ≡ 0 = omega arith in rw e refl

pub choice-found : (z : Dimensions) (v : Assignment) (side : Side) (i j last : ℕ) → j < last → v (choice_var z side i j) ≡ true → first_choice z v side i (range_with_len j (last - j)) ≡ j
unfolding first_choice
choice-found z v side i j last low is = let e : last - j ≡ suc (last - (j + 1)) = omega arith in rw e (rw is refl)

pub choice-next : (z : Dimensions) (v : Assignment) (side : Side) (i j last : ℕ) → j < last →
    v (choice_var z side i j) ≡ false → first_choice z v side i (range_with_len j (last - j)) ≡
    first_choice z v side i (range_with_len (j + 1) (last - (j + 1)))
unfolding first_choice
choice-next z v side i j last low is = let e : last - j ≡ suc (last - (j + 1)) = omega arith in rw e (rw is refl)

pub ruleset choices = (common_steps, choice-none, choice-found, choice-next)

pub ruleset steps = (common_steps, map-turn_from)
