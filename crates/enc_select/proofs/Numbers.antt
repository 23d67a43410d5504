-- The numbers of variables, as the code computes them, and their bounds.
use Rattle.std.proofs.Common.{◌≡◌, ℕ, zero, suc, ◌+◌, ◌-◌, ◌*◌, ◌/◌, ◌^◌, ◌<◌, ◌≤◌, arith}
use Rattle.std.proofs.lemmas.Grind.{common_steps}
use Rattle.enc_theory.specs.declared.data.Side.{Side}
use Rattle.enc_theory.specs.declared.data.Dimensions.{Dimensions}
use Rattle.enc_theory.specs.Select.{operand_count, choice_var, value_var, select_vars}
use Rattle.enc_laws.specs.SelectVars.{choice_positive, choice_within, value_positive, value_within, first_within}
use Rattle.enc_base.specs.Room.{IsPlace}
use Rattle.clause_core.specs.CountLaws.{times-few}
use Rattle.enc_base.specs.BoundLaws.{products}

-- twice the count, without a division
count_twice : (n s : ℕ) → 2 * operand_count n s + s ≡ 2 * (n * s) + s * s
unfolding operand_count
count_twice n zero = omega arith
count_twice n (suc s) =
    let before = count_twice n s in
    let by_n : n * suc s ≡ n * s + n = omega arith in
    let by_s : suc s * suc s ≡ s * s + 2 * s + 1 = omega arith in
    omega arith

pub square_from : (s : ℕ) → s ≤ s * s
square_from zero = omega arith
square_from (suc s) = let e : suc s * suc s ≡ s * suc s + suc s = omega arith in omega arith

pub count_is : (n s : ℕ) → n * s + (s * s - s) / 2 ≡ operand_count n s
count_is n s = let twice = count_twice n s in let from = square_from s in omega arith

pub square-few : (s : ℕ) → s ≤ 16 → s * s ≤ 256
square-few s few = times-few s s 16 16 few few

pub part-few : (n s : ℕ) → n ≤ 6 → s ≤ 16 → n * s ≤ 96
part-few n s low few = times-few n s 6 16 low few

pub ruleset counting = (common_steps, count_is, square_from, square-few, part-few)

-- the computed numbers are those of variables
pub choice_low : (z : Dimensions) (side : Side) (i j : ℕ) → IsPlace z i → 1 ≤ j → j < i → choice_var z side i j ≤ select_vars z
choice_low z side i j place from to = choice_within z side i j (record { place = record { from = place.from; to = place.below }; from = from; to = to })

pub value_low : (z : Dimensions) (side : Side) (i t : ℕ) → IsPlace z i → t < 2 ^ z.n → value_var z side i t ≤ select_vars z
value_low z side i t place row = value_within z side i t (record { from = place.from; to = place.below }) row

pub ruleset choosing = (common_steps, choice_low, choice_positive)

pub ruleset valuing = (products, value_low, value_positive, first_within)
