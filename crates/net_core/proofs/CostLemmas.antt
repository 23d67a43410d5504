-- The costs of tables and their bounds.
use Rattle.std.proofs.Common.{◌≡◌, ℕ, ◌+◌, ◌-◌, ◌*◌, ◌≤◌, ◌<◌, ◌^◌, Bool, true, false, ◌==◌, ◌||◌, if◌then◌else◌, List, [], ◌∷◌, length, ap, ◌∙◌, sym, arith}
use Rattle.std.specs.List.{AllByRecursion, list_all}
use Rattle.std.proofs.lemmas.Grind.{common_steps}
use Rattle.std.proofs.lemmas.Bool.{cond-true, cond-false, and_parts, eqb-true}
use Rattle.std.proofs.lemmas.List.Elements.{recursion_from_All}
use Rattle.std.proofs.lemmas.List.Sums.{sum_by-cons, count_by-le-length}
use Rattle.net_theory.specs.Cover.{Cover, IsCover, is_cube, is_cube_byte}
use Rattle.net_theory.specs.Cost.{literal_count, literal_sum, is_not, cubes_cost, wide_cost}
use Rattle.net_theory.specs.Expansion.{is_constant_cover}
use Rattle.net_core.proofs.Wide.{wide_cost-some}
use Rattle.net_theory.specs.Limits.{most_table_inputs, most_cubes}

pub cost_plain : (c : Cover) → c.parity ≡ false → is_constant_cover c.cubes ≡ true → 0 ≡ wide_cost c
unfolding wide_cost cubes_cost
cost_plain c cubed e = sym (cond-false c.parity (c.width - 1) (cubes_cost c) cubed ∙ cond-true (is_constant_cover c.cubes) 0 _ e)

pub cost_not : (c : Cover) → c.parity ≡ false → is_constant_cover c.cubes ≡ false → is_not c.on c.cubes ≡ true → (literal_sum c.cubes - 1) + 1 ≡ wide_cost c
cost_not c cubed e turned = sym (wide_cost-some c cubed e ∙ ap (λ (b : Bool). (literal_sum c.cubes - 1) + (if b then 1 else 0)) turned)

pub cost_else : (c : Cover) → c.parity ≡ false → is_constant_cover c.cubes ≡ false → is_not c.on c.cubes ≡ false → literal_sum c.cubes - 1 ≡ wide_cost c
cost_else c cubed e turned = omega (arith, wide_cost-some c cubed e ∙ ap (λ (b : Bool). (literal_sum c.cubes - 1) + (if b then 1 else 0)) turned)

-- ---- bounds

cube_narrow : (width : ℕ) (cube : List ℕ) → width ≤ most_table_inputs → is_cube width cube ≡ true → literal_count cube ≤ most_table_inputs
cube_narrow width cube narrow is =
    omega (arith, eqb-true (length cube) width (and_parts (length cube == width) (list_all is_cube_byte cube) is).0, count_by-le-length (λ (b : ℕ). b == 48 || b == 49) cube)

cubes_few : (width : ℕ) (cubes : List (List ℕ)) → width ≤ most_table_inputs → AllByRecursion (λ (cube : List ℕ). is_cube width cube ≡ true) cubes → literal_sum cubes ≤ most_table_inputs * length cubes
cubes_few width [] narrow are = omega arith
cubes_few width (c ∷ cubes) narrow are =
    omega (arith, sum_by-cons literal_count c cubes, cube_narrow width c narrow are.0, cubes_few width cubes narrow are.1)

pub few_literals : (c : Cover) → IsCover c → c.width ≤ most_table_inputs → length c.cubes ≤ most_cubes → literal_sum c.cubes < 2 ^ 31
few_literals c is narrow few = omega (arith, cubes_few c.width c.cubes narrow (recursion_from_All (λ (cube : List ℕ). is_cube c.width cube ≡ true) c.cubes is.cubes))

pub ruleset costs = (common_steps, cost_plain, cost_not, cost_else, few_literals)
