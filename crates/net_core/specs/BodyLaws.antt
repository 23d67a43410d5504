-- Tables that join all their inputs are valid covers of their width with few cubes, and cost one gate less than
-- they have inputs.
use Rattle.std.proofs.Common.{◌≡◌, ℕ, zero, suc, ◌-◌, ◌≤◌, ◌<◌, Bool, List, [], ◌∷◌, length, refl, arith}
use Rattle.std.proofs.lemmas.List.{length-map}
use Rattle.net_theory.specs.Cover.{IsCover}
use Rattle.net_theory.specs.Cost.{cover_cost, wide_cost}
use Rattle.net_theory.specs.Whole.{single_ones}
use Rattle.net_theory.specs.WholeLaws.{and_cover_is, or_cover_is, xor_cover_is, and_cost, or_cost, xor_cost}
use Rattle.net_core.specs.declared.joining.Connective.{Connective}
use Rattle.net_core.specs.declared.joining.Connective.TheVariants.{And, Or, Xor}
use Rattle.net_core.specs.declared.whole.Whole.{Whole}
use Rattle.net_core.specs.declared.whole.Body.{Body}
use Rattle.net_core.specs.declared.whole.Body.TheVariants.{Cubes, Joined}
use Rattle.net_core.specs.Wholes.{joined_cover, whole_cover, cover_of, IsBody}

joined_is : (c : Connective) (width : ℕ) (on : Bool) → IsCover (joined_cover c width on)
joined_is And width on = and_cover_is width on
joined_is Or width on = or_cover_is width on
joined_is Xor width on = xor_cover_is width on

pub whole_is : (w : Whole) → IsCover (whole_cover w)
whole_is w = joined_is w.connective w.width w.on

joined_width : (c : Connective) (width : ℕ) (on : Bool) → (joined_cover c width on).width ≡ width
joined_width And width on = refl
joined_width Or width on = refl
joined_width Xor width on = refl

pub whole_width : (w : Whole) → (whole_cover w).width ≡ w.width
whole_width w = joined_width w.connective w.width w.on

pub joined_cost : (c : Connective) (width : ℕ) (on : Bool) → 2 ≤ width → wide_cost (joined_cover c width on) ≡ width - 1
joined_cost And width on two = and_cost width on two
joined_cost Or width on two = or_cost width on two
joined_cost Xor width on two = xor_cost width on

pub whole_cost-wide : {A : Type 0} (w : Whole) (inputs : List A) → w.width ≡ length inputs → 2 < length inputs → cover_cost (whole_cover w) inputs ≡ w.width - 1
whole_cost-wide w [] wide many = absurd (omega arith)
whole_cost-wide w (a ∷ []) wide many = absurd (omega arith)
whole_cost-wide w (a ∷ b ∷ []) wide many = absurd (omega arith)
whole_cost-wide w (a ∷ b ∷ d ∷ inputs) wide many = joined_cost w.connective w.width w.on (omega arith)

pub body_is : (b : Body) → IsBody b → IsCover (cover_of b)
body_is (Cubes c) is = is
body_is (Joined w) some = whole_is w

singles_length : (n : ℕ) → length (single_ones n) ≡ n
singles_length zero = refl
singles_length (suc n) = omega (arith, length-map (single_ones n) (λ cube. 45 ∷ cube), singles_length n)

joined_few : (c : Connective) (width : ℕ) (on : Bool) → 0 < width → length (joined_cover c width on).cubes ≤ width
joined_few And width on some = omega arith
joined_few Or width on some = omega (arith, singles_length width)
joined_few Xor width on some = omega arith

pub whole_few : (w : Whole) → 0 < w.width → length (whole_cover w).cubes ≤ w.width
whole_few w some = joined_few w.connective w.width w.on some
