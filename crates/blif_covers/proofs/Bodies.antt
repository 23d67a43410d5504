-- A table that joins its inputs hasn't three rows of two inputs.
use Rattle.std.specs.Prelude.{◌≡◌, ℕ, zero, suc, Bool, true, false, ◌==◌, ◌&&◌, List, ◌∷◌, length, refl}
use Rattle.std.proofs.Common.{arith, sym, ◌∙◌, ap}
use Rattle.std.proofs.lemmas.Bool.{cond-false, ne_eqb}
use Rattle.std.proofs.lemmas.Grind.{common_steps}
use Rattle.std.proofs.lemmas.List.{length-map}
use Rattle.net_theory.specs.Whole.{single_ones}
use Rattle.net_core.specs.declared.joining.Connective.{Connective}
use Rattle.net_core.specs.declared.joining.Connective.TheVariants.{And, Or, Xor}
use Rattle.net_core.specs.declared.whole.Whole.{Whole}
use Rattle.net_core.specs.Wholes.{joined_cover, whole_cover}
use Rattle.blif_covers.specs.Least.{lists_three, least_cover}

singles_length : (width : ℕ) → length (single_ones width) ≡ width
singles_length zero = refl
singles_length (suc width) =
    ap suc (length-map (single_ones width) (λ (cube : List ℕ). 45 ∷ cube) ∙ singles_length width)

and_none : (a : Bool) → (a && false) ≡ false
and_none true = refl
and_none false = refl

not_both : (width : ℕ) → (width == 2 && width == 3) ≡ false
not_both zero = refl
not_both (suc zero) = refl
not_both (suc (suc zero)) = refl
not_both (suc (suc (suc width))) =
    ap (λ b. b && suc (suc (suc width)) == 3) (ne_eqb (suc (suc (suc width))) 2 (λ e. omega (arith, e)))

joins_none : (connective : Connective) (width : ℕ) (on : Bool) → lists_three (joined_cover connective width on) ≡ false
joins_none And width on = and_none (width == 2)
joins_none Or width on = ap (λ (n : ℕ). width == 2 && n == 3) (singles_length width) ∙ not_both width
joins_none Xor width on = and_none (width == 2)

pub whole_stays : (w : Whole) → whole_cover w ≡ least_cover (whole_cover w)
unfolding least_cover
whole_stays w = sym (cond-false (lists_three (whole_cover w)) _ _ (joins_none w.connective w.width w.on))

pub ruleset bodies = (common_steps, whole_stays)
