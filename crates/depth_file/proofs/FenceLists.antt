-- Fences with one number of levels, and those with one level more.
use Rattle.std.proofs.Common.{◌≡◌, ℕ, ◌+◌, ◌==◌, Bool, true, false, cond, List, [], ◌∷◌, ◌++◌, length, map, refl, ap, ◌∙◌, arith, append_assoc}
use Rattle.std.specs.List.{filter}
use Rattle.std.proofs.lemmas.Grind.{common_steps}
use Rattle.std.proofs.lemmas.Bool.Decides.{nat_tests}
use Rattle.std.proofs.lemmas.List.{map-append}
use Rattle.enc_theory.specs.declared.subproblem.Subproblem.TheVariants.{Levels}
use Rattle.depth_theory.specs.Flatter.{has_levels, of_levels, by_levels}
use Rattle.depth_theory.specs.FlatterLaws.{by_levels_more}

eq_true : (a k : ℕ) → a ≡ k → (a == k) ≡ true
eq_true a k e = grind (arith, nat_tests)

eq_false : (a k : ℕ) → (a ≡ k → ⊥) → (a == k) ≡ false
eq_false a k other = grind (arith, nat_tests)

pub fence_own : (k : ℕ) (f : List ℕ) (fences : List (List ℕ)) → length f ≡ k → map Levels (filter (has_levels k) (f ∷ fences)) ≡ Levels f ∷ map Levels (filter (has_levels k) fences)
fence_own k f fences same = ap (λ (t : Bool). map Levels (cond t (f ∷ filter (has_levels k) fences) (filter (has_levels k) fences))) (eq_true (length f) k same)

pub fence_other : (k : ℕ) (f : List ℕ) (fences : List (List ℕ)) → (length f ≡ k → ⊥) → map Levels (filter (has_levels k) (f ∷ fences)) ≡ map Levels (filter (has_levels k) fences)
fence_other k f fences other = ap (λ (t : Bool). map Levels (cond t (f ∷ filter (has_levels k) fences) (filter (has_levels k) fences))) (eq_false (length f) k other)

pub ruleset fencing = (common_steps, fence_own, fence_other, append_assoc)

pub level_none : (fences : List (List ℕ)) → map Levels (by_levels fences 0) ≡ []
unfolding by_levels
level_none fences = refl

pub level_more : (fences : List (List ℕ)) (k : ℕ) → map Levels (by_levels fences (k + 1)) ≡ map Levels (by_levels fences k) ++ map Levels (of_levels fences k)
level_more fences k = ap (λ (xs : List (List ℕ)). map Levels xs) (by_levels_more fences k) ∙ map-append Levels (by_levels fences k) (of_levels fences k)

pub ruleset flattening = (common_steps, level_none, level_more)
