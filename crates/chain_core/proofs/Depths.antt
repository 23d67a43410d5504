-- The greatest of the levels of a chain's steps is its depth.
use Rattle.std.proofs.Common.{◌≡◌, ℕ, zero, suc, ◌+◌, ◌<◌, List, [], ◌∷◌, ◌++◌, length, map, max, get_or, take, refl, ap, ◌∙◌, arith}
use Rattle.std.specs.List.{range_with_len}
use Rattle.std.proofs.lemmas.Grind.{common_steps}
use Rattle.std.proofs.lemmas.List.FromFn.{map-range_with_len_more}
use Rattle.chain_theory.specs.Chain.{Chain}
use Rattle.chain_theory.specs.Levels.{level, greatest, depth}
use Rattle.chain_core.specs.SliceLevels.{levels_of}

unfoldable pub greatest_of : List ℕ → ℕ
greatest_of [] = 0
greatest_of (x ∷ xs) = max x (greatest_of xs)

greatest_of-push : (xs : List ℕ) (x : ℕ) → greatest_of (xs ++ x ∷ []) ≡ max (greatest_of xs) x
unfolding greatest_of
greatest_of-push [] x = omega arith
greatest_of-push (y ∷ ys) x = omega (arith, greatest_of-push ys x)

pub greatest_none : greatest_of [] ≡ 0
unfolding greatest_of
greatest_none = refl

pub greatest_more : (xs : List ℕ) (i : ℕ) → i < length xs → greatest_of (take (i + 1) xs) ≡ max (greatest_of (take i xs)) (get_or xs i 0)
greatest_more xs i low = grind (arith, common_steps, greatest_of-push (take i xs) (get_or xs i 0))

greatest_map : (f : ℕ → ℕ) (a k : ℕ) → greatest_of (map f (range_with_len a k)) ≡ greatest (λ i. f (a + i)) k
unfolding greatest greatest_of
greatest_map f a zero = refl
greatest_map f a (suc k) =
    let e : suc k ≡ k + 1 = omega arith in
    ap (λ (n : ℕ). greatest_of (map f (range_with_len a n))) e
    ∙ ap (λ (xs : List ℕ). greatest_of xs) (map-range_with_len_more f a k (a + k) refl)
    ∙ greatest_of-push (map f (range_with_len a k)) (f (a + k))
    ∙ ap (λ (n : ℕ). max n (f (a + k))) (greatest_map f a k)

pub greatest_is_depth : (c : Chain) → greatest_of (levels_of c) ≡ depth c
unfolding levels_of
greatest_is_depth c = greatest_map (level c) (c.n + 1) (length c.steps)

pub ruleset depths = (common_steps, greatest_none, greatest_more, greatest_is_depth)
