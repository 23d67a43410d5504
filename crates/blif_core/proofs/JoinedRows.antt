-- The cubes of AND and OR of all inputs, one after the other.
use Rattle.std.proofs.Common.{◌≡◌, ℕ, zero, suc, ◌+◌, ◌<◌, List, [], ◌∷◌, ◌++◌, map, refl, sym, ap, ◌∙◌, arith, append_assoc}
use Rattle.std.specs.Prelude.{◌-◌, replicate, slice_set}
use Rattle.std.specs.List.{flat_map}
use Rattle.std.proofs.lemmas.Grind.{common_steps}
use Rattle.net_theory.specs.Whole.{ones, dashes, single_ones}

-- cubes of equal bytes, with one byte changed
pub same-ones : (width : ℕ) → replicate width 49 ≡ ones width
same-ones zero = refl
same-ones (suc width) = ap (λ (xs : List ℕ). 49 ∷ xs) (same-ones width)

same-dashes : (width : ℕ) → replicate width 45 ≡ dashes width
same-dashes zero = refl
same-dashes (suc width) = ap (λ (xs : List ℕ). 45 ∷ xs) (same-dashes width)

pub same-single : (width i : ℕ) → i < width → slice_set (replicate width 45) i 49 ≡ dashes i ++ 49 ∷ dashes (width - i - 1)
same-single zero i low = absurd (omega arith)
same-single (suc width) zero low = let e : width ≡ suc width - 0 - 1 = omega arith in ap (λ (xs : List ℕ). 49 ∷ xs) (same-dashes width ∙ ap dashes e)
same-single (suc width) (suc i) low =
    let e : width - i - 1 ≡ suc width - suc i - 1 = omega arith in
    ap (λ (xs : List ℕ). 45 ∷ xs) (same-single width i (omega arith) ∙ ap (λ (n : ℕ). dashes i ++ 49 ∷ dashes n) e)

pub ruleset cubes = (common_steps, same-ones, same-single)

dashes-last : (i : ℕ) → dashes i ++ 45 ∷ [] ≡ dashes (suc i)
dashes-last zero = refl
dashes-last (suc i) = ap (λ (xs : List ℕ). 45 ∷ xs) (dashes-last i)

dashes-push : (i : ℕ) (cube : List ℕ) → dashes i ++ 45 ∷ cube ≡ dashes (i + 1) ++ cube
dashes-push i cube =
    let e : suc i ≡ i + 1 = omega arith in
    sym (append_assoc (dashes i) (45 ∷ []) cube) ∙ ap (λ (xs : List ℕ). xs ++ cube) (dashes-last i ∙ ap dashes e)

-- the cubes, each prefixed by n dashes
abbrev pub after : ℕ → List (List ℕ) → List (List ℕ)
after i cubes = map (λ (cube : List ℕ). dashes i ++ cube) cubes

after-push : (i : ℕ) (cubes : List (List ℕ)) → after i (map (λ (cube : List ℕ). 45 ∷ cube) cubes) ≡ after (i + 1) cubes
after-push i [] = refl
after-push i (c ∷ cubes) = let e = dashes-push i c in let f = after-push i cubes in λ k. e k ∷ f k

after-zero : (cubes : List (List ℕ)) → after 0 cubes ≡ cubes
after-zero [] = refl
after-zero (c ∷ cubes) = ap (λ (cs : List (List ℕ)). c ∷ cs) (after-zero cubes)

-- the remaining cover lines of OR
abbrev pub lines_left : (List ℕ → List ℕ) → ℕ → ℕ → List ℕ
lines_left line width i = flat_map line (after i (single_ones (width - i)))

pub lines-step : (line : List ℕ → List ℕ) (width i : ℕ) → i < width → lines_left line width i ≡ line (dashes i ++ 49 ∷ dashes (width - i - 1)) ++ lines_left line width (i + 1)
lines-step line width i low =
    let e : width - i ≡ suc (width - (i + 1)) = omega arith in
    let f : width - (i + 1) ≡ width - i - 1 = omega arith in
    ap (λ (n : ℕ). flat_map line (after i (single_ones n))) e
    ∙ ap (λ (n : ℕ). line (dashes i ++ 49 ∷ dashes n) ++ flat_map line (after i (map (λ (cube : List ℕ). 45 ∷ cube) (single_ones (width - (i + 1)))))) f
    ∙ ap (λ (cs : List (List ℕ)). line (dashes i ++ 49 ∷ dashes (width - i - 1)) ++ flat_map line cs) (after-push i (single_ones (width - (i + 1))))

pub lines-all : (line : List ℕ → List ℕ) (width : ℕ) → lines_left line width 0 ≡ flat_map line (single_ones width)
lines-all line width = let e : width - 0 ≡ width = omega arith in ap (λ (n : ℕ). flat_map line (after 0 (single_ones n))) e ∙ ap (flat_map line) (after-zero (single_ones width))

pub lines-none : (line : List ℕ → List ℕ) (width : ℕ) → lines_left line width width ≡ []
lines-none line width = let e : width - width ≡ 0 = omega arith in ap (λ (n : ℕ). flat_map line (after width (single_ones n))) e

pub ruleset rows = (common_steps, lines-step, lines-all, lines-none)
