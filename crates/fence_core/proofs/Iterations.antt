-- An iteration of the loop: one more size of the first level.
use Rattle.std.proofs.Common.{◌≡◌, ℕ, zero, suc, ◌+◌, ◌-◌, ◌≤◌, true, false, leb, List, [], ◌∷◌, ◌++◌, ap, ◌∙◌, arith, append-nil}
use Rattle.std.specs.List.{flat_map, range_with_len}
use Rattle.std.proofs.lemmas.Bool.{cond-true, cond-false}
use Rattle.std.proofs.lemmas.Grind.{common_steps, flat_map-append}
use Rattle.fence_core.specs.Fence.{listed_fences}
use Rattle.fence_core.specs.ByFirst.{stacked_on, fences_with, listed_by_first, listed_none, stacked_on_nothing}

range_push : (a n : ℕ) → range_with_len a (suc n) ≡ range_with_len a n ++ (a + n) ∷ []
range_push a zero = ap (λ (x : ℕ). x ∷ []) (let e : a ≡ a + 0 = omega arith in e)
range_push a (suc n) = ap (λ (xs : List ℕ). a ∷ xs) (range_push (a + 1) n ∙ ap (λ (x : ℕ). range_with_len (a + 1) n ++ x ∷ []) (let e : (a + 1) + n ≡ a + suc n = omega arith in e))

-- the fences with fewer steps on the first level, and those with q steps on it
pub next_turn : (below : List ℕ) (r m q : ℕ) → 1 ≤ q →
    flat_map (fences_with below r m) (range_with_len 1 (q + 1 - 1)) ≡
    flat_map (fences_with below r m) (range_with_len 1 (q - 1)) ++ fences_with below r m q
next_turn below r m zero some = absurd (omega arith)
next_turn below r m (suc q) some =
    let long : suc q + 1 - 1 ≡ suc q = omega arith in
    let short : suc q - 1 ≡ q = omega arith in
    let last : 1 + q ≡ suc q = omega arith in
    ap (λ (n : ℕ). flat_map (fences_with below r m) (range_with_len 1 n)) long
    ∙ ap (flat_map (fences_with below r m)) (range_push 1 q)
    ∙ flat_map-append (fences_with below r m) (range_with_len 1 q) ((1 + q) ∷ [])
    ∙ ap (λ (xs : List (List ℕ)). flat_map (fences_with below r m) (range_with_len 1 q) ++ xs) (append-nil (fences_with below r m (1 + q)) ∙ ap (fences_with below r m) last)
    ∙ ap (λ (n : ℕ). flat_map (fences_with below r m) (range_with_len 1 n) ++ fences_with below r m (suc q)) (let e : q ≡ suc q - 1 = omega arith in e)

-- a first level that isn't too wide, and one that is
pub with_allowed : (below : List ℕ) (r m q : ℕ) → leb q (r - q + m) ≡ true → fences_with below r m q ≡ stacked_on (below ++ q ∷ []) (listed_fences (r - q) m)
unfolding fences_with
with_allowed below r m q e = cond-true (leb q (r - q + m)) (stacked_on (below ++ q ∷ []) (listed_fences (r - q) m)) [] e

pub with_refused : (below : List ℕ) (r m q : ℕ) → leb q (r - q + m) ≡ false → fences_with below r m q ≡ []
unfolding fences_with
with_refused below r m q e = cond-false (leb q (r - q + m)) (stacked_on (below ++ q ∷ []) (listed_fences (r - q) m)) [] e

pub ruleset iterations = (common_steps, next_turn, with_allowed, with_refused, listed_by_first, listed_none, stacked_on_nothing)
