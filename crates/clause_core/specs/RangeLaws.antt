-- List comprehensions over ranges, one iteration at a time, in terms of the loop's counter.
use Rattle.std.proofs.Common.{◌≡◌, ℕ, zero, suc, ◌+◌, ◌-◌, ◌≤◌, List, [], ◌∷◌, ◌++◌, map, refl, ap, ◌∙◌, arith, add-zero, append-nil}
use Rattle.std.proofs.lemmas.Grind.{common_steps, flat_map-append}
use Rattle.std.proofs.lemmas.List.{map-append}
use Rattle.std.specs.List.{range_with_len, flat_map}

pub range_push : (a n : ℕ) → range_with_len a (suc n) ≡ range_with_len a n ++ (a + n) ∷ []
range_push a zero = rw add-zero refl
range_push a (suc n) =
    let e : (a + 1) + n ≡ a + suc n = omega arith in
    ap (λ (xs : List ℕ). a ∷ xs) (rw (← e) (range_push (a + 1) n))

range_to : (a j : ℕ) → a ≤ j → range_with_len a (j + 1 - a) ≡ range_with_len a (j - a) ++ j ∷ []
range_to a j low =
    let n : ℕ = j - a in
    let e : j + 1 - a ≡ suc n = omega arith in
    let last : a + n ≡ j = omega arith in
    rw e (range_push a n ∙ ap (λ (k : ℕ). range_with_len a n ++ k ∷ []) last)

pub flat_map-turn : {A : Type 0} (f : ℕ → List A) (n : ℕ) → flat_map f (range_with_len 0 (n + 1)) ≡ flat_map f (range_with_len 0 n) ++ f n
flat_map-turn {A} f n =
    let e : n + 1 ≡ suc n = omega arith in
    let z : 0 + n ≡ n = omega arith in
    rw e (ap (flat_map f) (range_push 0 n) ∙ flat_map-append f (range_with_len 0 n) ((0 + n) ∷ []) ∙ rw z (rw append-nil refl))

pub flat_map-turn_from : {A : Type 0} (f : ℕ → List A) (a j : ℕ) → a ≤ j → flat_map f (range_with_len a (j + 1 - a)) ≡ flat_map f (range_with_len a (j - a)) ++ f j
flat_map-turn_from {A} f a j low = ap (flat_map f) (range_to a j low) ∙ flat_map-append f (range_with_len a (j - a)) (j ∷ []) ∙ rw append-nil refl

pub map-turn_from : {A : Type 0} (f : ℕ → A) (a j : ℕ) → a ≤ j → map f (range_with_len a (j + 1 - a)) ≡ map f (range_with_len a (j - a)) ++ f j ∷ []
map-turn_from {A} f a j low = ap (map f) (range_to a j low) ∙ map-append f (range_with_len a (j - a)) (j ∷ [])

pub ruleset loops = (common_steps, flat_map-turn, flat_map-turn_from, map-turn_from)
