-- Lists with a common prefix.
use Rattle.std.proofs.Common.{◌≡◌, ℕ, ◌≤◌, List, [], ◌∷◌, ◌++◌, length, take, ap, ◌∙◌, sym, arith, length-take, zero, suc}
use Rattle.std.proofs.lemmas.Grind.{common_steps}
use Rattle.net_theory.specs.declared.data.Gate.{Gate}
use Rattle.net_core.specs.Growing.{IsPrefixOfGates}

take_all : {A : Type 0} (xs : List A) → take (length xs) xs ≡ xs
take_all [] = cc
take_all (x ∷ xs) = ap (λ ys. x ∷ ys) (take_all xs)

take_prefix : {A : Type 0} (xs ys : List A) → take (length xs) (xs ++ ys) ≡ xs
take_prefix [] ys = cc
take_prefix (x ∷ xs) ys = ap (λ zs. x ∷ zs) (take_prefix xs ys)

take_take : {A : Type 0} (n m : ℕ) (xs : List A) → n ≤ m → take n (take m xs) ≡ take n xs
take_take zero m xs low = cc
take_take (suc n) zero xs low = absurd (omega arith)
take_take (suc n) (suc m) [] low = cc
take_take (suc n) (suc m) (x ∷ xs) low = ap (λ ys. x ∷ ys) (take_take n m xs (omega arith))

pub prefix_itself : (gates : List Gate) → IsPrefixOfGates gates gates
prefix_itself gates = record { same = take_all gates }

pub prefix_push : (gates : List Gate) (g : Gate) → IsPrefixOfGates gates (gates ++ g ∷ [])
prefix_push gates g = record { same = take_prefix gates (g ∷ []) }

pub prefix_more : (a b c : List Gate) → IsPrefixOfGates a b → IsPrefixOfGates b c → IsPrefixOfGates a c
prefix_more a b c ab bc =
    let low : length a ≤ length b = omega (arith, ap (length {A = Gate}) ab.same, length-take (length a) b) in
    record { same = sym (take_take (length a) (length b) c low) ∙ ap (take (length a)) bc.same ∙ ab.same }

pub ruleset prefixes = (common_steps, prefix_itself, prefix_push, prefix_more)
