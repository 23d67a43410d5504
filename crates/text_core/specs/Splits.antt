-- A text split in two, with the split moved by one byte.
use Rattle.std.proofs.Common.{◌≡◌, ℕ, zero, suc, ◌+◌, List, [], ◌∷◌, ◌++◌, take, drop, ap, add-one}
use Rattle.std.proofs.lemmas.Grind.{common_steps}

-- the first part grows by the byte
pub take_step : {A : Type 0} (i : ℕ) (xs : List A) (b : A) (rest : List A) → drop i xs ≡ b ∷ rest → take (i + 1) xs ≡ take i xs ++ b ∷ []
take_step zero [] b rest e = cc
take_step zero (x ∷ xs) b rest e = cc
take_step (suc i) [] b rest e = cc
take_step {A = A} (suc i) (x ∷ xs) b rest e = rw (add-one (suc i)) (ap (λ (ys : List A). x ∷ ys) (rw (add-one i) at (take_step i xs b rest e)))

-- the second part loses it
pub drop_step : {A : Type 0} (i : ℕ) (xs : List A) (b : A) (rest : List A) → drop i xs ≡ b ∷ rest → drop (i + 1) xs ≡ rest
drop_step zero [] b rest e = cc
drop_step zero (x ∷ xs) b rest e = cc
drop_step (suc i) [] b rest e = cc
drop_step (suc i) (x ∷ xs) b rest e = rw (add-one (suc i)) (rw (add-one i) at (drop_step i xs b rest e))

pub ruleset splits = (common_steps, take_step, drop_step)
