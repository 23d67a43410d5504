-- What is after the key of a symbol, and after some numbers.
use Rattle.std.proofs.Common.{◌≡◌, ℕ, zero, suc, ◌≤◌, List, [], ◌∷◌, length, drop, refl, ap, arith}
use Rattle.std.proofs.lemmas.Grind.{common_steps}
use Rattle.text_core.specs.Items.{items_of, split_from}

pub nothing_after : (n : ℕ) (text : List ℕ) → length text ≤ n → drop n text ≡ []
nothing_after zero [] low = refl
nothing_after (suc n) [] low = refl
nothing_after zero (b ∷ bs) low = absurd (omega (arith, low))
nothing_after (suc n) (b ∷ bs) low = nothing_after n bs (omega (arith, low))

head_of : List (List ℕ) → List ℕ
head_of [] = []
head_of (x ∷ xs) = x

pub key_is : (text key : List ℕ) (more : List (List ℕ)) → items_of text ≡ key ∷ more → (split_from [] text).first ≡ key
unfolding head_of
key_is text key more e = ap head_of e

pub ruleset keys = (common_steps, nothing_after, key_is)
