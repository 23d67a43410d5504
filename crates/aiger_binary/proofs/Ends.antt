-- What is after the first word of a text.
use Rattle.std.proofs.Common.{◌≡◌, ℕ, ◌≤◌, List, [], ◌∷◌, length, drop, refl, arith}
use Rattle.std.proofs.lemmas.Grind.{common_steps}

pub short_end : (text : List ℕ) → length text ≤ 3 → drop 3 text ≡ []
short_end [] low = refl
short_end (a ∷ []) low = refl
short_end (a ∷ b ∷ []) low = refl
short_end (a ∷ b ∷ c ∷ []) low = refl
short_end (a ∷ b ∷ c ∷ d ∷ text) low = absurd (omega arith)

pub ruleset ends = (common_steps, short_end)
