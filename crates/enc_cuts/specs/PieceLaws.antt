-- Lists of several pieces.
use Rattle.std.proofs.Common.{◌≡◌, ℕ, List, [], ◌∷◌, ◌++◌, append_assoc, append-nil}
use Rattle.std.specs.List.{flat_map}
use Rattle.std.proofs.lemmas.Grind.{common_steps}

-- one piece after another
pub two_pieces : {A : Type 0} (f : ℕ → List A) (xs : List A) (a b : ℕ) → (xs ++ f a) ++ f b ≡ xs ++ flat_map f (a ∷ b ∷ [])
two_pieces {A} f xs a b = simp (append_assoc, append-nil)

pub four_pieces : {A : Type 0} (f : ℕ → List A) (xs : List A) (a b c d : ℕ) → (((xs ++ f a) ++ f b) ++ f c) ++ f d ≡ xs ++ flat_map f (a ∷ b ∷ c ∷ d ∷ [])
four_pieces {A} f xs a b c d = simp (append_assoc, append-nil)

pub ruleset pieces = (common_steps, two_pieces, four_pieces)
