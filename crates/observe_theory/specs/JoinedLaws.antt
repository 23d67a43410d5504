-- Nodes of two lists.
use Rattle.std.specs.Prelude.{◌≡◌, ℕ, true, false, List, [], ◌∷◌, ◌++◌, ◌⊎◌}
use Rattle.std.proofs.Common.{inl, inr, ⊎_elim, subst, sym}
use Rattle.std.proofs.lemmas.Bool.{cases_Bool, both_ways}
use Rattle.window_theory.specs.Nodes.{among}
use Rattle.window_theory.specs.NodeLaws.{among_cases, among_first, among_later}

pub in_prefix : (xs ys : List ℕ) (p : ℕ) → among xs p ≡ true → among (xs ++ ys) p ≡ true
in_prefix [] ys p on = absurd cc
in_prefix (x ∷ xs) ys p on =
    ⊎_elim
    (λ (own : p ≡ x). subst (λ (q : ℕ). among (x ∷ (xs ++ ys)) q ≡ true) (sym own) (among_first x (xs ++ ys)))
    (λ later. among_later x p (xs ++ ys) (in_prefix xs ys p later))
    (among_cases x p xs on)

pub in_back : (xs ys : List ℕ) (p : ℕ) → among ys p ≡ true → among (xs ++ ys) p ≡ true
in_back [] ys p on = on
in_back (x ∷ xs) ys p on = among_later x p (xs ++ ys) (in_back xs ys p on)

pub in_parts : (xs ys : List ℕ) (p : ℕ) → among (xs ++ ys) p ≡ true → (among xs p ≡ true) ⊎ (among ys p ≡ true)
in_parts [] ys p on = inr on
in_parts (x ∷ xs) ys p on =
    ⊎_elim
    (λ (own : p ≡ x). inl (subst (λ (q : ℕ). among (x ∷ xs) q ≡ true) (sym own) (among_first x xs)))
    (λ later. ⊎_elim (λ a. inl (among_later x p xs a)) (λ b. inr b) (in_parts xs ys p later))
    (among_cases x p (xs ++ ys) on)

-- a node that can't be in a list isn't in it
pub is_off : (xs : List ℕ) (p : ℕ) → (among xs p ≡ true → ⊥) → among xs p ≡ false
is_off xs p none = ⊎_elim (λ on. absurd (none on)) (λ off. off) (cases_Bool (among xs p))

pub out_back : (xs ys : List ℕ) (p : ℕ) → among (xs ++ ys) p ≡ false → among ys p ≡ false
out_back xs ys p off = is_off ys p (λ on. both_ways (among (xs ++ ys) p) off (in_back xs ys p on))
