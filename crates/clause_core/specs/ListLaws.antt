-- Lists, element by element.
use Rattle.std.proofs.Common.{◌≡◌, ℕ, ◌+◌, List, [], ◌∷◌, ◌++◌, All, length, subst, ap, refl, arith, length-append, append_assoc}
use Rattle.std.proofs.lemmas.List.Elements.{All-head, All-tail}

pub all_first : {X : Type 0} (P : X → Type 0) (xs rest : List X) (x : X) → xs ≡ x ∷ rest → All P xs → P x
all_first {X} P xs rest x e all = All-head P x rest (subst (λ (ys : List X). All P ys) e all)

pub all_rest : {X : Type 0} (P : X → Type 0) (xs rest : List X) (x : X) → xs ≡ x ∷ rest → All P xs → All P rest
all_rest {X} P xs rest x e all = All-tail P x rest (subst (λ (ys : List X). All P ys) e all)

-- an element goes from what is left to what is done
pub moved : {X : Type 0} (old new all rest : List X) (x : X) → new ≡ old ++ x ∷ [] → all ≡ x ∷ rest → new ++ rest ≡ old ++ all
moved {X} old new all rest x is left = rw (is, left) (rw append_assoc refl)

pub moved-length : {X : Type 0} (old new all rest : List X) (x : X) → new ≡ old ++ x ∷ [] → all ≡ x ∷ rest → length new + length rest ≡ length old + length all
moved-length {X} old new all rest x is left = rw (is, left) (rw length-append (omega arith))

pub rest-length : {X : Type 0} (all rest : List X) (x : X) (n m : ℕ) → all ≡ x ∷ rest → n ≡ length all → m + 1 ≡ n → m ≡ length rest
rest-length {X} all rest x n m left is next = let e : length all ≡ length (x ∷ rest) = ap length left in omega (arith, e)
