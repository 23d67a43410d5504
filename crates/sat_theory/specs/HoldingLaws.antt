-- Sets of literals, and units outside them.
use Rattle.std.specs.Prelude.{◌≡◌, ℤ, Bool, true, false, ◌⊎◌, ◌||◌, List, [], ◌∷◌, ◌++◌, refl}
use Rattle.std.specs.List.{list_any}
use Rattle.std.specs.Ordering.{int_eq}
use Rattle.std.proofs.Common.{sym}
use Rattle.std.proofs.Math.Logic.{⊎_elim}
use Rattle.std.proofs.lemmas.List.Elements.{All-contains}
use Rattle.sat_theory.specs.Holding.{among, with_literal, IsUnitOutside}

swap_or : (a b c : Bool) → (a || (b || c)) ≡ (b || (a || c))
swap_or true true c = refl
swap_or true false c = refl
swap_or false true c = refl
swap_or false false c = refl

or_last : (p : ℤ → Bool) (lits : List ℤ) (x : ℤ) → list_any p (lits ++ x ∷ []) ≡ (p x || list_any p lits)
or_last p [] x = refl
or_last p (y ∷ ys) x = rw (or_last p ys x) (swap_or (p y) (p x) (list_any p ys))

-- the set of a list with one more literal at its end
pub among-push : (lits : List ℤ) (x : ℤ) → among (lits ++ x ∷ []) ≡ with_literal (among lits) x
among-push lits x = λ i l. or_last (λ (m : ℤ). int_eq l m) lits x i

-- a unit clause has only one literal outside the set
pub one_unit : (set : ℤ → Bool) (clause : List ℤ) (l m : ℤ) → IsUnitOutside set clause l → IsUnitOutside set clause m → l ≡ m
one_unit set clause l m at_l at_m =
    let P : ℤ → Type 0 = λ x. (x ≡ l) ⊎ (set x ≡ true) in
    ⊎_elim (λ (same : m ≡ l). sym same) (λ (member : set m ≡ true). let out : set m ≡ false = at_m.outside in absurd (cc)) (All-contains P clause m at_l.others at_m.there)
