-- Counting the literals of a clause outside a set, and room for their opposites.
use Rattle.std.proofs.Common.{◌≡◌, ℕ, suc, ◌+◌, ◌<◌, ℤ, Bool, true, false, not, List, [], ◌∷◌, ◌++◌, length, take, drop, get_or, refl, sym, ap, ◌∙◌, drop-cons, Option, Some, None, is_some}
use Rattle.std.specs.Option.{option_to_list}
use Rattle.std.proofs.lemmas.List.{take-append-drop}
use Rattle.std.proofs.lemmas.List.Elements.{filter-append}
use Rattle.lrat_check.specs.Hints.{outside}
use Rattle.lrat_check.specs.Scan.{AreMany}

-- a second literal outside: the scan stops with Many
two_outside : (set : ℤ → Bool) (clause : List ℤ) (i : ℕ) (l m : ℤ) → outside set (take i clause) ≡ l ∷ [] → i < length clause → m ≡ get_or clause i m → set m ≡ false → AreMany (outside set clause)
two_outside set clause i l m prefix within at out =
    let rest : List ℤ = drop (suc i) clause in
    let split : take i clause ++ drop i clause ≡ clause = take-append-drop i clause in
    let next : drop i clause ≡ m ∷ rest = drop-cons clause i m within ∙ ap (λ (x : ℤ). x ∷ rest) (sym at) in
    let whole : clause ≡ take i clause ++ m ∷ rest = sym split ∙ ap (λ (xs : List ℤ). take i clause ++ xs) next in
    let last : outside set (m ∷ rest) ≡ m ∷ outside set rest = rw out refl in
    let all : outside set clause ≡ l ∷ m ∷ outside set rest =
    ap (outside set) whole ∙ filter-append (λ x. not (set x)) (take i clause) (m ∷ rest)
    ∙ ap (λ (xs : List ℤ). xs ++ outside set (m ∷ rest)) prefix ∙ ap (λ (xs : List ℤ). l ∷ xs) last in
    record { first = l; second = m; others = outside set rest; is = all }

pub many_outside : (set : ℤ → Bool) (clause : List ℤ) (i : ℕ) (found : Option ℤ) (m : ℤ) → is_some found ≡ true →
    outside set (take i clause) ≡ option_to_list found → i < length clause → m ≡ get_or clause i m → set m ≡ false →
    AreMany (outside set clause)
many_outside set clause i None m some prefix within at out = absurd (cc)
many_outside set clause i (Some l) m some prefix within at out = two_outside set clause i l m prefix within at out
