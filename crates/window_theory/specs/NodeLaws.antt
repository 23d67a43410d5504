-- An ascending list is determined by its elements, and each decidable set of nodes below a bound has such a
-- list.
use Rattle.std.specs.Prelude.{◌≡◌, ℕ, zero, suc, ◌+◌, ◌≤◌, ◌<◌, Bool, true, false, nat_eq, if◌then◌else◌, List, [], ◌∷◌, ◌⊎◌, refl}
use Rattle.std.proofs.Common.{arith, sym, ◌∙◌, ap, inl, inr, ⊎_elim}
use Rattle.std.proofs.lemmas.Bool.{cond_both, cond-true, eqb-true, eq-eqb, or_cases, or_left, or_right, cases_eq}
use Rattle.window_theory.specs.Nodes.{among, IsRising, AreJust}

pub among_cases : (p q : ℕ) (nodes : List ℕ) → among (p ∷ nodes) q ≡ true → (q ≡ p) ⊎ (among nodes q ≡ true)
among_cases p q nodes e = ⊎_elim (λ here. inl (eqb-true q p here)) (λ later. inr later) (or_cases (nat_eq q p) (among nodes q) e)

pub among_first : (p : ℕ) (nodes : List ℕ) → among (p ∷ nodes) p ≡ true
among_first p nodes = or_left (nat_eq p p) (among nodes p) (eq-eqb p p refl)

pub among_later : (p q : ℕ) (nodes : List ℕ) → among nodes q ≡ true → among (p ∷ nodes) q ≡ true
among_later p q nodes e = or_right (nat_eq q p) (among nodes q) e

-- ---- one list for one set

first_same : (x y : ℕ) (xs ys : List ℕ) → IsRising (x ∷ xs) → IsRising (y ∷ ys) → among (y ∷ ys) x ≡ true → among (x ∷ xs) y ≡ true → x ≡ y
unfolding IsRising
first_same x y xs ys rising_x rising_y there back =
    ⊎_elim
    (λ same. same)
    (λ later. ⊎_elim
    (λ (same : y ≡ x). sym same)
    (λ further. let a : y < x = rising_y.0 x later in let b : x < y = rising_x.0 y further in absurd (omega (arith, a, b)))
    (among_cases x y xs back))
    (among_cases y x ys there)

rest_within : (x y : ℕ) (xs ys : List ℕ) → x ≡ y → IsRising (x ∷ xs) → ((p : ℕ) → among (x ∷ xs) p ≡ true → among (y ∷ ys) p ≡ true) → (p : ℕ) → among xs p ≡ true → among ys p ≡ true
unfolding IsRising
rest_within x y xs ys same rising within p e =
    ⊎_elim
    (λ (own : p ≡ y). let above : x < p = rising.0 p e in absurd (omega (arith, above, same)))
    (λ later. later)
    (among_cases y p ys (within p (among_later x p xs e)))

pub rising_same : (xs ys : List ℕ) → IsRising xs → IsRising ys → ((p : ℕ) → among xs p ≡ true → among ys p ≡ true) → ((p : ℕ) → among ys p ≡ true → among xs p ≡ true) → xs ≡ ys
unfolding IsRising
rising_same [] [] rising_x rising_y there back = refl
rising_same [] (y ∷ ys) rising_x rising_y there back = absurd (let e : false ≡ true = back y (among_first y ys) in cc)
rising_same (x ∷ xs) [] rising_x rising_y there back = absurd (let e : false ≡ true = there x (among_first x xs) in cc)
rising_same (x ∷ xs) (y ∷ ys) rising_x rising_y there back =
    let same : x ≡ y = first_same x y xs ys rising_x rising_y (there x (among_first x xs)) (back y (among_first y ys)) in
    let rest : xs ≡ ys = rising_same xs ys rising_x.1 rising_y.1 (rest_within x y xs ys same rising_x there) (rest_within y x ys xs (sym same) rising_y back) in
    ap (λ (z : ℕ). z ∷ xs) same ∙ ap (λ (zs : List ℕ). y ∷ zs) rest

-- ---- the list of a test

unfoldable pub listed : (ℕ → Bool) → ℕ → ℕ → List ℕ
listed test start zero = []
listed test start (suc count) = if test start then start ∷ listed test (start + 1) count else listed test (start + 1) count

listed_only : (test : ℕ → Bool) (start count q : ℕ) → among (listed test start count) q ≡ true → (start ≤ q) × (test q ≡ true)
unfolding listed
listed_only test start zero q e = absurd (let x : false ≡ true = e in cc)
listed_only test start (suc count) q e =
    cond_both (test start) (start ∷ listed test (start + 1) count) (listed test (start + 1) count) (λ (xs : List ℕ). among xs q ≡ true → (start ≤ q) × (test q ≡ true))
    (λ on e. ⊎_elim
    (λ (same : q ≡ start). (omega arith, ap test same ∙ on))
    (λ later. let r = listed_only test (start + 1) count q later in (omega (arith, r.0), r.1))
    (among_cases start q (listed test (start + 1) count) e))
    (λ off e. let r = listed_only test (start + 1) count q e in (omega (arith, r.0), r.1))
    e

listed_all : (test : ℕ → Bool) (start count q : ℕ) → start ≤ q → q < start + count → test q ≡ true → among (listed test start count) q ≡ true
unfolding listed
listed_all test start zero q low high e = absurd (omega arith)
listed_all test start (suc count) q low high e =
    ⊎_elim
    (λ (same : q ≡ start). ap (λ (xs : List ℕ). among xs q) (cond-true (test start) (start ∷ listed test (start + 1) count) (listed test (start + 1) count) (ap test (sym same) ∙ e))
    ∙ or_left (nat_eq q start) (among (listed test (start + 1) count) q) (eq-eqb q start same))
    (λ other.
    let later : among (listed test (start + 1) count) q ≡ true = listed_all test (start + 1) count q (omega (arith, other, low)) (omega (arith, high)) e in
    cond_both (test start) (start ∷ listed test (start + 1) count) (listed test (start + 1) count) (λ (xs : List ℕ).
    among xs q ≡ true) (λ on. among_later start q (listed test (start + 1) count) later) (λ off. later))
    (cases_eq q start)

listed_rising : (test : ℕ → Bool) (start count : ℕ) → IsRising (listed test start count)
unfolding listed IsRising
listed_rising test start zero = tt
listed_rising test start (suc count) =
    cond_both (test start) (start ∷ listed test (start + 1) count) (listed test (start + 1) count) IsRising
    (λ on. (λ q e. omega (arith, (listed_only test (start + 1) count q e).0), listed_rising test (start + 1) count))
    (λ off. listed_rising test (start + 1) count)

-- a property of nodes below a bound that a test decides has a list
pub just_listed : (P : ℕ → Type 0) (test : ℕ → Bool) (bound : ℕ) → ((q : ℕ) → test q ≡ true → P q) → ((q : ℕ) → P q → (test q ≡ true) × (q < bound)) → AreJust P (listed test 0 bound)
just_listed P test bound holds tests =
    record {
      rising = listed_rising test 0 bound;
      only = λ q e. holds q (listed_only test 0 bound q e).1;
      all = λ q is. let t = tests q is in listed_all test 0 bound q (omega arith) (omega (arith, t.1)) t.0;
    }

-- two lists for one property are equal
pub just_same : (P : ℕ → Type 0) (xs ys : List ℕ) → AreJust P xs → AreJust P ys → xs ≡ ys
just_same P xs ys a b = rising_same xs ys a.rising b.rising (λ p e. b.all p (a.only p e)) (λ p e. a.all p (b.only p e))
