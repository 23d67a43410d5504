-- Lists of places: membership, removal, and that a list of different places isn't longer than a list
-- that contains them.
use Rattle.std.proofs.Common.{◌≡◌, ◌≢◌, ◌⊎◌, ℕ, suc, ◌<◌, ◌≤◌, ◌==◌, Bool, true, false, ◌||◌, List, [], ◌∷◌, length, Contains, refl, sym, ap, ◌∙◌, arith, inl, inr}
use Rattle.std.specs.Prelude.{if◌then◌else◌, AllPairs}
use Rattle.std.proofs.lemmas.Grind.{common_steps}
use Rattle.std.proofs.lemmas.Bool.{cases_eq}
use Rattle.std.proofs.lemmas.Bool.Decides.{nat_tests}
use Rattle.std.proofs.lemmas.List.Elements.{Contains-append_right}

-- whether a list has a place
unfoldable pub has : ℕ → List ℕ → Bool
has p [] = false
has p (x ∷ xs) = p == x || has p xs

-- a list without a place
unfoldable pub without : ℕ → List ℕ → List ℕ
without p [] = []
without p (x ∷ xs) = if p == x then without p xs else x ∷ without p xs

has_or : (p x : ℕ) (rest : Bool) → (p == x || rest) ≡ true → (p ≡ x) ⊎ (rest ≡ true)
has_or p x rest e = elim (cases_eq p x) [
  | inl same ↦ inl same
  | inr other ↦ inr (grind (arith, common_steps, nat_tests))
]

or_same : (p x : ℕ) (rest : Bool) → p ≡ x → (p == x || rest) ≡ true
or_same p x rest e = grind (arith, common_steps, nat_tests)

or_rest : (p x : ℕ) (rest : Bool) → rest ≡ true → (p == x || rest) ≡ true
or_rest p x rest e = grind (arith, common_steps, nat_tests)

pub has_cases : (p x : ℕ) (xs : List ℕ) → has p (x ∷ xs) ≡ true → (p ≡ x) ⊎ (has p xs ≡ true)
unfolding has
has_cases p x xs e = has_or p x (has p xs) e

pub has_first : (p x : ℕ) (xs : List ℕ) → p ≡ x → has p (x ∷ xs) ≡ true
unfolding has
has_first p x xs e = or_same p x (has p xs) e

pub has_later : (p x : ℕ) (xs : List ℕ) → has p xs ≡ true → has p (x ∷ xs) ≡ true
unfolding has
has_later p x xs e = or_rest p x (has p xs) e

pub has_none : (p : ℕ) → has p [] ≡ true → ⊥
unfolding has
has_none p e = cc

without_same : (p x : ℕ) (xs : List ℕ) → p ≡ x → without p (x ∷ xs) ≡ without p xs
unfolding without
without_same p x xs e = grind (arith, common_steps, nat_tests)

without_other : (p x : ℕ) (xs : List ℕ) → p ≢ x → without p (x ∷ xs) ≡ x ∷ without p xs
unfolding without
without_other p x xs other = grind (arith, common_steps, nat_tests)

-- removal makes no list longer
without_short : (p : ℕ) (xs : List ℕ) → length (without p xs) ≤ length xs
unfolding without
without_short p [] = omega arith
without_short p (x ∷ xs) = elim (cases_eq p x) [
  | inl same ↦ omega (arith, without_short p xs, ap length (without_same p x xs same))
  | inr other ↦ omega (arith, without_short p xs, ap length (without_other p x xs other))
]

-- removal of a place makes a list that has it shorter
pub without_less : (p : ℕ) (xs : List ℕ) → has p xs ≡ true → length (without p xs) < length xs
without_less p [] e = absurd (has_none p e)
without_less p (x ∷ xs) e = elim (cases_eq p x) [
  | inl same ↦ omega (arith, without_short p xs, ap length (without_same p x xs same))
  | inr other ↦ elim (has_cases p x xs e) [
    | inl same ↦ absurd (other same)
    | inr later ↦ omega (arith, without_less p xs later, ap length (without_other p x xs other))
  ]
]

-- the other places stay
pub without_keeps : (p q : ℕ) (xs : List ℕ) → q ≢ p → has q xs ≡ true → has q (without p xs) ≡ true
without_keeps p q [] apart e = absurd (has_none q e)
without_keeps p q (x ∷ xs) apart e = elim (cases_eq p x) [
  | inl same ↦ elim (has_cases q x xs e) [
    | inl first ↦ absurd (apart (first ∙ sym same))
    | inr later ↦ ap (has q) (without_same p x xs same) ∙ without_keeps p q xs apart later
  ]
  | inr other ↦ elim (has_cases q x xs e) [
    | inl first ↦ ap (has q) (without_other p x xs other) ∙ has_first q x (without p xs) first
    | inr later ↦ ap (has q) (without_other p x xs other) ∙ has_later q x (without p xs) (without_keeps p q xs apart later)
  ]
]

-- each place that stays was in the list, and isn't the removed one
pub without_from : (p q : ℕ) (xs : List ℕ) → has q (without p xs) ≡ true → (q ≢ p) × (has q xs ≡ true)
unfolding without
without_from p q [] e = absurd (has_none q e)
without_from p q (x ∷ xs) e = elim (cases_eq p x) [
  | inl same ↦
      let rest = without_from p q xs (ap (has q) (sym (without_same p x xs same)) ∙ e) in
      (rest.0, has_later q x xs rest.1)
  | inr other ↦ elim (has_cases q x (without p xs) (ap (has q) (sym (without_other p x xs other)) ∙ e)) [
    | inl first ↦ (λ (q_p : q ≡ p). other (sym q_p ∙ first), has_first q x xs first)
    | inr later ↦ let rest = without_from p q xs later in (rest.0, has_later q x xs rest.1)
  ]
]

-- the first of a list whose elements have different places, and a later one
first_apart : (f : ℕ → ℕ) (h : ℕ) (hs : List ℕ) → AllPairs (λ (g k : ℕ). f g ≡ f k → ⊥) (h ∷ hs) → (g : ℕ) → Contains hs g → f h ≡ f g → ⊥
first_apart f h hs apart g c e = apart 0 (suc c.0) g (omega arith) (omega (arith, c.1)) (e ∙ ap f (sym c.2))

-- Where the elements of a list have different places, all in a second list, the second is at least
-- as long.
pub no_longer : (f : ℕ → ℕ) (hs room : List ℕ) → AllPairs (λ (g k : ℕ). f g ≡ f k → ⊥) hs → ((h : ℕ) → Contains hs h → has (f h) room ≡ true) → length hs ≤ length room
no_longer f [] room apart inside = omega arith
no_longer f (h ∷ hs) room apart inside =
    let rest = no_longer f hs (without (f h) room) (λ i j d less within.
    apart (suc i) (suc j) d (omega arith) (omega arith))
    (λ g c. without_keeps (f h) (f g) room (λ e. first_apart f h hs apart g c (sym e))
    (inside g (Contains-append_right (h ∷ []) hs g c))) in
    omega (arith, rest, without_less (f h) room (inside h (0, omega arith, refl)))
