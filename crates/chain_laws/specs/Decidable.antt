-- Decidable properties: search below a bound, and descent along a measure.
use Rattle.std.proofs.Common.{◌≡◌, ℕ, zero, suc, ◌+◌, ◌≤◌, ◌<◌, Bool, true, false, arith, inl, inr, ⊎_elim, ◌⊎◌, subst}
use Rattle.std.proofs.lemmas.Bool.{cases_lt, cases_Bool, both_ways}

-- P is decidable: it holds or it doesn't
abbrev pub IsDecidable : Type 0 → Type 0
IsDecidable P = P ⊎ (P → ⊥)

pub decided_and : (P Q : Type 0) → IsDecidable P → IsDecidable Q → IsDecidable (P × Q)
decided_and P Q p q = ⊎_elim
    (λ (x : P). ⊎_elim (λ (y : Q). inl (x, y)) (λ (no : Q → ⊥). inr (λ (both : P × Q). no both.1)) q)
    (λ (no : P → ⊥). inr (λ (both : P × Q). no both.0))
    p

pub decided_or : (P Q : Type 0) → IsDecidable P → IsDecidable Q → IsDecidable (P ⊎ Q)
decided_or P Q p q = ⊎_elim
    (λ (x : P). inl (inl x))
    (λ (no_p : P → ⊥). ⊎_elim
    (λ (y : Q). inl (inr y))
    (λ (no_q : Q → ⊥). inr (λ (one : P ⊎ Q). ⊎_elim no_p no_q one))
    q)
    p

pub decided_not : (P : Type 0) → IsDecidable P → IsDecidable (P → ⊥)
decided_not P p = ⊎_elim (λ (x : P). inr (λ (no : P → ⊥). no x)) (λ (no : P → ⊥). inl no) p

pub decided_by : (P Q : Type 0) → (P → Q) → (Q → P) → IsDecidable P → IsDecidable Q
decided_by P Q to from p = ⊎_elim (λ (x : P). inl (to x)) (λ (no : P → ⊥). inr (λ (y : Q). no (from y))) p

pub decided_lt : (a b : ℕ) → IsDecidable (a < b)
decided_lt a b = ⊎_elim (λ (low : a < b). inl low) (λ (high : b ≤ a). inr (λ (low : a < b). omega arith)) (cases_lt a b)

pub decided_true : (b : Bool) → IsDecidable (b ≡ true)
decided_true b = ⊎_elim (λ (holds : b ≡ true). inl holds) (λ (fails : b ≡ false). inr (both_ways b fails)) (cases_Bool b)

-- the first number below a bound at which P holds
abbrev pub IsFirstIndex : (ℕ → Type 0) → ℕ → ℕ → Type 0
IsFirstIndex P bound i = (i < bound) × P i × ((k : ℕ) → k < i → P k → ⊥)

pub search : (P : ℕ → Type 0) → ((i : ℕ) → IsDecidable (P i)) → (bound : ℕ) → ((i : ℕ) × IsFirstIndex P bound i) ⊎ ((i : ℕ) → i < bound → P i → ⊥)
search P decided zero = inr (λ i low holds. omega arith)
search P decided (suc bound) = ⊎_elim
    (λ (found : (i : ℕ) × IsFirstIndex P bound i). inl (found.0, (omega (arith, found.1.0), found.1.1, found.1.2)))
    (λ (none : (i : ℕ) → i < bound → P i → ⊥). ⊎_elim
    (λ (here : P bound). inl (bound, (omega arith, here, none)))
    (λ (not_here : P bound → ⊥). inr (λ i low holds. ⊎_elim
    (λ (below : i < bound). none i below holds)
    (λ (past : bound ≤ i). not_here (subst P (let e : i ≡ bound = omega arith in e) holds))
    (cases_lt i bound)))
    (decided bound))
    (search P decided bound)

-- P holds somewhere below a bound
abbrev pub IsSomewhere : (ℕ → Type 0) → ℕ → Type 0
IsSomewhere P bound = (i : ℕ) × (i < bound) × P i

pub decided_somewhere : (P : ℕ → Type 0) → ((i : ℕ) → IsDecidable (P i)) → (bound : ℕ) → IsDecidable (IsSomewhere P bound)
decided_somewhere P decided bound = ⊎_elim
    (λ (found : (i : ℕ) × IsFirstIndex P bound i). inl (found.0, found.1.0, found.1.1))
    (λ (none : (i : ℕ) → i < bound → P i → ⊥). inr (λ (some : IsSomewhere P bound). none some.0 some.1 some.2))
    (search P decided bound)

pub decided_everywhere : (P : ℕ → Type 0) → ((i : ℕ) → IsDecidable (P i)) → (bound : ℕ) → IsDecidable ((i : ℕ) → i < bound → P i)
decided_everywhere P decided bound = ⊎_elim
    (λ (found : (i : ℕ) × IsFirstIndex (λ i. P i → ⊥) bound i). inr (λ (each : (i : ℕ) → i < bound → P i). found.1.1 (each found.0 found.1.0)))
    (λ (none : (i : ℕ) → i < bound → (P i → ⊥) → ⊥). inl (λ i low. ⊎_elim (λ (here : P i). here) (λ (not_here : P i → ⊥). absurd (none i low not_here)) (decided i)))
    (search (λ i. P i → ⊥) (λ i. decided_not (P i) (decided i)) bound)

-- some element has both properties
pub record HasReached {A : Type 0} (P R : A → Type 0) : Type 0 where
  pub at : A
  pub kept : P at
  pub reached : R at

pub record IsLower {A : Type 0} (P : A → Type 0) (size : A → ℕ) (a : A) : Type 0 where
  pub at : A
  pub kept : P at
  pub lower : size at < size a

descend_below : {A : Type 0} (P R : A → Type 0) (size : A → ℕ) → ((a : A) → P a → R a ⊎ IsLower P size a) → (bound : ℕ) (a : A) → size a < bound → P a → HasReached P R
descend_below P R size next zero a low p = absurd (omega arith)
descend_below P R size next (suc bound) a low p = ⊎_elim
    (λ (there : R a). record { at = a; kept = p; reached = there })
    (λ (further : IsLower P size a). descend_below P R size next bound further.at (omega (arith, further.lower)) further.kept)
    (next a p)

-- If each element with P and without R leads to a smaller one with P, then some element has P and R.
pub descend : {A : Type 0} (P R : A → Type 0) (size : A → ℕ) → ((a : A) → P a → R a ⊎ IsLower P size a) → (a : A) → P a → HasReached P R
descend P R size next a p = descend_below P R size next (size a + 1) a (omega arith) p
