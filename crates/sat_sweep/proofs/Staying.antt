-- A solver stays a solver of its formula through a sequence of calls, and its log stays short.
use Rattle.std.specs.Prelude.{◌≡◌, ◌≤◌, ◌<◌, ◌+◌, ◌-◌, ℕ, Result, Ok, Err, IfOk, OnOk, max, refl}
use Rattle.std.proofs.Common.{◌∙◌, arith, subst}
use Rattle.sat_theory.specs.Formula.{Formula}
use Rattle.sat_sweep.specs.KeepsFormula.{KeepsFormula, most_after}

-- ---- bounds

low : (n m : ℕ) → n ≤ max n m
low n m = omega arith

through : (n m k most : ℕ) → m ≤ max n most → k ≤ max m most → k ≤ max n most
through n m k most first second = omega (arith, first, second)

within : (n m limit vars most : ℕ) → limit ≤ most - n → n < most → m ≤ n + limit + vars + 2 → m ≤ max n (most + vars + 2)
within n m limit vars most left below few = omega (arith, left, below, few)

-- ---- calls

-- if nothing happens
pub stays_same : {A : Type 0} (P : Formula → ℕ → A → Type 0) (v a : A → ℕ) (most : ℕ) (x : A) → KeepsFormula P v a most x x
stays_same P v a most x = record { kept = λ f least is. is; vars = refl; few = low (a x) (most_after most (v x)) }

-- over two calls
pub stays_on : {A : Type 0} (P : Formula → ℕ → A → Type 0) (v a : A → ℕ) (most : ℕ) (x y z : A) →
    KeepsFormula P v a most x y → KeepsFormula P v a most y z → KeepsFormula P v a most x z
stays_on P v a most x y z one two = record {
  kept = λ f least is. two.kept f least (one.kept f least is);
  vars = two.vars ∙ one.vars;
  few = through (a x) (a y) (a z) (most_after most (v x)) one.few (subst (λ (n : ℕ). a z ≤ max (a y) (most_after most n)) one.vars two.few);
}

-- over one question, with a limit of what the log may still have
pub stays_probed : {A : Type 0} {R : Type 0} {E : Type 0} (P : Formula → ℕ → A → Type 0) (v a : A → ℕ) (most limit : ℕ) (x y : A) (r : Result R E) →
    ((f : Formula) (least : ℕ) → P f least x → IfOk r (λ _. P f least y)) → IfOk r (λ _. v y ≡ v x) →
    IfOk r (λ _. a y ≤ a x + limit + v x + 2) → limit ≤ most - a x → a x < most → OnOk r (KeepsFormula P v a most x y)
stays_probed P v a most limit x y (Ok p) kept vars few left below =
    record { kept = kept; vars = vars; few = within (a x) (a y) limit (v x) most left below few }
stays_probed P v a most limit x y (Err e) kept vars few left below = tt

-- if the last call succeeds
pub stays_then : {A : Type 0} {R : Type 0} {E : Type 0} (P : Formula → ℕ → A → Type 0) (v a : A → ℕ) (most : ℕ) (x y z : A) (r : Result R E) →
    KeepsFormula P v a most x y → OnOk r (KeepsFormula P v a most y z) → OnOk r (KeepsFormula P v a most x z)
stays_then P v a most x y z (Ok p) one two = stays_on P v a most x y z one two
stays_then P v a most x y z (Err e) one two = tt
