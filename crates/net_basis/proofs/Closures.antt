-- The closure of the operands grows by steps.
use Rattle.std.proofs.Common.{◌≡◌, ℕ, ◌-◌, ◌≤◌, ◌<◌, Bool, true, false, not, ◌&&◌, List, [], ◌∷◌, ◌++◌, length, ◌⊎◌, refl, sym, ap, ◌∙◌, subst, arith, ⊎_elim, inl, inr, length-append}
use Rattle.std.proofs.lemmas.Bool.{cases_eq}
use Rattle.chain_theory.specs.Operator.{apply, Basis}
use Rattle.chain_theory.specs.Value.{extended}
use Rattle.chain_theory.specs.ValueLaws.{extended-same, extended-other}
use Rattle.op_basis.specs.Closed.{implies}
use Rattle.op_basis.specs.Laws.{operator_low}
use Rattle.net_basis.specs.declared.join.Join.{Join}
use Rattle.net_basis.specs.Joins.{joined, function_of, operands, may_join, makes, has_joined, is_closed, is_new, IsNewJoin}
use Rattle.net_basis.specs.Placing.{IsClosure}
use Rattle.net_basis.proofs.Counts.{known_below, known_few, known_more}

pub and_split : (a b : Bool) → (a && b) ≡ true → (a ≡ true) × (b ≡ true)
and_split true true e = (refl, refl)
and_split true false e = absurd cc
and_split false b e = absurd cc

both : (a b : Bool) → a ≡ true → b ≡ true → (a && b) ≡ true
both true true e f = refl
both true false e f = absurd cc
both false b e f = absurd cc

pub kept_known : (known : ℕ → Bool) (f w : ℕ) → known w ≡ true → extended known f true w ≡ true
kept_known known f w is = ⊎_elim (λ here. extended-same known f w true here) (λ other. extended-other known f w true other ∙ is) (cases_eq w f)

-- a function is known after a step if it was before or is the step's
pub known_cases : (known : ℕ → Bool) (f w : ℕ) → extended known f true w ≡ true → (w ≡ f) ⊎ (known w ≡ true)
known_cases known f w is = ⊎_elim (λ here. inl here) (λ other. inr (sym (extended-other known f w true other) ∙ is)) (cases_eq w f)

-- one more step at the end
makes_more : (basis : Basis) (known : ℕ → Bool) (js : List Join) (j : Join) (w : ℕ) → basis j.op ≡ true →
    makes basis known js j.first ≡ true → makes basis known js j.second ≡ true →
    (w ≡ function_of j) ⊎ (makes basis known js w ≡ true) → makes basis known (js ++ j ∷ []) w ≡ true
unfolding makes
makes_more basis known [] j w op first second either =
    both _ _ (both _ _ (both _ _ op first) second)
    (⊎_elim (λ own. extended-same known (function_of j) w true own) (λ was. kept_known known (function_of j) w was) either)
makes_more basis known (h ∷ js) j w op first second either =
    let next : ℕ → Bool = extended known (function_of h) true in
    let a = and_split (may_join basis known h) (makes basis next js j.first) first in
    let b = and_split (may_join basis known h) (makes basis next js j.second) second in
    both _ _ a.0 (makes_more basis next js j w op a.1 b.1
    (⊎_elim (λ own. inl own) (λ was. inr (and_split (may_join basis known h) (makes basis next js w) was).1) either))

by_cases : (b u v w : Bool) → b ≡ true → (((b && u) && v) && not w) ≡ false → implies (u && v) w ≡ true
by_cases false u v w is e = absurd cc
by_cases true false v w is e = refl
by_cases true true false w is e = refl
by_cases true true true true is e = refl
by_cases true true true false is e = absurd cc

-- a step that is new, and one that isn't though its operator is in the basis
pub new_join : (basis : Basis) (known : ℕ → Bool) (j : Join) → is_new basis known j ≡ true → IsNewJoin basis known j
new_join basis known j e =
    let parts = and_split (may_join basis known j) (not (known (function_of j))) e in
    record { may = parts.0; new = not_true (known (function_of j)) parts.1 }
  where
    not_true : (b : Bool) → not b ≡ true → b ≡ false
    not_true true e = absurd cc
    not_true false e = refl

pub old_join : (basis : Basis) (known : ℕ → Bool) (j : Join) → basis j.op ≡ true → is_new basis known j ≡ false → has_joined known j.op j.first j.second ≡ true
unfolding has_joined
old_join basis known j is e = by_cases (basis j.op) (known j.first) (known j.second) (known (function_of j)) is e

pub function_low : (j : Join) → function_of j < 16
unfolding joined
function_low j = operator_low (λ a b. apply j.op (apply j.first a b) (apply j.second a b))

-- the known functions are made by the steps
pub record IsGrowing (basis : Basis) (known : ℕ → Bool) (joins : List Join) : Type 0 where
  pub first : known 3 ≡ true
  pub second : known 5 ≡ true
  pub zero : known 0 ≡ true
  pub one : known 15 ≡ true
  pub made : (w : ℕ) → known w ≡ true → makes basis operands joins w ≡ true
  pub few : length joins ≤ known_below known 16

pub growing_first : (basis : Basis) (known : ℕ → Bool) (joins : List Join) → known ≡ operands → joins ≡ [] → IsGrowing basis known joins
unfolding makes
growing_first basis known joins start none =
    subst (λ (js : List Join). IsGrowing basis known js) (sym none) (subst (λ (k : ℕ → Bool). IsGrowing basis k []) (sym start)
    (record { first = refl; second = refl; zero = refl; one = refl; made = λ w is. is; few = omega arith }))

pub growing_more : (basis : Basis) (known next : ℕ → Bool) (joins new : List Join) (j : Join) → IsGrowing basis known joins →
    IsNewJoin basis known j → next ≡ extended known (function_of j) true → new ≡ joins ++ j ∷ [] → IsGrowing basis next new
growing_more basis known next joins new j is step next_is new_is =
    let ops = and_split (basis j.op && known j.first) (known j.second) step.may in
    let firsts = and_split (basis j.op) (known j.first) ops.0 in
    subst (λ (js : List Join). IsGrowing basis next js) (sym new_is) (subst (λ (k : ℕ → Bool). IsGrowing basis k (joins ++ j ∷ [])) (sym next_is)
    (record {
      first = kept_known known (function_of j) 3 is.first;
      second = kept_known known (function_of j) 5 is.second;
      zero = kept_known known (function_of j) 0 is.zero;
      one = kept_known known (function_of j) 15 is.one;
      made = λ w known_now. makes_more basis operands joins j w firsts.0 (is.made j.first firsts.1) (is.made j.second ops.1)
          (⊎_elim (λ own. inl own) (λ was. inr (is.made w was)) (known_cases known (function_of j) w known_now));
      few = omega (arith, is.few, length-append joins (j ∷ []), known_more known (function_of j) 16 (function_low j) step.new);
    }))

-- the number of unknown functions falls
pub growing_less : (basis : Basis) (known next : ℕ → Bool) (j : Join) → IsNewJoin basis known j → next ≡ extended known (function_of j) true →
    16 - known_below next 16 < 16 - known_below known 16
growing_less basis known next j step next_is =
    omega (
      arith,
      ap (λ (k : ℕ → Bool). known_below k 16) next_is,
      known_more known (function_of j) 16 (function_low j) step.new,
      known_few next 16,
    )

pub growing_closed : (basis : Basis) (known : ℕ → Bool) (joins : List Join) → IsGrowing basis known joins → is_closed basis known ≡ true → IsClosure basis known joins
growing_closed basis known joins is closed = record {
  first = is.first;
  second = is.second;
  zero = is.zero;
  one = is.one;
  closed = closed;
  made = is.made;
  few = omega (arith, is.few, known_few known 16);
}
