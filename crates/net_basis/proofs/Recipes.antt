-- The recipes so far.
use Rattle.std.proofs.Common.{◌≡◌, ℕ, ◌+◌, ◌<◌, ◌==◌, ◌&&◌, ◌||◌, ◌⊎◌, inl, inr, Bool, true, false, List, [], ◌∷◌, ◌++◌, length, Some, refl, sym, ap, ◌∙◌, subst, arith, ⊎_elim, length-append}
use Rattle.std.specs.List.{slice_get}
use Rattle.std.specs.Prelude.{slice_index_or}
use Rattle.std.proofs.lemmas.Bool.{eqb-true}
use Rattle.std.proofs.lemmas.Option.{slice_get-get_or}
use Rattle.chain_theory.specs.Operator.{Basis}
use Rattle.chain_theory.specs.Value.{extended}
use Rattle.net_theory.specs.ValueLaws.{at_push}
use Rattle.net_basis.specs.declared.join.Join.{Join}
use Rattle.net_basis.specs.declared.recipe.Recipe.{Recipe}
use Rattle.net_basis.specs.Joins.{function_of, operands, may_join, makes, is_closed}
use Rattle.net_basis.specs.LeastChains.{IsLeastChain}
use Rattle.net_basis.specs.InexpressibleLaws.{closed_joined}
use Rattle.net_basis.specs.Placing.{IsClosure, IsRecipe, AreRecipes}
use Rattle.net_basis.proofs.Closures.{and_split, known_cases, function_low}

pub record AreFirstRecipes (basis : Basis) (bound : ℕ) (rs : List Recipe) : Type 0 where
  pub count : length rs ≡ bound
  pub each : (op : ℕ) (r : Recipe) → slice_get rs op ≡ Some r → IsRecipe basis op r

pub recipes_none : (basis : Basis) (rs : List Recipe) → rs ≡ [] → AreFirstRecipes basis 0 rs
recipes_none basis rs none = subst (AreFirstRecipes basis 0) (sym none) (record { count = refl; each = λ op r at. absurd cc })

pub recipes_more : (basis : Basis) (op : ℕ) (rs new : List Recipe) (r : Recipe) → AreFirstRecipes basis op rs → IsRecipe basis op r → new ≡ rs ++ r ∷ [] → AreFirstRecipes basis (op + 1) new
recipes_more basis op rs new r are is new_is = subst (AreFirstRecipes basis (op + 1)) (sym new_is) (record {
  count = omega (arith, are.count, length-append rs (r ∷ []));
  each = λ i s at. ⊎_elim
      (λ was. are.each i s was)
      (λ here. subst (IsRecipe basis i) here.1 (subst (λ (q : ℕ). IsRecipe basis q r) (sym (here.0 ∙ are.count)) is))
      (at_push rs r s i at);
})

pub recipes_all : (basis : Basis) (bound : ℕ) (rs : List Recipe) → bound ≡ 16 → AreFirstRecipes basis bound rs → AreRecipes basis rs
recipes_all basis bound rs all are = record { count = are.count ∙ all; each = are.each }

-- ---- one recipe

-- the steps make no function outside a closed set
never_made : (basis : Basis) (closed known : ℕ → Bool) (op : ℕ) → is_closed basis closed ≡ true →
    ((p : ℕ) → basis p ≡ true → p < 16) → closed op ≡ false →
    ((w : ℕ) → known w ≡ true → (closed w ≡ true) × (w < 16)) →
    (joins : List Join) → makes basis known joins op ≡ true → ⊥
unfolding makes
never_made basis closed known op is low lacks each [] made = both_of (closed op) (each op made).0 lacks
  where
    both_of : (b : Bool) → b ≡ true → b ≡ false → ⊥
    both_of b on off = cc
never_made basis closed known op is low lacks each (j ∷ js) made =
    let parts = and_split (may_join basis known j) (makes basis (extended known (function_of j) true) js op) made in
    let ops = and_split (basis j.op && known j.first) (known j.second) parts.0 in
    let firsts = and_split (basis j.op) (known j.first) ops.0 in
    let a = each j.first firsts.1 in
    let b = each j.second ops.1 in
    let new : closed (function_of j) ≡ true =
    closed_joined basis closed j.op j.first j.second is (low j.op firsts.0) a.1 b.1 firsts.0 a.0 b.0 in
    never_made basis closed (extended known (function_of j) true) op is low lacks
    (λ w has. ⊎_elim
    (λ own. (ap closed own ∙ new, subst (λ (f : ℕ). f < 16) (sym own) (function_low j)))
    (λ was. each w was)
    (known_cases known (function_of j) w has))
    js parts.1

one_of : (a b c d : Bool) → (a || b || c || d) ≡ true → (a ≡ true) ⊎ ((b ≡ true) ⊎ ((c ≡ true) ⊎ (d ≡ true)))
one_of true b c d is = inl refl
one_of false true c d is = inr (inl refl)
one_of false false true d is = inr (inr (inl refl))
one_of false false false d is = inr (inr (inr is))

-- the operands are in the closure
operands_in : (basis : Basis) (known : ℕ → Bool) (joins : List Join) (w : ℕ) → IsClosure basis known joins →
    operands w ≡ true → (known w ≡ true) × (w < 16)
operands_in basis known joins w closure is =
    ⊎_elim (λ e. at 3 (eqb-true w 3 e) closure.first (omega arith))
    (⊎_elim (λ e. at 5 (eqb-true w 5 e) closure.second (omega arith))
    (⊎_elim (λ e. at 0 (eqb-true w 0 e) closure.zero (omega arith)) (λ e. at 15 (eqb-true w 15 e) closure.one (omega arith))))
    (one_of (w == 3) (w == 5) (w == 0) (w == 15) is)
  where
    at : (n : ℕ) → w ≡ n → known n ≡ true → n < 16 → (known w ≡ true) × (w < 16)
    at n here has low = (ap known here ∙ has, omega (arith, here, low))

closure_never : (basis : Basis) (known : ℕ → Bool) (joins : List Join) (op : ℕ) (js : List Join) → IsClosure basis known joins →
    ((p : ℕ) → basis p ≡ true → p < 16) → known op ≡ false → makes basis operands js op ≡ true → ⊥
closure_never basis known joins op js closure low lacks made =
    never_made basis known operands op closure.closed low lacks (λ w is. operands_in basis known joins w closure is) js made

pub recipe_none : (basis : Basis) (known : ℕ → Bool) (joins : List Join) (op : ℕ) (r : Recipe) → IsClosure basis known joins →
    ((p : ℕ) → basis p ≡ true → p < 16) → known op ≡ false → r.is_made ≡ false → r.joins.items ≡ [] → IsRecipe basis op r
recipe_none basis known joins op r closure low lacks none empty = record {
  chain = λ made. absurd (not_both r.is_made none made);
  few = omega (arith, ap (length {A = Join}) empty);
  none = λ off. record {
    known = known;
    first = closure.first;
    second = closure.second;
    zero = closure.zero;
    one = closure.one;
    closed = closure.closed;
    lacks = lacks;
  };
  never = λ off js made. closure_never basis known joins op js closure low lacks made;
} where
  not_both : (b : Bool) → b ≡ false → b ≡ true → ⊥
  not_both b off on = cc

pub recipe_made : (basis : Basis) (known : ℕ → Bool) (joins : List Join) (op : ℕ) (r : Recipe) → IsClosure basis known joins →
    known op ≡ true → r.is_made ≡ true → IsLeastChain basis op r.joins.items → IsRecipe basis op r
recipe_made basis known joins op r closure has is chain = record {
  chain = λ on. chain;
  few = omega (arith, closure.few, chain.least joins (closure.made op has));
  none = λ off. absurd (not_both r.is_made off is);
  never = λ off. absurd (not_both r.is_made off is);
} where
  not_both : (b : Bool) → b ≡ false → b ≡ true → ⊥
  not_both b off on = cc

-- ---- the recipe of a function

-- the recipe that is read at an index
pub recipe_at : (rs : List Recipe) (at op : ℕ) (r : Recipe) → length rs ≡ 16 → at < 16 → at ≡ op →
    r ≡ slice_index_or rs at r → slice_get rs op ≡ Some r
recipe_at rs at op r count low same is =
    ap (slice_get rs) (sym same) ∙ slice_get-get_or rs at r (omega (arith, low, count)) ∙ ap Some (sym is)
