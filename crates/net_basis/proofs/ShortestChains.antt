-- The search for a least chain: what was tried so far, and what no chain of a length makes.
use Rattle.std.proofs.Common.{◌≡◌, ℕ, ◌+◌, ◌*◌, ◌/◌, ◌%◌, ◌≤◌, ◌<◌, Bool, true, false, not, ◌&&◌, List, [], ◌∷◌, length, ◌⊎◌, refl, sym, ap, ◌∙◌, subst, arith, ⊎_elim, inl, inr}
use Rattle.std.proofs.lemmas.Bool.{cases_eq}
use Rattle.chain_theory.specs.Operator.{Basis}
use Rattle.chain_theory.specs.Value.{extended}
use Rattle.chain_theory.specs.ValueLaws.{extended-same, extended-other}
use Rattle.net_basis.specs.declared.join.Join.{Join}
use Rattle.net_basis.specs.Joins.{function_of, operands, may_join, makes}
use Rattle.net_basis.specs.LeastChains.{IsLeastChain, IsChainWithin, IsOutOfReach, join_at, is_untried}
use Rattle.net_basis.proofs.Closures.{and_split, kept_known, known_cases}

differ : {A : Type 0} (b : Bool) → b ≡ true → b ≡ false → A
differ b on off = absurd cc

both : (a b : Bool) → a ≡ true → b ≡ true → (a && b) ≡ true
both true true e f = refl
both true false e f = absurd cc
both false b e f = absurd cc

-- ---- chains

pub chain_none : (basis : Basis) (known : ℕ → Bool) (word most : ℕ) (joins : List Join) → known word ≡ true → joins ≡ [] →
    IsChainWithin basis known word most joins
unfolding makes
chain_none basis known word most joins is none =
    subst (IsChainWithin basis known word most) (sym none) (record { made = is; few = omega arith })

-- one more step at the front, which makes the function of the step j
pub chain_more : (basis : Basis) (known next : ℕ → Bool) (word less most : ℕ) (j lean : Join) (rest joins : List Join) →
    may_join basis known lean ≡ true → function_of lean ≡ function_of j → next ≡ extended known (function_of j) true →
    IsChainWithin basis next word less rest → joins ≡ lean ∷ rest → less + 1 ≤ most →
    IsChainWithin basis known word most joins
unfolding makes
chain_more basis known next word less most j lean rest joins may same next_is is split low =
    subst (IsChainWithin basis known word most) (sym split) (record {
      made = both (may_join basis known lean) (makes basis (extended known (function_of lean) true) rest word) may
          (subst (λ (k : ℕ → Bool). makes basis k rest word ≡ true)
          (next_is ∙ ap (λ (f : ℕ). extended known f true) (sym same)) is.made);
      few = omega (arith, is.few, low);
    })

-- ---- what was tried

-- After each tried function the word is out of reach, unless the function was known. The functions of all steps below
-- the number are tried.
pub record AreTried (basis : Basis) (known tried : ℕ → Bool) (word less code : ℕ) : Type 0 where
  pub out : (f : ℕ) → tried f ≡ true → (known f ≡ true) ⊎ IsOutOfReach basis (extended known f true) word less
  pub all : (c : ℕ) → c < code → may_join basis known (join_at c) ≡ true → tried (function_of (join_at c)) ≡ true

pub tried_none : (basis : Basis) (known : ℕ → Bool) (word less code : ℕ) → code ≡ 0 → AreTried basis known known word less code
tried_none basis known word less code none = record {
  out = λ f is. inl is;
  all = λ c low may. absurd (omega (arith, low, none));
}

-- a step whose function is out of reach
pub tried_new : (basis : Basis) (known tried next more : ℕ → Bool) (word less code : ℕ) (j : Join) →
    AreTried basis known tried word less code → j ≡ join_at code → next ≡ extended known (function_of j) true →
    IsOutOfReach basis next word less → more ≡ extended tried (function_of j) true →
    AreTried basis known more word less (code + 1)
tried_new basis known tried next more word less code j are same next_is out more_is =
    subst (λ (k : ℕ → Bool). AreTried basis known k word less (code + 1)) (sym more_is) (record {
      out = λ f is. ⊎_elim
          (λ own. inr (subst (λ (k : ℕ → Bool). IsOutOfReach basis k word less)
          (next_is ∙ ap (λ (g : ℕ). extended known g true) (sym own)) out))
          (λ was. are.out f was)
          (known_cases tried (function_of j) f is);
      all = λ c low may. ⊎_elim
          (λ here. extended-same tried (function_of j) (function_of (join_at c)) true
          (ap (λ (q : ℕ). function_of (join_at q)) here ∙ ap (λ (i : Join). function_of i) (sym same)))
          (λ other. kept_known tried (function_of j) (function_of (join_at c)) (are.all c (omega (arith, low, other)) may))
          (cases_eq c code);
    })

tried_by : (a b : Bool) → (a && not b) ≡ false → a ≡ true → b ≡ true
tried_by true true e is = refl
tried_by true false e is = absurd cc
tried_by false b e is = absurd cc

-- a step that can't be one, or whose function was tried
pub tried_old : (basis : Basis) (known tried : ℕ → Bool) (word less code : ℕ) (j : Join) →
    AreTried basis known tried word less code → j ≡ join_at code → is_untried basis known tried j ≡ false →
    AreTried basis known tried word less (code + 1)
tried_old basis known tried word less code j are same old = record {
  out = are.out;
  all = λ c low may. ⊎_elim
      (λ here.
      let own : join_at c ≡ j = ap join_at here ∙ sym same in
      subst (λ (i : Join). tried (function_of i) ≡ true) (sym own)
      (tried_by (may_join basis known j) (tried (function_of j)) old
      (subst (λ (i : Join). may_join basis known i ≡ true) own may)))
      (λ other. are.all c (omega (arith, low, other)) may)
      (cases_eq c code);
}

-- ---- all steps

abbrev join_put : ℕ → ℕ → ℕ → Join
join_put p u v = record { op = p; first = u; second = v }

-- each step has a number
join_numbered : (p u v : ℕ) → u < 16 → v < 16 → join_at (256 * p + 16 * u + v) ≡ join_put p u v
join_numbered p u v low_u low_v =
    let c : ℕ = 256 * p + 16 * u + v in
    let op : c / 256 ≡ p = omega (arith, low_u, low_v) in
    let both_reads : c / 16 ≡ 16 * p + u = omega (arith, low_v) in
    let first : c / 16 % 16 ≡ u = omega (arith, both_reads, low_u) in
    let second : c % 16 ≡ v = omega (arith, low_v) in
    ap (λ (x : ℕ). join_put x (c / 16 % 16) (c % 16)) op
    ∙ ap (λ (x : ℕ). join_put p x (c % 16)) first
    ∙ ap (λ (x : ℕ). join_put p u x) second

all_tried : (basis : Basis) (known tried : ℕ → Bool) (word less code : ℕ) (j : Join) → AreTried basis known tried word less code →
    4096 ≤ code → ((p : ℕ) → basis p ≡ true → p < 16) → ((p : ℕ) → known p ≡ true → p < 16) →
    may_join basis known j ≡ true → tried (function_of j) ≡ true
all_tried basis known tried word less code j are every low_op low may =
    let ops = and_split (basis j.op && known j.first) (known j.second) may in
    let firsts = and_split (basis j.op) (known j.first) ops.0 in
    let low_p : j.op < 16 = low_op j.op firsts.0 in
    let low_u : j.first < 16 = low j.first firsts.1 in
    let low_v : j.second < 16 = low j.second ops.1 in
    let c : ℕ = 256 * j.op + 16 * j.first + j.second in
    let here : join_at c ≡ j = join_numbered j.op j.first j.second low_u low_v in
    subst (λ (i : Join). tried (function_of i) ≡ true) here
    (are.all c (omega (arith, every, low_p, low_u, low_v)) (subst (λ (i : Join). may_join basis known i ≡ true) (sym here) may))

-- a known function adds nothing
same_known : (known : ℕ → Bool) (f : ℕ) → known f ≡ true → extended known f true ≡ known
same_known known f is = λ i w. same_at w i
  where
    same_at : (w : ℕ) → extended known f true w ≡ known w
    same_at w = ⊎_elim
        (λ here. extended-same known f w true here ∙ sym is ∙ ap known (sym here))
        (λ other. extended-other known f w true other)
        (cases_eq w f)

none_from : (basis : Basis) (known : ℕ → Bool) (word less : ℕ) → known word ≡ false →
    ((j : Join) → may_join basis known j ≡ true →
    (known (function_of j) ≡ true) ⊎ IsOutOfReach basis (extended known (function_of j) true) word less) →
    (joins : List Join) → makes basis known joins word ≡ true → length joins ≤ less + 1 → ⊥
unfolding makes
none_from basis known word less lacks each [] made few = differ (known word) made lacks
none_from basis known word less lacks each (j ∷ js) made few =
    let parts = and_split (may_join basis known j) (makes basis (extended known (function_of j) true) js word) made in
    ⊎_elim
    (λ old. none_from basis known word less lacks each js
    (subst (λ (k : ℕ → Bool). makes basis k js word ≡ true) (same_known known (function_of j) old) parts.1) (omega (arith, few)))
    (λ out. out.none js parts.1 (omega (arith, few)))
    (each j parts.0)

pub reach_all : (basis : Basis) (known tried : ℕ → Bool) (word less most code : ℕ) → known word ≡ false →
    AreTried basis known tried word less code → 4096 ≤ code → most ≤ less + 1 →
    ((p : ℕ) → basis p ≡ true → p < 16) → ((p : ℕ) → known p ≡ true → p < 16) → IsOutOfReach basis known word most
reach_all basis known tried word less most code lacks are every low low_op low_known = record {
  none = λ joins made few. none_from basis known word less lacks
      (λ j may. are.out (function_of j) (all_tried basis known tried word less code j are every low_op low_known may))
      joins made (omega (arith, few, low));
}

some_step : (basis : Basis) (known : ℕ → Bool) (word : ℕ) (joins : List Join) → makes basis known joins word ≡ true →
    known word ≡ false → length joins ≤ 0 → ⊥
unfolding makes
some_step basis known word [] made lacks few = differ (known word) made lacks
some_step basis known word (j ∷ js) made lacks few = omega (arith, few)

-- no step makes nothing new
pub reach_none : (basis : Basis) (known : ℕ → Bool) (word most : ℕ) → known word ≡ false → most ≡ 0 → IsOutOfReach basis known word most
reach_none basis known word most lacks zero_steps = record {
  none = λ joins made few. some_step basis known word joins made lacks (omega (arith, few, zero_steps));
}

-- ---- lengths in turn

-- no chain has fewer steps
pub record HasNoFewer (basis : Basis) (word steps : ℕ) : Type 0 where
  pub least : (joins : List Join) → makes basis operands joins word ≡ true → steps ≤ length joins

pub fewer_none : (basis : Basis) (word steps : ℕ) → steps ≡ 0 → HasNoFewer basis word steps
fewer_none basis word steps none = record { least = λ joins made. omega (arith, none) }

beyond : (n m : ℕ) → (n ≤ m → ⊥) → m + 1 ≤ n
beyond n m isnt = omega (arith, isnt)

pub fewer_more : (basis : Basis) (known : ℕ → Bool) (word steps : ℕ) → known ≡ operands → IsOutOfReach basis known word steps →
    HasNoFewer basis word (steps + 1)
fewer_more basis known word steps start out = record {
  least = λ joins made. beyond (length joins) steps
      (out.none joins (subst (λ (k : ℕ → Bool). makes basis k joins word ≡ true) (sym start) made));
}

pub least_found : (basis : Basis) (known : ℕ → Bool) (word steps : ℕ) (joins : List Join) → known ≡ operands →
    IsChainWithin basis known word steps joins → HasNoFewer basis word steps → IsLeastChain basis word joins
least_found basis known word steps joins start is none = record {
  made = subst (λ (k : ℕ → Bool). makes basis k joins word ≡ true) start is.made;
  least = λ others made. omega (arith, is.few, none.least others made);
}

-- the chain that is known, where no other is shorter
pub least_known : (basis : Basis) (word steps : ℕ) (enough joins : List Join) → makes basis operands enough word ≡ true →
    joins ≡ enough → length enough ≤ steps → HasNoFewer basis word steps → IsLeastChain basis word joins
least_known basis word steps enough joins made same low none =
    subst (IsLeastChain basis word) (sym same) (record {
      made = made;
      least = λ others is. omega (arith, low, none.least others is);
    })
