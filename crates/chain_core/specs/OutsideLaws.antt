-- The search along the steps for an operator outside the basis.
use Rattle.std.proofs.Common.{◌≡◌, ℕ, ◌+◌, Bool, true, false, List, [], ◌∷◌, ◌++◌, length, Option, Some, None, refl, ap, arith}
use Rattle.std.specs.Prelude.{if◌then◌else◌}
use Rattle.std.specs.List.{AllByRecursion}
use Rattle.std.proofs.lemmas.Grind.{common_steps}
use Rattle.std.proofs.lemmas.List.Elements.{All-from_recursion}
use Rattle.chain_theory.specs.Operator.{Basis}
use Rattle.chain_theory.specs.Chain.{Step, Chain}
use Rattle.chain_core.specs.Outside.{IsBasisCheck, outside_from}

-- a step's operator is in the basis
abbrev IsInside : Basis → Step → Type 0
IsInside basis s = basis s.op ≡ true

-- the steps up to the first that is outside
record Found (basis : Basis) (place : ℕ) (ss : List Step) (found : ℕ) : Type 0 where
  prefix : List Step
  step : Step
  following : List Step
  steps : ss ≡ prefix ++ step ∷ following
  place_is : found ≡ place + length prefix
  inside : AllByRecursion (IsInside basis) prefix
  outside : basis step.op ≡ false

-- the first step is outside
found_here : (basis : Basis) (place found : ℕ) (s : Step) (ss : List Step) → basis s.op ≡ false → place ≡ found → Found basis place (s ∷ ss) found
found_here basis place found s ss out same = record {
  prefix = [];
  step = s;
  following = ss;
  steps = refl;
  place_is = omega arith;
  inside = tt;
  outside = out;
}

-- a step after the first one is outside
found_after : (basis : Basis) (place found : ℕ) (s : Step) (ss : List Step) → basis s.op ≡ true → Found basis (place + 1) ss found → Found basis place (s ∷ ss) found
found_after basis place found s ss in' more = record {
  prefix = s ∷ more.prefix;
  step = more.step;
  following = more.following;
  steps = ap (λ (xs : List Step). s ∷ xs) more.steps;
  place_is = omega (arith, more.place_is);
  inside = (in', more.inside);
  outside = more.outside;
}

-- where neither the step nor the search after it finds a place, all these steps are inside
none_by : (basis : Basis) (s : Step) (ss : List Step) (test : Bool) (place : ℕ) (more : Option ℕ) → basis s.op ≡ test →
    (more ≡ None → AllByRecursion (IsInside basis) ss) → (if test then more else Some place) ≡ None →
    AllByRecursion (IsInside basis) (s ∷ ss)
none_by basis s ss true place more is onward e = (is, onward e)
none_by basis s ss false place more is onward e = absurd cc

-- where nothing is found, all steps are inside
none_outside : (basis : Basis) (place : ℕ) (ss : List Step) → outside_from basis place ss ≡ None → AllByRecursion (IsInside basis) ss
unfolding outside_from
none_outside basis place [] e = tt
none_outside basis place (s ∷ ss) e = none_by basis s ss (basis s.op) place (outside_from basis (place + 1) ss) refl (none_outside basis (place + 1) ss) e

-- the place that is found is unique
same_place : (x y : ℕ) → Some x ≡ Some y → x ≡ y
same_place x y e = cc

-- a place that the step or the search after it finds is that of the first step outside
some_by : (basis : Basis) (s : Step) (ss : List Step) (test : Bool) (place found : ℕ) (more : Option ℕ) →
    basis s.op ≡ test → (more ≡ Some found → Found basis (place + 1) ss found) →
    (if test then more else Some place) ≡ Some found → Found basis place (s ∷ ss) found
some_by basis s ss true place found more is onward e = found_after basis place found s ss is (onward e)
some_by basis s ss false place found more is onward e = found_here basis place found s ss is (same_place place found e)

-- a place that is found is that of the first step outside
some_outside : (basis : Basis) (place : ℕ) (ss : List Step) (found : ℕ) → outside_from basis place ss ≡ Some found → Found basis place ss found
unfolding outside_from
some_outside basis place [] found e = absurd cc
some_outside basis place (s ∷ ss) found e = some_by basis s ss (basis s.op) place found (outside_from basis (place + 1) ss) refl (some_outside basis (place + 1) ss found) e

-- the search along all steps checks the chain against the basis
pub judged : (basis : Basis) (c : Chain) (x : Option ℕ) → outside_from basis (c.n + 1) c.steps ≡ x → IsBasisCheck basis c x
judged basis c None e = All-from_recursion (IsInside basis) c.steps (none_outside basis (c.n + 1) c.steps e)
judged basis c (Some place) e =
    let found = some_outside basis (c.n + 1) c.steps place e in
    record {
      prefix = found.prefix;
      step = found.step;
      following = found.following;
      steps = found.steps;
      place_is = found.place_is;
      inside = All-from_recursion (IsInside basis) found.prefix found.inside;
      outside = found.outside;
    }

pub ruleset judging = (common_steps, judged)
