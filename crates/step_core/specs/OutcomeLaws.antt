-- How the outcome of the enumeration follows from those of its branches.
use Rattle.std.proofs.Common.{◌≡◌, ℕ, ◌+◌, ◌≤◌, ◌<◌, true, false, Bool, List, [], ◌∷◌, ◌++◌, length, refl, sym, ap, ◌∙◌, subst, arith, inl, inr, All}
use Rattle.std.specs.Prelude.{min, slice_get, slice_index_or, Some}
use Rattle.std.proofs.lemmas.Grind.{common_steps}
use Rattle.std.proofs.lemmas.Bool.{cases_lt, both_ways}
use Rattle.chain_theory.specs.Operator.{Basis}
use Rattle.chain_theory.specs.Chain.{Step, IsStepAt, AreSteps}
use Rattle.chain_laws.specs.Keys.{larger}
use Rattle.tt_core.specs.Words.{Words}
use Rattle.step_core.specs.Steps.{AreOver, IsSolution, all_met}
use Rattle.step_core.specs.StepStacks.{StackView, IsStepStack}
use Rattle.step_core.specs.Enumeration.{IsNormalSolution, NoneFrom, NoneWith, HasLarger, HasPair, HasOperands, IsGivenStep, IsEnumerating, IsEnumerationOutcome}

-- ---- lists

pub append_nil : {X : Type 0} (xs : List X) → xs ++ [] ≡ xs
append_nil [] = refl
append_nil (x ∷ xs) = ap (λ (ys : List _). x ∷ ys) (append_nil xs)

pub append_one : {X : Type 0} (xs : List X) (x : X) (ys : List X) → (xs ++ x ∷ []) ++ ys ≡ xs ++ x ∷ ys
append_one [] x ys = refl
append_one (y ∷ xs) x ys = ap (λ (zs : List _). y ∷ zs) (append_one xs x ys)

pub get_middle : {X : Type 0} (xs : List X) (x : X) (ys : List X) → slice_get (xs ++ x ∷ ys) (length xs) ≡ Some x
get_middle [] x ys = refl
get_middle (y ∷ xs) x ys = get_middle xs x ys

index_middle : {X : Type 0} (xs : List X) (x : X) (ys : List X) (d : X) → slice_index_or (xs ++ x ∷ ys) (length xs) d ≡ x
index_middle [] x ys d = refl
index_middle (y ∷ xs) x ys d = index_middle xs x ys d

pub middle_low : {X : Type 0} (xs : List X) (x : X) (ys : List X) → length xs < length (xs ++ x ∷ ys)
middle_low [] x ys = omega arith
middle_low (y ∷ xs) x ys = omega (arith, middle_low xs x ys)

pub member_among : (prefix rest : List Step) (s : Step) (basis : Basis) → AreOver basis (prefix ++ s ∷ rest) → basis s.op ≡ true
member_among prefix rest s basis over = ap (λ (x : Step). basis x.op) (sym (index_middle prefix s rest s)) ∙ over (length prefix) s (middle_low prefix s rest)

-- ---- outcomes

-- found: a branch from the same stack found a solution
pub found_on : (w : Words) (basis : Basis) (whole : Bool) (left : ℕ) (old mid new : StackView) (None More : Type 0)
    (found : Bool) → mid ≡ old → IsEnumerationOutcome w basis whole left mid new None found → found ≡ true →
    IsEnumerationOutcome w basis whole left old new More true
found_on w basis whole left old mid new None More found same is yes_ = record {
  inputs = is.inputs ∙ ap (λ (t : StackView). t.n) same;
  solution = λ e. is.solution yes_;
  size = λ e. is.size yes_ ∙ ap (λ (t : StackView). length t.steps + left) same;
  same = λ e. absurd cc;
  none = λ e sure. absurd cc;
}

-- not found: the stack is unchanged, and the claim holds
pub none_there : (w : Words) (basis : Basis) (whole : Bool) (left : ℕ) (old new : StackView) (None : Type 0) →
    new ≡ old → (whole ≡ true → None) → IsEnumerationOutcome w basis whole left old new None false
none_there w basis whole left old new None same none = record {
  inputs = ap (λ (t : StackView). t.n) same;
  solution = λ e. absurd cc;
  size = λ e. absurd cc;
  same = λ e. same;
  none = λ e sure. none sure;
}

-- ---- no step more

pub all_placed : (w : Words) (basis : Basis) (whole : Bool) (left : ℕ) (t new : StackView) (found : Bool) →
    IsStepStack t → IsEnumerating w basis t left → left ≡ 0 → new ≡ t → (found ≡ true → all_met w t.steps ≡ true) →
    (whole ≡ true → found ≡ false → all_met w t.steps ≡ false) →
    IsEnumerationOutcome w basis whole left t new (NoneFrom w basis t.steps left) found
all_placed w basis whole left t new found stack enumerating none same meets_all fails = record {
  inputs = ap (λ (x : StackView). x.n) same;
  solution = λ e. subst (λ (x : StackView). IsSolution w basis x.steps) (sym same)
      (record {
        are = subst (λ (n : ℕ). AreSteps n t.steps) enumerating.inputs stack.are;
        over = enumerating.over;
        met = meets_all e;
      });
  size = λ e. omega (arith, none, ap (λ (x : StackView). length x.steps) same);
  same = λ e. same;
  none = λ e sure. record { none = λ rest count target. without rest (omega (arith, count, none)) target (fails sure e) };
}
  where
    without : (rest : List Step) → length rest ≡ 0 → IsNormalSolution w basis (t.steps ++ rest) → all_met w t.steps ≡ false → ⊥
    without [] count target e = both_ways (all_met w t.steps) e (subst (λ (ss : List Step). all_met w ss ≡ true) (append_nil t.steps) target.solution.met)
    without (s ∷ rest) count target e = omega (arith, count)

-- ---- one step more

pub step_among : (prefix rest : List Step) (s : Step) (n : ℕ) → AreSteps n (prefix ++ s ∷ rest) → IsStepAt (n + 1 + length prefix) s
step_among prefix rest s n are = are.each (length prefix) s (get_middle prefix s rest)

-- a further step has some larger operand
pub by_larger : (w : Words) (basis : Basis) (t : StackView) (left : ℕ) → 1 ≤ left → t.n ≡ w.n →
    ((m : ℕ) → 1 ≤ m → m ≤ t.n + length t.steps → NoneWith w basis t.steps left (HasLarger m)) →
    NoneFrom w basis t.steps left
by_larger w basis t left some inputs each = record {
  none = λ rest count target. next rest count target;
}
  where
    next : (rest : List Step) → length rest ≡ left → IsNormalSolution w basis (t.steps ++ rest) → ⊥
    next [] count target = omega (arith, some, count)
    next (s ∷ rest) count target =
        let at : IsStepAt (w.n + 1 + length t.steps) s = step_among t.steps rest s w.n target.solution.are in
        (each (larger s) (omega (arith, at.j_from)) (omega (arith, at.j_below, at.k_below, inputs))).none s rest refl count target

pub by_pair : (w : Words) (basis : Basis) (t : StackView) (left high : ℕ) →
    ((m : ℕ) → 1 ≤ m → m ≤ high → NoneWith w basis t.steps left (HasPair m high)) →
    NoneWith w basis t.steps left (HasLarger high)
by_pair w basis t left high each = record {
  none = λ s rest is count target.
      let at : IsStepAt (w.n + 1 + length t.steps) s = step_among t.steps rest s w.n target.solution.are in
      (each (min s.j s.k) (omega (arith, at.j_from, at.k_from)) (omega (arith, is))).none s rest (refl, is) count target;
}

pub by_order : (w : Words) (basis : Basis) (t : StackView) (left low high : ℕ) →
    NoneWith w basis t.steps left (HasOperands low high) → NoneWith w basis t.steps left (HasOperands high low) →
    NoneWith w basis t.steps left (HasPair low high)
by_order w basis t left low high rising falling = record {
  none = λ s rest is count target. elim (cases_lt s.k s.j) [
    | inl falls ↦ falling.none s rest (omega (arith, is.0, is.1, falls), omega (arith, is.0, is.1, falls)) count target
    | inr orders_operands ↦ rising.none s rest (omega (arith, is.0, is.1, orders_operands), omega (arith, is.0, is.1, orders_operands)) count target
  ];
}

-- and some operator, which is a member
pub this_step : (s : Step) (j k op : ℕ) → s.j ≡ j → s.k ≡ k → s.op ≡ op → s ≡ record { j = j; k = k; op = op }
this_step s j k op is_j is_k is_op = rw (sym is_j, sym is_k, sym is_op) refl

pub by_operator : (w : Words) (basis : Basis) (t : StackView) (left j k : ℕ) →
    ((op : ℕ) → op < 16 → basis op ≡ true → NoneWith w basis t.steps left
    (IsGivenStep (record { j = j; k = k; op = op }))) → NoneWith w basis t.steps left (HasOperands j k)
by_operator w basis t left j k each = record {
  none = λ s rest is count target.
      let at : IsStepAt (w.n + 1 + length t.steps) s = step_among t.steps rest s w.n target.solution.are in
      (each s.op at.op_below (member_among t.steps rest s basis target.solution.over)).none s rest (this_step s j k s.op is.0 is.1 refl) count target;
}

-- ---- from branch to branch

pub enumerating_same : (w : Words) (basis : Basis) (old mid : StackView) (left : ℕ) → mid ≡ old → IsEnumerating w basis old left → IsEnumerating w basis mid left
enumerating_same w basis old mid left same is = subst (λ (t : StackView). IsEnumerating w basis t left) (sym same) is

-- ---- loops

-- no chain in normal form goes on with one of the properties 1 to k at its next step
pub record AllUnder (w : Words) (basis : Basis) (prefix : List Step) (left : ℕ) (Has : ℕ → Step → Type 0) (k : ℕ) : Type 0 where
  pub each : (m : ℕ) → 1 ≤ m → m ≤ k → NoneWith w basis prefix left (Has m)

-- nor with the operands j and k and a member below the bound
pub record AllOperators (w : Words) (basis : Basis) (prefix : List Step) (left j k bound : ℕ) : Type 0 where
  pub each : (op : ℕ) → op < bound → basis op ≡ true → NoneWith w basis prefix left (IsGivenStep (record { j = j; k = k; op = op }))

-- The loop invariant: the stack is as it was at first, and if no solution was skipped (`whole`), `None` holds
-- of the branches so far.
pub record IsRuledOut (w : Words) (basis : Basis) (whole : Bool) (left : ℕ) (first now : StackView) (None : Type 0) : Type 0 where
  pub enumerating : IsEnumerating w basis now left
  pub same : now ≡ first
  pub none : whole ≡ true → None

pub under_none : (w : Words) (basis : Basis) (whole : Bool) (left : ℕ) (t : StackView) (Has : ℕ → Step → Type 0) →
    IsEnumerating w basis t left → IsRuledOut w basis whole left t t (AllUnder w basis t.steps left Has 0)
under_none w basis whole left t Has enumerating = record { enumerating = enumerating; same = refl; none = λ sure. record { each = λ m from to. omega (arith, from, to) } }

under_more : (w : Words) (basis : Basis) (left k : ℕ) (prefix : List Step) (Has : ℕ → Step → Type 0) →
    AllUnder w basis prefix left Has k → NoneWith w basis prefix left (Has (k + 1)) →
    AllUnder w basis prefix left Has (k + 1)
under_more w basis left k prefix Has all one = record {
  each = λ m from to. elim (cases_lt k m) [
    | inl last ↦ let same : k + 1 ≡ m = omega (arith, last, to) in subst (λ (x : ℕ). NoneWith w basis prefix left (Has x)) same one
    | inr before ↦ all.each m from before
  ];
}

left_more : (w : Words) (basis : Basis) (whole : Bool) (left : ℕ) (first mid new : StackView) (All One More : Type 0) →
    IsRuledOut w basis whole left first mid All → new ≡ mid → (whole ≡ true → One) → (All → One → More) →
    IsRuledOut w basis whole left first new More
left_more w basis whole left first mid new All One More is same one both = record {
  enumerating = enumerating_same w basis mid new left same is.enumerating;
  same = same ∙ is.same;
  none = λ sure. both (is.none sure) (one sure);
}

pub under_next : (w : Words) (basis : Basis) (whole : Bool) (left k : ℕ) (first mid new : StackView) (Has : ℕ → Step →
    Type 0) (found : Bool) → IsRuledOut w basis whole left first mid (AllUnder w basis first.steps left Has k) →
    IsEnumerationOutcome w basis whole left mid new (NoneWith w basis mid.steps left (Has (k + 1))) found →
    found ≡ false → IsRuledOut w basis whole left first new (AllUnder w basis first.steps left Has (k + 1))
under_next w basis whole left k first mid new Has found is outcome e =
    left_more w basis whole left first mid new (AllUnder w basis first.steps left Has k)
    (NoneWith w basis first.steps left (Has (k + 1))) (AllUnder w basis first.steps left Has (k + 1)) is
    (outcome.same e)
    (λ sure. subst (λ (t : StackView). NoneWith w basis t.steps left (Has (k + 1))) is.same (outcome.none e sure))
    (under_more w basis left k first.steps Has)

pub operators_none : (w : Words) (basis : Basis) (whole : Bool) (left j k : ℕ) (t : StackView) →
    IsEnumerating w basis t left → IsRuledOut w basis whole left t t (AllOperators w basis t.steps left j k 0)
operators_none w basis whole left j k t enumerating = record { enumerating = enumerating; same = refl; none = λ sure. record { each = λ op low member. omega (arith, low) } }

operators_more : (w : Words) (basis : Basis) (left j k bound : ℕ) (prefix : List Step) →
    AllOperators w basis prefix left j k bound →
    (basis bound ≡ true → NoneWith w basis prefix left (IsGivenStep (record { j = j; k = k; op = bound }))) →
    AllOperators w basis prefix left j k (bound + 1)
operators_more w basis left j k bound prefix all one = record {
  each = λ op low member. elim (cases_lt op bound) [
    | inl below ↦ all.each op below member
    | inr last ↦
        let same : bound ≡ op = omega (arith, last, low) in
        subst (λ (x : ℕ). NoneWith w basis prefix left (IsGivenStep (record { j = j; k = k; op = x }))) same (one (ap basis same ∙ member))
  ];
}

pub operators_next : (w : Words) (basis : Basis) (whole : Bool) (left j k bound : ℕ) (first mid new : StackView)
    (found : Bool) → IsRuledOut w basis whole left first mid (AllOperators w basis first.steps left j k bound) →
    IsEnumerationOutcome w basis whole left mid new
    (NoneWith w basis mid.steps left (IsGivenStep (record { j = j; k = k; op = bound }))) found → found ≡ false →
    IsRuledOut w basis whole left first new (AllOperators w basis first.steps left j k (bound + 1))
operators_next w basis whole left j k bound first mid new found is outcome e =
    left_more w basis whole left first mid new (AllOperators w basis first.steps left j k bound)
    (NoneWith w basis first.steps left (IsGivenStep (record { j = j; k = k; op = bound })))
    (AllOperators w basis first.steps left j k (bound + 1)) is (outcome.same e)
    (λ sure. subst (λ (t : StackView). NoneWith w basis t.steps left (IsGivenStep (record { j = j; k = k; op = bound }))) is.same (outcome.none e sure))
    (λ all one. operators_more w basis left j k bound first.steps all (λ member. one))

pub operators_skip : (w : Words) (basis : Basis) (whole : Bool) (left j k bound : ℕ) (first mid : StackView)
    (member : Bool) → IsRuledOut w basis whole left first mid (AllOperators w basis first.steps left j k bound) →
    member ≡ basis bound → member ≡ false → IsRuledOut w basis whole left first mid
    (AllOperators w basis first.steps left j k (bound + 1))
operators_skip w basis whole left j k bound first mid member is said e =
    left_more w basis whole left first mid mid (AllOperators w basis first.steps left j k bound) (basis bound ≡ true →
    NoneWith w basis first.steps left (IsGivenStep (record { j = j; k = k; op = bound })))
    (AllOperators w basis first.steps left j k (bound + 1)) is refl
    (λ sure holds. absurd (both_ways (basis bound) (sym said ∙ e) holds))
    (operators_more w basis left j k bound first.steps)

pub ruleset enumerating = (common_steps, under_none, under_next, operators_none, operators_next, operators_skip)
