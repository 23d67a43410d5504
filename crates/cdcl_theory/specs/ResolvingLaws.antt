-- One resolution step with a reason, and the hints of the resolvent.
use Rattle.std.specs.Prelude.{◌≡◌, ℕ, ◌<◌, ◌⊎◌, ℤ, Bool, true, false, List, [], ◌∷◌, reverse, Contains, All, Option, Some}
use Rattle.std.proofs.Common.{sym, subst, arith, inl, inr}
use Rattle.std.proofs.Math.Logic.{⊎_elim}
use Rattle.std.proofs.lemmas.Bool.{cases_Bool}
use Rattle.std.proofs.lemmas.List.Elements.{All-contains, All-weaker, All-cons, All-nil}
use Rattle.sat_theory.specs.Formula.{opposite}
use Rattle.sat_theory.specs.Holding.{HintsHold, IsUnitOutside, with_literal, among}
use Rattle.sat_theory.specs.Soundness.{Contains-from_among, among-from_Contains}
use Rattle.cdcl_theory.specs.CodeLaws.{with_literal-cases, with_literal-old, with_literal-new}
use Rattle.cdcl_theory.specs.Resolving.{IsDerived, IsResolvent}

last_hint : (live : ℕ → Option (List ℤ)) (set : ℤ → Bool) (id : ℕ) (clause : List ℤ) → live id ≡ Some clause → All (λ l. set l ≡ true) clause → HintsHold live set (id ∷ [])
unfolding HintsHold
last_hint live set id clause is all = (clause, is, all)

-- a falsified clause, as the last hint
pub derived_conflict : (live : ℕ → Option (List ℤ)) (falsified_at : ℤ → ℕ) (kept : ℤ →
    Bool) (id : ℕ) (clause : List ℤ) → live id ≡ Some clause → All (λ l. kept l ≡ true) clause →
    IsDerived live falsified_at kept (id ∷ [])
derived_conflict live falsified_at kept id clause is all =
    record {
      from = λ set inside falsified. last_hint live set id clause is
          (All-weaker (λ l. kept l ≡ true) (λ l. set l ≡ true) inside clause all);
    }

hint_before : (live : ℕ → Option (List ℤ)) (set : ℤ → Bool) (id : ℕ) (hints : List ℕ) (clause : List ℤ) (t : ℤ) →
    live id ≡ Some clause → IsUnitOutside set clause t → HintsHold live (with_literal set (opposite t)) hints →
    HintsHold live set (id ∷ hints)
unfolding HintsHold
hint_before live set id [] clause t is unit hold = absurd hold
hint_before live set id (more ∷ hints) clause t is unit hold = (clause, t, is, unit, hold)

-- One more hint at the front, the reason of t: in the resolvent its other literals replace the opposite of t.
pub derived_step : (live : ℕ → Option (List ℤ)) (falsified_at : ℤ → ℕ) (kept less : ℤ →
    Bool) (hints : List ℕ) (id : ℕ) (clause : List ℤ) (t : ℤ) → IsDerived live falsified_at kept hints →
    live id ≡ Some clause → Contains clause t → falsified_at t ≡ 0 → 0 < falsified_at (opposite t) →
    All (λ m. (m ≡ t) ⊎ (less m ≡ true)) clause → ((m : ℤ) → kept m ≡ true → (m ≡ opposite t) ⊎ (less m ≡ true)) →
    IsDerived live falsified_at less (id ∷ hints)
derived_step live falsified_at kept less hints id clause t derived is there up down others moved = record {
  from = λ set inside falsified.
      hint_before live set id hints clause t is
      (record {
        there = there;
        outside = out set falsified (cases_Bool (set t));
        others = All-weaker (λ m. (m ≡ t) ⊎ (less m ≡ true)) (λ m. (m ≡ t) ⊎
            (set m ≡ true)) (λ m. ⊎_elim (λ (same : m ≡ t). inl same) (λ (in_less : less m ≡ true).
            inr (inside m in_less))) clause others;
      })
      (derived.from (with_literal set (opposite t))
      (λ m in_kept. ⊎_elim (λ (same : m ≡ opposite t). with_literal-new set (opposite t) m same)
      (λ (in_less : less m ≡ true). with_literal-old set (opposite t) m (inside m in_less)) (moved m in_kept))
      (λ m in_set. ⊎_elim (λ (same : m ≡ opposite t). subst (λ (x : ℤ). 0 < falsified_at x) (sym same) down) (λ (old : set m ≡ true). falsified m old) (with_literal-cases set (opposite t) m in_set)));
}
  where
    out : (set : ℤ → Bool) → ((l : ℤ) → set l ≡ true → 0 < falsified_at l) → (set t ≡ true) ⊎ (set t ≡ false) → set t ≡ false
    out set falsified (inl is_in) = absurd (let h : 0 < falsified_at t = falsified t is_in in omega arith)
    out set falsified (inr is_out) = is_out

-- The hints hold for a list whose literals are exactly the kept ones.
pub resolvent_holds : (live : ℕ → Option (List ℤ)) (falsified_at : ℤ → ℕ) (p : ℕ) (kept : ℤ →
    Bool) (ids : List ℕ) (lits : List ℤ) → IsResolvent live falsified_at p kept ids →
    ((m : ℤ) → kept m ≡ true → Contains lits m) → All (λ m. 0 < falsified_at m) lits →
    HintsHold live (among lits) (reverse ids)
resolvent_holds live falsified_at p kept ids lits resolvent inside falsified =
    resolvent.derived.from (among lits) (λ m is. among-from_Contains lits m (inside m is)) (λ m is. All-contains (λ x. 0 < falsified_at x) lits m falsified (Contains-from_among lits m is))

-- hints that hold are ids of live clauses
pub hints_live : (live : ℕ → Option (List ℤ)) (set : ℤ → Bool) (hints : List ℕ) → HintsHold live set hints → All (λ id. (clause : List ℤ) × (live id ≡ Some clause)) hints
unfolding HintsHold
hints_live live set [] hold = absurd hold
hints_live live set (hint ∷ []) (clause, is, all) = All-cons (λ id. (c : List ℤ) × (live id ≡ Some c)) hint [] (clause, is) (All-nil (λ id. (c : List ℤ) × (live id ≡ Some c)))
hints_live live set (hint ∷ more ∷ hints) (clause, l, is, unit, hold) =
    All-cons (λ id. (c : List ℤ) × (live id ≡ Some c)) hint (more ∷ hints) (clause, is)
    (hints_live live (with_literal set (opposite l)) (more ∷ hints) hold)
