-- The test for subsumption by live clauses.
use Rattle.std.proofs.Common.{◌≡◌, ◌↔◌, ◌⊎◌, ℕ, zero, suc, ◌+◌, ◌-◌, ◌<◌, ◌≤◌, ◌&&◌, ℤ, not, ◌==◌, cond, Bool, true}
use Rattle.std.proofs.Common.{false, List, [], ◌∷◌, All, Contains, Option, Some, None, refl, sym, ap, ◌∙◌, inl, inr}
use Rattle.std.proofs.Common.{arith}
use Rattle.std.proofs.Math.Logic.{⊎_elim}
use Rattle.std.proofs.lemmas.Bool.{cases_lt}
use Rattle.std.proofs.lemmas.Bool.Decides.{nat_tests}
use Rattle.std.proofs.lemmas.List.Elements.{All-from_recursion, recursion_from_All}
use Rattle.std.proofs.lemmas.Option.{slice_get_within}
use Rattle.std.specs.Prelude.{slice_get}
use Rattle.std.specs.List.{list_all, AllByRecursion}
use Rattle.sat_theory.specs.Formula.{Formula}
use Rattle.sat_theory.specs.Line.{Line, Add, Delete}
use Rattle.sat_theory.specs.State.{State, start, next, is_listed}
use Rattle.sat_theory.specs.Holding.{among}
use Rattle.sat_theory.specs.Log.{IsStep, EachLine, after, IsUnsubsumed, AddsUnsubsumed}
use Rattle.sat_theory.specs.Soundness.{Contains-from_among, among-from_Contains}
use Rattle.cert_theory.specs.SubproblemLines.{is_within, is_unsubsumed_below, is_fresh, state_after}
use Rattle.cert_laws.specs.EmptyLaws.{same_bool}

-- no live clause has an id above the greatest
pub record IsLow (s : State) : Type 0 where
  pub each : (id : ℕ) (clause : List ℤ) → s.live id ≡ Some clause → id ≤ s.greatest

chosen : {A : Type 0} (b : Bool) (x y z : A) → cond b x y ≡ z → ((b ≡ true) × (x ≡ z)) ⊎ ((b ≡ false) × (y ≡ z))
chosen true x y z e = inl (refl, e)
chosen false x y z e = inr (refl, e)

start_low : (f : Formula) → IsLow (start f)
start_low f = record {
  each = λ id clause is.
      ⊎_elim
      (λ (none : (id == 0 ≡ true) × (None ≡ Some clause)). absurd (let e = none.1 in cc))
      (λ (at : (id == 0 ≡ false) × (slice_get f.clauses (id - 1) ≡ Some clause)). let within = slice_get_within f.clauses (id - 1) clause at.1 in omega (arith, within))
      (chosen (id == 0) None (slice_get f.clauses (id - 1)) (Some clause) is);
}

next_low : (s : State) (line : Line) → IsLow s → IsStep s line → IsLow (next s line)
next_low s (Add id lits hints) low step = record {
  each = λ k clause is.
      ⊎_elim
      (λ (new : (k == id ≡ true) × (Some lits ≡ Some clause)). let same = new.0 in grind (arith, nat_tests, same))
      (λ (old : (k == id ≡ false) × (s.live k ≡ Some clause)). let below = low.each k clause old.1 in omega (arith, below, step.holds.greater))
      (chosen (k == id) (Some lits) (s.live k) (Some clause) is);
}
next_low s (Delete id ids) low step = record {
  each = λ k clause is.
      ⊎_elim
      (λ (gone : (is_listed ids k ≡ true) × (None ≡ Some clause)). absurd (let e = gone.1 in cc))
      (λ (kept : (is_listed ids k ≡ false) × (s.live k ≡ Some clause)). low.each k clause kept.1)
      (chosen (is_listed ids k) None (s.live k) (Some clause) is);
}

after_low : (s : State) (log : List Line) → IsLow s → EachLine IsStep s log → IsLow (after s log)
unfolding after EachLine
after_low s [] low each = low
after_low s (l ∷ ls) low each = after_low (next s l) ls (next_low s l low each.0) each.1

pub log_low : (f : Formula) (log : List Line) → EachLine IsStep (start f) log → IsLow (state_after f log)
log_low f log each = after_low (start f) log (start_low f) each

-- ---- the test

both_true : (a b : Bool) → (a && b) ≡ true → (a ≡ true) × (b ≡ true)
both_true true b e = (refl, e)
both_true false b e = absurd cc

all_within : (lits clause : List ℤ) → list_all (among lits) clause ≡ true → AllByRecursion (Contains lits) clause
all_within lits [] e = tt
all_within lits (l ∷ ls) e = let halves = both_true (among lits l) (list_all (among lits) ls) e in (Contains-from_among lits l halves.0, all_within lits ls halves.1)

within_all : (lits clause : List ℤ) → AllByRecursion (Contains lits) clause → list_all (among lits) clause ≡ true
within_all lits [] all = refl
within_all lits (l ∷ ls) all = rw (among-from_Contains lits l all.0, within_all lits ls all.1) refl

-- no live clause with a smaller id subsumes the literals
abbrev IsUnsubsumedBelow : ℕ → (ℕ → Option (List ℤ)) → List ℤ → Type 0
IsUnsubsumedBelow n live lits = (id : ℕ) (clause : List ℤ) → id < n → live id ≡ Some clause → All (Contains lits) clause → ⊥

not_within : (lits : List ℤ) (o : Option (List ℤ)) (clause : List ℤ) → not (is_within lits o) ≡ true → o ≡ Some clause → All (Contains lits) clause → ⊥
not_within lits None clause new is all = cc
not_within lits (Some c) clause new is all =
    let same : c ≡ clause = cc in
    let inside : list_all (among lits) c ≡ true = rw same (within_all lits clause (recursion_from_All (Contains lits) clause all)) in
    let clash : not true ≡ true = sym (ap not inside) ∙ new in
    cc

within_not : (lits : List ℤ) (o : Option (List ℤ)) (b : Bool) → is_within lits o ≡ b → ((clause : List ℤ) → o ≡ Some clause → All (Contains lits) clause → ⊥) → not b ≡ true
within_not lits o false is none = refl
within_not lits None true is none = absurd cc
within_not lits (Some c) true is none = absurd (none c refl (All-from_recursion (Contains lits) c (all_within lits c is)))

new_below : (n : ℕ) (live : ℕ → Option (List ℤ)) (lits : List ℤ) → is_unsubsumed_below n live lits ≡ true → IsUnsubsumedBelow n live lits
unfolding is_unsubsumed_below
new_below zero live lits e = λ id clause low is all. absurd (omega arith)
new_below (suc n) live lits e =
    let halves = both_true (not (is_within lits (live n))) (is_unsubsumed_below n live lits) e in
    λ id clause low is all. elim (cases_lt id n) as (λ _. ⊥) [
      | inl less ↦ new_below n live lits halves.1 id clause less is all
      | inr past ↦ let same : id ≡ n = omega arith in not_within lits (live n) clause halves.0 (sym (ap live same) ∙ is) all
    ]

below_new : (n : ℕ) (live : ℕ → Option (List ℤ)) (lits : List ℤ) → IsUnsubsumedBelow n live lits → is_unsubsumed_below n live lits ≡ true
unfolding is_unsubsumed_below
below_new zero live lits each = refl
below_new (suc n) live lits each =
    rw (
      within_not lits (live n) (is_within lits (live n)) refl (λ clause is all. each n clause (omega arith) is all),
      below_new n live lits (λ id clause low is all. each id clause (omega arith) is all),
    ) refl

-- if no id is above the bound, the test decides whether a clause is subsumed
pub new_from_test : (s : State) (lits : List ℤ) → IsLow s → is_unsubsumed_below (s.greatest + 1) s.live lits ≡ true → IsUnsubsumed s.live lits
new_from_test s lits low e = λ id clause is all. let at = low.each id clause is in new_below (s.greatest + 1) s.live lits e id clause (omega (arith, at)) is all

pub test_from_new : (s : State) (lits : List ℤ) → IsUnsubsumed s.live lits → is_unsubsumed_below (s.greatest + 1) s.live lits ≡ true
test_from_new s lits new = below_new (s.greatest + 1) s.live lits (λ id clause low is all. new id clause is all)

pub fresh_from_test : (s : State) (line : Line) → IsLow s → is_fresh s line ≡ true → AddsUnsubsumed s line
fresh_from_test s (Add id lits hints) low e = new_from_test s lits low e
fresh_from_test s (Delete id ids) low e = tt

pub test_from_fresh : (s : State) (line : Line) → AddsUnsubsumed s line → is_fresh s line ≡ true
test_from_fresh s (Add id lits hints) fresh = test_from_new s lits fresh
test_from_fresh s (Delete id ids) fresh = refl

-- another test that decides it has the same result
pub test_is : (s : State) (lits : List ℤ) (b : Bool) → IsLow s → (b ≡ true) ↔ IsUnsubsumed s.live lits → b ≡ is_unsubsumed_below (s.greatest + 1) s.live lits
test_is s lits b low reported = same_bool b (is_unsubsumed_below (s.greatest + 1) s.live lits) (λ yes_. test_from_new s lits (reported.0 yes_)) (λ yes_. reported.1 (new_from_test s lits low yes_))
