-- A checker before the first line.
use Rattle.std.proofs.Common.{◌≡◌, ℕ, ◌↔◌, ℤ, Bool, true, List, [], ◌∷◌, Any, Contains, Option, Some, refl, sym, ap, inl, ◌∙◌, ◌<◌, arith}
use Rattle.std.proofs.lemmas.Bool.Decides.{nat_tests}
use Rattle.std.proofs.Math.Logic.{⊎_elim}
use Rattle.std.proofs.lemmas.List.Elements.{All-contains}
use Rattle.sat_theory.specs.Formula.{IsClause, IsWithin, Formula, IsFormula}
use Rattle.sat_theory.specs.State.{State, by_id, start}
use Rattle.sat_theory.specs.Log.{after, EachLine, AddsEmpty, HasEmpty}
use Rattle.sat_theory.specs.Soundness.{by_id-Contains}
use Rattle.lrat_check.specs.Live.{Live, live_at}
use Rattle.lrat_check.specs.LiteralMarks.{Stamped, HasRoom}
use Rattle.lrat_check.specs.Checked.{Checked, state_of, is_empty, HasAccepted}
use Rattle.lrat_check.specs.Keeps.{IsChecker}

-- the clauses of a formula are clauses over its variables
pub checker_of : (f : Formula) (live : Live) (marks : Stamped) → IsFormula f → live_at live ≡ by_id f.clauses → HasRoom marks f.vars → IsChecker f.vars live marks
checker_of f live marks is_formula loaded room = record {
  clauses = record { each = λ id clause is. All-contains IsClause f.clauses clause is_formula.clauses (there id clause is) };
  within = record { each = λ id clause is. All-contains (IsWithin f.vars) f.clauses clause is_formula.variables (there id clause is) };
  room = room;
}
  where
    there : (id : ℕ) (clause : List ℤ) → live_at live id ≡ Some clause → Contains f.clauses clause
    there id clause is = by_id-Contains f.clauses id clause (sym (ap (λ (g : ℕ → Option (List ℤ)). g id) loaded) ∙ is)

-- a list without a literal
pub empty_is : (lits : List ℤ) → is_empty lits ≡ true → lits ≡ []
empty_is [] yes_ = refl
empty_is (l ∷ ls) yes_ = absurd (grind (arith, nat_tests))

-- Before the first line the empty clause can only be in the formula.
pub has_empty : (f : Formula) (b : Bool) → (b ≡ true) ↔ Contains f.clauses [] → (b ≡ true) ↔ HasEmpty f []
has_empty f b error_in =
    (λ yes_. inl (error_in.0 yes_), λ has. ⊎_elim error_in.1 (λ (none : Any AddsEmpty []). absurd (let within : none.0 < 0 = none.2 in omega arith)) has)

-- A checker of a formula has accepted no line.
pub accepted_none : (f : Formula) (c : Checked) → IsFormula f → state_of c ≡ start f → (c.refuted ≡ true) ↔ HasEmpty f [] → HasAccepted f [] c
unfolding after EachLine
accepted_none f c formula state refuted = record { formula = formula; holds = tt; state = state; refuted = refuted }

pub same_state : (f g : ℕ → Option (List ℤ)) (m n j k : ℕ) → f ≡ g → m ≡ n → j ≡ k → (let s : State = record { live = f; vars = m; greatest = j } in s) ≡ record { live = g; vars = n; greatest = k }
same_state f g m n j k p q r = λ i. record { live = p i; vars = q i; greatest = r i }
