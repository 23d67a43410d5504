-- Marks of variables, set one after the other.
use Rattle.std.proofs.Common.{◌≡◌, ℕ, ◌+◌, ◌%◌, ◌<◌, ◌⊎◌, ◌==◌, ◌||◌, ◌++◌, ◌∷◌, [], ℤ, Bool, true, false, List, length, slice_index_or, slice_set, refl, sym, ◌∙◌, subst, arith, inl, inr}
use Rattle.std.proofs.Math.Logic.{⊎_elim}
use Rattle.std.proofs.lemmas.Bool.{cases_Bool, cases_eq, or_cases, eqb-true}
use Rattle.std.proofs.lemmas.Grind.{common_steps}
use Rattle.std.proofs.lemmas.List.Folds.{list_any-append}
use Rattle.std.proofs.lemmas.Nat.{mod_below}
use Rattle.sat_theory.specs.Formula.{variable}
use Rattle.lrat_text.specs.Reading.{has_variable, is_repeated}
use Rattle.lrat_text.specs.Seen.{AreMarked}

or_none : (b : Bool) → (b || false) ≡ b
or_none true = refl
or_none false = refl

-- the variables of a list with one more literal
variable_cases : (lits : List ℤ) (l : ℤ) (v : ℕ) → has_variable (lits ++ l ∷ []) v ≡ true → (has_variable lits v ≡ true) ⊎ (variable l ≡ v)
variable_cases lits l v is =
    let parts : (has_variable lits v || ((variable l == v) || false)) ≡ true = sym (list_any-append (λ (m : ℤ). variable m == v) lits (l ∷ [])) ∙ is in
    ⊎_elim
    (λ (before : has_variable lits v ≡ true). inl before)
    (λ (last : ((variable l == v) || false) ≡ true). inr (eqb-true (variable l) v (sym (or_none (variable l == v)) ∙ last)))
    (or_cases (has_variable lits v) ((variable l == v) || false) parts)

not_both : {A : Type 0} (b : Bool) → b ≡ true → b ≡ false → A
not_both b is_true is_false = cc

-- No marks for no literals.
abbrev mark_in : List Bool → ℕ → Bool
mark_in marks k = slice_index_or marks k false

-- A variable whose mark isn't set hasn't occurred.
pub unmarked : (marks : List Bool) (lits : List ℤ) (l : ℤ) → AreMarked marks lits → slice_index_or marks (variable l % 1024) false ≡ false → is_repeated lits l ≡ false
unmarked marks lits l are clear =
    ⊎_elim
    (λ (there : has_variable lits (variable l) ≡ true). not_both (slice_index_or marks (variable l % 1024) false) (are.each (variable l) there) clear)
    (λ (none : has_variable lits (variable l) ≡ false). none)
    (cases_Bool (has_variable lits (variable l)))

-- If its mark is set already, the marks are those of the list with one more literal.
pub still_marked : (marks : List Bool) (lits : List ℤ) (l : ℤ) → AreMarked marks lits → slice_index_or marks (variable l % 1024) false ≡ true → AreMarked marks (lits ++ l ∷ [])
still_marked marks lits l are set = record {
  each = λ v there.
      ⊎_elim
      (λ (before : has_variable lits v ≡ true). are.each v before)
      (λ (own : variable l ≡ v). subst (λ (k : ℕ). slice_index_or marks (k % 1024) false ≡ true) own set)
      (variable_cases lits l v there);
  room = are.room;
}

set_same : (marks : List Bool) (p q : ℕ) → p < length marks → q ≡ p → mark_in (slice_set marks p true) q ≡ true
set_same marks p q within same = rw same (grind (arith, common_steps))

set_other : (marks : List Bool) (p q : ℕ) → p < length marks → (q ≡ p → ⊥) → mark_in (slice_set marks p true) q ≡ mark_in marks q
set_other marks p q within apart = grind (arith, common_steps)

-- Setting a mark keeps the others.
pub more_marked : (marks : List Bool) (lits : List ℤ) (l : ℤ) → AreMarked marks lits → AreMarked (slice_set marks (variable l % 1024) true) (lits ++ l ∷ [])
more_marked marks lits l are = still_marked (slice_set marks (variable l % 1024) true) lits l kept (set_same marks (variable l % 1024) (variable l % 1024) within refl)
  where
    within : variable l % 1024 < length marks
    within = rw are.room (mod_below (variable l) 1024 (omega arith))

    kept : AreMarked (slice_set marks (variable l % 1024) true) lits
    kept = record {
      each = λ v there.
          ⊎_elim
          (λ (same : v % 1024 ≡ variable l % 1024). set_same marks (variable l % 1024) (v % 1024) within same)
          (λ (apart : v % 1024 ≡ variable l % 1024 → ⊥). set_other marks (variable l % 1024) (v % 1024) within apart ∙ are.each v there)
          (cases_eq (v % 1024) (variable l % 1024));
      room = grind (arith, common_steps, are.room);
    }

pub ruleset marking = (common_steps, unmarked, still_marked, more_marked)
