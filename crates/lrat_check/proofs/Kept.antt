-- The invariant of a checker, line by line.
use Rattle.std.proofs.Common.{◌≡◌, ℕ, ◌==◌, ◌||◌, ◌⊎◌, ℤ, Bool, true, false, cond, if◌then◌else◌, List, [], ◌∷◌, ◌++◌, Option, Some, None, refl, sym, ap, ◌∙◌, subst, inl, inr}
use Rattle.std.proofs.Math.Logic.{⊎_elim}
use Rattle.std.proofs.lemmas.Grind.{common_steps}
use Rattle.std.proofs.lemmas.List.Folds.{list_any-append}
use Rattle.sat_theory.specs.Formula.{IsClause, IsWithin}
use Rattle.sat_theory.specs.State.{is_listed, with_clause, without}
use Rattle.lrat_check.specs.Live.{Live, live_at}
use Rattle.lrat_check.specs.LiteralMarks.{Stamped, HasRoom}
use Rattle.lrat_check.specs.Keeps.{IsChecker}

chosen : {A : Type 0} (b : Bool) (x y z : A) → (if b then x else y) ≡ z → (x ≡ z) ⊎ (y ≡ z)
chosen true x y z is = inl is
chosen false x y z is = inr is

-- the marks may be any others with enough room
pub kept_marks : (vars : ℕ) (live : Live) (old new : Stamped) → IsChecker vars live old → HasRoom new vars → IsChecker vars live new
kept_marks vars live old new is room = record { clauses = is.clauses; within = is.within; room = room }

-- one more clause over the variables
pub kept_added : (vars : ℕ) (old new : Live) (marks : Stamped) (id : ℕ) (lits : List ℤ) → IsChecker vars old marks →
    live_at new ≡ with_clause (live_at old) id lits → IsClause lits → IsWithin vars lits → IsChecker vars new marks
kept_added vars old new marks id lits is added clause within = record {
  clauses = record {
    each = λ k c at. ⊎_elim (λ (own : Some lits ≡ Some c). let same : lits ≡ c = cc in
        subst (λ (x : List ℤ). IsClause x) same clause) (λ (other : live_at old k ≡ Some c). is.clauses.each k c other)
        (which k c at);
  };
  within = record {
    each = λ k c at. ⊎_elim (λ (own : Some lits ≡ Some c). let same : lits ≡ c = cc in
        subst (λ (x : List ℤ). IsWithin vars x) same within) (λ (other : live_at old k ≡ Some c). is.within.each k c other)
        (which k c at);
  };
  room = is.room;
}
  where
    which : (k : ℕ) (c : List ℤ) → live_at new k ≡ Some c → (Some lits ≡ Some c) ⊎ (live_at old k ≡ Some c)
    which k c at = chosen (k == id) (Some lits) (live_at old k) (Some c) (sym (ap (λ (g : ℕ → Option (List ℤ)). g k) added) ∙ at)

-- some clauses removed
pub kept_removed : (vars : ℕ) (old new : Live) (marks : Stamped) (ids : List ℕ) → IsChecker vars old marks → live_at new ≡ without (live_at old) ids → IsChecker vars new marks
kept_removed vars old new marks ids is removed = record {
  clauses = record { each = λ k c at. is.clauses.each k c (stayed k c at) };
  within = record { each = λ k c at. is.within.each k c (stayed k c at) };
  room = is.room;
}
  where
    stayed : (k : ℕ) (c : List ℤ) → live_at new k ≡ Some c → live_at old k ≡ Some c
    stayed k c at =
        ⊎_elim (λ (gone : None ≡ Some c). absurd (cc)) (λ (other : live_at old k ≡ Some c). other)
        (chosen (is_listed ids k) None (live_at old k) (Some c) (sym (ap (λ (g : ℕ → Option (List ℤ)). g k) removed)
        ∙ at))

or_last : (live : ℕ → Option (List ℤ)) (ids : List ℕ) (id k : ℕ) → without (without live ids) (id ∷ []) k ≡ without live (ids ++ id ∷ []) k
or_last live ids id k = both (is_listed ids k) (k == id) ∙ ap (λ (b : Bool). cond b None (live k)) (sym (list_any-append (λ (j : ℕ). k == j) ids (id ∷ [])))
  where
    both : (a b : Bool) → cond (b || false) None (cond a None (live k)) ≡ cond (a || (b || false)) None (live k)
    both true true = refl
    both true false = refl
    both false true = refl
    both false false = refl

pub without-push : (live : ℕ → Option (List ℤ)) (ids : List ℕ) (id : ℕ) → without (without live ids) (id ∷ []) ≡ without live (ids ++ id ∷ [])
without-push live ids id = λ i k. or_last live ids id k i

pub ruleset removing = (common_steps, without-push)
