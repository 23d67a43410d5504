-- The cases of the simplification of a raw clause.
use Rattle.std.proofs.Common.{◌≡◌, ◌≢◌, ℕ, zero, suc, ◌≤◌, ◌<◌, ℤ, pos, negsuc, neg_ℤ, Bool, true, false, not, List, []}
use Rattle.std.proofs.Common.{◌∷◌, ◌++◌, Some, None, get_or, length, refl, ap, ◌∙◌, subst, arith, inl, inr, ◌⊎◌}
use Rattle.std.proofs.Math.Logic.{⊎_elim}
use Rattle.std.proofs.lemmas.Cmp.{int_eq_equiv}
use Rattle.std.proofs.lemmas.List.Elements.{All-push}
use Rattle.std.proofs.lemmas.List.Folds.{list_any_at}
use Rattle.std.proofs.lemmas.List.Quantifiers.{all_pairs_push}
use Rattle.std.proofs.lemmas.Grind.{common_steps}
use Rattle.std.specs.Ordering.{int_eq}
use Rattle.sat_theory.specs.Formula.{signed, variable, IsClause}
use Rattle.clause_core.specs.declared.raw.RawLit.{RawLit}
use Rattle.clause_core.specs.declared.raw.RawLit.TheVariants.{Fixed, Var}
use Rattle.clause_core.specs.Clauses.{has, simplified}

pub simplified-none : (lits : List ℤ) → simplified lits [] ≡ Some lits
unfolding simplified
simplified-none lits = refl

pub simplified-true : (lits : List ℤ) (raws : List RawLit) → simplified lits (Fixed true ∷ raws) ≡ None
unfolding simplified
simplified-true lits raws = refl

pub simplified-false : (lits : List ℤ) (raws : List RawLit) → simplified lits (Fixed false ∷ raws) ≡ simplified lits raws
unfolding simplified
simplified-false lits raws = refl

pub simplified-opposite : (lits : List ℤ) (v : ℕ) (bit : Bool) (raws : List RawLit) → has lits (signed v (not bit)) ≡ true → simplified lits (Var v bit ∷ raws) ≡ None
unfolding simplified
simplified-opposite lits v bit raws there = rw there refl

pub simplified-again : (lits : List ℤ) (v : ℕ) (bit : Bool) (raws : List RawLit) →
    has lits (signed v (not bit)) ≡ false → has lits (signed v bit) ≡ true →
    simplified lits (Var v bit ∷ raws) ≡ simplified lits raws
unfolding simplified
simplified-again lits v bit raws other there = rw (other, there) refl

pub simplified-new : (lits : List ℤ) (v : ℕ) (bit : Bool) (raws : List RawLit) →
    has lits (signed v (not bit)) ≡ false → has lits (signed v bit) ≡ false →
    simplified lits (Var v bit ∷ raws) ≡ simplified (lits ++ signed v bit ∷ []) raws
unfolding simplified
simplified-new lits v bit raws other new = rw (other, new) refl

pub ruleset constants = (common_steps, simplified-none, simplified-true, simplified-false)

pub variable-signed : (v : ℕ) (bit : Bool) → variable (signed v bit) ≡ v
variable-signed v true = refl
variable-signed zero false = refl
variable-signed (suc v) false = refl

not_both : {A : Type 0} (b : Bool) → b ≡ true → b ≡ false → A
not_both b yes_ no_ = cc

-- a literal of a variable is its positive or its negative one
of_variable : (m : ℤ) (v : ℕ) (bit : Bool) → variable m ≡ v → (m ≡ signed v bit) ⊎ (m ≡ signed v (not bit))
of_variable (pos n) v true e = inl (ap pos e)
of_variable (pos n) v false e = inr (ap pos e)
of_variable (negsuc n) v true e = inr (subst (λ (w : ℕ). negsuc n ≡ neg_ℤ (pos w)) e refl)
of_variable (negsuc n) v false e = inl (subst (λ (w : ℕ). negsuc n ≡ neg_ℤ (pos w)) e refl)

-- where a literal isn't among lits, each of these is another
other : (lits : List ℤ) (l : ℤ) (k : ℕ) (d : ℤ) → has lits l ≡ false → k < length lits → get_or lits k d ≡ l → ⊥
unfolding has
other lits l k d new within same = not_both (has lits l) (list_any_at (int_eq l) lits k d within (rw same (int_eq_equiv.refl l))) new

-- A literal can be added to a clause that has neither literal of its variable.
pub clause_push : (lits : List ℤ) (v : ℕ) (bit : Bool) → IsClause lits → 1 ≤ v → has lits (signed v (not bit)) ≡ false → has lits (signed v bit) ≡ false → IsClause (lits ++ signed v bit ∷ [])
clause_push lits v bit clause some opposite new = record {
  literals = All-push (λ l. 0 < variable l) lits (signed v bit) clause.literals (rw variable-signed (omega arith));
  differ = all_pairs_push (λ (a b : ℤ). variable a ≢ variable b) lits (signed v bit) clause.differ (λ k d within same.
      ⊎_elim (λ (e : get_or lits k d ≡ signed v bit). other lits (signed v bit) k d new within e)
      (λ (e : get_or lits k d ≡ signed v (not bit)). other lits (signed v (not bit)) k d opposite within e)
      (of_variable (get_or lits k d) v bit (same ∙ variable-signed v bit)));
}
