-- An assignment of a formula's variables, extended by values of further ones.
use Rattle.std.proofs.Common.{◌≡◌, ℕ, suc, ◌<◌, ◌≤◌, true, not, List, All, sym, ap, ◌∙◌}
use Rattle.std.specs.Prelude.{ℤ, pos, negsuc, nat_lt, if◌then◌else◌}
use Rattle.std.proofs.lemmas.Bool.{lt-ltb, le-ltb, cond-true, cond-false}
use Rattle.std.proofs.lemmas.List.Elements.{All-contains}
use Rattle.sat_theory.specs.Formula.{Assignment, literal_value, variable}
use Rattle.clause_core.specs.Holds.{clause_bit, holds, all_get, all_make, any_get, any_make}
use Rattle.clause_core.specs.WrittenLaws.{AreClauses}

-- the variables 1 to `vars` have the values by v, and the later ones those by `more`
unfoldable pub extended_by : ℕ → Assignment → Assignment → Assignment
extended_by vars v more x = if nat_lt vars x then more x else v x

pub extended_old : (vars : ℕ) (v more : Assignment) (x : ℕ) → x ≤ vars → extended_by vars v more x ≡ v x
unfolding extended_by
extended_old vars v more x low = cond-false (nat_lt vars x) (more x) (v x) (le-ltb vars x low)

pub extended_new : (vars : ℕ) (v more : Assignment) (x : ℕ) → vars < x → extended_by vars v more x ≡ more x
unfolding extended_by
extended_new vars v more x high = cond-true (nat_lt vars x) (more x) (v x) (lt-ltb vars x high)

-- ---- clauses over the variables 1 to `vars` stay true if these keep their values

module _ (v v' : Assignment) (vars : ℕ) (same : (x : ℕ) → x ≤ vars → v x ≡ v' x) where
  literal_same : (l : ℤ) → variable l ≤ vars → literal_value v l ≡ literal_value v' l
  literal_same (pos n) low = same n low
  literal_same (negsuc n) low = ap not (same (suc n) low)

  clause_kept : (lits : List ℤ) → All (λ (l : ℤ). variable l ≤ vars) lits → clause_bit v lits ≡ true → clause_bit v' lits ≡ true
  unfolding clause_bit
  clause_kept lits within true_ =
      let found = any_get (literal_value v) lits true_ in
      any_make (literal_value v') lits found.element found.inside
      (sym (literal_same found.element (All-contains (λ (l : ℤ). variable l ≤ vars) lits found.element within found.inside)) ∙ found.passes)

  pub holds_kept : (clauses : List (List ℤ)) → AreClauses vars clauses → holds v clauses ≡ true → holds v' clauses ≡ true
  unfolding holds
  holds_kept clauses are all = all_make (clause_bit v') clauses (λ lits c. clause_kept lits (are.each lits c).within (all_get (clause_bit v) clauses lits all c))
