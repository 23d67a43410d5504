-- A simplified clause is a clause of the formula: its variables are different and within the number of
-- variables.
use Rattle.std.proofs.Common.{◌≡◌, ◌≢◌, ◌⊎◌, ℕ, zero, suc, ◌<◌, ◌≤◌, Bool, true, false, not, List, [], ◌∷◌, ◌++◌, map}
use Rattle.std.proofs.Common.{get_or, Option, Some, None, Contains, refl, sym, ap, ◌∙◌, subst, arith, inl, inr, ⊎_elim}
use Rattle.std.specs.Prelude.{ℤ, pos, negsuc}
use Rattle.std.specs.List.{flat_map}
use Rattle.std.specs.Ordering.{int_eq}
use Rattle.std.proofs.lemmas.Bool.{cases_Bool, both_ways}
use Rattle.std.proofs.lemmas.Bool.Decides.{Decides-int_eq}
use Rattle.std.proofs.lemmas.List.Elements.{All-nil, All-push, Contains-get_or, Contains-append_cases}
use Rattle.std.proofs.lemmas.List.Quantifiers.{all_pairs_push}
use Rattle.sat_theory.specs.Formula.{signed, variable, IsClause, IsWithin, Formula, IsFormula}
use Rattle.clause_core.specs.declared.raw.RawLit.{RawLit}
use Rattle.clause_core.specs.declared.raw.RawLit.TheVariants.{Fixed, Var}
use Rattle.clause_core.specs.Clauses.{has, simplified, listed, written}
use Rattle.clause_core.specs.Holds.{any_make, contains_head, contains_tail, contains_cases, flat_map_get}

-- the variable of a raw literal is one of 1 to vars
abbrev pub IsOf : ℕ → RawLit → Type 0
IsOf vars (Fixed bit) = Unit {0}
IsOf vars (Var x bit) = (1 ≤ x) × (x ≤ vars)

abbrev pub AreOf : ℕ → List RawLit → Type 0
AreOf vars [] = Unit {0}
AreOf vars (raw ∷ raws) = IsOf vars raw × AreOf vars raws

pub are_of-map : {X : Type 0} (vars : ℕ) (f : X → RawLit) (xs : List X) → ((x : X) → Contains xs x → IsOf vars (f x)) → AreOf vars (map f xs)
are_of-map vars f [] each = tt
are_of-map vars f (x ∷ xs) each = (each x (contains_head x xs), are_of-map vars f xs (λ y c. each y (contains_tail x y xs c)))

-- a clause of a formula with the variables 1 to vars
pub record IsClauseOf (vars : ℕ) (lits : List ℤ) : Type 0 where
  pub clause : IsClause lits
  pub within : IsWithin vars lits

signed_variable : (x : ℕ) (bit : Bool) → variable (signed x bit) ≡ x
signed_variable zero true = refl
signed_variable zero false = refl
signed_variable (suc x) true = refl
signed_variable (suc x) false = refl

-- a literal is its variable with one sign or the other
which_sign : (lit : ℤ) → (lit ≡ signed (variable lit) true) ⊎ (lit ≡ signed (variable lit) false)
which_sign (pos n) = inl refl
which_sign (negsuc n) = inr refl

absent : (lits : List ℤ) (lit other : ℤ) → Contains lits other → has lits lit ≡ false → lit ≡ other → ⊥
unfolding has
absent lits lit other c e same = both_ways (has lits lit) e (any_make (int_eq lit) lits other c ((Decides-int_eq lit other).1 same))

sign_absent : (lits : List ℤ) (x : ℕ) (bit : Bool) → has lits (signed x bit) ≡ false → has lits (signed x (not bit)) ≡ false → (has lits (signed x true) ≡ false) × (has lits (signed x false) ≡ false)
sign_absent lits x true e e' = (e, e')
sign_absent lits x false e e' = (e', e)

-- a variable neither literal of which is among lits differs from those of lits
new_variable : (lits : List ℤ) (x : ℕ) (bit : Bool) (other : ℤ) → has lits (signed x bit) ≡ false →
    has lits (signed x (not bit)) ≡ false → Contains lits other → variable other ≢ variable (signed x bit)
new_variable lits x bit other e e' c = λ same.
    let is : variable other ≡ x = same ∙ signed_variable x bit in
    let (none_true, none_false) = sign_absent lits x bit e e' in
    ⊎_elim
    (λ (s : other ≡ signed (variable other) true). absent lits (signed x true) other c none_true (sym (s ∙ ap (λ (y : ℕ). signed y true) is)))
    (λ (s : other ≡ signed (variable other) false). absent lits (signed x false) other c none_false (sym (s ∙ ap (λ (y : ℕ). signed y false) is)))
    (which_sign other)

pushed_clause : (vars : ℕ) (lits : List ℤ) (x : ℕ) (bit : Bool) → 1 ≤ x → x ≤ vars → has lits (signed x bit) ≡ false →
    has lits (signed x (not bit)) ≡ false → IsClauseOf vars lits → IsClauseOf vars (lits ++ signed x bit ∷ [])
pushed_clause vars lits x bit some low e e' is = record {
  clause = record {
    literals = All-push (λ l. 0 < variable l) lits (signed x bit) is.clause.literals (rw (signed_variable x bit) (omega arith));
    differ = all_pairs_push (λ l m. variable l ≢ variable m) lits (signed x bit) is.clause.differ (λ k d k_low. new_variable lits x bit (get_or lits k d) e e' (Contains-get_or lits k d k_low));
  };
  within = All-push (λ l. variable l ≤ vars) lits (signed x bit) is.within (rw (signed_variable x bit) low);
}

abbrev IsClauseIf : ℕ → Option (List ℤ) → Type 0
IsClauseIf vars None = Unit {0}
IsClauseIf vars (Some lits) = IsClauseOf vars lits

simplified_clause : (vars : ℕ) (raws : List RawLit) (lits : List ℤ) → AreOf vars raws → IsClauseOf vars lits → IsClauseIf vars (simplified lits raws)
unfolding simplified
simplified_clause vars [] lits are is = is
simplified_clause vars (Fixed true ∷ raws) lits are is = tt
simplified_clause vars (Fixed false ∷ raws) lits are is = simplified_clause vars raws lits are.1 is
simplified_clause vars (Var x bit ∷ raws) lits are is = ⊎_elim
    (λ (e : has lits (signed x (not bit)) ≡ true). rw e tt)
    (λ (e' : has lits (signed x (not bit)) ≡ false). rw e' (⊎_elim
    (λ (e : has lits (signed x bit) ≡ true). rw e (simplified_clause vars raws lits are.1 is))
    (λ (e : has lits (signed x bit) ≡ false). rw e (simplified_clause vars raws (lits ++ signed x bit ∷ []) are.1 (pushed_clause vars lits x bit are.0.0 are.0.1 e e' is)))
    (cases_Bool (has lits (signed x bit)))))
    (cases_Bool (has lits (signed x (not bit))))

-- all are clauses of a formula with the variables 1 to vars
pub record AreClauses (vars : ℕ) (clauses : List (List ℤ)) : Type 0 where
  pub each : (lits : List ℤ) → Contains clauses lits → IsClauseOf vars lits

pub no_clauses : (vars : ℕ) → AreClauses vars []
no_clauses vars = record { each = λ lits c. absurd (omega (arith, c.1)) }

listed_clauses : (vars : ℕ) (o : Option (List ℤ)) → IsClauseIf vars o → AreClauses vars (listed o)
listed_clauses vars None is = no_clauses vars
listed_clauses vars (Some lits) is = record {
  each = λ other c. ⊎_elim (λ (e : lits ≡ other). subst (IsClauseOf vars) e is) (λ (none : Contains [] other). absurd (omega (arith, none.1))) (contains_cases lits other [] c);
}

pub written_clauses : (vars : ℕ) (raws : List RawLit) → AreOf vars raws → AreClauses vars (written raws)
unfolding written
written_clauses vars raws are = listed_clauses vars (simplified [] raws) (simplified_clause vars raws [] are record {
  clause = record { literals = All-nil (λ l. 0 < variable l); differ = λ i j d low high. absurd (omega arith) };
  within = All-nil (λ l. variable l ≤ vars);
})

pub clauses_each : {X : Type 0} (vars : ℕ) (f : X → List (List ℤ)) (xs : List X) → ((x : X) → Contains xs x → AreClauses vars (f x)) → AreClauses vars (flat_map f xs)
clauses_each vars f xs are = record { each = λ lits c. let from = flat_map_get f xs lits c in (are from.source from.inside).each lits from.gives }

pub clauses_both : (vars : ℕ) (xs ys : List (List ℤ)) → AreClauses vars xs → AreClauses vars ys → AreClauses vars (xs ++ ys)
clauses_both vars xs ys one two = record {
  each = λ lits c. ⊎_elim (λ (first : Contains xs lits). one.each lits first) (λ (second : Contains ys lits). two.each lits second) (Contains-append_cases xs ys lits c);
}

pub are_formula : (f : Formula) → AreClauses f.vars f.clauses → IsFormula f
are_formula f are = record {
  clauses = λ k d low. (are.each (get_or f.clauses k d) (Contains-get_or f.clauses k d low)).clause;
  variables = λ k d low. (are.each (get_or f.clauses k d) (Contains-get_or f.clauses k d low)).within;
}
