-- A clause is appended to a formula.
use Rattle.std.proofs.Common.{◌≡◌, ℕ, ◌+◌, ◌<◌, ℤ, List, [], ◌∷◌, ◌++◌, length, arith, length-append}
use Rattle.std.proofs.lemmas.List.Elements.{All-push}
use Rattle.sat_theory.specs.Formula.{IsClause, IsWithin}
use Rattle.cnf_core.specs.Bounds.{IsCnf}

-- a clause over the variables may be added, while there is room
pub cnf_pushed : (vars : ℕ) (old new : List (List ℤ)) (clause : List ℤ) → new ≡ old ++ clause ∷ [] →
    IsCnf (record { vars = vars; clauses = old }) → IsClause clause → IsWithin vars clause →
    length old + 1 < 2000000000 → IsCnf (record { vars = vars; clauses = new })
cnf_pushed vars old new clause is before is_clause within few = rw is (record {
  formula = record {
    clauses = All-push IsClause old clause before.formula.clauses is_clause;
    variables = All-push (IsWithin vars) old clause before.formula.variables within;
  };
  few_variables = before.few_variables;
  few_clauses = rw length-append (omega arith);
})
