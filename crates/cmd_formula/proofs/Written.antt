-- The pieces of the texts, one after the other.
use Rattle.std.proofs.Common.{◌≡◌, ℕ, ℤ, List, ◌++◌, length, append_assoc}
use Rattle.std.specs.Prelude.{codes, decimal}
use Rattle.std.specs.List.{flat_map}
use Rattle.std.proofs.lemmas.Grind.{common_steps}
use Rattle.sat_theory.specs.Formula.{Formula}
use Rattle.lrat_text.specs.Spelling.{literal_item}
use Rattle.cmd_formula.specs.Dimacs.{clause_text, dimacs_text}

pub written_clause : (old : List ℕ) (lits : List ℤ) → (old ++ flat_map literal_item lits) ++ codes "0\n" ≡ old ++ clause_text lits
written_clause old lits = simp append_assoc

pub written_formula : (old : List ℕ) (f : Formula) →
    (((((old ++ codes "p cnf ") ++ decimal f.vars) ++ codes " ") ++ decimal (length f.clauses)) ++ codes "\n") ++
    flat_map clause_text f.clauses ≡ old ++ dimacs_text f
unfolding dimacs_text
written_formula old f = simp append_assoc

pub ruleset written = (common_steps, written_clause, written_formula)
