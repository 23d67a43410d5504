-- A formula in DIMACS, and a log as plain LRAT.
use Rattle.std.specs.Prelude.{ℕ, ◌+◌, ℤ, List, [], ◌∷◌, ◌++◌, length, codes, decimal, Option, Some, None}
use Rattle.std.specs.List.{flat_map}
use Rattle.sat_theory.specs.Formula.{Formula}
use Rattle.sat_theory.specs.Line.{Line, Add}
use Rattle.lrat_text.specs.Spelling.{literal_item, line_text}

-- a clause: its literals, and 0
abbrev pub clause_text : List ℤ → List ℕ
clause_text lits = flat_map literal_item lits ++ codes "0\n"

-- The numbers of variables and of clauses, and each clause on a line, in the order of their ids.
-- Example: "p cnf 2 1\n1 -2 0\n" is the clause 1, -2 over two variables.
unfoldable pub dimacs_text : Formula → List ℕ
dimacs_text f = codes "p cnf " ++ decimal f.vars ++ codes " " ++ decimal (length f.clauses) ++ codes "\n" ++
    flat_map clause_text f.clauses

-- each line of a log on a line
abbrev pub lrat_text : List Line → List ℕ
lrat_text log = flat_map line_text log

-- the number of the first empty clause, where the first clause has this number
unfoldable pub empty_from : ℕ → List (List ℤ) → Option ℕ
empty_from number [] = None
empty_from number ([] ∷ clauses) = Some number
empty_from number ((l ∷ lits) ∷ clauses) = empty_from (number + 1) clauses

-- the line that names a clause as the empty one, after all clauses
abbrev pub naming_by : ℕ → Option ℕ → List Line
naming_by count None = []
naming_by count (Some number) = Add (count + 1) [] (number ∷ []) ∷ []

-- A log over a formula as a checker needs it: one without lines names the formula's empty clause.
abbrev pub plain_log : Formula → List Line → List Line
plain_log f [] = naming_by (length f.clauses) (empty_from 1 f.clauses)
plain_log f (l ∷ log) = l ∷ log
