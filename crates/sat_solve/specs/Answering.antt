-- Facts about a solver's answer, by cases.
use Rattle.std.specs.Prelude.{ℕ, ◌+◌, Bool, List, length}
use Rattle.sat_theory.specs.Formula.{Formula}
use Rattle.sat_theory.specs.Line as theory
use Rattle.sat_solve.specs.declared.solver.Solved.{Solved}
use Rattle.sat_solve.specs.declared.solver.Solved.TheVariants.{Sat, Unsat, Open}

-- P holds of the bits of the assignment, or of the lines of the log, if the answer is of this kind
abbrev pub IfSat : Solved → (List Bool → Type 0) → Type 0
IfSat (Sat bits) P = P bits
IfSat (Unsat log) P = Unit {0}
IfSat (Open log) P = Unit {0}

abbrev pub IfUnsat : Solved → (List theory.Line → Type 0) → Type 0
IfUnsat (Sat bits) P = Unit {0}
IfUnsat (Unsat log) P = P log
IfUnsat (Open log) P = Unit {0}

abbrev pub IfOpen : Solved → (List theory.Line → Type 0) → Type 0
IfOpen (Sat bits) P = Unit {0}
IfOpen (Unsat log) P = Unit {0}
IfOpen (Open log) P = P log

abbrev pub IfLogged : Solved → (List theory.Line → Type 0) → Type 0
IfLogged (Sat bits) P = Unit {0}
IfLogged (Unsat log) P = P log
IfLogged (Open log) P = P log

abbrev pub IsDecided : Solved → Type 0
IsDecided (Sat bits) = Unit {0}
IsDecided (Unsat log) = Unit {0}
IsDecided (Open log) = ⊥

-- How many additions a log may have past the budget of its search: a shorter clause for each one of the formula, a
-- clause learnt at each decision level that was open when the budget was spent, and three more, such as the empty one.
abbrev pub most_past : Formula → ℕ
most_past f = length f.clauses + f.vars + 3
