-- The numbering of the nodes of one of two nets, and clauses that are added.
use Rattle.std.specs.Prelude.{◌≡◌, ℕ, ◌+◌, ◌≤◌, ◌<◌, List, ◌++◌}
use Rattle.std.specs.List.{flat_map}
use Rattle.sat_theory.specs.Formula.{Formula}
use Rattle.clause_core.specs.declared.raw.RawLit.{RawLit}
use Rattle.clause_core.specs.Clauses.{written}
use Rattle.equiv_theory.specs.Miter.{variable_at}
use Rattle.equiv_core.specs.declared.numbering.NetNumbering.{NetNumbering}

-- the variable of a node
abbrev pub numbered : NetNumbering → ℕ → ℕ
numbered n node = variable_at n.sources n.before node

-- the nodes from 1 on and below the end have variables from 1 to `vars`
pub record HasRoom (n : NetNumbering) (vars : ℕ) : Type 0 where
  pub room : n.end + n.before ≤ vars + 1
  pub few : vars < 1000000000

-- the written clauses of `rows` are added, and nothing else changes
pub record IsAdded (old new : Formula) (rows : List (List RawLit)) : Type 0 where
  pub vars : new.vars ≡ old.vars
  pub clauses : new.clauses ≡ old.clauses ++ flat_map written rows
