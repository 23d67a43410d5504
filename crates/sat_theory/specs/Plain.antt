-- The data of `plain`, as contracts see them.
use Rattle.std.specs.Prelude.{ℕ, ◌==◌, if◌then◌else◌, ℤ, List, [], ◌∷◌, not, filter, Option, Some, None}
use Rattle.sat_theory.specs.State.{State, is_listed}

-- a clause with its id
pub record Numbered : Type 0 where
  pub id : ℕ
  pub lits : List ℤ

-- the first clause with this id
unfoldable pub live_in : List Numbered → ℕ → Option (List ℤ)
live_in [] id = None
live_in (c ∷ cs) id = if id == c.id then Some c.lits else live_in cs id

abbrev pub not_listed : List ℕ → List Numbered → List Numbered
not_listed ids clauses = filter (λ (c : Numbered). not (is_listed ids c.id)) clauses

pub record PlainValue : Type 0 where
  pub clauses : List Numbered
  pub vars : ℕ
  pub greatest : ℕ

abbrev pub state_of : PlainValue → State
state_of p = record { live = live_in p.clauses; vars = p.vars; greatest = p.greatest }
