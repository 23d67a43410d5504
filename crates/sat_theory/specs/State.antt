-- The state of a log after some of its lines.
use Rattle.std.specs.Prelude.{ℕ, ◌-◌, ◌==◌, Bool, if◌then◌else◌, ℤ, List, length, slice_get, Option, Some, None}
use Rattle.std.specs.List.{list_any}
use Rattle.sat_theory.specs.Formula.{Formula}
use Rattle.sat_theory.specs.Line.{Line, Add, Delete}

-- the live clauses by their ids, the formula's number of variables, and the greatest id so far
pub record State : Type 0 where
  pub live : ℕ → Option (List ℤ)
  pub vars : ℕ
  pub greatest : ℕ

-- the clauses of a list, with the ids 1, 2 and so on
abbrev pub by_id : List (List ℤ) → ℕ → Option (List ℤ)
by_id clauses id = if id == 0 then None else slice_get clauses (id - 1)

-- before the first line
abbrev pub start : Formula → State
start f = record { live = by_id f.clauses; vars = f.vars; greatest = length f.clauses }

abbrev pub with_clause : (ℕ → Option (List ℤ)) → ℕ → List ℤ → ℕ → Option (List ℤ)
with_clause live id lits k = if k == id then Some lits else live k

-- whether an id is one of ids
abbrev pub is_listed : List ℕ → ℕ → Bool
is_listed ids id = list_any (λ k. id == k) ids

abbrev pub without : (ℕ → Option (List ℤ)) → List ℕ → ℕ → Option (List ℤ)
without live ids k = if is_listed ids k then None else live k

-- after one more line
abbrev pub next : State → Line → State
next s (Add id lits hints) = record { live = with_clause s.live id lits; vars = s.vars; greatest = id }
next s (Delete id ids) = record { live = without s.live ids; vars = s.vars; greatest = s.greatest }
