-- The first fault of a line; None if it holds.
use Rattle.std.specs.Prelude.{ℕ, ℤ, Bool, false, ◌||◌, ◌==◌, nat_lt, nat_le, is_none, if◌then◌else◌, List, [], ◌∷◌, map}
use Rattle.std.specs.Prelude.{Option, Some, None}
use Rattle.std.specs.List.{find}
use Rattle.sat_theory.specs.Formula.{variable}
use Rattle.sat_theory.specs.Line.{Line, Add, Delete}
use Rattle.sat_theory.specs.State.{State}
use Rattle.sat_theory.specs.Holding.{among}
use Rattle.lrat_check.specs.declared.error.CheckError.{CheckError}
use Rattle.lrat_check.specs.declared.error.CheckError.TheVariants.{UnknownDelete, IdNotGreater, UnknownVariable}
use Rattle.lrat_check.specs.Hints.{hints_fault}

-- the first variable of lits that is above vars
abbrev pub first_above : ℕ → List ℤ → Option ℕ
first_above vars lits = find (λ v. nat_lt vars v) (map variable lits)

abbrev pub variables_then : Option ℕ → Option CheckError → Option CheckError
variables_then None next = next
variables_then (Some v) next = Some (UnknownVariable v)

-- The id is checked first, then the variables, then the hints.
abbrev pub addition_fault : State → ℕ → List ℤ → List ℕ → Option CheckError
addition_fault s id lits hints = if nat_le id s.greatest then Some (IdNotGreater id)
    else variables_then (first_above s.vars lits) (hints_fault s.live (among lits) hints)

-- A set of ids is its membership test.
abbrev pub no_ids : ℕ → Bool
no_ids k = false

abbrev pub with_id : (ℕ → Bool) → ℕ → ℕ → Bool
with_id seen id k = k == id || seen k

-- the id isn't live, or was seen
unfoldable pub deletion_fault : (ℕ → Option (List ℤ)) → (ℕ → Bool) → List ℕ → Option CheckError
deletion_fault live seen [] = None
deletion_fault live seen (id ∷ ids) = if is_none (live id) || seen id then Some (UnknownDelete id)
    else deletion_fault live (with_id seen id) ids

abbrev pub line_fault : State → Line → Option CheckError
line_fault s (Add id lits hints) = addition_fault s id lits hints
line_fault s (Delete id ids) = deletion_fault s.live no_ids ids
