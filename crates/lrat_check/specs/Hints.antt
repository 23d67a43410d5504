-- The first fault of hints, which are checked one by one.
use Rattle.std.specs.Prelude.{ℕ, ℤ, Bool, not, List, [], ◌∷◌, filter, Option, Some, None, Result, Ok, Err}
use Rattle.sat_theory.specs.Formula.{opposite}
use Rattle.sat_theory.specs.Holding.{with_literal}
use Rattle.lrat_check.specs.declared.error.CheckError.{CheckError}
use Rattle.lrat_check.specs.declared.error.CheckError.TheVariants.{UnknownId, NotUnit, NoConflict}

-- the literals of a clause outside a set
abbrev pub outside : (ℤ → Bool) → List ℤ → List ℤ
outside set clause = filter (λ l. not (set l)) clause

-- a clause with no literal outside is a conflict, so its hint has to be the last
abbrev pub fault_at_conflict : ℕ → List ℕ → Option CheckError
fault_at_conflict hint [] = None
fault_at_conflict hint (h ∷ hs) = Some (NotUnit hint)

-- by the number of literals outside: the opposite of a single one joins the set, and two are a fault
abbrev pub fault_at : ℕ → List ℕ → (ℤ → Bool) → ((ℤ → Bool) → Option CheckError) → List ℤ → Option CheckError
fault_at hint hints set next [] = fault_at_conflict hint hints
fault_at hint hints set next (l ∷ []) = next (with_literal set (opposite l))
fault_at hint hints set next (l ∷ m ∷ ls) = Some (NotUnit hint)

abbrev pub fault_in : ℕ → List ℕ → (ℤ → Bool) → ((ℤ → Bool) → Option CheckError) → Option (List ℤ) → Option CheckError
fault_in hint hints set next None = Some (UnknownId hint)
fault_in hint hints set next (Some clause) = fault_at hint hints set next (outside set clause)

-- The first fault: a hint isn't the id of a live clause, or its clause isn't unit, or there is no conflict after
-- the last hint.
unfoldable pub hints_fault : (ℕ → Option (List ℤ)) → (ℤ → Bool) → List ℕ → Option CheckError
hints_fault live set [] = Some NoConflict
hints_fault live set (hint ∷ hints) = fault_in hint hints set (λ s. hints_fault live s hints) (live hint)

-- the fault that a check reports
abbrev pub error_in : Result (Unit {0}) CheckError → Option CheckError
error_in (Ok done) = None
error_in (Err e) = Some e
