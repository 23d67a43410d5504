-- The fault of a log's line is never that memory runs out.
use Rattle.std.proofs.Common.{◌≡◌, ◌||◌, ℕ, ℤ, Bool, true, false, cond, List, [], ◌∷◌, Option, Some, None}
use Rattle.std.specs.Prelude.{nat_le, is_none}
use Rattle.sat_theory.specs.Formula.{opposite}
use Rattle.sat_theory.specs.Line.{Line, Add, Delete}
use Rattle.sat_theory.specs.State.{State}
use Rattle.sat_theory.specs.Holding.{among, with_literal}
use Rattle.lrat_check.specs.declared.error.CheckError.{CheckError}
use Rattle.lrat_check.specs.declared.error.CheckError.TheVariants.{Memory, IdNotGreater, UnknownDelete}
use Rattle.lrat_check.specs.Hints.{outside, fault_at_conflict, fault_at, fault_in, hints_fault}
use Rattle.lrat_check.specs.Judging.{first_above, variables_then, no_ids, with_id, deletion_fault, line_fault}

abbrev IsReported : Option CheckError → Type 0
IsReported fault = fault ≡ Some Memory → ⊥

by_test : (b : Bool) (first later : Option CheckError) → IsReported first → IsReported later → IsReported (cond b first later)
by_test true first later a b e = a e
by_test false first later a b e = b e

at_conflict : (hint : ℕ) (hints : List ℕ) → IsReported (fault_at_conflict hint hints)
at_conflict hint [] e = cc
at_conflict hint (h ∷ hs) e = cc

at_clause : (hint : ℕ) (hints : List ℕ) (set : ℤ → Bool) (later : (ℤ → Bool) → Option CheckError) (rest : List ℤ) →
    ((s : ℤ → Bool) → IsReported (later s)) → IsReported (fault_at hint hints set later rest)
at_clause hint hints set later [] each e = at_conflict hint hints e
at_clause hint hints set later (l ∷ []) each e = each (with_literal set (opposite l)) e
at_clause hint hints set later (l ∷ m ∷ ls) each e = cc

at_hint : (hint : ℕ) (hints : List ℕ) (set : ℤ → Bool) (later : (ℤ → Bool) →
    Option CheckError) (found : Option (List ℤ)) → ((s : ℤ → Bool) → IsReported (later s)) →
    IsReported (fault_in hint hints set later found)
at_hint hint hints set later None each e = cc
at_hint hint hints set later (Some clause) each e = at_clause hint hints set later (outside set clause) each e

of_hints : (live : ℕ → Option (List ℤ)) (set : ℤ → Bool) (hints : List ℕ) → IsReported (hints_fault live set hints)
unfolding hints_fault
of_hints live set [] e = cc
of_hints live set (hint ∷ hints) e = at_hint hint hints set (λ s. hints_fault live s hints) (live hint) (λ s. of_hints live s hints) e

of_variables : (above : Option ℕ) (later : Option CheckError) → IsReported later → IsReported (variables_then above later)
of_variables None later reported e = reported e
of_variables (Some v) later reported e = cc

of_ids : (live : ℕ → Option (List ℤ)) (seen : ℕ → Bool) (ids : List ℕ) → IsReported (deletion_fault live seen ids)
unfolding deletion_fault
of_ids live seen [] e = cc
of_ids live seen (id ∷ ids) e = by_test (is_none (live id) || seen id) (Some (UnknownDelete id)) (deletion_fault live (with_id seen id) ids) (λ f. cc) (of_ids live (with_id seen id) ids) e

pub of_line : (s : State) (l : Line) → IsReported (line_fault s l)
of_line s (Add id lits hints) e =
    by_test (nat_le id s.greatest) (Some (IdNotGreater id)) (variables_then (first_above s.vars lits) (hints_fault s.live (among lits) hints))
    (λ f. cc)
    (of_variables (first_above s.vars lits) (hints_fault s.live (among lits) hints) (of_hints s.live (among lits) hints))
    e
of_line s (Delete id ids) e = of_ids s.live no_ids ids e
