-- The four parts of a miter, added one after the other.
use Rattle.std.proofs.Common.{◌≡◌, ℕ, ◌+◌, ◌≤◌, ◌<◌, List, [], ◌∷◌, ◌++◌, All, length, refl, ap, ◌∙◌, arith}
use Rattle.std.specs.List.{flat_map}
use Rattle.sat_theory.specs.Formula.{Formula}
use Rattle.clause_core.specs.declared.raw.RawLit.{RawLit}
use Rattle.clause_core.specs.Clauses.{written, IsWithin}
use Rattle.net_theory.specs.Net.{Net}
use Rattle.equiv_theory.specs.Miter.{first_variable, second_variable, first_difference, variables, gates_rows, sinks_rows, some_row, miter_rows, miter}
use Rattle.equiv_theory.specs.FormulaLaws.{some_row_of, miter_few}
use Rattle.equiv_core.specs.Rows.{IsAdded}
use Rattle.equiv_core.specs.RowLaws.{added_both, row_within}
use Rattle.equiv_core.specs.Limits.{AreSmall}

pub some_within : (vars d count : ℕ) (row : List RawLit) → row ≡ some_row d count → 1 ≤ d → d + count ≤ vars + 1 → All (IsWithin vars) row
some_within vars d count row is some room = rw is (row_within vars (some_row d count) (some_row_of vars d count some room))

-- the clauses once all four parts were added to an empty formula
pub miter_added : (first second : Net) (a b c d e : Formula) →
    a ≡ record { vars = variables first second; clauses = [] } →
    IsAdded a b (gates_rows (first_variable first) (first.sources + 1) first.gates) →
    IsAdded b c (gates_rows (second_variable first second) (second.sources + 1) second.gates) →
    IsAdded c d (sinks_rows (first_variable first) (second_variable first second) (first_difference first second) first.sinks second.sinks) →
    IsAdded d e (some_row (first_difference first second) (length first.sinks) ∷ []) →
    e ≡ miter first second
unfolding miter miter_rows
miter_added first second a b c d e none one two three four =
    let all = added_both a b e _ _ one (added_both b c e _ _ two (added_both c d e _ _ three four)) in
    let vars : e.vars ≡ variables first second = all.vars ∙ ap (λ (f : Formula). f.vars) none in
    let clauses = all.clauses ∙ ap (λ (f : Formula). f.clauses ++ flat_map written (miter_rows first second)) none in
    rw (← vars, ← clauses) refl

pub few_clauses : (first second : Net) (e : Formula) → AreSmall first second → e ≡ miter first second → length e.clauses < 2000000000
few_clauses first second e small is = rw is (omega (arith, miter_few first second, small.first_gates, small.second_gates, small.small.sinks))
