-- The searches that check a chain decide what the definitions say.
use Rattle.std.proofs.Common.{◌≡◌, ℕ, zero, suc, ◌+◌, ◌^◌, ◌<◌, ◌≤◌, Bool, true, false, cond, List, [], ◌∷◌, ◌++◌, length, Option, Some, None, refl, sym, ap, ◌∙◌, subst, arith, inl, inr}
use Rattle.std.specs.List.{AllByRecursion}
use Rattle.std.proofs.lemmas.Bool.{cases_lt}
use Rattle.std.proofs.lemmas.List.Elements.{recursion_from_All}
use Rattle.chain_theory.specs.Operator.{Basis}
use Rattle.chain_theory.specs.Specification.{Specification}
use Rattle.chain_theory.specs.Chain.{Step, Chain}
use Rattle.chain_theory.specs.Agreement.{is_met, output_value}
use Rattle.chain_theory.specs.Difference.{IsComparison}
use Rattle.chain_theory.specs.DifferenceLaws.{one_comparison}
use Rattle.chain_core.specs.Outside.{IsBasisCheck, outside_from}
use Rattle.cert_theory.specs.Difference.{missed_row, or_later, missed_output, difference_of}

-- ---- operators outside the basis

abbrev IsInside : Basis → Step → Type 0
IsInside basis s = basis s.op ≡ true

outside_none : (basis : Basis) (place : ℕ) (ss : List Step) → AllByRecursion (IsInside basis) ss → outside_from basis place ss ≡ None
unfolding outside_from
outside_none basis place [] all = refl
outside_none basis place (s ∷ ss) all = ap (λ (b : Bool). cond b (outside_from basis (place + 1) ss) (Some place)) all.0 ∙ outside_none basis (place + 1) ss all.1

outside_some : (basis : Basis) (place : ℕ) (prefix : List Step) (s : Step) (following : List Step) →
    AllByRecursion (IsInside basis) prefix → basis s.op ≡ false → outside_from basis place (prefix ++ s ∷ following) ≡
    Some (place + length prefix)
unfolding outside_from
outside_some basis place [] s following all out =
    let same : place ≡ place + 0 = omega arith in
    ap (λ (b : Bool). cond b (outside_from basis (place + 1) following) (Some place)) out ∙ ap (λ (p : ℕ). Some p) same
outside_some basis place (t ∷ prefix) s following all out =
    let same : place + 1 + length prefix ≡ place + suc (length prefix) = omega arith in
    ap (λ (b : Bool). cond b (outside_from basis (place + 1) (prefix ++ s ∷ following)) (Some place)) all.0
    ∙ outside_some basis (place + 1) prefix s following all.1 out
    ∙ ap (λ (p : ℕ). Some p) same

-- for a chain that is checked, the search gives this result
pub outside_is : (basis : Basis) (c : Chain) (x : Option ℕ) → IsBasisCheck basis c x → outside_from basis (c.n + 1) c.steps ≡ x
outside_is basis c None over = outside_none basis (c.n + 1) c.steps (recursion_from_All (IsInside basis) c.steps over)
outside_is basis c (Some place) first =
    ap (outside_from basis (c.n + 1)) first.steps
    ∙ outside_some basis (c.n + 1) first.prefix first.step first.following (recursion_from_All (IsInside basis) first.prefix first.inside) first.outside
    ∙ ap (λ (p : ℕ). Some p) (sym first.place_is)

-- ---- rows that differ

abbrev IsMet : Chain → Specification → ℕ → ℕ → Type 0
IsMet c s h t = is_met (s.cell h t) (output_value c h t) ≡ true

-- the result of a search along rows
record RowFound (c : Chain) (s : Specification) (h t rows found : ℕ) : Type 0 where
  from : t ≤ found
  to : found < t + rows
  missed : is_met (s.cell h found) (output_value c h found) ≡ false
  before : (u : ℕ) → t ≤ u → u < found → IsMet c s h u

abbrev IsRow : Chain → Specification → ℕ → ℕ → ℕ → Option ℕ → Type 0
IsRow c s h t rows None = (u : ℕ) → t ≤ u → u < t + rows → IsMet c s h u
IsRow c s h t rows (Some found) = RowFound c s h t rows found

-- a statement about this number and those above it
from_here : (P : ℕ → Type 0) (t u : ℕ) → P t → (t + 1 ≤ u → P u) → t ≤ u → P u
from_here P t u here above low = elim (cases_lt t u) [
  | inl more ↦ above (omega arith)
  | inr past ↦ let same : t ≡ u = omega arith in subst P same here
]

row_on : (c : Chain) (s : Specification) (h t rows : ℕ) (x : Option ℕ) → IsMet c s h t → IsRow c s h (t + 1) rows x → IsRow c s h t (suc rows) x
row_on c s h t rows None here more = λ u low high. from_here (IsMet c s h) t u here (λ above. more u above (omega arith)) low
row_on c s h t rows (Some found) here more = record {
  from = omega (arith, more.from);
  to = omega (arith, more.to);
  missed = more.missed;
  before = λ u low high. from_here (IsMet c s h) t u here (λ above. more.before u above high) low;
}

row_by : (c : Chain) (s : Specification) (h t rows : ℕ) (b : Bool) → is_met (s.cell h t) (output_value c h t) ≡ b →
    IsRow c s h (t + 1) rows (missed_row c s h (t + 1) rows) →
    IsRow c s h t (suc rows) (cond b (missed_row c s h (t + 1) rows) (Some t))
row_by c s h t rows true is more = row_on c s h t rows (missed_row c s h (t + 1) rows) is more
row_by c s h t rows false is more = record { from = omega arith; to = omega arith; missed = is; before = λ u low high. absurd (omega arith) }

row_found : (c : Chain) (s : Specification) (h t rows : ℕ) → IsRow c s h t rows (missed_row c s h t rows)
unfolding missed_row
row_found c s h t zero = λ u low high. absurd (omega arith)
row_found c s h t (suc rows) = row_by c s h t rows (is_met (s.cell h t) (output_value c h t)) refl (row_found c s h (t + 1) rows)

-- ---- outputs that differ

-- all rows of an output agree
abbrev AreMet : Chain → Specification → ℕ → Type 0
AreMet c s h = (u : ℕ) → u < 2 ^ s.inputs → IsMet c s h u

record OutputFound (c : Chain) (s : Specification) (h outputs : ℕ) (at : ℕ × ℕ) : Type 0 where
  from : h ≤ at.0
  to : at.0 < h + outputs
  row : at.1 < 2 ^ s.inputs
  missed : is_met (s.cell at.0 at.1) (output_value c at.0 at.1) ≡ false
  outputs_before : (g : ℕ) → h ≤ g → g < at.0 → AreMet c s g
  rows_before : (u : ℕ) → u < at.1 → IsMet c s at.0 u

abbrev IsOutput : Chain → Specification → ℕ → ℕ → Option (ℕ × ℕ) → Type 0
IsOutput c s h outputs None = (g : ℕ) → h ≤ g → g < h + outputs → AreMet c s g
IsOutput c s h outputs (Some at) = OutputFound c s h outputs at

output_on : (c : Chain) (s : Specification) (h outputs : ℕ) (x : Option (ℕ × ℕ)) → AreMet c s h → IsOutput c s (h + 1) outputs x → IsOutput c s h (suc outputs) x
output_on c s h outputs None here more = λ g low high. from_here (AreMet c s) h g here (λ above. more g above (omega arith)) low
output_on c s h outputs (Some at) here more = record {
  from = omega (arith, more.from);
  to = omega (arith, more.to);
  row = more.row;
  missed = more.missed;
  outputs_before = λ g low high. from_here (AreMet c s) h g here (λ above. more.outputs_before g above high) low;
  rows_before = more.rows_before;
}

output_by : (c : Chain) (s : Specification) (h outputs : ℕ) (x : Option ℕ) (later : Option (ℕ × ℕ)) →
    IsRow c s h 0 (2 ^ s.inputs) x → IsOutput c s (h + 1) outputs later →
    IsOutput c s h (suc outputs) (or_later h x later)
output_by c s h outputs None later row more = output_on c s h outputs later (λ u low. row u (omega arith) (omega arith)) more
output_by c s h outputs (Some t) later row more = record {
  from = omega arith;
  to = omega arith;
  row = omega (arith, row.to);
  missed = row.missed;
  outputs_before = λ g low high. absurd (omega arith);
  rows_before = λ u high. row.before u (omega arith) high;
}

output_found : (c : Chain) (s : Specification) (h outputs : ℕ) → IsOutput c s h outputs (missed_output c s h outputs)
unfolding missed_output
output_found c s h zero = λ g low high. absurd (omega arith)
output_found c s h (suc outputs) = output_by c s h outputs (missed_row c s h 0 (2 ^ s.inputs)) (missed_output c s (h + 1) outputs) (row_found c s h 0 (2 ^ s.inputs)) (output_found c s (h + 1) outputs)

compared : (c : Chain) (s : Specification) (x : Option (ℕ × ℕ)) → c.n ≡ s.inputs → length c.outs ≡ s.outputs → IsOutput c s 1 s.outputs x → IsComparison c s x
compared c s None inputs outputs all = record { inputs = inputs; outputs = outputs; cells = λ h t from to low. all h from (omega arith) t low }
compared c s (Some at) inputs outputs found = record {
  output_from = found.from;
  output = omega (arith, found.to);
  row = found.row;
  missed = found.missed;
  outputs_before = λ g u from low high. found.outputs_before g from low u high;
  rows_before = found.rows_before;
}

-- the result of the search is the first difference
pub difference_compares : (c : Chain) (s : Specification) → c.n ≡ s.inputs → length c.outs ≡ s.outputs → IsComparison c s (difference_of c s)
difference_compares c s inputs outputs = compared c s (difference_of c s) inputs outputs (output_found c s 1 s.outputs)

-- and there is no other
pub difference_is : (c : Chain) (s : Specification) (x : Option (ℕ × ℕ)) → c.n ≡ s.inputs → length c.outs ≡ s.outputs → IsComparison c s x → difference_of c s ≡ x
difference_is c s x inputs outputs is = one_comparison c s (difference_of c s) x (difference_compares c s inputs outputs) is
