-- The first difference is unique.
use Rattle.std.specs.Prelude.{◌≡◌, ℕ, ◌<◌, true, false, Option, Some, None, refl}
use Rattle.std.proofs.Common.{sym, ◌∙◌, ap, subst, Bool}
use Rattle.std.proofs.Math.Logic.{⊎_elim}
use Rattle.std.proofs.lemmas.Bool.{cases_order}
use Rattle.chain_theory.specs.Specification.{Specification}
use Rattle.chain_theory.specs.Chain.{Chain}
use Rattle.chain_theory.specs.Agreement.{is_met, output_value, Agrees}
use Rattle.chain_theory.specs.Difference.{IsFirstDifference, IsComparison}

-- a cell isn't both met and missed
not_both : {A : Type 0} (b : Bool) → b ≡ true → b ≡ false → A
not_both b yes_ no_ = cc

-- A chain that agrees has no difference.
pub none_where_agrees : (c : Chain) (s : Specification) (h t : ℕ) → Agrees c s → IsFirstDifference c s h t → ⊥
none_where_agrees c s h t agrees d = not_both (is_met (s.cell h t) (output_value c h t)) (agrees.cells h t d.output_from d.output d.row) d.missed

-- no first difference is at a lower output than another one
not_above : {A : Type 0} (c : Chain) (s : Specification) (h t g u : ℕ) → IsFirstDifference c s h t → IsFirstDifference c s g u → h < g → A
not_above c s h t g u d e low =
    not_both (is_met (s.cell h t) (output_value c h t)) (e.outputs_before h t d.output_from low d.row) d.missed

-- first differences are at the same output
same_output : (c : Chain) (s : Specification) (h t g u : ℕ) → IsFirstDifference c s h t → IsFirstDifference c s g u → h ≡ g
same_output c s h t g u d e =
    ⊎_elim (λ same. same) (λ apart. ⊎_elim (λ low. not_above c s h t g u d e low) (λ high. not_above c s g u h t e d high) apart) (cases_order h g)

-- and, at one output, on the same row
same_row : (c : Chain) (s : Specification) (h t u : ℕ) → IsFirstDifference c s h t → IsFirstDifference c s h u → t ≡ u
same_row c s h t u d e =
    ⊎_elim (λ same. same) (λ apart. ⊎_elim
    (λ low. not_both (is_met (s.cell h t) (output_value c h t)) (e.rows_before t low) d.missed)
    (λ high. not_both (is_met (s.cell h u) (output_value c h u)) (d.rows_before u high) e.missed) apart) (cases_order t u)

-- two results of one comparison are equal
pub one_comparison : (c : Chain) (s : Specification) (a b : Option (ℕ × ℕ)) → IsComparison c s a → IsComparison c s b → a ≡ b
one_comparison c s None None p q = refl
one_comparison c s None (Some y) p q = absurd (none_where_agrees c s y.0 y.1 p q)
one_comparison c s (Some x) None p q = absurd (none_where_agrees c s x.0 x.1 q p)
one_comparison c s (Some x) (Some y) p q =
    let output : x.0 ≡ y.0 = same_output c s x.0 x.1 y.0 y.1 p q in
    let moved : IsFirstDifference c s x.0 y.1 = subst (λ (h : ℕ). IsFirstDifference c s h y.1) (sym output) q in
    let row : x.1 ≡ y.1 = same_row c s x.0 x.1 y.1 p moved in
    ap (λ (h : ℕ). Some (h, x.1)) output ∙ ap (λ (t : ℕ). Some (y.0, t)) row
