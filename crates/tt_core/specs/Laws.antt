-- Exchanged rows, trivial outs and live outputs, characterised without recursion.
use Rattle.std.proofs.Common.{◌≡◌, ℕ, zero, suc, ◌-◌, ◌^◌, ◌<◌, ◌≤◌, true, refl, ap, ◌∙◌, arith, inl, inr}
use Rattle.std.proofs.lemmas.Grind.{common_steps}
use Rattle.std.proofs.lemmas.Bool.{cases_lt}
use Rattle.chain_theory.specs.Specification.{Specification, input}
use Rattle.chain_theory.specs.Agreement.{is_met}
use Rattle.chain_theory.specs.declared.data.Out.{Out}
use Rattle.chain_theory.specs.Rows.{row_digit, row_low}
use Rattle.tt_core.specs.Symmetry.{renamed, exchanged_bit, exchanged}
use Rattle.tt_core.specs.Live.{trivial_value, fits_rows, fits}

-- ---- rows by their bits

-- The exchanged row gives each input the bit of its exchanged partner.
pub exchanged_input : (n p q t j : ℕ) → 1 ≤ j → j ≤ n → input n (exchanged n p q t) j ≡ input n t (renamed p q j)
exchanged_input n p q t j some low = row_digit (exchanged_bit n p q t) n (n - j) j (omega arith) some

pub exchanged_low : (n p q t : ℕ) → exchanged n p q t < 2 ^ n
exchanged_low n p q t = row_low (exchanged_bit n p q t) n

-- ---- outs that meet all cells

met_below : (s : Specification) (h : ℕ) (out : Out) (k : ℕ) → fits_rows s h out k ≡ true → (t : ℕ) → t < k → is_met (s.cell h t) (trivial_value s.inputs t out) ≡ true
unfolding fits_rows
met_below s h out zero all t low = absurd (omega arith)
met_below s h out (suc k) all t low = elim (cases_lt t k) [
  | inl below ↦ met_below s h out k (grind (arith, common_steps)) t below
  | inr past ↦ let same : t ≡ k = omega arith in ap (λ (u : ℕ). is_met (s.cell h u) (trivial_value s.inputs u out)) same ∙ grind (arith, common_steps)
]

pub fits_meets : (s : Specification) (h : ℕ) (out : Out) → fits s h out ≡ true → (t : ℕ) → t < 2 ^ s.inputs → is_met (s.cell h t) (trivial_value s.inputs t out) ≡ true
fits_meets s h out all = met_below s h out (2 ^ s.inputs) all

all_below : (s : Specification) (h : ℕ) (out : Out) (k : ℕ) → ((t : ℕ) → t < k → is_met (s.cell h t) (trivial_value s.inputs t out) ≡ true) → fits_rows s h out k ≡ true
unfolding fits_rows
all_below s h out zero each = refl
all_below s h out (suc k) each = rw (all_below s h out k (λ t low. each t (omega arith)), each k (omega arith)) refl

pub meets_fits : (s : Specification) (h : ℕ) (out : Out) → ((t : ℕ) → t < 2 ^ s.inputs → is_met (s.cell h t) (trivial_value s.inputs t out) ≡ true) → fits s h out ≡ true
meets_fits s h out each = all_below s h out (2 ^ s.inputs) each
