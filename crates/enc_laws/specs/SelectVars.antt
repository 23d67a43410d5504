-- The variables of MSV: the first of each kind, a bound, and that each variable belongs to one operand.
use Rattle.std.proofs.Common.{◌≡◌, ℕ, zero, suc, ◌+◌, ◌-◌, ◌*◌, ◌^◌, ◌<◌, ◌≤◌, refl, arith, ⊎_elim}
use Rattle.std.proofs.Math.Nat.{mul_comm}
use Rattle.std.proofs.lemmas.Bool.{cases_lt, cases_order}
use Rattle.std.proofs.lemmas.Nat.{mul-add-lt}
use Rattle.enc_theory.specs.declared.data.Side.{Side}
use Rattle.enc_theory.specs.declared.data.Side.TheVariants.{First, Second}
use Rattle.enc_theory.specs.declared.data.Dimensions.{Dimensions}
use Rattle.enc_theory.specs.Numbering.{s_first}
use Rattle.enc_theory.specs.Select.{operand_count, choice_first, choice_var, value_first, value_var, select_vars}
use Rattle.enc_laws.specs.Bounds.{s_positive}
use Rattle.enc_laws.specs.Layouts.{IsStepPlace}

-- the operands of a step come before those of later ones
pub count_step : (n q p : ℕ) → q < p → operand_count n q + (n + q) ≤ operand_count n p
unfolding operand_count
count_step n q zero less = absurd (omega arith)
count_step n q (suc p) less = ⊎_elim
    (λ (before : q < p). omega (arith, count_step n q p before))
    (λ (last : p ≤ q). let e : q ≡ p = omega arith in rw e (omega arith))
    (cases_lt q p)

-- the number of a selection variable among those of its side
abbrev pub offset : Dimensions → ℕ → ℕ → ℕ
offset z i j = operand_count z.n (i - (z.n + 1)) + (j - 1)

pub record IsBelow (z : Dimensions) (i j : ℕ) : Type 0 where
  pub place : IsStepPlace z i
  pub from : 1 ≤ j
  pub to : j < i

offset_low : (z : Dimensions) (i j : ℕ) → IsBelow z i j → offset z i j < operand_count z.n z.r
offset_low z i j is =
    let place = is.place in
    let from = place.from in
    let to = place.to in
    let j_from = is.from in
    let j_to = is.to in
    omega (arith, count_step z.n (i - (z.n + 1)) z.r (omega arith))

offset_rises : (z : Dimensions) (i j l k : ℕ) → IsBelow z i j → IsBelow z l k → i < l → offset z i j < offset z l k
offset_rises z i j l k is is' less =
    let place = is.place in
    let from = place.from in
    let j_from = is.from in
    let j_to = is.to in
    omega (arith, count_step z.n (i - (z.n + 1)) (l - (z.n + 1)) (omega arith))

-- ---- selection variables

pub choice_from : (z : Dimensions) (side : Side) (i j : ℕ) → s_first z ≤ choice_var z side i j
unfolding choice_var choice_first
choice_from z First i j = omega arith
choice_from z Second i j = omega arith

pub choice_positive : (z : Dimensions) (side : Side) (i j : ℕ) → 1 ≤ choice_var z side i j
choice_positive z side i j = omega (arith, choice_from z side i j, s_positive z)

pub choice_below : (z : Dimensions) (side : Side) (i j : ℕ) → IsBelow z i j → choice_var z side i j < value_first z First
unfolding choice_var choice_first value_first
choice_below z First i j is = omega (arith, offset_low z i j is)
choice_below z Second i j is = omega (arith, offset_low z i j is)

-- one operand of one step
pub record IsSameChoice (side side' : Side) (i i' j j' : ℕ) : Type 0 where
  pub sides : side ≡ side'
  pub places : i ≡ i'
  pub operands : j ≡ j'

same_offset : (z : Dimensions) (side : Side) (i i' j j' : ℕ) → IsBelow z i j → IsBelow z i' j' → offset z i j ≡ offset z i' j' → IsSameChoice side side i i' j j'
same_offset z side i i' j j' is is' e = ⊎_elim
    (λ (here : i ≡ i').
    let from = is.from in
    let from' = is'.from in
    let counts : operand_count z.n (i - (z.n + 1)) ≡ operand_count z.n (i' - (z.n + 1)) = (rw here refl) in
    record { sides = refl; places = here; operands = omega arith })
    (λ (apart : _). ⊎_elim
    (λ (up : i < i'). absurd (omega (arith, e, offset_rises z i j i' j' is is' up)))
    (λ (down : i' < i). absurd (omega (arith, e, offset_rises z i' j' i j is' is down)))
    apart)
    (cases_order i i')

pub choice_once : (z : Dimensions) (side side' : Side) (i i' j j' : ℕ) → IsBelow z i j → IsBelow z i' j' → choice_var z side i j ≡ choice_var z side' i' j' → IsSameChoice side side' i i' j j'
unfolding choice_var choice_first
choice_once z First First i i' j j' is is' e = same_offset z First i i' j j' is is' (omega arith)
choice_once z First Second i i' j j' is is' e = absurd (omega (arith, offset_low z i j is))
choice_once z Second First i i' j j' is is' e = absurd (omega (arith, offset_low z i' j' is'))
choice_once z Second Second i i' j j' is is' e = same_offset z Second i i' j j' is is' (omega arith)

-- ---- values of operands

-- the number of a step's row among those of its side
pub row_low : (z : Dimensions) (i t : ℕ) → IsStepPlace z i → t < 2 ^ z.n → (i - (z.n + 1)) * 2 ^ z.n + t < z.r * 2 ^ z.n
row_low z i t is row =
    let from = is.from in
    let to = is.to in
    let within = mul-add-lt (i - (z.n + 1)) (2 ^ z.n) t z.r (omega arith) row in
    let turned : 2 ^ z.n * z.r ≡ z.r * 2 ^ z.n = mul_comm (2 ^ z.n) z.r in
    omega arith

pub value_after : (z : Dimensions) (side : Side) (i t : ℕ) → s_first z ≤ value_var z side i t
unfolding value_var value_first
value_after z First i t = omega arith
value_after z Second i t = omega arith

pub value_positive : (z : Dimensions) (side : Side) (i t : ℕ) → 1 ≤ value_var z side i t
value_positive z side i t = omega (arith, value_after z side i t, s_positive z)

-- ---- all are within the number of variables

pub value_within : (z : Dimensions) (side : Side) (i t : ℕ) → IsStepPlace z i → t < 2 ^ z.n → value_var z side i t ≤ select_vars z
unfolding value_var value_first select_vars
value_within z First i t is row = omega (arith, row_low z i t is row, s_positive z)
value_within z Second i t is row = omega (arith, row_low z i t is row, s_positive z)

pub choice_within : (z : Dimensions) (side : Side) (i j : ℕ) → IsBelow z i j → choice_var z side i j ≤ select_vars z
unfolding value_first select_vars
choice_within z side i j is = omega (arith, choice_below z side i j is, s_positive z)

pub first_within : (z : Dimensions) → s_first z ≤ select_vars z + 1
unfolding select_vars
first_within z = omega (arith, s_positive z)
