-- Where a chain first differs from the tables: the least output, and for it the least row.
use Rattle.std.specs.Prelude.{ℕ, zero, suc, ◌+◌, ◌^◌, Option, Some, None, if◌then◌else◌}
use Rattle.chain_theory.specs.Specification.{Specification}
use Rattle.chain_theory.specs.Chain.{Chain}
use Rattle.chain_theory.specs.Agreement.{is_met, output_value}

-- the first row from `t` on where an output differs, among `rows` rows
unfoldable pub missed_row : Chain → Specification → ℕ → ℕ → ℕ → Option ℕ
missed_row c s h t zero = None
missed_row c s h t (suc rows) = if is_met (s.cell h t) (output_value c h t) then missed_row c s h (t + 1) rows
    else Some t

abbrev pub or_later : ℕ → Option ℕ → Option (ℕ × ℕ) → Option (ℕ × ℕ)
or_later h None later = later
or_later h (Some t) later = Some (h, t)

-- the first output from `h` on that differs, with its row
unfoldable pub missed_output : Chain → Specification → ℕ → ℕ → Option (ℕ × ℕ)
missed_output c s h zero = None
missed_output c s h (suc outputs) = or_later h (missed_row c s h 0 (2 ^ s.inputs)) (missed_output c s (h + 1) outputs)

abbrev pub difference_of : Chain → Specification → Option (ℕ × ℕ)
difference_of c s = missed_output c s 1 s.outputs
