-- The row that the bits of some nodes form.
use Rattle.std.specs.Prelude.{◌≡◌, ℕ, ◌+◌, ◌-◌, ◌^◌, ◌<◌, Bool, List, length, slice_index_or}
use Rattle.std.proofs.Common.{arith, sym, ◌∙◌, ap}
use Rattle.chain_theory.specs.Rows.{row_of, row_digit, row_low}
use Rattle.window_theory.specs.Care.{HasRow}

-- The bits of nodes are a row.
pub has_row : (bits : ℕ → Bool) (nodes : List ℕ) → (t : ℕ) × (t < 2 ^ length nodes) × HasRow bits nodes t
has_row bits nodes =
    let count : ℕ = length nodes in
    let by_number : ℕ → Bool = λ j. bits (slice_index_or nodes (j - 1) 0) in
    let t : ℕ = row_of count by_number in (
      t,
      row_low by_number count,
      λ i low.
          let e : (i + 1) - 1 ≡ i = omega arith in
          ap (λ (k : ℕ). bits (slice_index_or nodes k 0)) (sym e) ∙ sym (row_digit by_number count (count - (i + 1)) (i + 1) (omega arith) (omega arith)),
    )
