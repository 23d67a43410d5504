-- The data of `plain` in terms of the definitions.
use Rattle.std.specs.Prelude.{◌≡◌, ℕ, ◌<◌, ◌^◌, ◌+◌, ◌-◌, ◌*◌, true, List, map, slice_index_or, []}
use Rattle.chain_theory.specs.Specification.{Specification}
use Rattle.chain_theory.specs.Chain.{Step, Chain}
use Rattle.chain_theory.specs.Value.{out_value}
use Rattle.chain_theory.specs.Agreement.{is_met}
use Rattle.chain_theory.specs.declared.data.Cell.{Cell}
use Rattle.chain_theory.specs.declared.data.Cell.TheVariants.{Free}
use Rattle.chain_theory.specs.declared.data.Out.{Out}
use Rattle.chain_theory.specs.declared.plain.PlainStep.{PlainStep}

abbrev pub step_of : PlainStep → Step
step_of s = record { j = s.j; k = s.k; op = s.op }

abbrev pub steps_of : List PlainStep → List Step
steps_of = map step_of

abbrev pub chain_of : ℕ → List PlainStep → List Out → Chain
chain_of n steps outs = record { n = n; steps = steps_of steps; outs = outs }

-- an out meets the cell of each row
abbrev pub MeetsRows : ℕ → List PlainStep → Out → List Cell → Type 0
MeetsRows n steps out cells = (t : ℕ) → t < 2 ^ n → is_met (slice_index_or cells t Free) (out_value (chain_of n steps []) t out) ≡ true

-- A specification as one list of cells: first all cells of output 1, row 0 first, then all of
-- output 2, and so on.
-- Example: XOR and AND of two inputs are the eight cells 0, 1, 1, 0, 0, 0, 0, 1.
abbrev pub flat_specification : ℕ → ℕ → List Cell → Specification
flat_specification n m cells = record { inputs = n; outputs = m; cell = λ h t. slice_index_or cells ((h - 1) * 2 ^ n + t) Free }
