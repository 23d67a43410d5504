-- The exchange cut with complements, in clauses, and the formulas with it. Loops run in increasing order; the first one
-- named is the outermost.
use Rattle.std.specs.Prelude.{ℕ, suc, ◌-◌, ◌^◌, ℤ, Bool, true, false, not, ◌&&◌, ◌||◌, List, [], ◌++◌, length, if◌then◌else◌}
use Rattle.std.specs.List.{range_with_len, flat_map, list_all, list_any}
use Rattle.op_basis.specs.Basis.{members}
use Rattle.op_basis.specs.Closed.{polarity_closed}
use Rattle.sat_theory.specs.Formula.{Formula}
use Rattle.tt_core.specs.Words.{Words, cell_of}
use Rattle.tt_core.specs.Live.{live_words}
use Rattle.enc_theory.specs.Numbering.{sizes_of}
use Rattle.enc_theory.specs.Pairs.{StepSlots}
use Rattle.enc_theory.specs.Cuts.{same_cell, may_exchange, exchange_steps}
use Rattle.enc_theory.specs.Ssv.{ssv_layout, ssv_live}
use Rattle.enc_theory.specs.Fence.{fence_layout, fence_live}
use Rattle.strong_theory.specs.Strong.{strengthened}
use Rattle.npn_laws.specs.Exchange.{image, complemented_cell}

-- ---- Which inputs may be exchanged: a search over the sets k of complemented inputs, as rows, and a flag b for the
-- outputs.

unfoldable pub kept_at : Words → ℕ → ℕ → ℕ → Bool → ℕ → ℕ → Bool
kept_at w p q k b h t = same_cell (cell_of w h (image w.n p q k t)) (complemented_cell b (cell_of w h t))

unfoldable pub kept_output : Words → ℕ → ℕ → ℕ → Bool → ℕ → Bool
kept_output w p q k b h = list_all (kept_at w p q k b h) (range_with_len 0 (2 ^ w.n))

unfoldable pub kept_outputs : Words → ℕ → ℕ → ℕ → Bool → Bool
kept_outputs w p q k b = list_all (kept_output w p q k b) (range_with_len 1 (length w.on))

unfoldable pub kept_by : Words → ℕ → ℕ → ℕ → Bool
kept_by w p q k = kept_outputs w p q k false || kept_outputs w p q k true

unfoldable pub may_exchange_complemented : Words → ℕ → ℕ → Bool
may_exchange_complemented w p q = list_any (kept_by w p q) (range_with_len 0 (2 ^ w.n))

-- ---- The clauses, if the basis is closed under complements: those of symmetric inputs (`enc_theory`), for the inputs
-- p < q that may be exchanged and aren't symmetric.

unfoldable pub npn_pair : Words → List StepSlots → ℕ → ℕ → List (List ℤ)
npn_pair w steps p q = if may_exchange_complemented w p q && not (may_exchange w p q) then exchange_steps p q [] steps else []

unfoldable pub npn_with : Words → List StepSlots → ℕ → List (List ℤ)
npn_with w steps p = flat_map (npn_pair w steps p) (range_with_len (suc p) (w.n - p))

unfoldable pub npn_exchange : ℕ → Words → List StepSlots → List (List ℤ)
npn_exchange basis w steps = if polarity_closed (members basis) then flat_map (npn_with w steps) (range_with_len 1 w.n)
    else []

-- ---- The formulas: those of SSV and of fences with these clauses after theirs, strengthened (`strong_theory`).

unfoldable pub with_exchanges : Words → ℕ → List StepSlots → Formula → Formula
with_exchanges w basis steps f = record { vars = f.vars; clauses = f.clauses ++ npn_exchange basis w steps }

-- for tables whose outputs are all live
unfoldable pub npn_live : Words → ℕ → ℕ → Formula
npn_live w basis r =
    let z = sizes_of w r in
    strengthened w z (ssv_layout basis z) (with_exchanges w basis (ssv_layout basis z) (ssv_live w basis r))

-- for any tables, over a set of operators given as a number
unfoldable pub npn_formula : Words → ℕ → ℕ → Formula
npn_formula w basis r = npn_live (live_words w) basis r

-- and those of fences
unfoldable pub npn_fence_live : Words → ℕ → ℕ → List ℕ → Formula
npn_fence_live w basis r fence =
    let z = sizes_of w r in
    strengthened w z (fence_layout basis fence z)
    (with_exchanges w basis (fence_layout basis fence z) (fence_live w basis r fence))

unfoldable pub npn_fence_formula : Words → ℕ → ℕ → List ℕ → Formula
npn_fence_formula w basis r fence = npn_fence_live (live_words w) basis r fence
