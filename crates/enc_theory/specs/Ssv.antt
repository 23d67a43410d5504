-- The encoding with a selection variable for each pair of operands (SSV, single selection variable), with
-- symmetry-breaking constraints.
use Rattle.std.specs.Prelude.{ℕ, List, ◌++◌}
use Rattle.chain_theory.specs.Chain.{Chain}
use Rattle.op_basis.specs.Basis.{members}
use Rattle.op_basis.specs.Closed.{swap_closed}
use Rattle.sat_theory.specs.Formula.{Formula, Assignment}
use Rattle.tt_core.specs.Words.{Words}
use Rattle.tt_core.specs.Live.{live_words}
use Rattle.enc_theory.specs.declared.data.Dimensions.{Dimensions}
use Rattle.enc_theory.specs.Numbering.{sizes_of}
use Rattle.enc_theory.specs.Pairs.{StepSlots, pairs_below, layout, vars_of}
use Rattle.enc_theory.specs.Families.{common}
use Rattle.enc_theory.specs.Cuts.{cuts}
use Rattle.enc_theory.specs.Decode.{decoded}

-- each step with all pairs of lower places; only those with j <= k if the basis is closed under exchanging the
-- operands
abbrev pub ssv_layout : ℕ → Dimensions → List StepSlots
ssv_layout basis z = layout (pairs_below (swap_closed (members basis))) z

-- the formula for tables whose outputs are all live
unfoldable pub ssv_live : Words → ℕ → ℕ → Formula
ssv_live w basis r =
    let z = sizes_of w r in
    record {
      vars = vars_of z (ssv_layout basis z);
      clauses = common w basis z (ssv_layout basis z) ++
          cuts w basis z (ssv_layout basis z);
    }

-- The formula for any tables, over a set of operators given as a number: that of the live outputs.
unfoldable pub ssv_formula : Words → ℕ → ℕ → Formula
ssv_formula w basis r = ssv_live (live_words w) basis r

-- the chain of r steps that an assignment of the formula's variables spells
unfoldable pub ssv_decoded : Words → ℕ → ℕ → Assignment → Chain
ssv_decoded w basis r v = let z = sizes_of (live_words w) r in decoded w z (ssv_layout basis z) v
