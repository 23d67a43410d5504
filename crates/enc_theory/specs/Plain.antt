-- The plain encoding: the clauses that define chains, over all pairs, and nothing else.
use Rattle.std.specs.Prelude.{ℕ, false, List}
use Rattle.chain_theory.specs.Chain.{Chain}
use Rattle.sat_theory.specs.Formula.{Formula, Assignment}
use Rattle.tt_core.specs.Words.{Words}
use Rattle.tt_core.specs.Live.{live_words}
use Rattle.enc_theory.specs.declared.data.Dimensions.{Dimensions}
use Rattle.enc_theory.specs.Numbering.{sizes_of}
use Rattle.enc_theory.specs.Pairs.{StepSlots, pairs_below, layout, vars_of}
use Rattle.enc_theory.specs.Families.{common}
use Rattle.enc_theory.specs.Decode.{decoded}

-- each step with all pairs of lower places
abbrev pub plain_layout : Dimensions → List StepSlots
plain_layout z = layout (pairs_below false) z

-- the formula for tables whose outputs are all live
unfoldable pub plain_live : Words → ℕ → ℕ → Formula
plain_live w basis r =
    let z = sizes_of w r in
    record { vars = vars_of z (plain_layout z); clauses = common w basis z (plain_layout z) }

-- The formula for any tables, over a set of operators given as a number: that of the live outputs.
unfoldable pub plain_formula : Words → ℕ → ℕ → Formula
plain_formula w basis r = plain_live (live_words w) basis r

-- the chain of r steps that an assignment of the formula's variables spells
unfoldable pub plain_decoded : Words → ℕ → Assignment → Chain
plain_decoded w r v = let z = sizes_of (live_words w) r in decoded w z (plain_layout z) v
