-- The formula of an encoding by pairs with symmetry-breaking constraints.
use Rattle.std.specs.Prelude.{ℕ, List, ◌++◌}
use Rattle.sat_theory.specs.Formula.{Formula}
use Rattle.tt_core.specs.Words.{Words}
use Rattle.tt_core.specs.Live.{live_words}
use Rattle.enc_theory.specs.declared.data.Pair.{Pair}
use Rattle.enc_theory.specs.Numbering.{sizes_of}
use Rattle.enc_theory.specs.Pairs.{layout, vars_of}
use Rattle.enc_theory.specs.Families.{common}
use Rattle.enc_theory.specs.Cuts.{cuts}

-- for tables whose outputs are all live; `pairs` gives the pairs of the step at a place
unfoldable pub live_with_cuts : (ℕ → List Pair) → Words → ℕ → ℕ → Formula
live_with_cuts pairs w basis r =
    let z = sizes_of w r in
    record { vars = vars_of z (layout pairs z); clauses = common w basis z (layout pairs z) ++ cuts w basis z (layout pairs z) }

-- for any tables: that of the live outputs
unfoldable pub with_cuts : (ℕ → List Pair) → Words → ℕ → ℕ → Formula
with_cuts pairs w basis r = live_with_cuts pairs (live_words w) basis r
