-- The stronger formula over given pairs.
use Rattle.std.specs.Prelude.{ℕ, List}
use Rattle.sat_theory.specs.Formula.{Formula}
use Rattle.tt_core.specs.Words.{Words}
use Rattle.tt_core.specs.Live.{live_words}
use Rattle.enc_theory.specs.declared.data.Pair.{Pair}
use Rattle.enc_theory.specs.Numbering.{sizes_of}
use Rattle.enc_theory.specs.Pairs.{layout}
use Rattle.enc_cuts.specs.Formula.{live_with_cuts}
use Rattle.strong_theory.specs.Strong.{strengthened}
use Rattle.npn_strong.specs.Cut.{with_exchanges}

-- for tables whose outputs are all live; `pairs` gives the pairs of the step at a place
unfoldable pub live_strong : (ℕ → List Pair) → Words → ℕ → ℕ → Formula
live_strong pairs w basis r =
    let z = sizes_of w r in
    strengthened w z (layout pairs z) (with_exchanges w basis (layout pairs z) (live_with_cuts pairs w basis r))

-- for any tables: that of the live outputs
unfoldable pub strong_with : (ℕ → List Pair) → Words → ℕ → ℕ → Formula
strong_with pairs w basis r = live_strong pairs (live_words w) basis r
