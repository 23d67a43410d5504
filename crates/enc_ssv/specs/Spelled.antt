-- The chain that an assignment spells by pairs.
use Rattle.std.specs.Prelude.{ℕ, Bool}
use Rattle.chain_theory.specs.Chain.{Chain}
use Rattle.sat_theory.specs.Formula.{Assignment}
use Rattle.tt_core.specs.Words.{Words}
use Rattle.tt_core.specs.Live.{live_words}
use Rattle.enc_theory.specs.Numbering.{sizes_of}
use Rattle.enc_theory.specs.Pairs.{pairs_below, layout}
use Rattle.enc_theory.specs.Decode.{decoded}

-- over all pairs of lower places, or over those with j <= k
unfoldable pub spelled : Bool → Words → ℕ → Assignment → Chain
spelled ordered w r v = let z = sizes_of (live_words w) r in decoded w z (layout (pairs_below ordered) z) v
