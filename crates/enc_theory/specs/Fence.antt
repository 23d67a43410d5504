-- The encoding by fences: steps are ordered by levels, and each has an operand on the level just below
-- (Kojevnikov, Kulikov and Yaroslavtsev 2009; Haaswijk, Soeken, Mishchenko and De Micheli 2018).
use Rattle.std.specs.Prelude.{ℕ, ◌+◌, ◌-◌, Bool, nat_lt, List, [], ◌∷◌, ◌++◌, if◌then◌else◌}
use Rattle.std.specs.List.{range_with_len, flat_map}
use Rattle.chain_theory.specs.Chain.{Chain}
use Rattle.op_basis.specs.Basis.{members}
use Rattle.op_basis.specs.Closed.{swap_closed}
use Rattle.sat_theory.specs.Formula.{Formula, Assignment}
use Rattle.tt_core.specs.Words.{Words}
use Rattle.tt_core.specs.Live.{live_words}
use Rattle.enc_theory.specs.declared.data.Pair.{Pair}
use Rattle.enc_theory.specs.declared.data.Dimensions.{Dimensions}
use Rattle.enc_theory.specs.Numbering.{sizes_of}
use Rattle.enc_theory.specs.Pairs.{StepSlots, pairs_with, layout, vars_of}
use Rattle.enc_theory.specs.Families.{common}
use Rattle.enc_theory.specs.Cuts.{cuts}
use Rattle.enc_theory.specs.Decode.{decoded}

-- The places on the level below that of the step with index k. The list has the number of steps on each level;
-- the level below the first one has `count` places from `first` on.
-- Example: with two inputs and the fence 2, 1 the steps x3 and x4 have the inputs 1 and 2 below them, and x5
-- has 3 and 4.
unfoldable pub places_under : ℕ → ℕ → List ℕ → ℕ → List ℕ
places_under first count [] k = []
places_under first count (q ∷ qs) k = if nat_lt k q then range_with_len first count
    else places_under (first + count) q qs (k - q)

-- The pairs that the step at a place may have: the larger operand is on the level just below the step's.
unfoldable pub fence_pairs : Bool → ℕ → List ℕ → ℕ → List Pair
fence_pairs ordered n fence i = flat_map (pairs_with ordered) (places_under 1 n fence (i - (n + 1)))

abbrev pub fence_layout : ℕ → List ℕ → Dimensions → List StepSlots
fence_layout basis fence z = layout (fence_pairs (swap_closed (members basis)) z.n fence) z

-- the formula for tables whose outputs are all live, for a fence of r steps
unfoldable pub fence_live : Words → ℕ → ℕ → List ℕ → Formula
fence_live w basis r fence =
    let z = sizes_of w r in
    record {
      vars = vars_of z (fence_layout basis fence z);
      clauses = common w basis z (fence_layout basis fence z) ++
          cuts w basis z (fence_layout basis fence z);
    }

-- The formula for any tables and a fence, over a set of operators given as a number: that of the live outputs.
unfoldable pub fence_formula : Words → ℕ → ℕ → List ℕ → Formula
fence_formula w basis r fence = fence_live (live_words w) basis r fence

-- the chain of r steps that an assignment of the formula's variables spells
unfoldable pub fence_decoded : Words → ℕ → ℕ → List ℕ → Assignment → Chain
fence_decoded w basis r fence v = let z = sizes_of (live_words w) r in decoded w z (fence_layout basis fence z) v
