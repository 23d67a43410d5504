-- The subproblems of a size by fences, and what a subproblem requires of a chain.
use Rattle.std.specs.Prelude.{ℕ, ⊤, List, [], map, length}
use Rattle.chain_theory.specs.Chain.{Chain}
use Rattle.chain_theory.specs.Levels.{HasLevels}
use Rattle.tt_core.specs.Words.{Words}
use Rattle.tt_core.specs.Live.{live_words}
use Rattle.fence_core.specs.Fence.{listed_fences}
use Rattle.enc_theory.specs.declared.subproblem.Subproblem.{Subproblem}
use Rattle.enc_theory.specs.declared.subproblem.Subproblem.TheVariants.{Whole, Levels}

-- one subproblem for each listed fence of the live outputs, in order
unfoldable pub subproblems_for : Words → ℕ → List Subproblem
subproblems_for w r = map Levels (listed_fences r (length (live_words w).on))

-- the fence of a subproblem; empty for the whole size
unfoldable pub fence_in : Subproblem → List ℕ
fence_in Whole = []
fence_in (Levels fence) = fence

-- What a subproblem requires of a chain besides its size: nothing for the whole size, and at most the fence's
-- number of levels for a fence.
-- Example: the fence 2, 1 requires at most two levels.
unfoldable pub FitsSubproblem : Subproblem → Chain → Type 0
FitsSubproblem Whole c = ⊤
FitsSubproblem (Levels fence) c = HasLevels (length fence) c
