-- The stack of a depth-first search: nodes that were entered and aren't finished.
use Rattle.std.specs.Prelude.{ℕ, ◌+◌, zero, suc, Bool, true, false, List, [], ◌∷◌, Option, Some, None, sum_by}
use Rattle.graph_core.specs.Visit.{Graph, fanins_of, each, put_last, visit}

pub record Entered : Type 0 where
  pub node : ℕ
  pub left : List ℕ
  pub depth : ℕ

-- the result of a visit: the order if it succeeded, else none
abbrev pub reported : Bool → List ℕ → Option (List ℕ)
reported true order = Some order
reported false order = None

-- the rest of a frame's visit: visit its remaining fanins, then finish its node
unfoldable pub ended : Graph → Entered → Option (List ℕ) → Option (List ℕ)
ended g f order = put_last f.node (each (visit g f.depth) order f.left)

-- the rest of the visits of a stack of frames, the last one first
unfoldable pub all_ended : Graph → List Entered → Option (List ℕ) → Option (List ℕ)
all_ended g [] order = order
all_ended g (f ∷ fs) order = ended g f (all_ended g fs order)

-- an upper bound on the steps of a visit
unfoldable pub most_steps : Graph → ℕ → ℕ → ℕ
most_steps g zero t = 1
most_steps g (suc depth) t = 2 + sum_by (most_steps g depth) (fanins_of g t)

unfoldable pub frame_steps : Graph → Entered → ℕ
frame_steps g f = 1 + sum_by (most_steps g f.depth) f.left

unfoldable pub all_steps : Graph → List Entered → ℕ
all_steps g fs = sum_by (frame_steps g) fs
