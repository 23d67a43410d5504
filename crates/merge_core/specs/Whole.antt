-- A whole net as one cone.
use Rattle.std.specs.Prelude.{ℕ, zero, suc, ◌+◌, List, [], ◌∷◌}
use Rattle.net_theory.specs.declared.data.Gate.{Gate}
use Rattle.net_theory.specs.Net.{Net}
use Rattle.lane_sim.specs.Cone.{Cone}

-- the `count` numbers from `first` on
-- Example: 3 from 5 on are 5, 6, 7.
unfoldable pub count_from : ℕ → ℕ → List ℕ
count_from first zero = []
count_from first (suc count) = first ∷ count_from (first + 1) count

-- the gates with their nodes; the first gate is the node `node`
unfoldable pub numbered_from : ℕ → List Gate → List (ℕ × Gate)
numbered_from node [] = []
numbered_from node (g ∷ gs) = (node, g) ∷ numbered_from (node + 1) gs

-- the cone whose leaves are the sources and whose gates are all gates of the net
abbrev pub cone_of : Net → Cone
cone_of n = record { leaves = count_from 1 n.sources; gates = numbered_from (n.sources + 1) n.gates }
