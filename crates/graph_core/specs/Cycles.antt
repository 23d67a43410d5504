-- Nodes on cycles, and node numbers that never rise along an edge.
use Rattle.std.specs.Prelude.{◌≡◌, ℕ, ◌≤◌, ◌<◌, true, if◌then◌else◌, List, [], ◌∷◌, ◌++◌, Option, Some, None, slice_index}
use Rattle.graph_core.specs.Visit.{Graph, fanins_of, has_ended}
use Rattle.graph_core.specs.VisitLaws.{HasPath}

-- `seen` with the nodes of a list appended, each once
unfoldable pub added : List ℕ → List ℕ → List ℕ
added seen [] = seen
added seen (t ∷ ts) = added (if has_ended seen t then seen else seen ++ t ∷ []) ts

-- no node has a smaller number than one of its fanins
pub record NeverRises (g : Graph) (numbers : List ℕ) : Type 0 where
  pub within : (t u : ℕ) → has_ended (fanins_of g t) u ≡ true → slice_index numbers u ≤ slice_index numbers t

-- the first node on a cycle, or none where the graph is acyclic
abbrev pub IsFirstCyclicNode : Graph → Option ℕ → Type 0
IsFirstCyclicNode g None = (t : ℕ) → HasPath g t t → ⊥
IsFirstCyclicNode g (Some t) = HasPath g t t × ((u : ℕ) → u < t → HasPath g u u → ⊥)

-- `set` has exactly the nodes that `node` reaches
pub record AreReached (g : Graph) (node : ℕ) (set : List ℕ) : Type 0 where
  pub leads : (u : ℕ) → has_ended set u ≡ true → HasPath g node u
  pub all : (u : ℕ) → HasPath g node u → has_ended set u ≡ true
