-- The order in which a depth-first search finishes the nodes (postorder).
use Rattle.std.specs.Prelude.{ℕ, zero, suc, Bool, nat_eq, if◌then◌else◌, List, [], ◌∷◌, ◌++◌, length, Option, Some}
use Rattle.std.specs.Prelude.{None}
use Rattle.std.specs.List.{list_any, range_with_len, slice_index_or}

-- For each node its fanins (the nodes that it reads), in the order of its inputs.
abbrev pub Graph : Type 0
Graph = List (List ℕ)

abbrev pub fanins_of : Graph → ℕ → List ℕ
fanins_of g t = slice_index_or g t []

-- whether a node is finished: it is in the order so far
abbrev pub has_ended : List ℕ → ℕ → Bool
has_ended order t = list_any (nat_eq t) order

-- visits several nodes, one after the other
unfoldable pub each : (List ℕ → ℕ → Option (List ℕ)) → Option (List ℕ) → List ℕ → Option (List ℕ)
each visit order [] = order
each visit None (t ∷ ts) = None
each visit (Some order) (t ∷ ts) = each visit (visit order t) ts

abbrev pub put_last : ℕ → Option (List ℕ) → Option (List ℕ)
put_last t None = None
put_last t (Some order) = Some (if has_ended order t then order else order ++ t ∷ [])

-- Visits a node: visits its fanins from the left, then finishes it; a finished node is skipped. None if there is
-- a path of more than `depth` nodes; if `depth` is the number of nodes, that is a cycle.
unfoldable pub visit : Graph → ℕ → List ℕ → ℕ → Option (List ℕ)
visit g zero order t = if has_ended order t then Some order else None
visit g (suc depth) order t = if has_ended order t then Some order
    else put_last t (each (visit g depth) (Some order) (fanins_of g t))

-- visits all nodes, in their order
-- Example: where node 0 reads node 2 and then node 1, and these read nothing, it is 2, 1, 0.
unfoldable pub order_of : Graph → Option (List ℕ)
order_of g = each (visit g (length g)) (Some []) (range_with_len 0 (length g))
