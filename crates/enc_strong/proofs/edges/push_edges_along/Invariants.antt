use Rattle.std.proofs.Common.{◌≡◌, ◌++◌}
use Rattle.std.specs.List.{range_with_len, flat_map}
use Rattle.strong_theory.specs.Edges.{edge_at}
use Rattle.enc_strong.proofs.edges.push_edges_along.Given as goal

abbrev pub invariant-loop-t : goal.invariant-loop-t
invariant-loop-t l = l.edges.items ≡ l.initial.edges.items ++ flat_map (edge_at l.spec l.j) (range_with_len 0 l.t)
