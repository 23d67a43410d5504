use Rattle.std.proofs.Common.{◌≡◌, ◌-◌}
use Rattle.std.specs.List.{range_with_len, flat_map}
use Rattle.strong_theory.specs.Edges.{edges_along}
use Rattle.enc_strong.proofs.edges.listed.Given as goal

abbrev pub invariant-loop-j : goal.invariant-loop-j
invariant-loop-j l = l.edges.items ≡ flat_map (edges_along l.spec) (range_with_len 1 (l.j - 1))
