use Rattle.std.proofs.Common.{◌≡◌, ◌-◌}
use Rattle.std.specs.List.{range_with_len, list_any}
use Rattle.strong_theory.specs.Edges.{output_differs}
use Rattle.enc_strong.proofs.edges.some_output_differs.Given as goal

abbrev pub invariant-loop-h : goal.invariant-loop-h
invariant-loop-h l = l.some ≡ list_any (output_differs l.spec l.a l.b) (range_with_len 1 (l.h - 1))
