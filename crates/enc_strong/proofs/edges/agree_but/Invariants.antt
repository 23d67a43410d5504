use Rattle.std.proofs.Common.{◌≡◌, ◌-◌}
use Rattle.std.specs.List.{range_with_len, list_all}
use Rattle.strong_theory.specs.Edges.{same_at}
use Rattle.enc_strong.proofs.edges.agree_but.Given as goal

abbrev pub invariant-loop-p : goal.invariant-loop-p
invariant-loop-p l = l.agree ≡ list_all (same_at l.n l.j l.a l.b) (range_with_len 1 (l.p - 1))
