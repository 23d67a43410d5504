use Rattle.std.proofs.Common.{◌≡◌}
use Rattle.chain_theory.specs.Rows.{row_of}
use Rattle.tt_core.specs.Symmetry.{exchanged_bit}
use Rattle.tt_core.proofs.symmetry.exchanged.Given as goal

abbrev pub invariant-loop-before : goal.invariant-loop-before
invariant-loop-before l = l.exchanged ≡ row_of l.before (exchanged_bit l.n l.p l.q l.t)
