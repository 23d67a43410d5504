use Rattle.std.proofs.Common.{◌≡◌, ℕ, ◌<◌}
use Rattle.tt_core.specs.Symmetry.{exchanged}
use Rattle.tt_core.specs.Words.{cell_of}
use Rattle.tt_core.proofs.symmetry.is_symmetric_output.Given as goal

abbrev pub invariant-loop-t : goal.invariant-loop-t
invariant-loop-t l = (t : ℕ) → t < l.t → cell_of l.spec l.h (exchanged l.spec.n l.p l.q t) ≡ cell_of l.spec l.h t
