use Rattle.std.proofs.Common.{ℕ, ◌<◌}
use Rattle.tt_core.specs.Words.{specification}
use Rattle.npn_core.specs.Kept.{IsKeptCell}
use Rattle.npn_core.proofs.kept.is_kept_output.Given as goal

abbrev pub invariant-loop-t : goal.invariant-loop-t
invariant-loop-t l = (t : ℕ) → t < l.t → IsKeptCell (specification l.spec) l.p l.q l.k l.flag l.h t
