use Rattle.std.proofs.Common.{◌≡◌}
use Rattle.chain_theory.specs.Rows.{row_of}
use Rattle.npn_laws.specs.Exchange.{image_bit}
use Rattle.npn_core.proofs.rows.image.Given as goal

abbrev pub invariant-loop-before : goal.invariant-loop-before
invariant-loop-before l = l.image ≡ row_of l.before (image_bit l.n l.p l.q l.k l.t)
