use Rattle.std.proofs.Common.{refl}
use Rattle.cert_file.proofs.subproblem.is_done.Goals as goal

pub returns-then-lf : goal.returns-then-lf
returns-then-lf c = rw c.if-lf.true (rw c.as_slice.ensures at c.eq.ensures)

pub returns-else-lf : goal.returns-else-lf
returns-else-lf c = rw c.if-lf.false refl
