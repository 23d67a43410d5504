use Rattle.std.proofs.Common.{refl}
use Rattle.cert_file.proofs.lines.is_line.Goals as goal

pub returns-then-line : goal.returns-then-line
returns-then-line c = rw c.if-line.true c.eq.ensures

pub returns-else-line : goal.returns-else-line
returns-else-line c = rw c.if-line.false refl
