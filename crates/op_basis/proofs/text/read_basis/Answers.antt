use Rattle.op_basis.specs.ListLaws.{read_named, read_listed}
use Rattle.op_basis.proofs.text.read_basis.Goals as goal

pub returns-in-Some-clause-some : goal.returns-in-Some-clause-some
returns-in-Some-clause-some c = rw c.named.ensures (read_named c.args.word.now)

pub returns-in_default-clause-some : goal.returns-in_default-clause-some
returns-in_default-clause-some c = rw c.listed.ensures (read_listed c.args.word.now)
