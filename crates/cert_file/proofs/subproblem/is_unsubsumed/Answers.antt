-- The checker tests the literals of the line.
use Rattle.std.proofs.Common.{subst, sym}
use Rattle.lrat_text.specs.declared.line.Line.{Line}
use Rattle.lrat_text.specs.Values.{line_value}
use Rattle.cert_file.specs.Logged.{is_unsubsumed_by}
use Rattle.cert_file.proofs.subproblem.is_unsubsumed.Goals as goal

pub returns-in-Add : goal.returns-in-Add
returns-in-Add c = subst (λ (l : Line). is_unsubsumed_by c.args.checker.now (line_value l) c.is_unsubsumed.result) (sym c.in-Add.is) (rw c.deref.ensures.value at c.is_unsubsumed.ensures)
