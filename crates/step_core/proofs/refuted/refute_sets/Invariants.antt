use Rattle.op_basis.specs.Basis.{members}
use Rattle.chain_theory.specs.Operator.{digit}
use Rattle.step_core.specs.Reads.{NoneReading}
use Rattle.step_core.specs.RefutingLaws.{IsRuledOut, AllBelow}
use Rattle.step_core.proofs.refuted.refute_sets.Given as goal

abbrev pub invariant-loop-reads : goal.invariant-loop-reads
invariant-loop-reads l = IsRuledOut l.initial.stack l.stack (AllBelow (λ reads.
    NoneReading l.live (members l.rules.basis) l.initial.stack.steps l.steps (digit reads)) l.reads)
