use Rattle.tt_core.specs.Words.{specification}
use Rattle.bound_core.specs.ValueLaws.{NoneFits}
use Rattle.bound_core.proofs.words.is_live.Given as goal

abbrev pub invariant-loop-before : goal.invariant-loop-before
invariant-loop-before l = NoneFits (specification l.spec) l.h l.before
