use Rattle.strong_laws.specs.Strengthened.{strengthened_holds}
use Rattle.strong_laws.specs.Whole.{strong_has_ssv}
use Rattle.strong_laws.specs.Fences.{strong_has_fence}
use Rattle.strong_laws.proofs.laws.further_clauses_ask_nothing.Goals as goal

pub returns-clause-extended : goal.returns-clause-extended
returns-clause-extended c = strengthened_holds

pub returns-clause-strong : goal.returns-clause-strong
returns-clause-strong c = strong_has_ssv

pub returns-clause-fence : goal.returns-clause-fence
returns-clause-fence c = strong_has_fence
