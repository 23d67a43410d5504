use Rattle.npn_strong.specs.CutHolds.{npn_exchange_holds}
use Rattle.npn_strong.specs.Whole.{npn_has_ssv}
use Rattle.npn_strong.specs.Fences.{npn_has_fence}
use Rattle.npn_strong.proofs.laws.exchange_clauses_ask_for_the_cut.Goals as goal

pub returns-clause-true_ : goal.returns-clause-true_
returns-clause-true_ c = npn_exchange_holds

pub returns-clause-ssv : goal.returns-clause-ssv
returns-clause-ssv c = npn_has_ssv

pub returns-clause-fence : goal.returns-clause-fence
returns-clause-fence c = npn_has_fence
