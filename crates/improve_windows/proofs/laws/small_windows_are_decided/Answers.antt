use Rattle.improve_windows.proofs.SmallWindows.{small_named, small_settled, small_report}
use Rattle.improve_windows.proofs.laws.small_windows_are_decided.Goals as goal

pub returns-clause-none_named : goal.returns-clause-none_named
returns-clause-none_named c = λ s n m settled undecided few left. small_named s n m settled undecided few left

pub returns-clause-settled : goal.returns-clause-settled
returns-clause-settled c = λ s n m undecided few left. small_settled s n m undecided few left

pub returns-clause-report : goal.returns-clause-report
returns-clause-report c = λ f s bytes text report few is. small_report f s bytes text report few is
