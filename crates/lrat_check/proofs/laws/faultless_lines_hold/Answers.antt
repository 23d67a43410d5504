use Rattle.lrat_check.specs.FaultLaws.{line_holds, line_without_fault}
use Rattle.lrat_check.proofs.laws.faultless_lines_hold.Goals as goal

pub returns : goal.returns
returns c = λ s line clauses. (line_holds s line, line_without_fault s line clauses)
