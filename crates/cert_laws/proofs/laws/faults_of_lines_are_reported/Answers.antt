use Rattle.cert_laws.specs.LineFaults.{of_line}
use Rattle.cert_laws.proofs.laws.faults_of_lines_are_reported.Goals as goal

pub returns : goal.returns
returns c = of_line
