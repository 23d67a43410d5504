use Rattle.cert_laws.specs.Meanings.{verdict_true}
use Rattle.cert_laws.proofs.laws.verdicts_are_true.Goals as goal

pub returns : goal.returns
returns c = verdict_true
