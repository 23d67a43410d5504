use Rattle.std.proofs.Common.{refl}
use Rattle.cdcl_core.proofs.Replacing.{covered_first}
use Rattle.cdcl_core.proofs.search.Search.begin_shorter.Goals as goal

pub returns-clause-logged : goal.returns-clause-logged
returns-clause-logged c = λ f logged. record {
  log = logged.log;
  new = logged.new;
  given = logged.given;
  covered = covered_first f c.args.self.now _ logged.covered c.requires.first refl refl;
}
