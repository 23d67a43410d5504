-- A fault is refused as by `recheck`.
use Rattle.std.specs.Prelude.{Err}
use Rattle.cert_file.specs.EndLaws.{ended}
use Rattle.cmd_formula.proofs.Finding.{claimed}
use Rattle.cmd_formula.proofs.claims.claim_in.Goals as goal

pub returns-in-Ok-clause-claimed : goal.returns-in-Ok-clause-claimed
returns-in-Ok-clause-claimed c = claimed c.args.bytes.now c.in-Ok.claim c.in-Ok.ensures.exact c.in-Ok.ensures.claim

pub returns-in-Err-clause-stop : goal.returns-in-Err-clause-stop
returns-in-Err-clause-stop c = c.stop.ensures c.args.bytes.now c.requires (ended c.args.bytes.now (Err c.in-Err.error) c.in-Err.ensures.exact)
