use Rattle.enc_cuts.proofs.Pieces.{may_is}
use Rattle.enc_cuts.proofs.exchange.may_exchange.Goals as goal

pub returns : goal.returns
returns c = may_is c.args.spec.now c.args.p c.args.q c.symmetric.result c.symmetric.ensures.symmetric c.symmetric.ensures.other
