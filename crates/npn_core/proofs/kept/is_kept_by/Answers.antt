use Rattle.npn_core.proofs.Tests.{kept_first, kept_second}
use Rattle.npn_core.proofs.kept.is_kept_by.Goals as goal

pub returns-then-plain : goal.returns-then-plain
returns-then-plain c = kept_first c.args.spec.now c.args.p c.args.q c.args.k c.is_kept-plain.result c.if-plain.true c.is_kept-plain.ensures.kept

pub returns-else-plain : goal.returns-else-plain
returns-else-plain c = kept_second c.args.spec.now c.args.p c.args.q c.args.k c.is_kept-plain.result c.is_kept-complemented.result c.if-plain.false
    c.is_kept-plain.ensures.kept c.is_kept-plain.ensures.other c.is_kept-complemented.ensures.kept c.is_kept-complemented.ensures.other
