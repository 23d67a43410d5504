use Rattle.std.proofs.Common.{◌≡◌, ◌<◌, length, sym, arith}
use Rattle.solver_tests.proofs.databases.literal_at.Goals as goal

pub returns : goal.returns
returns c = λ clause is.
    let once : length c.arranged.result.now ≡ length clause = c.arranged.ensures.long clause is in
    let again : length c.arranged-2.result.now ≡ length clause = c.arranged-2.ensures.long clause is in
    let low : c.args.place < length c.arranged.result.now = c.if-arranged-place.false in
    (c.arranged-2.ensures.same clause is c.index-arranged-place.result).0 (c.args.place, omega (arith, once, again, low), sym c.index-arranged-place.is)
