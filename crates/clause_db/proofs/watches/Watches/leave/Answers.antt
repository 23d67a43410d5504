use Rattle.std.proofs.Common.{◌<◌, ℕ, List, length, sym, subst}
use Rattle.clause_db.specs.WatchingLaws.{listed-other}
use Rattle.clause_db.proofs.watches.Watches.leave.Goals as goal

pub take_out-requires-2-clause-inside : goal.take_out-requires-2-clause-inside
take_out-requires-2-clause-inside c = rw c.take_out.ensures
    (subst (λ (xs : List ℕ). c.args.place < length xs)
    (sym (listed-other c.args.self.now.lists c.args.one c.args.other _ (λ e. c.requires.apart (sym e))))
    c.requires.inside.1)
