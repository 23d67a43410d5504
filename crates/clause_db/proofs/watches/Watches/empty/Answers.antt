use Rattle.std.proofs.Common.{◌-◌}
use Rattle.clause_db.proofs.Direct.{direct_without, shown_without}
use Rattle.clause_db.proofs.watches.Watches.empty.Goals as goal

pub invariant_of-self : goal.invariant_of-self
invariant_of-self c = direct_without c.self.inside.arena c.empty.new.self c.self.inside.lists.items (c.args.id - 1) c.empty.ensures.lists c.empty.ensures.starts c.self.invariant

pub returns : goal.returns
returns c = shown_without c.self.inside.arena c.empty.new.self c.self.inside.lists.items c.args.self.now c.args.id c.self.view_is c.empty.ensures.lists c.empty.ensures.starts
