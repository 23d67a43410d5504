use Rattle.std.proofs.Common.{◌<◌, ◌-◌, ℕ, List, length, refl, arith, rules}
use Rattle.clause_db.proofs.Starts.{last_headed, are_cut, shown_cut, kept_front}
use Rattle.clause_db.proofs.arena.Arena.pop.Goals as goal

pub overflow_sub-start : goal.overflow_sub-start
overflow_sub-start c =
    let starts : List ℕ = c.self.inside.starts.items in
    let some : 1 < c.in-Some.start = last_headed c.self.inside.row.items starts (length starts - 1) c.in-Some.start c.self.invariant.0 (search rules) (search rules) in
    omega (arith, some)

pub invariant_of-self : goal.invariant_of-self
invariant_of-self c =
    let starts : List ℕ = c.self.inside.starts.items in
    are_cut c.self.inside.row.items c.truncate.new.self.items starts c.pop.new.self.items
    (length starts - 1) c.in-Some.start c.self.invariant (search rules) (search rules)
    (search rules) c.truncate.ensures.items

pub returns-in-Some-clause-lists : goal.returns-in-Some-clause-lists
returns-in-Some-clause-lists c =
    let starts : List ℕ = c.self.inside.starts.items in
    shown_cut c.args.self.now c.self.inside.row.items c.truncate.new.self.items starts c.pop.new.self.items
    (length starts - 1) c.in-Some.start c.self.view_is c.self.invariant.0 (search rules) (search rules)
    (search rules) c.truncate.ensures.items

pub returns-in-Some-clause-kept : goal.returns-in-Some-clause-kept
returns-in-Some-clause-kept c = kept_front c.args.self.now _ c.self.inside.row.items c.truncate.new.self.items
    c.self.inside.starts.items _ (length c.self.inside.starts.items - 1) c.self.view_is refl (search rules)
    (search rules)
