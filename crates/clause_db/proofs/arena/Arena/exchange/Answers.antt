use Rattle.std.proofs.Common.{◌≡◌, ◌+◌, ◌<◌, ℤ, List, length, vec_len, arith, rules}
use Rattle.clause_db.proofs.Starts.{shown_exchanged, are_exchanged, places_inside}
use Rattle.clause_db.proofs.arena.Arena.exchange.Goals as goal

pub overflow_add-start : goal.overflow_add-start
overflow_add-start c =
    let row : List ℤ = c.self.inside.row.items in
    let inside : c.args.start + c.args.low < length row =
    (places_inside c.args.self.now row c.self.inside.starts.items c.args.low c.args.high c.args.start c.self.view_is
    c.self.invariant.0 c.requires.there c.requires.places c.requires.order).0 in
    search rules

pub overflow_add-start-2 : goal.overflow_add-start-2
overflow_add-start-2 c =
    let row : List ℤ = c.self.inside.row.items in
    let inside : c.args.start + c.args.high < length row =
    (places_inside c.args.self.now row c.self.inside.starts.items c.args.low c.args.high c.args.start c.self.view_is
    c.self.invariant.0 c.requires.there c.requires.places c.requires.order).1 in
    search rules

pub swap-requires-clause-i_in_bounds : goal.swap-requires-clause-i_in_bounds
swap-requires-clause-i_in_bounds c =
    let row : List ℤ = c.self.inside.row.items in
    let long : vec_len c.self.inside.row ≡ length row = c.self.inside.row.ok.0 in
    let inside : c.args.start + c.args.low < length row =
    (places_inside c.args.self.now row c.self.inside.starts.items c.args.low c.args.high c.args.start c.self.view_is
    c.self.invariant.0 c.requires.there c.requires.places c.requires.order).0 in
    omega (arith, long, inside)

pub swap-requires-clause-j_in_bounds : goal.swap-requires-clause-j_in_bounds
swap-requires-clause-j_in_bounds c =
    let row : List ℤ = c.self.inside.row.items in
    let long : vec_len c.self.inside.row ≡ length row = c.self.inside.row.ok.0 in
    let inside : c.args.start + c.args.high < length row =
    (places_inside c.args.self.now row c.self.inside.starts.items c.args.low c.args.high c.args.start c.self.view_is
    c.self.invariant.0 c.requires.there c.requires.places c.requires.order).1 in
    omega (arith, long, inside)

pub invariant_of-self : goal.invariant_of-self
invariant_of-self c =
    are_exchanged c.args.self.now c.self.inside.row.items c.swap.new.self.items c.self.inside.starts.items c.args.low
    c.args.high c.args.start c.self.view_is c.self.invariant c.requires.there c.requires.order c.requires.places
    c.swap.ensures.items

pub returns-clause-lists : goal.returns-clause-lists
returns-clause-lists c =
    shown_exchanged c.args.self.now c.self.inside.row.items c.swap.new.self.items c.self.inside.starts.items c.args.low
    c.args.high c.args.start c.self.view_is c.self.invariant.0 c.requires.there c.requires.order c.requires.places
    c.swap.ensures.items
