use Rattle.std.proofs.Common.{◌≡◌, ℕ, ℤ, List, length, slice_index_or, slice_set, Contains, ap, refl, sym, subst, arith}
use Rattle.clause_db.specs.Watching.{watch_list_in}
use Rattle.clause_db.specs.Lists.{WatchEntries, AreDirect}
use Rattle.clause_db.specs.Arranging.{Arranged, block_at, exchanged_at}
use Rattle.clause_db.specs.Deleting.{arranged_left}
use Rattle.clause_db.proofs.WatchEntries.{shown_lists}
use Rattle.clause_db.proofs.Direct.{entry_inside, entry_direct}
use Rattle.clause_db.proofs.Arranging.{IsMoved, low_high, all_moved}
use Rattle.clause_db.proofs.Handing.{IsEntryOf, entry_read, arranged_pushed, leaving_inside, handed_on}
use Rattle.clause_db.proofs.watches.Watches.move_to.Goals as goal
use Rattle.clause_db.proofs.watches.Watches.move_to.Goals.{After-read-block, After-take_out}

-- the entry of the clause, and its literals
read : (c : After-read-block) → IsEntryOf c.self.inside.arena c.args.self.now c.at-start.result.start
    (slice_index_or (watch_list_in c.args.self.now.lists c.args.from) c.args.index 0) c.read-block.result.now
read c =
    entry_read c.self.inside.arena c.self.inside.lists.items c.args.self.now c.args.from c.code.result c.index.result.now c.args.index c.at-start.result c.read-block.result.now
    c.self.view_is c.code.ensures.value c.requires.rooms.0 c.index.ensures c.requires.inside c.at-start.ensures c.read-block.ensures c.self.invariant

pub at-start-requires : goal.at-start-requires
at-start-requires c =
    entry_inside c.self.inside.arena c.self.inside.lists.items c.args.self.now c.args.from c.code.result c.index.result.now c.args.index
    c.self.view_is c.code.ensures.value c.requires.rooms.0 c.index.ensures c.requires.inside

pub read-block-requires : goal.read-block-requires
read-block-requires c =
    entry_direct c.self.inside.arena c.self.inside.lists.items c.args.self.now c.args.from c.code.result c.index.result.now c.args.index c.at-start.result
    c.self.view_is c.code.ensures.value c.requires.rooms.0 c.index.ensures c.requires.inside c.at-start.ensures c.self.invariant

pub place_of_watch-low-requires : goal.place_of_watch-low-requires
place_of_watch-low-requires c = omega (arith, c.requires.two, ap length (read (goal.at.place_of_watch-low-requires c).After-read-block).2)

pub bounds-block-low : goal.bounds-block-low
bounds-block-low c = omega (arith, c.requires.two, ap length (read (goal.at.bounds-block-low c).After-read-block).2)

pub place_of-high-requires : goal.place_of-high-requires
place_of-high-requires c = subst (λ (xs : List ℤ). Contains xs c.args.to) (sym (read (goal.at.place_of-high-requires c).After-read-block).2) c.requires.there

pub exchange-requires-clause-there : goal.exchange-requires-clause-there
exchange-requires-clause-there c = (read (goal.at.exchange-requires-clause-there c).After-read-block).1

pub exchange-requires-clause-order : goal.exchange-requires-clause-order
exchange-requires-clause-order c =
    let block : c.read-block.result.now ≡ block_at c.args.self.now.arena (slice_index_or (watch_list_in c.args.self.now.lists c.args.from) c.args.index 0) =
    (read (goal.at.exchange-requires-clause-order c).After-read-block).2 in
    low_high c.read-block.result.now c.args.from c.args.to c.place_of_watch-low.result c.place_of-high.result
    c.place_of_watch-low.ensures.found c.place_of-high.ensures.there (rw block c.requires.other)

pub take_out-requires : goal.take_out-requires
take_out-requires c =
    let id : ℕ = slice_index_or (watch_list_in c.args.self.now.lists c.args.from) c.args.index 0 in
    leaving_inside c.self.inside.arena c.exchange.new.self c.self.inside.lists.items c.args.self.now c.args.from c.args.to c.index-block-low.result c.code-2.result c.code-3.result
    c.at-start.result.start id c.args.index c.place_of_watch-low.result c.place_of-high.result c.index_mut.result.now c.push.new.self c.index_mut-2.result.now
    c.self.view_is c.code-2.ensures.value c.code-3.ensures.value c.requires.rooms c.requires.apart c.index_mut.ensures.value c.in_ok-push.ensures.ok
    (read (goal.at.take_out-requires c).After-read-block).0 c.exchange.ensures.lists c.exchange.ensures.starts c.index_mut-2.ensures.value c.requires.inside

-- at the end: the id, what was read of its entry, the lists, and what the list of `to` got
abbrev id_moved : After-take_out → ℕ
id_moved c = slice_index_or (watch_list_in c.args.self.now.lists c.args.from) c.args.index 0

abbrev WasRead : After-take_out → Type 0
WasRead c = IsEntryOf c.self.inside.arena c.args.self.now c.at-start.result.start (id_moved c) c.read-block.result.now

abbrev lists_new : After-take_out → List WatchEntries
lists_new c = slice_set (slice_set c.self.inside.lists.items c.code-2.result c.push.new.self) c.code-3.result c.take_out.new.self

abbrev pushed : After-take_out → Arranged
pushed c = arranged_pushed c.args.self.now c.args.to (id_moved c) c.index-block-low.result

-- The lists have the starts of their clauses,
handed : (c : After-take_out) → WasRead c → AreDirect c.exchange.new.self (lists_new c)
    × (shown_lists c.exchange.new.self (lists_new c) ≡ exchanged_at (arranged_left (pushed c) c.args.from c.args.index) (id_moved c) c.place_of_watch-low.result c.place_of-high.result)
handed c read_is =
    handed_on c.self.inside.arena c.exchange.new.self c.self.inside.lists.items c.args.self.now c.args.from c.args.to c.index-block-low.result c.code-2.result c.code-3.result
    c.at-start.result.start (id_moved c) c.args.index c.place_of_watch-low.result c.place_of-high.result c.index_mut.result.now c.push.new.self c.index_mut-2.result.now c.take_out.new.self
    c.self.view_is c.code-2.ensures.value c.code-3.ensures.value c.requires.rooms c.requires.apart c.index_mut.ensures.value c.in_ok-push.ensures.ok
    read_is.0 c.exchange.ensures.lists c.exchange.ensures.starts c.index_mut-2.ensures.value c.requires.inside c.take_out.ensures read_is.1 c.self.invariant

-- and the clause watches the other literal.
moved : (c : After-take_out) → WasRead c → IsMoved c.args.self.now (shown_lists c.exchange.new.self (lists_new c)) (id_moved c) c.args.from c.args.to c.args.index
moved c read_is =
    all_moved c.args.self.now (pushed c) (arranged_left (pushed c) c.args.from c.args.index)
    (shown_lists c.exchange.new.self (lists_new c)) c.args.from c.args.to c.index-block-low.result
    c.read-block.result.now
    (id_moved c) c.args.index c.place_of_watch-low.result c.place_of-high.result refl refl (handed c read_is).1 c.requires.apart c.requires.id
    read_is.2 c.place_of_watch-low.ensures.found c.place_of-high.ensures.inside c.place_of-high.ensures.there c.requires.two c.index-block-low.is c.requires.other

pub invariant_of-self-2 : goal.invariant_of-self-2
invariant_of-self-2 c = (handed (goal.at.invariant_of-self-2 c).After-take_out (read (goal.at.invariant_of-self-2 c).After-read-block)).0

pub returns-clause-ok : goal.returns-clause-ok
returns-clause-ok c = (moved (goal.at.returns-clause-ok c).After-take_out (read (goal.at.returns-clause-ok c).After-read-block)).0

pub returns-clause-rows : goal.returns-clause-rows
returns-clause-rows c = (moved (goal.at.returns-clause-rows c).After-take_out (read (goal.at.returns-clause-rows c).After-read-block)).1

pub returns-clause-order : goal.returns-clause-order
returns-clause-order c = (moved (goal.at.returns-clause-order c).After-take_out (read (goal.at.returns-clause-order c).After-read-block)).2
