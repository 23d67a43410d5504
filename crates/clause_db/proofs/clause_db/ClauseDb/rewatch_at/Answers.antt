use Rattle.std.proofs.Common.{ℕ, slice_index_or, ap, ◌∙◌, sym, subst}
use Rattle.clause_db.specs.Watching.{list_of}
use Rattle.clause_db.specs.Stored.{Stored, rewatched}
use Rattle.clause_db.specs.Arranging.{Arranged, watching_of, shown}
use Rattle.clause_db.specs.Moving.{IsMovable}
use Rattle.clause_db.proofs.Shown.{shown_moved}
use Rattle.clause_db.proofs.Databases.{movable_rooms, movable_given, movable_two, movable_block, whole_moved}
use Rattle.clause_db.proofs.clause_db.ClauseDb.rewatch_at.Goals as goal

pub move_to-requires-clause-rooms : goal.move_to-requires-clause-rooms
move_to-requires-clause-rooms c = movable_rooms _ c.args.self.now c.args.from c.args.to c.args.index c.self.view_is c.self.invariant.0 c.requires.movable

pub move_to-requires-clause-id : goal.move_to-requires-clause-id
move_to-requires-clause-id c = movable_given c.self.inside.vars c.self.inside.live.items c.self.inside.watches
    c.args.self.now c.args.from c.args.to c.args.index c.self.view_is c.self.invariant.0 c.requires.movable

pub move_to-requires-clause-two : goal.move_to-requires-clause-two
move_to-requires-clause-two c = movable_two c.self.inside.vars c.self.inside.live.items c.self.inside.watches
    c.args.self.now c.args.from c.args.to c.args.index c.self.view_is c.self.invariant.0 c.self.invariant.2
    c.requires.movable

pub move_to-requires-clause-there : goal.move_to-requires-clause-there
move_to-requires-clause-there c = (movable_block c.self.inside.vars c.self.inside.live.items c.self.inside.watches
    c.args.self.now c.args.from c.args.to c.args.index c.self.view_is c.self.invariant.0 c.self.invariant.2
    c.requires.movable).0

pub move_to-requires-clause-other : goal.move_to-requires-clause-other
move_to-requires-clause-other c = (movable_block c.self.inside.vars c.self.inside.live.items c.self.inside.watches
    c.args.self.now c.args.from c.args.to c.args.index c.self.view_is c.self.invariant.0 c.self.invariant.2
    c.requires.movable).1

pub invariant_of-self-2 : goal.invariant_of-self-2
invariant_of-self-2 c =
    let s : Stored = shown c.self.inside.vars c.self.inside.live.items c.self.inside.watches in
    let id : ℕ = slice_index_or (list_of s.watches c.args.from) c.args.index 0 in
    let movable : IsMovable s id c.args.from c.args.to c.args.index =
    subst (λ (x : Stored). IsMovable x (slice_index_or (list_of x.watches c.args.from) c.args.index 0) c.args.from
    c.args.to c.args.index) (sym c.self.view_is) c.requires.movable in
    whole_moved c.self.inside.vars c.self.inside.live.items c.self.inside.watches c.move_to.new.self id c.args.from c.args.to c.args.index
    c.self.invariant movable c.in_ok-move_to.ensures.ok c.in_ok-move_to.ensures.rows c.in_ok-move_to.ensures.order

pub returns-clause-ok : goal.returns-clause-ok
returns-clause-ok c =
    let a : Arranged = c.self.inside.watches in
    let id : ℕ = slice_index_or (list_of (watching_of a) c.args.from) c.args.index 0 in
    shown_moved c.self.inside.vars c.self.inside.live.items a c.move_to.new.self id c.args.from c.args.to c.args.index c.in_ok-move_to.ensures.ok c.in_ok-move_to.ensures.order
    ∙ ap (λ (s : Stored). rewatched s (slice_index_or (list_of s.watches c.args.from) c.args.index 0) c.args.from c.args.to c.args.index) c.self.view_is

pub returns-clause-whole : goal.returns-clause-whole
returns-clause-whole c = (invariant_of-self-2 c).0
