use Rattle.std.proofs.Common.{◌≡◌, ◌<◌, ◌-◌, ℕ, ℤ, List, Some, length, sym, subst, arith}
use Rattle.clause_db.specs.Stored.{live_in}
use Rattle.clause_db.specs.StoredLaws.{live_inside}
use Rattle.clause_db.specs.DeletingLaws.{some_live, live_deleted}
use Rattle.clause_db.proofs.Shown.{live_room}
use Rattle.clause_db.proofs.Leaving.{gone_alone, gone_left}
use Rattle.clause_db.proofs.clause_db.ClauseDb.delete.Goals as goal

pub invariant_of-self : goal.invariant_of-self
invariant_of-self c =
    let found : (clause : List ℤ) × (live_in c.args.self.now c.args.id ≡ Some clause) = some_live (live_in c.args.self.now c.args.id) c.requires in
    let short : length found.0 < 2 = omega (arith, c.if-arranged-lt2.true, c.arranged.ensures.long found.0 found.1) in
    rw c.empty.ensures (gone_alone c.self.inside.vars c.self.inside.live.items c.self.inside.watches c.args.self.now c.args.id found.0 c.self.view_is c.self.invariant found.1 short).0

pub returns-then-arranged-lt2-clause-deleted : goal.returns-then-arranged-lt2-clause-deleted
returns-then-arranged-lt2-clause-deleted c =
    let found : (clause : List ℤ) × (live_in c.args.self.now c.args.id ≡ Some clause) = some_live (live_in c.args.self.now c.args.id) c.requires in
    let short : length found.0 < 2 = omega (arith, c.if-arranged-lt2.true, c.arranged.ensures.long found.0 found.1) in
    rw c.empty.ensures (gone_alone c.self.inside.vars c.self.inside.live.items c.self.inside.watches c.args.self.now c.args.id found.0 c.self.view_is c.self.invariant found.1 short).1

pub returns-then-arranged-lt2-clause-live : goal.returns-then-arranged-lt2-clause-live
returns-then-arranged-lt2-clause-live c =
    let found : (clause : List ℤ) × (live_in c.args.self.now c.args.id ≡ Some clause) = some_live (live_in c.args.self.now c.args.id) c.requires in
    live_deleted c.args.id c.args.self.now _ (returns-then-arranged-lt2-clause-deleted c) (live_inside c.args.self.now c.args.id found.0 found.1).0

pub returns-then-arranged-lt2-clause-whole : goal.returns-then-arranged-lt2-clause-whole
returns-then-arranged-lt2-clause-whole c = (invariant_of-self c).0

pub index_mut-requires-2 : goal.index_mut-requires-2
index_mut-requires-2 c =
    let found : (clause : List ℤ) × (live_in c.args.self.now c.args.id ≡ Some clause) = some_live (live_in c.args.self.now c.args.id) c.requires in
    subst (λ (n : ℕ). c.args.id - 1 < n) (sym c.self.inside.live.ok.0)
    (live_room c.self.inside.vars c.self.inside.live.items c.self.inside.watches c.args.self.now c.args.id found.0
    c.self.view_is c.self.invariant.2 found.1)

pub invariant_of-self-2 : goal.invariant_of-self-2
invariant_of-self-2 c =
    let found : (clause : List ℤ) × (live_in c.args.self.now c.args.id ≡ Some clause) = some_live (live_in c.args.self.now c.args.id) c.requires in
    let one = c.watched-first.result.0 in
    let other = c.watched-first.result.1 in
    rw c.leave.ensures (gone_left c.self.inside.vars c.self.inside.live.items c.self.inside.watches c.args.self.now
    c.args.id found.0 one other c.find-index.result c.find-place.result c.self.view_is c.self.invariant found.1
    c.watched-first.ensures.first c.watched-first.ensures.second c.watched-first.ensures.differ c.watched-first.ensures.only
    c.find-index.ensures.inside c.find-index.ensures.there
    c.find-place.ensures.inside c.find-place.ensures.there).0

pub returns-clause-deleted : goal.returns-clause-deleted
returns-clause-deleted c =
    let found : (clause : List ℤ) × (live_in c.args.self.now c.args.id ≡ Some clause) = some_live (live_in c.args.self.now c.args.id) c.requires in
    let one = c.watched-first.result.0 in
    let other = c.watched-first.result.1 in
    rw c.leave.ensures (gone_left c.self.inside.vars c.self.inside.live.items c.self.inside.watches c.args.self.now
    c.args.id found.0 one other c.find-index.result c.find-place.result c.self.view_is c.self.invariant found.1
    c.watched-first.ensures.first c.watched-first.ensures.second c.watched-first.ensures.differ c.watched-first.ensures.only
    c.find-index.ensures.inside c.find-index.ensures.there
    c.find-place.ensures.inside c.find-place.ensures.there).1

pub returns-clause-live : goal.returns-clause-live
returns-clause-live c =
    let found : (clause : List ℤ) × (live_in c.args.self.now c.args.id ≡ Some clause) = some_live (live_in c.args.self.now c.args.id) c.requires in
    live_deleted c.args.id c.args.self.now _ (returns-clause-deleted c) (live_inside c.args.self.now c.args.id found.0 found.1).0

pub returns-clause-whole : goal.returns-clause-whole
returns-clause-whole c = (invariant_of-self-2 c).0
