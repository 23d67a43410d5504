use Rattle.std.proofs.Common.{◌∙◌, ℕ, ℤ, List, refl, ap, sym, subst, arith}
use Rattle.cdcl_theory.specs.Propagation.{IsFalsified}
use Rattle.cdcl_theory.specs.Trails.{TrailState, falsified_at, pushed}
use Rattle.clause_db.specs.Stored.{Stored, live_in}
use Rattle.cdcl_core.specs.Visiting.{id_at}
use Rattle.cdcl_core.proofs.Visits.{IsFront, IsOther, front_at, front_one, other_watches, blocks, movable_to, all_but, found_false, kept_pushed, kept_blocked}
use Rattle.cdcl_core.proofs.visiting.visit.Goals as goal

pub other_watch-other-requires-clause-two : goal.other_watch-other-requires-clause-two
other_watch-other-requires-clause-two c =
    let s : Stored = c.args.clauses.now in
    let id : ℕ = id_at s c.args.falsified c.args.index in
    let lits : List ℤ = c.arranged_at-lits.result.now in
    let front : IsFront s id c.args.falsified lits =
    front_at s c.args.falsified c.args.index id lits c.requires.stored c.requires.inside refl
    c.arranged_at-lits.ensures.same (λ _. c.arranged_at-lits.ensures.front) c.arranged_at-lits.ensures.clause in
    front.long

pub other_watch-other-requires-clause-one : goal.other_watch-other-requires-clause-one
other_watch-other-requires-clause-one c =
    let s : Stored = c.args.clauses.now in
    let id : ℕ = id_at s c.args.falsified c.args.index in
    let lits : List ℤ = c.arranged_at-lits.result.now in
    let front : IsFront s id c.args.falsified lits =
    front_at s c.args.falsified c.args.index id lits c.requires.stored c.requires.inside refl
    c.arranged_at-lits.ensures.same (λ _. c.arranged_at-lits.ensures.front) c.arranged_at-lits.ensures.clause in
    front_one s id c.args.falsified lits front

pub set_blocker-requires-clause-there : goal.set_blocker-requires-clause-there
set_blocker-requires-clause-there c =
    let s : Stored = c.args.clauses.now in
    let id : ℕ = id_at s c.args.falsified c.args.index in
    let lits : List ℤ = c.arranged_at-lits.result.now in
    let front : IsFront s id c.args.falsified lits =
    front_at s c.args.falsified c.args.index id lits c.requires.stored c.requires.inside refl
    c.arranged_at-lits.ensures.same (λ _. c.arranged_at-lits.ensures.front) c.arranged_at-lits.ensures.clause in
    let other : ℤ = c.other_watch-other.result in
    let is_other : IsOther lits c.args.falsified other = record { watched = c.other_watch-other.ensures.watched; only = c.other_watch-other.ensures.only } in
    blocks s c.args.falsified other c.args.index id c.requires.stored refl (other_watches s id c.args.falsified other lits front is_other)

pub returns-then-falsified_at-gt0-clause-visit : goal.returns-then-falsified_at-gt0-clause-visit
returns-then-falsified_at-gt0-clause-visit c =
    let s : Stored = c.args.clauses.now in
    let id : ℕ = id_at s c.args.falsified c.args.index in
    let lits : List ℤ = c.arranged_at-lits.result.now in
    let front : IsFront s id c.args.falsified lits =
    front_at s c.args.falsified c.args.index id lits c.requires.stored c.requires.inside refl
    c.arranged_at-lits.ensures.same (λ _. c.arranged_at-lits.ensures.front) c.arranged_at-lits.ensures.clause in
    let other : ℤ = c.other_watch-other.result in
    let is_other : IsOther lits c.args.falsified other = record { watched = c.other_watch-other.ensures.watched; only = c.other_watch-other.ensures.only } in
    let t : TrailState = c.args.trail.now in
    let on = ap (falsified_at t) c.opposite.ensures.value in
    kept_blocked s c.set_blocker.new.self t c.args.falsified other c.args.index id c.requires.stored refl
    (other_watches s id c.args.falsified other lits front is_other)
    (omega (arith, c.falsified_at.ensures.value, on, c.if-falsified_at-gt0.true)) c.set_blocker.ensures.same

pub find_replacement-requires-clause-inside : goal.find_replacement-requires-clause-inside
find_replacement-requires-clause-inside c =
    let s : Stored = c.args.clauses.now in
    let id : ℕ = id_at s c.args.falsified c.args.index in
    let lits : List ℤ = c.arranged_at-lits.result.now in
    let front : IsFront s id c.args.falsified lits =
    front_at s c.args.falsified c.args.index id lits c.requires.stored c.requires.inside refl
    c.arranged_at-lits.ensures.same (λ _. c.arranged_at-lits.ensures.front) c.arranged_at-lits.ensures.clause in
    front.long

pub rewatch_at-requires : goal.rewatch_at-requires
rewatch_at-requires c =
    let s : Stored = c.args.clauses.now in
    let id : ℕ = id_at s c.args.falsified c.args.index in
    let lits : List ℤ = c.arranged_at-lits.result.now in
    let front : IsFront s id c.args.falsified lits =
    front_at s c.args.falsified c.args.index id lits c.requires.stored c.requires.inside refl
    c.arranged_at-lits.ensures.same (λ _. c.arranged_at-lits.ensures.front) c.arranged_at-lits.ensures.clause in
    record {
      movable = movable_to s c.args.falsified c.in-Some.found.lit c.args.index id lits c.in-Some.found.place
          c.requires.inside refl front c.in-Some.ensures.place.0 c.in-Some.ensures.place.1 c.in-Some.ensures.lit;
    }

pub returns-in-Some-clause-visit : goal.returns-in-Some-clause-visit
returns-in-Some-clause-visit c =
    let s : Stored = c.args.clauses.now in
    let id : ℕ = id_at s c.args.falsified c.args.index in
    let lits : List ℤ = c.arranged_at-lits.result.now in
    let front : IsFront s id c.args.falsified lits =
    front_at s c.args.falsified c.args.index id lits c.requires.stored c.requires.inside refl
    c.arranged_at-lits.ensures.same (λ _. c.arranged_at-lits.ensures.front) c.arranged_at-lits.ensures.clause in
    record {
      same = refl;
      to = c.in-Some.found.lit;
      movable = movable_to s c.args.falsified c.in-Some.found.lit c.args.index id lits c.in-Some.found.place
          c.requires.inside refl front c.in-Some.ensures.place.0 c.in-Some.ensures.place.1 c.in-Some.ensures.lit;
      up = c.in-Some.ensures.up;
      is = c.in_ok-rewatch_at.ensures.ok;
    }

pub returns-then-falsified_at-gt0-2-clause-visit : goal.returns-then-falsified_at-gt0-2-clause-visit
returns-then-falsified_at-gt0-2-clause-visit c =
    let s : Stored = c.args.clauses.now in
    let id : ℕ = id_at s c.args.falsified c.args.index in
    let lits : List ℤ = c.arranged_at-lits.result.now in
    let front : IsFront s id c.args.falsified lits =
    front_at s c.args.falsified c.args.index id lits c.requires.stored c.requires.inside refl
    c.arranged_at-lits.ensures.same (λ _. c.arranged_at-lits.ensures.front) c.arranged_at-lits.ensures.clause in
    let other : ℤ = c.other_watch-other.result in
    let is_other : IsOther lits c.args.falsified other = record { watched = c.other_watch-other.ensures.watched; only = c.other_watch-other.ensures.only } in
    let t : TrailState = c.args.trail.now in
    let off = c.falsified_at-2.ensures.value in
    record {
      same = refl;
      same_trail = refl;
      falsified =
          subst (λ (k : ℕ). IsFalsified (live_in s) (falsified_at t) k) c.id_at-id.ensures.value
          (found_false s t id c.args.falsified other lits front is_other c.requires.falsified c.in_default.ensures.none
          (omega (arith, off, c.if-falsified_at-gt0-2.true)));
    }

pub returns-clause-visit : goal.returns-clause-visit
returns-clause-visit c =
    let s : Stored = c.args.clauses.now in
    let id : ℕ = id_at s c.args.falsified c.args.index in
    let lits : List ℤ = c.arranged_at-lits.result.now in
    let front : IsFront s id c.args.falsified lits =
    front_at s c.args.falsified c.args.index id lits c.requires.stored c.requires.inside refl
    c.arranged_at-lits.ensures.same (λ _. c.arranged_at-lits.ensures.front) c.arranged_at-lits.ensures.clause in
    let other : ℤ = c.other_watch-other.result in
    let is_other : IsOther lits c.args.falsified other = record { watched = c.other_watch-other.ensures.watched; only = c.other_watch-other.ensures.only } in
    let t : TrailState = c.args.trail.now in
    let off = ap (falsified_at t) c.opposite.ensures.value in
    let down = c.falsified_at.ensures.value in
    let up = c.falsified_at-2.ensures.value in
    kept_pushed s t c.push.new.self c.args.falsified other c.args.index id front.watches.clause c.requires.stored
    c.requires.whole c.requires.vars refl front.watches.is_live
    (other_watches s id c.args.falsified other lits front is_other)
    (omega (arith, up, c.if-falsified_at-gt0-2.false), omega (arith, down, off, c.if-falsified_at-gt0.false))
    (all_but s t id c.args.falsified other lits front.watches.clause front is_other c.requires.falsified
    c.in_default.ensures.none front.watches.is_live) (c.in_ok-push.ensures.ok
    ∙ ap (λ (k : ℕ). pushed t other k) (sym c.id_at-id.ensures.value))
