use Rattle.std.proofs.Common.{◌≡◌, ◌∙◌, ap}
use Rattle.clause_db.specs.Lists.{lists_of}
use Rattle.clause_db.specs.Watching.{with_ids}
use Rattle.clause_db.specs.Blockers.{with_blockers}
use Rattle.clause_db.specs.Arranging.{Arranged}
use Rattle.clause_db.proofs.Direct.{more_lists, shown_more, direct_back, shown_back}
use Rattle.clause_db.proofs.watches.Watches.add.Goals as goal

pub returns-in-Ok-clause-ok : goal.returns-in-Ok-clause-ok
returns-in-Ok-clause-ok c =
    c.in-Ok.ensures.ok ∙ ap (λ (x : Arranged). (let y : Arranged = record {
      arena = x.arena;
      lists = with_ids x.lists c.args.lits.now c.args.id;
      rows = with_blockers x.rows c.args.lits.now;
    } in y))
    (shown_more c.self.inside.arena c.push.new.self c.self.inside.lists.items c.args.self.now c.args.lits.now
    c.in_ok-push.ensures.kept c.self.invariant c.in_ok-push.ensures.ok c.self.view_is)

pub invariant_of-self-in-Err : goal.invariant_of-self-in-Err
invariant_of-self-in-Err c =
    let same : lists_of c.self-2.inside.arena.starts c.self-2.inside.lists.items ≡
    lists_of c.self.inside.arena.starts c.self.inside.lists.items =
    ap (λ (x : Arranged). x.lists) (c.self-2.view_is ∙ c.in-Err.ensures.err)
    ∙ more_lists c.self.inside.arena c.push.new.self c.self.inside.lists.items c.in_ok-push.ensures.kept
    c.self.invariant in
    direct_back c.self.inside.arena c.self-2.inside.arena c.pop.new.self c.args.lits.now c.self.inside.lists.items
    c.self-2.inside.lists.items (ap (λ (x : Arranged). x.arena) (c.self-2.view_is ∙ c.in-Err.ensures.err)
    ∙ c.in_ok-push.ensures.ok) c.pop.ensures.kept same c.self.invariant c.self-2.invariant

pub returns-in-Err-clause-err : goal.returns-in-Err-clause-err
returns-in-Err-clause-err c =
    let same : lists_of c.self-2.inside.arena.starts c.self-2.inside.lists.items ≡
    lists_of c.self.inside.arena.starts c.self.inside.lists.items =
    ap (λ (x : Arranged). x.lists) (c.self-2.view_is ∙ c.in-Err.ensures.err)
    ∙ more_lists c.self.inside.arena c.push.new.self c.self.inside.lists.items c.in_ok-push.ensures.kept
    c.self.invariant in
    shown_back c.self.inside.arena c.self-2.inside.arena c.pop.new.self c.args.lits.now c.self.inside.lists.items
    c.self-2.inside.lists.items _ c.args.self.now (ap (λ (x : Arranged). x.arena) (c.self-2.view_is
    ∙ c.in-Err.ensures.err) ∙ c.in_ok-push.ensures.ok) c.pop.ensures.lists c.pop.ensures.kept same c.self.invariant
    c.self-2.invariant c.self.view_is (c.self-2.view_is
    ∙ c.in-Err.ensures.err) (ap (λ (x : Arranged). x.rows) c.self.view_is)
