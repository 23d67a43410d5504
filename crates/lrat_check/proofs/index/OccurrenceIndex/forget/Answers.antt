use Rattle.std.proofs.Common.{ℕ, List, nat_eq, subst, sym}
use Rattle.std.specs.HashMap.{get}
use Rattle.lrat_check.specs.OccurrenceIndex.{Lists, KeepsLive}
use Rattle.lrat_check.proofs.Swept.{lists_of, kept_dropped, kept_swept}
use Rattle.lrat_check.proofs.index.OccurrenceIndex.forget.Goals as goal

pub returns-then-self-len : goal.returns-then-self-len
returns-then-self-len c =
    subst (λ (old : Lists). KeepsLive (get nat_eq c.args.live.now) old (lists_of c.drop_entries.new.lists.items c.self.inside.others)) c.self.view_is
    (kept_dropped (get nat_eq c.args.live.now) c.args.id c.self.inside.heads.items c.drop_entries.new.lists.items c.self.inside.others c.requires c.drop_entries.ensures)

pub returns : goal.returns
returns c =
    subst (λ (old : Lists). KeepsLive (get nat_eq c.args.live.now) old (lists_of c.drop_entries.new.lists.items c.sweep.new.self)) c.self.view_is
    (subst (λ (others : List ℕ). KeepsLive (get nat_eq c.args.live.now)
    (lists_of c.self.inside.heads.items c.self.inside.others) (lists_of c.drop_entries.new.lists.items others))
    (sym c.sweep.ensures)
    (kept_swept (get nat_eq c.args.live.now) c.args.id c.self.inside.heads.items c.drop_entries.new.lists.items c.self.inside.others c.requires c.drop_entries.ensures))
