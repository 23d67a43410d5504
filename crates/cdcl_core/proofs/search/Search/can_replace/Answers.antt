use Rattle.std.proofs.Common.{Contains, All, arith}
use Rattle.std.proofs.lemmas.List.Elements.{All-weaker}
use Rattle.clause_db.specs.Members.{all_of_members}
use Rattle.cdcl_core.proofs.search.Search.can_replace.Goals as goal

pub returns : goal.returns
returns c = λ yes.
    let s = c.args.self.now in
    let inside : All (Contains c.arranged.result.now) c.arranged-2.result.now = c.contains_all.ensures.inside yes in
    record {
      apart = c.if-by-id.false;
      given = omega (arith, c.if-id-self.false);
      stays = c.is_irredundant.ensures.0 c.if-not-is_irredundant.false;
      id_live = c.live.ensures.0 c.if-not-live.false;
      by_live = c.live-else-not-live.ensures.0 c.if-not-live-2.false;
      inside = λ clause cover here there.
          all_of_members (Contains clause) c.arranged-2.result.now cover (c.arranged-2.ensures.same cover there)
          (All-weaker (Contains c.arranged.result.now) (Contains clause) (λ l inner. (c.arranged.ensures.same clause here l).0 inner) c.arranged-2.result.now inside);
    }
