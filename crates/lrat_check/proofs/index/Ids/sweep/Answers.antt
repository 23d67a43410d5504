use Rattle.std.proofs.Common.{ℕ, List, filter, nat_eq, rules, ap, ◌∙◌}
use Rattle.std.specs.HashMap.{get}
use Rattle.std.proofs.lemmas.Fn.{filter_same}
use Rattle.lrat_check.specs.OccurrenceIndex.{is_live}
use Rattle.lrat_check.proofs.index.Ids.sweep.Goals as goal

pub returns : goal.returns
returns c =
    filter_same _ (is_live (get nat_eq c.args.live.now)) _ (λ x b f' k. search rules) _ _ c.retain.ensures.filtered
    ∙ ap (λ (ids : List ℕ). filter (is_live (get nat_eq c.args.live.now)) ids) c.self.view_is
