use Rattle.std.proofs.Common.{List, filter, rules, ap, ◌∙◌}
use Rattle.std.proofs.lemmas.Fn.{filter_same}
use Rattle.lrat_check.specs.declared.index.Entry.{Entry}
use Rattle.lrat_check.specs.OccurrenceIndex.{has_other_id}
use Rattle.lrat_check.proofs.index.Entries.drop_id.Goals as goal

pub returns : goal.returns
returns c =
    filter_same _ (has_other_id c.args.id) _ (λ x b f' k. search rules) _ _ c.retain.ensures.filtered
    ∙ ap (λ (es : List Entry). filter (has_other_id c.args.id) es) c.self.view_is
