use Rattle.std.proofs.Common.{rules, None, List, subst, sym, ◌∙◌, ◌≡◌, Option, ℕ, length, replicate}
use Rattle.net_core.proofs.Firsts.{firsts_none}
use Rattle.net_core.specs.Names.{AreFirsts}
use Rattle.net_core.proofs.naming.first_outputs.Goals as goal

pub note_outputs-requires-clause-none : goal.note_outputs-requires-clause-none
note_outputs-requires-clause-none c =
    let e : c.deref_mut.result.now ≡ replicate c.args.count None = c.deref_mut.ensures.value ∙ c.in_ok-firsts.ensures.items_if_clones_equal (λ y h. search rules) in
    subst (λ (xs : List (Option ℕ)). AreFirsts xs c.args.outputs.now (length c.args.outputs.now) c.args.sinks.now) (sym e) (firsts_none _ _ _)
