use Rattle.std.proofs.Common.{ℕ, ◌++◌, List, sym, ap, ◌∙◌, subst}
use Rattle.fence_core.specs.Fence.{AreListed, listed_fences}
use Rattle.fence_core.specs.ByFirst.{stacked_on, stacked_on_nothing}
use Rattle.fence_core.specs.Listing.{fences_are_listed}
use Rattle.fence_core.proofs.listing.fences.Goals as goal

pub returns-clause-exact : goal.returns-clause-exact
returns-clause-exact c =
    c.in_ok-push_fences.ensures.fences
    ∙ ap (λ (fences : List (List ℕ)). fences ++ stacked_on c.new.result.items (listed_fences c.args.r c.args.outputs)) c.new-fences.ensures.items
    ∙ ap (λ (below : List ℕ). stacked_on below (listed_fences c.args.r c.args.outputs)) c.new.ensures.items
    ∙ stacked_on_nothing (listed_fences c.args.r c.args.outputs)

pub returns-clause-listed : goal.returns-clause-listed
returns-clause-listed c = subst (AreListed c.args.r c.args.outputs) (sym (returns-clause-exact c)) (fences_are_listed c.args.r c.args.outputs)
