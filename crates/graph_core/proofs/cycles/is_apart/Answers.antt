use Rattle.std.proofs.Common.{◌≡◌, ℕ, ◌<◌, List, true, subst}
use Rattle.std.specs.Prelude.{slice_index}
use Rattle.graph_core.specs.Visit.{has_ended}
use Rattle.graph_core.proofs.CycleLemmas.{apart}
use Rattle.graph_core.proofs.cycles.is_apart.Goals as goal

pub returns : goal.returns
returns c = λ e.
    apart c.args.graph.now c.args.numbers.now c.args.node c.requires
    (subst (λ (rs : List ℕ). (u : ℕ) → has_ended rs u ≡ true → slice_index c.args.numbers.now u < slice_index c.args.numbers.now c.args.node) c.fanins_of.ensures
    (subst (λ (n : ℕ). (u : ℕ) → has_ended c.fanins_of.result.now u ≡ true → slice_index c.args.numbers.now u < n) c.number_of.ensures (c.are_below.ensures e)))
