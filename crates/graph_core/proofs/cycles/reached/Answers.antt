use Rattle.std.proofs.Common.{◌≡◌, ◌∙◌, ap, sym, subst, ℕ, List, ◌+◌, arith, [], length, ◌≤◌, Some}
use Rattle.std.specs.Prelude.{slice_get}
use Rattle.std.proofs.lemmas.Option.{slice_get_within}
use Rattle.graph_core.specs.Visit.{fanins_of}
use Rattle.graph_core.specs.Cycles.{added}
use Rattle.graph_core.proofs.CycleLemmas.{Reaches, reaches_start, reaches_next, reaches_end, reached_few}
use Rattle.graph_core.proofs.cycles.reached.Goals as goal

pub loop-next-init : goal.loop-next-init
loop-next-init c =
    let keys : c.add_all.new.set.keys ≡ added [] (fanins_of c.args.graph.now c.args.node) =
    c.in_ok-add_all.ensures ∙ ap (λ (s : List ℕ). added s c.fanins_of.result.now) c.new-set.ensures.empty
    ∙ ap (added []) c.fanins_of.ensures in
    subst (Reaches c.args.graph.now c.args.node 0) (sym keys) (reaches_start c.args.graph.now c.args.node)

pub overflow_add-at : goal.overflow_add-at
overflow_add-at c =
    let here : slice_get c.loop-next.set.keys c.loop-next.at ≡ Some c.in-Some.next = sym c.node_at.ensures.is ∙ c.in-Some.is in
    omega (arith, slice_get_within c.loop-next.set.keys c.loop-next.at c.in-Some.next here, c.node_at.ensures.small)

pub loop-next-smaller : goal.loop-next-smaller
loop-next-smaller c =
    let here : slice_get c.loop-next.set.keys c.loop-next.at ≡ Some c.in-Some.next = sym c.node_at.ensures.is ∙ c.in-Some.is in
    let few : length c.loop-next.set.keys ≤ length c.args.graph.now =
    reached_few c.args.graph.now c.args.node c.loop-next.at c.loop-next.set.keys c.requires c.node_at.ensures.once
    c.loop-next.invariant in
    omega (arith, slice_get_within c.loop-next.set.keys c.loop-next.at c.in-Some.next here, few)

pub loop-next-preserved : goal.loop-next-preserved
loop-next-preserved c =
    let here : slice_get c.loop-next.set.keys c.loop-next.at ≡ Some c.in-Some.next = sym c.node_at.ensures.is ∙ c.in-Some.is in
    let keys : c.add_all-in-Some.new.set.keys ≡ added c.loop-next.set.keys
    (fanins_of c.args.graph.now c.in-Some.next) =
    c.in_ok-add_all-2.ensures ∙ ap (added c.loop-next.set.keys) c.fanins_of-in-Some.ensures in
    subst (Reaches c.args.graph.now c.args.node (c.loop-next.at + 1)) (sym keys)
    (reaches_next c.args.graph.now c.args.node c.loop-next.at c.in-Some.next c.loop-next.set.keys
    c.loop-next.invariant here)

pub returns : goal.returns
returns c = reaches_end c.args.graph.now c.args.node c.loop-next.at c.loop-next.set.keys c.loop-next.invariant c.in_default.ensures.end
