use Rattle.std.proofs.Common.{◌≡◌, ℕ, ◌-◌, ◌++◌, ◌∷◌, [], ◌<◌, ◌∙◌, List, Some, ap, sym, subst, true, false}
use Rattle.graph_core.specs.Visit.{fanins_of, has_ended}
use Rattle.graph_core.specs.Frames.{Entered, all_ended, all_steps}
use Rattle.graph_core.proofs.Visits.{entered, last_seen, last_deep, last_new, last_steps}
use Rattle.graph_core.proofs.visiting.visit_from.Goals as goal

pub loop-frame-smaller-then-contains-2 : goal.loop-frame-smaller-then-contains-2
loop-frame-smaller-then-contains-2 c =
    let stack : c.loop-frame.stack.items ≡ c.pop.new.self.items ++
    entered c.frame.inside.node c.frame.inside.left.now c.frame.inside.depth ∷ [] =
    c.in-Some.ensures.items ∙ ap (λ (f : Entered). c.pop.new.self.items ++ f ∷ []) (sym c.frame.view_is) in
    subst (λ (fs : List Entered). all_steps c.args.graph.now fs < all_steps c.args.graph.now c.loop-frame.stack.items) (sym c.in_ok-push-2.ensures.items)
    (last_steps c.args.graph.now _ _ _ _ _ _ _ stack c.in-Some-split_first.ensures.cases.0)

pub loop-frame-preserved-then-contains-2 : goal.loop-frame-preserved-then-contains-2
loop-frame-preserved-then-contains-2 c =
    let stack : c.loop-frame.stack.items ≡ c.pop.new.self.items ++
    entered c.frame.inside.node c.frame.inside.left.now c.frame.inside.depth ∷ [] =
    c.in-Some.ensures.items ∙ ap (λ (f : Entered). c.pop.new.self.items ++ f ∷ []) (sym c.frame.view_is) in
    let seen : has_ended c.loop-frame.order.keys c.in-Some-split_first.next.now ≡ true = sym c.if-contains-2.ensures in
    ap (λ (fs : List Entered). all_ended c.args.graph.now fs (Some c.loop-frame.order.keys)) c.in_ok-push-2.ensures.items
    ∙ last_seen c.args.graph.now _ _ _ _ _ _ _ c.loop-frame.order.keys stack c.in-Some-split_first.ensures.cases.0 seen
    ∙ c.loop-frame.invariant

pub returns-then-depth-eq0-2 : goal.returns-then-depth-eq0-2
returns-then-depth-eq0-2 c =
    let stack : c.loop-frame.stack.items ≡ c.pop.new.self.items ++
    entered c.frame.inside.node c.frame.inside.left.now c.frame.inside.depth ∷ [] =
    c.in-Some.ensures.items ∙ ap (λ (f : Entered). c.pop.new.self.items ++ f ∷ []) (sym c.frame.view_is) in
    let new : has_ended c.loop-frame.order.keys c.in-Some-split_first.next.now ≡ false = sym c.if-contains-2.ensures in
    last_deep c.args.graph.now _ _ _ _ _ _ _ c.loop-frame.order.keys stack c.in-Some-split_first.ensures.cases.0 new c.if-depth-eq0-2.true ∙ c.loop-frame.invariant

pub loop-frame-preserved : goal.loop-frame-preserved
loop-frame-preserved c =
    let stack : c.loop-frame.stack.items ≡ c.pop.new.self.items ++
    entered c.frame.inside.node c.frame.inside.left.now c.frame.inside.depth ∷ [] =
    c.in-Some.ensures.items ∙ ap (λ (f : Entered). c.pop.new.self.items ++ f ∷ []) (sym c.frame.view_is) in
    let new : has_ended c.loop-frame.order.keys c.in-Some-split_first.next.now ≡ false = sym c.if-contains-2.ensures in
    let g = c.args.graph.now in
    let first : List Entered = c.pop.new.self.items ++ entered c.frame.inside.node c.in-Some-split_first.rest.now c.frame.inside.depth ∷ [] in
    let pushed : c.push-in-Some-2.new.self.items ≡ first ++ entered c.in-Some-split_first.next.now (fanins_of g c.in-Some-split_first.next.now) (c.frame.inside.depth - 1) ∷ [] =
    c.in_ok-push-3.ensures.items
    ∙ ap (λ (fs : List Entered). fs ++ entered c.in-Some-split_first.next.now c.fanins_of-in-Some.result.now (c.frame.inside.depth - 1) ∷ []) c.in_ok-push-2.ensures.items
    ∙ ap (λ (r : List ℕ). first ++ entered c.in-Some-split_first.next.now r (c.frame.inside.depth - 1) ∷ []) c.fanins_of-in-Some.ensures in
    ap (λ (fs : List Entered). all_ended g fs (Some c.loop-frame.order.keys)) pushed
    ∙ last_new g _ _ _ _ _ _ _ c.loop-frame.order.keys stack c.in-Some-split_first.ensures.cases.0 new c.if-depth-eq0-2.false
    ∙ c.loop-frame.invariant
