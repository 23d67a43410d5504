use Rattle.std.proofs.Common.{◌<◌, ℕ, ◌∙◌, length, sym, subst, true}
use Rattle.std.proofs.lemmas.List.{length-set}
use Rattle.std.proofs.lemmas.List.Elements.{All-rest}
use Rattle.subst_core.specs.Lists.{AllBelow}
use Rattle.subst_core.proofs.Marking.{mark_next, mark_none, first_below}
use Rattle.subst_core.proofs.marks.mark_nodes.Goals as goal

pub loop-node-preserved : goal.loop-node-preserved
loop-node-preserved c =
    let marks = c.loop-node.marks in
    let low : c.in-Some.node.now < length marks = first_below (length marks) c.loop-node.left.now c.in-Some.rest.now c.in-Some.node.now c.in-Some.ensures.cases.0 c.loop-node.invariant.below in
    record {
      marks = mark_next marks c.loop-node.left.now c.in-Some.rest.now c.in-Some.node.now c.in-Some.ensures.cases.0 low ∙ c.loop-node.invariant.marks;
      below = subst (λ (n : ℕ). AllBelow n c.in-Some.rest.now) (sym (length-set marks c.in-Some.node.now true))
          (All-rest (λ (p : ℕ). p < length marks) c.in-Some.node.now c.in-Some.rest.now c.loop-node.left.now
          c.in-Some.ensures.cases.0 c.loop-node.invariant.below);
    }

pub returns : goal.returns
returns c = mark_none c.loop-node.marks c.loop-node.left.now c.in_default.ensures.cases ∙ c.loop-node.invariant.marks
