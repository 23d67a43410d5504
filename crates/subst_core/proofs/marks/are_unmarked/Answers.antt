use Rattle.std.proofs.Common.{ℕ, ◌<◌, length}
use Rattle.std.proofs.lemmas.List.Elements.{All-rest}
use Rattle.subst_core.proofs.Marking.{unmarked_next, marked_first, rest_within}
use Rattle.subst_core.proofs.marks.are_unmarked.Goals as goal

pub returns-then-marks-node-clause-no : goal.returns-then-marks-node-clause-no
returns-then-marks-node-clause-no c = λ none.
    absurd (marked_first c.args.marks.now c.args.nodes.now c.loop-node.left.now c.in-Some.rest.now c.in-Some.node.now c.in-Some.ensures.cases.0 c.if-marks-node.true c.loop-node.invariant.within none)

pub loop-node-preserved : goal.loop-node-preserved
loop-node-preserved c =
    record {
      below = All-rest (λ (p : ℕ). p < length c.args.marks.now) c.in-Some.node.now c.in-Some.rest.now c.loop-node.left.now c.in-Some.ensures.cases.0 c.loop-node.invariant.below;
      within = rest_within c.args.nodes.now c.loop-node.left.now c.in-Some.rest.now c.in-Some.node.now c.in-Some.ensures.cases.0 c.loop-node.invariant.within;
      all = unmarked_next c.args.marks.now c.args.nodes.now c.loop-node.left.now c.in-Some.rest.now c.in-Some.node.now c.in-Some.ensures.cases.0 c.if-marks-node.false c.loop-node.invariant.all;
    }
