-- The step for one more gate, and the end of the loop.
use Rattle.std.proofs.Common.{◌≡◌, ◌∙◌, ℕ, ◌+◌, None, slice_index_or, ap, subst}
use Rattle.net_core.specs.Marks.{kept}
use Rattle.merge_core.specs.MergingLaws.{merged_first, left_start, left_more, next_stands}
use Rattle.merge_core.specs.Reduction.{reduced}
use Rattle.merge_core.specs.ReductionLaws.{merged_passed, representatives_at, representatives_below, next_within}
use Rattle.merge_core.proofs.equal.reduce_gates.Goals as goal

pub loop-gate-init : goal.loop-gate-init
loop-gate-init c = record {
  merged = merged_first c.args.net.now (c.sources-sources.result + 1) c.args.nodes.now c.new-gates.result.items
      (ap (λ (s : ℕ). s + 1) c.sources-sources.ensures.sources) c.requires.start c.new-gates.ensures.items;
  left = left_start c.args.net.now (c.sources-sources.result + 1) c.gates-left.result.now (ap (λ (s : ℕ). s + 1) c.sources-sources.ensures.sources) c.gates-left.ensures.gates;
  nodes = c.requires.count;
}

pub reduce_gate-requires-clause-gate : goal.reduce_gate-requires-clause-gate
reduce_gate-requires-clause-gate c = next_stands c.args.net.now c.loop-gate.node c.loop-gate.left.now
    c.in-Some.rest.now c.in-Some.gate.now c.gates-left.ensures.net c.in-Some.ensures.cases.0 c.loop-gate.invariant.left

pub reduce_gate-requires-clause-representative : goal.reduce_gate-requires-clause-representative
reduce_gate-requires-clause-representative c =
    representatives_below c.args.net.now c.loop-gate.node (slice_index_or c.args.representatives.now c.loop-gate.node None)
    (representatives_at c.args.net.now c.args.representatives.now c.loop-gate.node c.requires.representatives
    (next_within c.args.net.now c.loop-gate.node c.loop-gate.left.now c.in-Some.rest.now c.in-Some.gate.now
    c.in-Some.ensures.cases.0 c.loop-gate.invariant.left))

pub loop-gate-preserved : goal.loop-gate-preserved
loop-gate-preserved c = record {
  merged = merged_passed c.args.net.now c.loop-gate.node c.loop-gate.left.now c.in-Some.rest.now c.in-Some.gate.now
      (slice_index_or c.args.representatives.now c.loop-gate.node None) (kept c.loop-gate.nodes c.loop-gate.gates.items)
      (kept c.reduce_gate.new.nodes c.reduce_gate.new.gates.items)
      c.gates-left.ensures.net c.in-Some.ensures.cases.0 c.loop-gate.invariant.left c.loop-gate.invariant.merged
      (representatives_at c.args.net.now c.args.representatives.now c.loop-gate.node c.requires.representatives
      (next_within c.args.net.now c.loop-gate.node c.loop-gate.left.now c.in-Some.rest.now c.in-Some.gate.now
      c.in-Some.ensures.cases.0 c.loop-gate.invariant.left))
      (subst (λ (s : ℕ). kept c.reduce_gate.new.nodes c.reduce_gate.new.gates.items ≡
      reduced s (kept c.loop-gate.nodes c.loop-gate.gates.items) c.loop-gate.node c.in-Some.gate.now
      (slice_index_or c.args.representatives.now c.loop-gate.node None)) c.sources-sources.ensures.sources
      c.in_ok-reduce_gate.ensures.reduced);
  left = left_more c.args.net.now c.loop-gate.node c.loop-gate.left.now c.in-Some.rest.now c.in-Some.gate.now c.in-Some.ensures.cases.0 c.loop-gate.invariant.left;
  nodes = c.reduce_gate.ensures.count ∙ c.loop-gate.invariant.nodes;
}
