-- The step for one more gate, and the end of the loop.
use Rattle.std.proofs.Common.{ap, subst, ◌∙◌, ℕ, ◌+◌}
use Rattle.net_core.specs.Marks.{kept}
use Rattle.merge_core.specs.Merging.{IsStrashStep}
use Rattle.merge_core.specs.ApartLaws.{keys_none}
use Rattle.merge_core.specs.MergingLaws.{merged_first, merged_next, left_start, left_more, next_stands}
use Rattle.merge_core.proofs.merging.merge_gates.Goals as goal

pub loop-gate-init : goal.loop-gate-init
loop-gate-init c = record {
  merged = merged_first c.args.net.now (c.sources-sources.result + 1) c.args.nodes.now c.new-gates.result.items
      (ap (λ (s : ℕ). s + 1) c.sources-sources.ensures.sources) c.requires.start c.new-gates.ensures.items;
  keys = keys_none c.new-keys.result.keys c.new-gates.result.items c.new-keys.ensures.empty c.new-gates.ensures.items;
  left = left_start c.args.net.now (c.sources-sources.result + 1) c.gates-left.result.now (ap (λ (s : ℕ). s + 1) c.sources-sources.ensures.sources) c.gates-left.ensures.gates;
  nodes = c.requires.count;
}

pub merge_gate-requires-clause-gate : goal.merge_gate-requires-clause-gate
merge_gate-requires-clause-gate c = next_stands c.args.net.now c.loop-gate.node c.loop-gate.left.now c.in-Some.rest.now
    c.in-Some.gate.now c.gates-left.ensures.net c.in-Some.ensures.cases.0 c.loop-gate.invariant.left

pub loop-gate-preserved : goal.loop-gate-preserved
loop-gate-preserved c = record {
  merged = merged_next c.args.net.now c.loop-gate.node c.loop-gate.left.now c.in-Some.rest.now c.in-Some.gate.now
      (kept c.loop-gate.nodes c.loop-gate.gates.items) (kept c.merge_gate.new.nodes c.merge_gate.new.gates.items)
      c.gates-left.ensures.net c.in-Some.ensures.cases.0 c.loop-gate.invariant.left c.loop-gate.invariant.merged
      (subst (λ (s : ℕ). IsStrashStep s c.loop-gate.node c.in-Some.gate.now
      (kept c.loop-gate.nodes c.loop-gate.gates.items) (kept c.merge_gate.new.nodes c.merge_gate.new.gates.items))
      c.sources-sources.ensures.sources c.in_ok-merge_gate.ensures.step);
  keys = c.in_ok-merge_gate.ensures.keys;
  left = left_more c.args.net.now c.loop-gate.node c.loop-gate.left.now c.in-Some.rest.now c.in-Some.gate.now c.in-Some.ensures.cases.0 c.loop-gate.invariant.left;
  nodes = c.merge_gate.auto.nodes ∙ c.loop-gate.invariant.nodes;
}
