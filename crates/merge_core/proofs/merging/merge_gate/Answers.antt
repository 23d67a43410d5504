-- The node is mapped as defined; the gate that is looked up has its operands mapped.
use Rattle.std.proofs.Common.{subst, ap, ◌∙◌}
use Rattle.net_theory.specs.declared.data.Sig.{Sig}
use Rattle.net_theory.specs.Expansion.{gate_of}
use Rattle.net_theory.specs.declared.data.Gate.{Gate}
use Rattle.merge_core.specs.Merging.{IsFoundOrAppended}
use Rattle.merge_core.specs.MergingLaws.{nodes_put}
use Rattle.merge_core.proofs.merging.merge_gate.Goals as goal

pub returns-clause-step : goal.returns-clause-step
returns-clause-step c = record {
  index = c.in_ok-index.index;
  put = subst (λ (g : Gate). IsFoundOrAppended g c.args.gates.now.items c.index_of.new.gates.items c.in_ok-index.index)
      (ap (λ (s : Sig). gate_of c.args.gate.now.op s c.moved-2.result) c.moved.ensures ∙ ap (gate_of c.args.gate.now.op _) c.moved-2.ensures)
      c.in_ok-index.ensures.put;
  nodes = nodes_put _ _ _ c.requires.within;
}
