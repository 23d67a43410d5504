use Rattle.std.proofs.Common.{List, subst}
use Rattle.net_theory.specs.declared.data.Sig.{Sig}
use Rattle.net_theory.specs.declared.data.Gate.{Gate}
use Rattle.window_core.specs.Fanouts.{named_by_gate, named_by_sinks, sum_gates}
use Rattle.window_core.specs.Noting.{AreGrown}
use Rattle.window_core.specs.NotingLaws.{grown_both}
use Rattle.window_core.proofs.fanouts.count_all.Goals as goal

pub returns : goal.returns
returns c =
    grown_both c.args.net.now c.args.uses.now c.count_gates.new.uses c.count_sinks.new.uses
    (subst (λ (gs : List Gate). AreGrown (λ p. sum_gates (λ q g. named_by_gate p g) 0 gs) c.args.uses.now c.count_gates.new.uses) c.gates.ensures.gates c.count_gates.ensures)
    (subst (λ (ss : List Sig). AreGrown (λ p. named_by_sinks p ss) c.count_gates.new.uses c.count_sinks.new.uses) c.sinks.ensures.sinks c.count_sinks.ensures)
