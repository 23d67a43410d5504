-- The resulting net is the merged net.
use Rattle.std.proofs.Common.{sym, subst}
use Rattle.net_theory.specs.Implements.{Implements}
use Rattle.merge_core.specs.MergingLaws.{merged_whole}
use Rattle.merge_core.proofs.merging.merge_in.Goals as goal

pub new-requires : goal.new-requires
new-requires c =
    let sinks = rw c.sinks.ensures.sinks at c.in_ok-sinks.ensures in
    (merged_whole c.args.net.now c.sources.result c.merge_gates.new.nodes c.in_ok-gates.gates.items
    c.in_ok-sinks.sinks.items c.sources.ensures.net c.in_ok-gates.ensures.merged c.sources.ensures.sources sinks).net

pub returns-clause-implements : goal.returns-clause-implements
returns-clause-implements c =
    let sinks = rw c.sinks.ensures.sinks at c.in_ok-sinks.ensures in
    subst (Implements c.args.net.now) (sym c.new.ensures)
    (merged_whole c.args.net.now c.sources.result c.merge_gates.new.nodes c.in_ok-gates.gates.items
    c.in_ok-sinks.sinks.items c.sources.ensures.net c.in_ok-gates.ensures.merged c.sources.ensures.sources sinks)
