-- The resulting net is the net over the basis.
use Rattle.std.proofs.Common.{sym, subst}
use Rattle.op_basis.specs.Basis.{members}
use Rattle.net_basis.specs.OverBasis.{IsNetOver}
use Rattle.net_basis.proofs.Conversions.{whole_over}
use Rattle.net_basis.proofs.converting.net_of_gates.Goals as goal

pub new-requires : goal.new-requires
new-requires c =
    let sinks = rw c.sinks.ensures.sinks at c.in_ok-sinks.ensures in
    (whole_over (members c.args.basis) c.args.net.now c.sources.result c.args.nodes.now c.args.gates.items
    c.in_ok-sinks.sinks.items c.sources.ensures.net c.requires.passed c.requires.other c.sources.ensures.sources sinks).behaves.net

pub returns : goal.returns
returns c =
    let sinks = rw c.sinks.ensures.sinks at c.in_ok-sinks.ensures in
    subst (IsNetOver (members c.args.basis) c.args.net.now) (sym c.new.ensures)
    (whole_over (members c.args.basis) c.args.net.now c.sources.result c.args.nodes.now c.args.gates.items
    c.in_ok-sinks.sinks.items c.sources.ensures.net c.requires.passed c.requires.other c.sources.ensures.sources sinks)
