-- A net over the basis stays as it is.
use Rattle.std.proofs.Common.{◌∙◌, sym, ap}
use Rattle.op_basis.specs.Basis.{members}
use Rattle.net_basis.specs.Conversion.{are_in}
use Rattle.net_basis.proofs.Conversions.{itself_over}
use Rattle.net_basis.proofs.converting.net_over.Goals as goal

pub returns-then-are_in : goal.returns-then-are_in
returns-then-are_in c =
    itself_over (members c.args.basis) c.args.net.now c.gates.ensures.net
    (sym (ap (are_in (members c.args.basis)) c.gates.ensures.gates) ∙ sym c.are_in.ensures ∙ c.if-are_in.true) c.requires
