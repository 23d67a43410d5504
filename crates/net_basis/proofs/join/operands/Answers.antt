use Rattle.std.proofs.Common.{◌∙◌}
use Rattle.net_basis.proofs.Sets.{all_operands}
use Rattle.net_basis.proofs.join.operands.Goals as goal

pub returns : goal.returns
returns c =
    c.with_function-2.ensures.members
    ∙ rw (c.with_function.ensures.members, c.constants-bits.ensures, c.new-first.ensures, c.new-second.ensures) all_operands
