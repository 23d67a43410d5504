use Rattle.std.proofs.Common.{◌∙◌, refl}
use Rattle.net_basis.proofs.join.constants.Goals as goal

pub returns : goal.returns
returns c =
    c.with_function-2.ensures.members
    ∙ rw (c.with_function.ensures.members, c.new-none.ensures, c.new-zero.ensures, c.new-one.ensures) refl
