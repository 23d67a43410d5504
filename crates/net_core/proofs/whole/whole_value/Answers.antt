use Rattle.std.proofs.Common.{Bool, not, sym, ap, ◌∙◌}
use Rattle.net_theory.specs.Whole.{value_where}
use Rattle.net_core.specs.Wholes.{joined_bits}
use Rattle.net_core.proofs.WholeTables.{whole_value-is}
use Rattle.net_core.proofs.whole.whole_value.Goals as goal

pub returns-then-whole : goal.returns-then-whole
returns-then-whole c =
    c.joined-bit.ensures
    ∙ sym (ap (λ (t : Bool). value_where t (joined_bits c.args.whole.connective c.args.bits.now)) c.if-whole.true)
    ∙ whole_value-is c.args.whole c.args.bits.now c.requires.some c.requires.width

pub returns-else-whole : goal.returns-else-whole
returns-else-whole c =
    ap not c.joined-bit.ensures
    ∙ sym (ap (λ (t : Bool). value_where t (joined_bits c.args.whole.connective c.args.bits.now)) c.if-whole.false)
    ∙ whole_value-is c.args.whole c.args.bits.now c.requires.some c.requires.width
