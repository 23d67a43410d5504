use Rattle.std.proofs.Common.{◌∙◌, sym, length}
use Rattle.net_theory.specs.Net.{bit_of}
use Rattle.net_theory.proofs.PlainValues.{values_of-none, values_of-last, values_of-before}
use Rattle.net_theory.proofs.plain.+values.Goals as goal

pub node_value-returns-in_default : goal.node_value-returns-in_default
node_value-returns-in_default t c =
    c.given_bit.ensures ∙ sym (values_of-none (bit_of c.args.given.now) (length c.args.given.now) c.args.node c.args.gates.now c.in_default.ensures.cases)

pub node_value-returns-then-node-given : goal.node_value-returns-then-node-given
node_value-returns-then-node-given t c =
    (rw (c.sig_value-a.ensures, c.sig_value-b.ensures) at c.apply.ensures)
    ∙ sym (values_of-last (bit_of c.args.given.now) (length c.args.given.now) c.args.node c.args.gates.now c.in-Some.before.now c.in-Some.last.now c.in-Some.ensures.cases.0 c.if-node-given.true)

pub node_value-returns-else-node-given : goal.node_value-returns-else-node-given
node_value-returns-else-node-given t c =
    c.node_value.ensures
    ∙ sym (values_of-before (bit_of c.args.given.now) (length c.args.given.now) c.args.node c.args.gates.now c.in-Some.before.now c.in-Some.last.now c.in-Some.ensures.cases.0 c.if-node-given.false)
