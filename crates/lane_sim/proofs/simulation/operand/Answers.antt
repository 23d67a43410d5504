use Rattle.std.proofs.Common.{◌∙◌, sym, subst, refl}
use Rattle.net_theory.specs.declared.data.Sig.{Sig}
use Rattle.lane_sim.specs.declared.rows.Operand.TheVariants as operands
use Rattle.lane_sim.specs.NodeLaws.{operand_row, not_found}
use Rattle.lane_sim.specs.Rows.{IsOperandOf}
use Rattle.lane_sim.proofs.simulation.operand.Goals as goal

pub returns-in-Zero : goal.returns-in-Zero
returns-in-Zero c ps more parts room known = subst (λ (s : Sig). IsOperandOf ps c.args.width s operands.Zero) (sym c.in-Zero.is) refl

pub returns-in-One : goal.returns-in-One
returns-in-One c ps more parts room known = subst (λ (s : Sig). IsOperandOf ps c.args.width s operands.One) (sym c.in-One.is) refl

pub returns-in-Some : goal.returns-in-Some
returns-in-Some c ps more parts room known =
    operand_row c.args.nodes.now.keys ps more c.args.width c.in-Node.node c.in-Some.k c.args.sig c.row_after.result
    c.in-Node.is parts room known (sym c.get_index_of.ensures.index ∙ c.in-Some.is) c.row_after.ensures

pub returns-in-None : goal.returns-in-None
returns-in-None c ps more parts room known = absurd (not_found c.args.nodes.now.keys ps more c.in-Node.node c.args.sig parts known c.in-Node.is (sym c.get_index_of.ensures.index ∙ c.in-None.is))
