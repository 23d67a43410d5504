use Rattle.std.proofs.Common.{arith}
use Rattle.clause_core.specs.declared.raw.RawLit.TheVariants.{Var}
use Rattle.clause_core.specs.Clauses.{IsWithin}
use Rattle.clause_core.specs.WithinLaws.{within_var, four}
use Rattle.strong_theory.specs.Strong.{operand_differs}
use Rattle.enc_strong.proofs.edge_steps.push_operand_differs.Goals as goal

pub push-requires : goal.push-requires
push-requires c =
    let vars = c.args.list.now.vars in
    let slot = c.requires.slot in
    let low = c.requires.edge.within in
    four (IsWithin vars) (Var c.d_var.result _) (Var c.args.slot.var _) c.differs.result c.differs-2.result
    (within_var vars c.d_var.result _ (omega (arith, c.d_var.ensures.within.0)) (omega (arith, c.d_var.ensures.within.1)))
    (within_var vars c.args.slot.var _ slot.var_from slot.var_within)
    (c.differs.ensures.within vars low)
    (c.differs-2.ensures.within vars low)

pub returns : goal.returns
unfolding operand_differs
returns c = rw (c.d_var.ensures.value, c.differs.ensures.value, c.differs-2.ensures.value) at c.push.ensures.written
