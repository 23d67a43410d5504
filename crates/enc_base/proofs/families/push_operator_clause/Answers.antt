use Rattle.std.proofs.Common.{sym}
use Rattle.clause_core.specs.declared.raw.RawLit.TheVariants.{Var}
use Rattle.clause_core.specs.Clauses.{IsWithin}
use Rattle.enc_base.specs.RoomLaws.{within_first}
use Rattle.clause_core.specs.WithinLaws.{four}
use Rattle.enc_theory.specs.Families.{operator_clause, operator_raw}
use Rattle.enc_base.proofs.families.push_operator_clause.Goals as goal

pub push-requires : goal.push-requires
push-requires c =
    let vars = c.args.list.now.vars in
    let room = c.requires.room in
    four (IsWithin vars) (Var c.f_var.result _) (Var c.f_var-2.result _) (Var c.f_var-3.result _) (Var c.f_var-4.result _)
    (within_first c.args.z vars c.f_var.result _ room c.f_var.ensures.within)
    (within_first c.args.z vars c.f_var-2.result _ room c.f_var-2.ensures.within)
    (within_first c.args.z vars c.f_var-3.result _ room c.f_var-3.ensures.within)
    (within_first c.args.z vars c.f_var-4.result _ room c.f_var-4.ensures.within)

pub returns : goal.returns
unfolding operator_clause operator_raw
returns c =
    rw (sym c.contains.ensures, c.if-contains.false)
    (rw (
      c.f_var.ensures.value,
      c.f_var-2.ensures.value,
      c.f_var-3.ensures.value,
      c.f_var-4.ensures.value,
      c.apply.ensures,
      c.apply-2.ensures,
      c.apply-3.ensures,
      c.apply-4.ensures,
    ) at c.push.ensures.written)
