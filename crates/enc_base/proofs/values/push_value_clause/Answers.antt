use Rattle.clause_core.specs.declared.raw.RawLit.TheVariants.{Var}
use Rattle.clause_core.specs.Clauses.{IsWithin}
use Rattle.clause_core.specs.WithinLaws.{within_var, five}
use Rattle.enc_base.specs.RoomLaws.{within_first}
use Rattle.enc_theory.specs.Families.{value_clause, value_raw}
use Rattle.enc_base.proofs.values.push_value_clause.Goals as goal

pub push-requires : goal.push-requires
push-requires c =
    let vars = c.args.list.now.vars in
    let slot = c.requires.slot in
    let room = c.requires.room in
    five (IsWithin vars) (Var c.args.at.slot.var _) c.x_is.result c.x_is-2.result c.x_is-3.result (Var c.f_var.result c.args.a)
    (within_var vars c.args.at.slot.var _ slot.var_from slot.var_within)
    (c.x_is.ensures.within vars room)
    (c.x_is-2.ensures.within vars room)
    (c.x_is-3.ensures.within vars room)
    (within_first c.args.z vars c.f_var.result c.args.a room c.f_var.ensures.within)

pub returns : goal.returns
unfolding value_clause value_raw
returns c = rw (c.x_is.ensures.value, c.x_is-2.ensures.value, c.x_is-3.ensures.value, c.f_var.ensures.value) at c.push.ensures.written
