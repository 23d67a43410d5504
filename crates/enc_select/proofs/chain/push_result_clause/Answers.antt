use Rattle.clause_core.specs.declared.raw.RawLit.TheVariants.{Var}
use Rattle.clause_core.specs.Clauses.{IsWithin}
use Rattle.enc_base.specs.RoomLaws.{within_first}
use Rattle.clause_core.specs.WithinLaws.{four}
use Rattle.enc_theory.specs.Select.{result_clause, result_raw}
use Rattle.enc_select.proofs.chain.push_result_clause.Goals as goal

pub push-requires : goal.push-requires
push-requires c =
    let vars = c.args.list.now.vars in
    let room = c.requires.room in
    four (IsWithin vars) c.x_is.result c.value.result c.value-2.result (Var c.f_var.result c.args.a)
    (c.x_is.ensures.within vars room.room)
    (c.value.ensures.within vars room)
    (c.value-2.ensures.within vars room)
    (within_first c.args.z vars c.f_var.result c.args.a room.room c.f_var.ensures.within)

pub returns : goal.returns
unfolding result_clause result_raw
returns c = rw (c.x_is.ensures.value, c.value.ensures.value, c.value-2.ensures.value, c.f_var.ensures.value) at c.push.ensures.written
