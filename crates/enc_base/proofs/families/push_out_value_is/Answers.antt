use Rattle.clause_core.specs.declared.raw.RawLit.TheVariants.{Var}
use Rattle.clause_core.specs.Clauses.{IsWithin}
use Rattle.enc_base.specs.RoomLaws.{within_first}
use Rattle.clause_core.specs.WithinLaws.{two}
use Rattle.enc_theory.specs.Families.{out_value_is}
use Rattle.enc_base.proofs.families.push_out_value_is.Goals as goal

pub push-requires : goal.push-requires
push-requires c =
    let vars = c.args.list.now.vars in
    let room = c.requires.room in
    two (IsWithin vars) (Var c.g_var.result _) c.x_is.result
    (within_first c.args.z vars c.g_var.result _ room c.g_var.ensures.within)
    (c.x_is.ensures.within vars room)

pub returns : goal.returns
unfolding out_value_is
returns c = rw (c.g_var.ensures.value, c.x_is.ensures.value) at c.push.ensures.written
