use Rattle.std.proofs.Common.{arith}
use Rattle.clause_core.specs.declared.raw.RawLit.TheVariants.{Var}
use Rattle.clause_core.specs.Clauses.{IsWithin}
use Rattle.clause_core.specs.WithinLaws.{within_var, three}
use Rattle.strong_theory.specs.Strong.{value_differs}
use Rattle.enc_strong.proofs.edge_steps.push_value_differs.Goals as goal

pub push-requires : goal.push-requires
push-requires c =
    let vars = c.args.list.now.vars in
    let room = c.requires.room in
    let low = c.requires.edge.within in
    three (IsWithin vars) c.x_is.result c.x_is-2.result (Var c.d_var.result _)
    (c.x_is.ensures.within vars room)
    (c.x_is-2.ensures.within vars room)
    (within_var vars c.d_var.result _ (omega (arith, c.d_var.ensures.within.0)) (omega (arith, c.d_var.ensures.within.1)))

pub returns : goal.returns
unfolding value_differs
returns c = rw (c.x_is.ensures.value, c.x_is-2.ensures.value, c.d_var.ensures.value, c.different.ensures) at c.push.ensures.written
