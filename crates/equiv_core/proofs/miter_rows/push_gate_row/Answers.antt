use Rattle.std.proofs.Common.{refl}
use Rattle.equiv_core.specs.RowLaws.{gate_literals}
use Rattle.equiv_core.proofs.miter_rows.push_gate_row.Goals as goal

pub push-requires : goal.push-requires
push-requires c =
    gate_literals c.args.numbering c.args.list.now.vars c.args.node c.args.gate.now c.args.a c.args.b _ _ _
    c.requires.room c.requires.node c.requires.gate c.signal_is-first.ensures c.signal_is-second.ensures
    (rw (c.variable.ensures, c.apply.ensures) refl)
