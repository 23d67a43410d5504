use Rattle.equiv_core.specs.RowLaws.{sink_literals}
use Rattle.equiv_core.proofs.miter_rows.push_sink_row.Goals as goal
use Rattle.std.proofs.Common.{refl}

pub push-requires : goal.push-requires
push-requires c =
    sink_literals c.args.numberings.0 c.args.numberings.1 c.args.list.now.vars c.args.difference c.args.signals.0
    c.args.signals.1 c.args.bit _ _ _ c.requires.first c.requires.second c.requires.difference c.requires.signal
    c.requires.other refl c.signal_is-first.ensures c.signal_is-second.ensures
