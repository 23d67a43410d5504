use Rattle.std.proofs.Common.{sym}
use Rattle.subst_core.specs.ListsLaws.{same_belongs}
use Rattle.benchmarks.proofs.substituting.replaced.Goals as goal

pub rebuild_substituted-requires-clause-belongs : goal.rebuild_substituted-requires-clause-belongs
rebuild_substituted-requires-clause-belongs c =
    same_belongs c.args.net.now c.args.window.now _ (record { gates = sym c.gates-2.ensures.value; inputs = sym c.inputs-2.ensures.value; outputs = sym c.outputs-2.ensures.value })
    c.requires.belongs
