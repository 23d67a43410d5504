-- A row on which the output specifies the other value.
use Rattle.std.proofs.Common.{sym, ◌∙◌}
use Rattle.step_core.specs.ClashLaws.{clash_seen}
use Rattle.step_core.proofs.determined.has_clash.Goals as goal

pub returns : goal.returns
returns c = clash_seen c.args.spec.now c.on.result.now c.care.result.now c.args.output c.args.row c.args.same
    c.filled.result c.is_one-one.result c.on.ensures c.care.ensures c.n-inputs.ensures.whole c.requires.row
    (sym c.is_one.ensures ∙ c.if-not-is_one.false) c.is_one-one.ensures c.filled.ensures.yes c.filled.ensures.no
