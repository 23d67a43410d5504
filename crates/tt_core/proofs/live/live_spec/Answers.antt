use Rattle.std.proofs.Common.{rules}
use Rattle.tt_core.specs.LiveLaws.{part_count, part_cells}
use Rattle.tt_core.proofs.live.live_spec.Goals as goal

pub returns-clause-outputs : goal.returns-clause-outputs
returns-clause-outputs c = part_count c.args.spec.now c.new.result (search rules)

pub returns-clause-cells : goal.returns-clause-cells
returns-clause-cells c = part_cells c.args.spec.now c.new.result (search rules)
