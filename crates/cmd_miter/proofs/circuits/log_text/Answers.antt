use Rattle.std.proofs.Common.{◌∙◌}
use Rattle.equiv_theory.specs.Miter.{miter}
use Rattle.cmd_formula.specs.PlainLogs.{plain_is}
use Rattle.cmd_miter.proofs.circuits.log_text.Goals as goal

pub returns : goal.returns
returns c = c.in_ok-text.ensures ∙ plain_is (miter c.args.first.now.net c.args.second.now.net) c.args.log.now
