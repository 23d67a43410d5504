use Rattle.std.proofs.Common.{◌∙◌, sym}
use Rattle.tt_core.specs.Words.{specification}
use Rattle.enc_base.proofs.Spelled.{living-same}
use Rattle.enc_base.proofs.decoding.live_up_to.Goals as goal

pub returns-in-Some-clause-count : goal.returns-in-Some-clause-count
returns-in-Some-clause-count c = c.requires.below ∙ sym (living-same (specification c.args.spec.now) c.args.h c.in-Some.field-0 c.requires.output.0 (sym c.in-Some.ensures))
