use Rattle.std.proofs.Common.{sym, ◌∙◌}
use Rattle.front_core.proofs.Words.{fit, unfit}
use Rattle.front_core.proofs.asking.fits.Goals as goal

pub returns-then-not-is_few : goal.returns-then-not-is_few
returns-then-not-is_few c = unfit _ _ (sym c.is_few.ensures ∙ c.if-not-is_few.true)

pub returns : goal.returns
returns c = fit _ _ _ (sym c.is_few.ensures ∙ c.if-not-is_few.false) c.certificate_fits.ensures
