use Rattle.std.proofs.Common.{◌≡◌, true}
use Rattle.tt_core.specs.Live.{fits_rows}
use Rattle.tt_core.specs.Words.{specification}
use Rattle.tt_core.proofs.live.fits.Given as goal

abbrev pub invariant-loop-t : goal.invariant-loop-t
invariant-loop-t l = fits_rows (specification l.spec) l.h l.out l.t ≡ true
