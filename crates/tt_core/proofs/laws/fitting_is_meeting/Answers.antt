use Rattle.tt_core.specs.Laws.{fits_meets, meets_fits}
use Rattle.tt_core.proofs.laws.fitting_is_meeting.Goals as goal

pub returns-clause-meets : goal.returns-clause-meets
returns-clause-meets c = fits_meets

pub returns-clause-fits : goal.returns-clause-fits
returns-clause-fits c = meets_fits
