use Rattle.npn_laws.specs.Exchange.{image_low, image_input}
use Rattle.npn_laws.proofs.laws.rows_have_images.Goals as goal

pub returns-clause-within : goal.returns-clause-within
returns-clause-within c = image_low

pub returns-clause-bits : goal.returns-clause-bits
returns-clause-bits c = image_input
