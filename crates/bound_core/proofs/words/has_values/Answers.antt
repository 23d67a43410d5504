use Rattle.bound_core.specs.ValueLaws.{fits_by_word}
use Rattle.bound_core.proofs.words.has_values.Goals as goal

pub returns : goal.returns
returns c = λ out values. rw (c.on.ensures, c.care.ensures) (fits_by_word c.args.spec.now c.args.h c.args.word out c.n-inputs.ensures.whole values)
