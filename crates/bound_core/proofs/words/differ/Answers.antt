use Rattle.bound_core.specs.ValueLaws.{differ_by_words}
use Rattle.bound_core.proofs.words.differ.Goals as goal

pub returns : goal.returns
returns c = rw (c.care.ensures, c.care-2.ensures, c.on.ensures, c.on-2.ensures) (differ_by_words c.args.spec.now c.args.g c.args.h c.n-inputs.ensures.whole)
