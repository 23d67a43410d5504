use Rattle.std.proofs.Common.{rules}
use Rattle.bound_core.specs.WordLaws.{uses_by_words}
use Rattle.bound_core.proofs.words.uses.Goals as goal

pub returns : goal.returns
returns c = uses_by_words c.args.spec.now c.args.h c.args.j c.sensitive_rows.result c.n.ensures.whole c.requires.input.0 c.requires.input.1 (search rules)
