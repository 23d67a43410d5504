use Rattle.std.proofs.Common.{rules}
use Rattle.tt_core.specs.LiveLaws.{kept_copy}
use Rattle.tt_core.proofs.live.push_output.Goals as goal

pub returns-clause-spec : goal.returns-clause-spec
returns-clause-spec c = kept_copy c.args.spec.now c.args.on.now.items c.args.care.now.items c.push_both.new.on.items
    c.push_both.new.care.items c.args.h c.requires.whole c.requires.spec c.requires.room (search rules) (search rules)
