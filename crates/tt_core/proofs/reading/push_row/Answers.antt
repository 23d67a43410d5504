use Rattle.std.proofs.Common.{rules}
use Rattle.tt_core.specs.KeepLaws.{kept}
use Rattle.tt_core.proofs.reading.push_row.Goals as goal

pub returns-clause-spec : goal.returns-clause-spec
returns-clause-spec c = kept c.args.n c.args.on.now.items c.args.care.now.items c.push_both.new.on.items
    c.push_both.new.care.items c.args.text.now c.requires.spec c.requires.room c.requires.rows (search rules)
    (search rules)
