use Rattle.std.proofs.Common.{rules, ◌≡◌, ◌++◌, length}
use Rattle.log_core.specs.Lists.{literals_written}
use Rattle.log_core.proofs.ReadLists.{ids_low}
use Rattle.log_core.proofs.ReadRows.{addition_packed}
use Rattle.log_core.proofs.packing.pack_addition.Goals as goal

pub returns-clause-packed : goal.returns-clause-packed
returns-clause-packed c =
    let at_start : c.len-start.result ≡ length c.args.bytes.now.items = search rules in
    let at_middle : c.len-middle.result ≡ length c.put_literals.new.bytes.items = search rules in
    let at_end : c.len.result ≡ length c.put_ids.new.bytes.items = search rules in
    let literals : c.put_literals.new.bytes.items ≡ c.args.bytes.now.items ++ literals_written c.args.lits.now = search rules in
    addition_packed c.args.bytes.now.items c.put_literals.new.bytes.items c.put_ids.new.bytes.items c.args.id
    c.in_ok-lits.lits c.in_ok-hints.hints c.len-start.result c.len-middle.result c.len.result c.args.lits.now
    c.args.hints.now
    literals c.put_ids.ensures.items at_start at_middle at_end c.in_ok-lits.ensures c.in_ok-hints.ensures c.put_literals.ensures.whole (ids_low c.args.hints.now c.type_inv.hints)
