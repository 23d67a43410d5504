use Rattle.std.proofs.Common.{rules, ◌≡◌, ◌++◌, length}
use Rattle.log_core.specs.Lists.{ids_written}
use Rattle.log_core.proofs.ReadLists.{ids_low}
use Rattle.log_core.proofs.ReadRows.{deletion_packed}
use Rattle.log_core.proofs.packing.pack_deletion.Goals as goal

pub returns-clause-packed : goal.returns-clause-packed
returns-clause-packed c =
    let at_start : c.len-start.result ≡ length c.args.bytes.now.items = search rules in
    let at_end : c.len.result ≡ length c.put_ids.new.bytes.items = search rules in
    let all : c.put_ids.new.bytes.items ≡ c.args.bytes.now.items ++ ids_written 0 c.args.ids.now = search rules in
    deletion_packed c.args.bytes.now.items c.put_ids.new.bytes.items c.args.id c.in_ok-ids.ids c.len-start.result c.len.result c.args.ids.now
    all at_start at_end c.in_ok-ids.ensures (ids_low c.args.ids.now c.type_inv.ids)
