use Rattle.std.proofs.Common.{◌≡◌, ◌+◌, ◌*◌, ◌≤◌, ◌++◌, drop, vec_len}
use Rattle.std.specs.Vec.{vec_capacity}
use Rattle.log_core.specs.Lists.{ids_written}
use Rattle.log_core.proofs.packing.with_ids.Given as goal

abbrev pub invariant-loop-id : goal.invariant-loop-id
invariant-loop-id l = record {
  all : l.row.items ++ ids_written l.last (drop l.id-index l.ids) ≡ l.initial.row.items ++ ids_written 0 l.ids;
  few : vec_len l.row ≤ vec_len l.initial.row + 5 * l.id-index;
  capacity : vec_capacity l.row ≡ vec_capacity l.initial.row;
}
