use Rattle.std.proofs.Common.{◌≡◌, ◌+◌, ◌*◌, ◌≤◌, ◌++◌, take, drop, vec_len}
use Rattle.std.specs.Prelude.{All}
use Rattle.std.specs.Vec.{vec_capacity}
use Rattle.cnf_core.specs.Bounds.{IsLit}
use Rattle.log_core.specs.Lists.{literals_written}
use Rattle.log_core.proofs.packing.put_literals.Given as goal

abbrev pub invariant-loop-lit : goal.invariant-loop-lit
invariant-loop-lit l = record {
  all : l.bytes.items ++ literals_written (drop l.lit-index l.lits) ≡ l.initial.bytes.items ++ literals_written l.lits;
  whole : All IsLit (take l.lit-index l.lits);
  few : vec_len l.bytes ≤ vec_len l.initial.bytes + 5 * l.lit-index;
  capacity : vec_capacity l.bytes ≡ vec_capacity l.initial.bytes;
}
