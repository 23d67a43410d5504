use Rattle.std.proofs.Common.{◌≡◌, ◌+◌, ◌*◌, ◌≤◌, ◌++◌, length, vec_len}
use Rattle.std.specs.Vec.{vec_capacity}
use Rattle.std.specs.List.{flat_map}
use Rattle.lrat_text.specs.Spelling.{literal_item}
use Rattle.log_core.specs.Numbers.{numbers_from}
use Rattle.log_core.specs.Lists.{literals_from, literals_of}
use Rattle.log_core.proofs.writing.with_lits.Given as goal

abbrev pub invariant-loop-number : goal.invariant-loop-number
invariant-loop-number l = record {
  all : l.text.items ++ flat_map literal_item (literals_from (numbers_from 0 l.left)) ≡ l.initial.text.items ++ flat_map literal_item (literals_of l.bytes);
  few : vec_len l.text + 12 * length l.left ≤ vec_len l.initial.text + 12 * length l.bytes;
  capacity : vec_capacity l.text ≡ vec_capacity l.initial.text;
}

abbrev pub decreases-loop-number : goal.decreases-loop-number
decreases-loop-number l = length l.left
