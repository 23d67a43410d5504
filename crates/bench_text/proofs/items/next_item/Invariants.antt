use Rattle.std.proofs.Common.{◌≡◌, ◌+◌, ◌≤◌, length, take, drop, []}
use Rattle.bench_text.specs.Items.{items_from}
use Rattle.bench_text.proofs.items.next_item.Given as goal

abbrev pub invariant-loop-byte : goal.invariant-loop-byte
invariant-loop-byte l = record {
  same : items_from (take l.at l.start) l.left ≡ items_from [] l.text;
  place : l.left ≡ drop l.at l.start;
  size : l.at + length l.left ≡ length l.start;
  within : length l.start ≤ length l.text;
}

abbrev pub decreases-loop-byte : goal.decreases-loop-byte
decreases-loop-byte l = length l.left
