use Rattle.std.proofs.Common.{◌≡◌, ◌+◌, length, take, drop, []}
use Rattle.text_core.specs.Items.{split_from}
use Rattle.text_core.proofs.items.next_item.Given as goal

abbrev pub invariant-loop-byte : goal.invariant-loop-byte
invariant-loop-byte l = (split_from (take l.at l.text) l.left ≡ split_from [] l.text) × (l.left ≡ drop l.at l.text) × (l.at + length l.left ≡ length l.text)

abbrev pub decreases-loop-byte : goal.decreases-loop-byte
decreases-loop-byte l = length l.left
