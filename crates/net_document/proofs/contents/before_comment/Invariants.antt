use Rattle.std.proofs.Common.{◌≡◌, ◌+◌, length, take, drop, []}
use Rattle.net_document.specs.Contents.{before_from}
use Rattle.net_document.proofs.contents.before_comment.Given as goal

abbrev pub invariant-loop-byte : goal.invariant-loop-byte
invariant-loop-byte l = record {
  same : before_from (take l.at l.text) l.left ≡ before_from [] l.text;
  place : l.left ≡ drop l.at l.text;
  size : l.at + length l.left ≡ length l.text;
}

abbrev pub decreases-loop-byte : goal.decreases-loop-byte
decreases-loop-byte l = length l.left
