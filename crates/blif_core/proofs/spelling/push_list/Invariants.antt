use Rattle.std.proofs.Common.{◌≡◌, ◌++◌, ◌≤◌, length}
use Rattle.blif_core.specs.Spelling.{rest_text}
use Rattle.blif_core.proofs.spelling.push_list.Given as goal

abbrev pub invariant-loop-name : goal.invariant-loop-name
invariant-loop-name l = record {
  same : l.text.items ++ rest_text l.keyword l.count l.left ≡ l.initial.text.items ++ rest_text l.keyword 0 l.names;
  few : l.count ≤ 16;
}

abbrev pub decreases-loop-name : goal.decreases-loop-name
decreases-loop-name l = length l.left
