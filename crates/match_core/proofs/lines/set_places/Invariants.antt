use Rattle.std.proofs.Common.{◌≡◌, ◌++◌, length, drop}
use Rattle.indexmap.specs.IndexMap.{get}
use Rattle.net_theory.specs.Document.{is_same}
use Rattle.match_core.specs.ListedLaws.{place_from}
use Rattle.match_core.proofs.lines.set_places.Given as goal

abbrev pub invariant-loop-line : goal.invariant-loop-line
invariant-loop-line l = record {
  found : get is_same l.places ≡ place_from (length l.left) (drop (length l.left) l.lines);
  whole : l.left ++ drop (length l.left) l.lines ≡ l.lines;
}

abbrev pub decreases-loop-line : goal.decreases-loop-line
decreases-loop-line l = length l.left
