use Rattle.std.proofs.Common.{◌≡◌, []}
use Rattle.text_core.specs.Items.{items_of, items_left, size_left}
use Rattle.lrat_text.specs.Seen.{IsSeen, AreMarked}
use Rattle.lrat_text.specs.Reading.{lits_of}
use Rattle.lrat_text.proofs.reading.lits_of.Given as goal

abbrev pub invariant-loop-left : goal.invariant-loop-left
invariant-loop-left l = record {
  same : lits_of l.id l.lits.items (items_left l.left) ≡ lits_of l.id [] (items_of l.text);
  seen : IsSeen l.seen l.lits.items;
  marked : AreMarked l.marks l.lits.items;
}

abbrev pub decreases-loop-left : goal.decreases-loop-left
decreases-loop-left l = size_left l.left
