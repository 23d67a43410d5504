use Rattle.lrat_check.specs.OccurrenceIndex.{DropsEntries}
use Rattle.lrat_check.proofs.index.drop_entries.Given as goal

abbrev pub invariant-loop-lit : goal.invariant-loop-lit
invariant-loop-lit l = DropsEntries l.id l.initial.lists.items l.lists.items
