use Rattle.std.proofs.Common.{◌≡◌, ◌≤◌, length}
use Rattle.tt_core.specs.Live.{live_among, words_of}
use Rattle.tt_core.specs.Words.{IsSpec, specification}
use Rattle.tt_core.proofs.live.live_spec.Given as goal

abbrev pub invariant-loop-before : goal.invariant-loop-before
invariant-loop-before l = record {
  values : l.on.items ≡ words_of l.spec.on (live_among (specification l.spec) l.before);
  cares : l.care.items ≡ words_of l.spec.care (live_among (specification l.spec) l.before);
  room : length l.on.items ≤ l.before;
  whole : IsSpec (record { n = l.spec.n; on = l.on.items; care = l.care.items });
}
