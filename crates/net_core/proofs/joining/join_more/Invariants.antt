use Rattle.std.proofs.Common.{◌≡◌, ◌+◌, length, vec_len}
use Rattle.net_theory.specs.Expansion.{join_from}
use Rattle.net_core.specs.Growing.{joint, word_of, IsPrefixOfGates}
use Rattle.net_core.proofs.joining.join_more.Given as goal

abbrev pub invariant-loop-next : goal.invariant-loop-next
invariant-loop-next l = record {
  gates : join_from (word_of l.connective) l.sources (joint l.gates.items l.out) l.left ≡ join_from (word_of l.connective) l.sources (joint l.initial.gates.items l.initial.out) l.signals;
  count : vec_len l.gates + length l.left ≡ vec_len l.initial.gates + length l.signals;
  prefix : IsPrefixOfGates l.initial.gates.items l.gates.items;
}

abbrev pub decreases-loop-next : goal.decreases-loop-next
decreases-loop-next l = length l.left
