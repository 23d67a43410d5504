use Rattle.std.proofs.Common.{◌≡◌, ◌+◌, [], length, vec_len}
use Rattle.net_theory.specs.Expansion.{terms_from}
use Rattle.net_theory.specs.Cost.{literal_sum}
use Rattle.net_theory.specs.WideLaws.{AreTerms}
use Rattle.net_core.specs.Growing.{terms, IsPrefixOfGates}
use Rattle.net_core.proofs.expansion.push_terms.Given as goal

abbrev pub invariant-loop-cube : goal.invariant-loop-cube
invariant-loop-cube l = record {
  terms : terms_from l.sources l.inputs (terms l.gates.items l.outs.items) l.left ≡ terms_from l.sources l.inputs (terms l.initial.gates.items []) l.cubes;
  are : AreTerms (length l.inputs) l.left;
  size : vec_len l.outs + length l.left ≡ length l.cubes;
  count : vec_len l.gates + vec_len l.outs + literal_sum l.left ≡ vec_len l.initial.gates + literal_sum l.cubes;
  prefix : IsPrefixOfGates l.initial.gates.items l.gates.items;
}

abbrev pub decreases-loop-cube : goal.decreases-loop-cube
decreases-loop-cube l = length l.left
