use Rattle.std.proofs.Common.{◌≡◌}
use Rattle.op_basis.specs.Text as spec
use Rattle.op_basis.proofs.text.push_words.Given as goal

abbrev pub invariant-loop-word : goal.invariant-loop-word
invariant-loop-word l = l.text.items ≡ spec.list_below l.set l.word
