use Rattle.std.proofs.Common.{◌≡◌, ◌-◌, ◌^◌}
use Rattle.chain_theory.specs.Operator.{digit}
use Rattle.chain_theory.specs.Rows.{row_of}
use Rattle.spec_cache.specs.Order.{permuted_row}
use Rattle.spec_cache.proofs.permute.permuted_word.Given as goal

abbrev pub invariant-loop-before : goal.invariant-loop-before
invariant-loop-before l = l.permuted ≡ row_of l.before (λ i. digit l.word (permuted_row l.n l.order (2 ^ l.n - i)))
