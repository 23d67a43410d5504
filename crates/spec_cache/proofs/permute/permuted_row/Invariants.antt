use Rattle.std.proofs.Common.{◌≡◌}
use Rattle.chain_theory.specs.Rows.{row_of}
use Rattle.chain_theory.specs.Specification.{input}
use Rattle.spec_cache.specs.Order.{number}
use Rattle.spec_cache.proofs.permute.permuted_row.Given as goal

abbrev pub invariant-loop-before : goal.invariant-loop-before
invariant-loop-before l = l.row ≡ row_of l.before (λ j. input l.n l.t (number l.order j))
