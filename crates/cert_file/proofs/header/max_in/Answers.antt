-- A parsed number is within its limit.
use Rattle.std.proofs.Common.{◌≡◌, ◌≤◌, ℕ, Option, Some, None, List, sym, arith}
use Rattle.std.specs.Prelude.{IfSome}
use Rattle.text_core.specs.Numbers.{number_up_to}
use Rattle.text_core.specs.ReadBack.{number_spells}
use Rattle.chain_theory.specs.Limits.{most_steps}
use Rattle.cert_file.proofs.header.max_in.Goals as goal

within : (o : Option ℕ) (text : List ℕ) → o ≡ number_up_to most_steps text → IfSome o (λ n. n ≤ most_steps)
within None text e = tt
within (Some n) text e = (number_spells most_steps n text (omega arith) (sym e)).0

pub returns-clause-small : goal.returns-clause-small
returns-clause-small c = within c.number_up_to.result c.in_ok-word.word.now c.number_up_to.ensures
