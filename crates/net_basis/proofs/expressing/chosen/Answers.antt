-- The chain of the gate as it is now.
use Rattle.std.proofs.Common.{◌∙◌, ap, sym, arith}
use Rattle.net_basis.specs.Conversion.{is_made_of, steps_of}
use Rattle.net_basis.proofs.Locals.{own_word}
use Rattle.net_basis.proofs.Lengths.{differ}
use Rattle.net_basis.proofs.expressing.chosen.Goals as goal

pub returns-clause-function : goal.returns-clause-function
returns-clause-function c = own_word c.args.gate.now c.local_word-simple.result c.local_word-simple.ensures

pub returns-clause-short : goal.returns-clause-short
returns-clause-short c = λ made. omega (
  arith,
  c.is_no_longer.ensures c.if-not-is_no_longer.false,
  ap steps_of c.recipe_of-short.ensures,
  ap steps_of c.recipe_of-own.ensures,
)

pub returns-clause-none : goal.returns-clause-none
returns-clause-none c = λ off.
    differ c.recipe_of-short.result.now.is_made c.if-not-short.false
    (sym (ap is_made_of c.recipe_of-short.ensures) ∙ off)
