use Rattle.std.specs.Prelude.{◌≡◌, true, [], refl}
use Rattle.net_theory.specs.Document.{are_distinct}
use Rattle.net_document.specs.TimesLaws.{repeated_distinct, missing_driven}
use Rattle.net_document.proofs.laws.laws_of_refusals.Goals as goal

none_distinct : are_distinct [] ≡ true
unfolding are_distinct
none_distinct = refl

pub returns-clause-twice : goal.returns-clause-twice
returns-clause-twice c = λ ns none. repeated_distinct [] ns none_distinct none

pub returns-clause-undriven : goal.returns-clause-undriven
returns-clause-undriven c = missing_driven
