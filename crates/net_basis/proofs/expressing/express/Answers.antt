-- A signal, a gate of the basis, or the chain of a recipe.
use Rattle.std.proofs.Common.{refl, vec_len, arith}
use Rattle.std.specs.List.{slice_get}
use Rattle.op_basis.specs.Basis.{members}
use Rattle.net_basis.specs.Conversion.{steps_of, lengths_by}
use Rattle.net_basis.proofs.Placements.{signal_expresses}
use Rattle.net_basis.proofs.Lengths.{length_other, length_some, answer_on, more_on}
use Rattle.net_basis.proofs.expressing.express.Goals as goal

pub returns-in-Some-clause-answer : goal.returns-in-Some-clause-answer
returns-in-Some-clause-answer c =
    signal_expresses (members c.args.basis) c.args.sources c.args.gates.now.items c.args.gate.now c.in-Some.sig
    c.requires.gates (c.in-Some.ensures.some.below _ c.requires.gate) c.in-Some.ensures.some.value

pub returns-in-Some-free_now-clause-answer : goal.returns-in-Some-free_now-clause-answer
returns-in-Some-free_now-clause-answer c =
    signal_expresses (members c.args.basis) c.args.sources c.args.gates.now.items c.args.gate.now c.in-Some-free_now.sig
    c.requires.gates (c.in-Some-free_now.ensures.below _ c.requires.gate) c.in-Some-free_now.ensures.value

pub returns-in-Some-member_for-clause-answer : goal.returns-in-Some-member_for-clause-answer
returns-in-Some-member_for-clause-answer c =
    answer_on (members c.args.basis) c.args.word 1 (lengths_by (members c.args.basis) c.args.recipes.now c.args.word)
    c.args.sources c.args.gates.now.items c.keep.new.gates.items c.args.gate.now c.keep.result
    (length_some (members c.args.basis) c.args.recipes.now c.args.word (members c.args.basis c.args.word)
    c.requires.recipes c.in_default.ensures.none refl)
    c.keep.ensures.answer

pub returns-in-Some-member_for-clause-more : goal.returns-in-Some-member_for-clause-more
returns-in-Some-member_for-clause-more c =
    more_on (vec_len c.args.gates.now) (vec_len c.keep.new.gates) 1
    (lengths_by (members c.args.basis) c.args.recipes.now c.args.word) c.keep.result
    (length_some (members c.args.basis) c.args.recipes.now c.args.word (members c.args.basis c.args.word)
    c.requires.recipes c.in_default.ensures.none refl)
    c.keep.ensures.more

pub returns-clause-answer : goal.returns-clause-answer
returns-clause-answer c =
    answer_on (members c.args.basis) c.args.word (steps_of (slice_get c.args.recipes.now c.args.word))
    (lengths_by (members c.args.basis) c.args.recipes.now c.args.word) c.args.sources c.args.gates.now.items
    c.by_recipe.new.gates.items c.args.gate.now c.by_recipe.result
    (omega (
      arith,
      length_other (members c.args.basis) c.args.recipes.now c.args.word c.in_default.ensures.none
          c.in_default-member_for.ensures.none,
    ))
    c.by_recipe.ensures.answer

pub returns-clause-more : goal.returns-clause-more
returns-clause-more c =
    more_on (vec_len c.args.gates.now) (vec_len c.by_recipe.new.gates)
    (steps_of (slice_get c.args.recipes.now c.args.word))
    (lengths_by (members c.args.basis) c.args.recipes.now c.args.word) c.by_recipe.result
    (omega (
      arith,
      length_other (members c.args.basis) c.args.recipes.now c.args.word c.in_default.ensures.none
          c.in_default-member_for.ensures.none,
    ))
    c.by_recipe.ensures.more
