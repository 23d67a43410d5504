-- The recipe of the chosen function, or none.
use Rattle.std.proofs.Common.{◌≤◌, ◌∙◌, length, ap, subst, arith, vec_len}
use Rattle.std.specs.List.{slice_get}
use Rattle.op_basis.specs.Basis.{members}
use Rattle.net_basis.specs.OverBasis.{IsInexpressible}
use Rattle.net_basis.specs.Conversion.{is_made_of, steps_of}
use Rattle.net_basis.proofs.Lengths.{steps_made, answer_on, more_on}
use Rattle.net_basis.proofs.expressing.by_recipe.Goals as goal

pub returns-then-not-recipe-clause-answer : goal.returns-then-not-recipe-clause-answer
returns-then-not-recipe-clause-answer c =
    let off = ap is_made_of c.recipe_of-recipe.ensures ∙ c.if-not-recipe.true in
    subst (IsInexpressible (members c.args.basis)) (c.chosen-function.ensures.none off)
    ((c.requires.recipes.each c.chosen-function.result c.recipe_of-recipe.result.now c.recipe_of-recipe.ensures).none
    c.if-not-recipe.true)

pub replace-requires-clause-made : goal.replace-requires-clause-made
replace-requires-clause-made c =
    ((c.requires.recipes.each c.chosen-function.result c.recipe_of-recipe.result.now c.recipe_of-recipe.ensures).chain
    c.if-not-recipe.false).made

pub replace-requires-clause-steps : goal.replace-requires-clause-steps
replace-requires-clause-steps c =
    (c.requires.recipes.each c.chosen-function.result c.recipe_of-recipe.result.now c.recipe_of-recipe.ensures).few

pub returns-clause-answer : goal.returns-clause-answer
returns-clause-answer c =
    let on = ap is_made_of c.recipe_of-recipe.ensures ∙ c.if-not-recipe.false in
    let low : length c.recipe_of-recipe.result.now.joins.items ≤ steps_of (slice_get c.args.recipes.now c.args.word) =
    omega (
      arith,
      c.chosen-function.ensures.short on,
      ap steps_of c.recipe_of-recipe.ensures,
      steps_made c.recipe_of-recipe.result.now c.if-not-recipe.false,
    ) in
    answer_on (members c.args.basis) c.args.word (length c.recipe_of-recipe.result.now.joins.items)
    (steps_of (slice_get c.args.recipes.now c.args.word)) c.args.sources c.args.gates.now.items
    c.replace.new.gates.items c.args.gate.now c.replace.result low c.replace.ensures.answer

pub returns-clause-more : goal.returns-clause-more
returns-clause-more c =
    let on = ap is_made_of c.recipe_of-recipe.ensures ∙ c.if-not-recipe.false in
    let low : length c.recipe_of-recipe.result.now.joins.items ≤ steps_of (slice_get c.args.recipes.now c.args.word) =
    omega (
      arith,
      c.chosen-function.ensures.short on,
      ap steps_of c.recipe_of-recipe.ensures,
      steps_made c.recipe_of-recipe.result.now c.if-not-recipe.false,
    ) in
    more_on (vec_len c.args.gates.now) (vec_len c.replace.new.gates) (length c.recipe_of-recipe.result.now.joins.items)
    (steps_of (slice_get c.args.recipes.now c.args.word)) c.replace.result low c.replace.ensures.more
