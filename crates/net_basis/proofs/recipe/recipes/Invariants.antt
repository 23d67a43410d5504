-- The recipes of the operators below `word`.
use Rattle.op_basis.specs.Basis.{members}
use Rattle.net_basis.proofs.Recipes.{AreFirstRecipes}
use Rattle.net_basis.proofs.recipe.recipes.Given as goal

abbrev pub invariant-loop-word : goal.invariant-loop-word
invariant-loop-word l = AreFirstRecipes (members l.basis) l.word l.all.items
