use Rattle.std.proofs.Common.{ℕ, subst, arith}
use Rattle.op_basis.specs.Basis.{members}
use Rattle.net_basis.specs.Placing.{IsRecipe}
use Rattle.net_basis.proofs.Recipes.{recipes_none, recipes_more, recipes_all}
use Rattle.net_basis.proofs.recipe.recipes.Goals as goal

pub loop-word-init : goal.loop-word-init
loop-word-init c = recipes_none (members c.args.basis) c.new-all.result.items c.new-all.ensures.items

pub loop-word-preserved : goal.loop-word-preserved
loop-word-preserved c =
    recipes_more (members c.args.basis) c.loop-word.word c.loop-word.all.items c.push.new.self.items c.in_ok-one.one
    c.loop-word.invariant
    (subst (λ (op : ℕ). IsRecipe (members c.args.basis) op c.in_ok-one.one) c.new.ensures c.in_ok-one.ensures)
    c.in_ok-push.ensures.items

pub returns : goal.returns
returns c = recipes_all (members c.args.basis) c.loop-word.word c.loop-word.all.items (omega arith) c.loop-word.invariant
