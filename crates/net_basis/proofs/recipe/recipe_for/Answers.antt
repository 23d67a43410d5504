-- The closure lacks the operator.
use Rattle.std.proofs.Common.{◌∙◌, refl, sym, arith}
use Rattle.op_basis.specs.Basis.{members}
use Rattle.net_basis.proofs.Sets.{member_low}
use Rattle.net_basis.proofs.Recipes.{recipe_none}
use Rattle.net_basis.proofs.recipe.recipe_for.Goals as goal

pub returns-then-not-contains : goal.returns-then-not-contains
returns-then-not-contains c =
    recipe_none (members c.args.basis) (members c.args.all.now.known) c.args.all.now.joins.items c.args.op _ c.requires
    (λ p is. member_low c.args.basis p (omega (arith, c.get-members.ensures.bits, c.get-members.ensures.below)) is)
    (sym c.contains.ensures ∙ c.if-not-contains.true) refl c.new.ensures.items
