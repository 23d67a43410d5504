-- The operands at first, one more step, and the end.
use Rattle.std.proofs.Common.{◌∙◌, ℕ, true, ap}
use Rattle.chain_theory.specs.Value.{extended}
use Rattle.op_basis.specs.Basis.{members}
use Rattle.net_basis.proofs.Closures.{growing_first, growing_more, growing_less, growing_closed}
use Rattle.net_basis.proofs.closure.closure_of.Goals as goal

pub loop-join-init : goal.loop-join-init
loop-join-init c = growing_first _ _ _ c.operands-known.ensures c.new-joins.ensures.items

pub loop-join-preserved : goal.loop-join-preserved
loop-join-preserved c =
    growing_more _ _ _ _ _ _ c.loop-join.invariant c.in-Some.ensures.some
    (c.with_function-known.ensures.members ∙ ap (λ (f : ℕ). extended (members c.loop-join.known) f true) c.function_of.ensures)
    c.in_ok-push.ensures.items

pub loop-join-smaller : goal.loop-join-smaller
loop-join-smaller c =
    growing_less _ _ _ _ c.in-Some.ensures.some
    (c.with_function-known.ensures.members ∙ ap (λ (f : ℕ). extended (members c.loop-join.known) f true) c.function_of.ensures)

pub returns : goal.returns
returns c = growing_closed _ _ _ c.loop-join.invariant c.in_default.ensures.none
