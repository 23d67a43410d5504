use Rattle.std.proofs.Common.{◌≡◌, suc, ◌∙◌, length, ap, arith}
use Rattle.net_basis.specs.declared.join.Join.{Join}
use Rattle.net_basis.proofs.Placements.{placed_first, placed_none}
use Rattle.net_basis.proofs.placing.push_joins.Goals as goal

pub loop-join-preserved : goal.loop-join-preserved
loop-join-preserved c =
    let size : length c.loop-join.left.now ≡ suc (length c.in-Some.rest.now) = ap (length {A = Join}) c.in-Some.ensures.cases.0 in
    record {
      placed = rw c.in_ok-push_join.ensures.placed (placed_first _ _ _ _ _ c.in-Some.ensures.cases.0 ∙ c.loop-join.invariant.placed);
      count = omega (arith, size, c.in_ok-push_join.ensures.count, c.loop-join.invariant.count);
      table = c.push_join.ensures.table ∙ c.loop-join.invariant.table;
    }

pub returns-clause-placed : goal.returns-clause-placed
returns-clause-placed c = placed_none _ _ _ c.in_default.ensures.cases ∙ c.loop-join.invariant.placed

pub returns-clause-count : goal.returns-clause-count
returns-clause-count c = omega (arith, c.loop-join.invariant.count, c.in_default.ensures.cases)
