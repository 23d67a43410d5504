use Rattle.std.proofs.Common.{List, ap, arith}
use Rattle.std.specs.Prelude.{sum_by}
use Rattle.std.proofs.lemmas.List.Elements.{All-rest}
use Rattle.std.proofs.lemmas.List.Sums.{sum_by-cons}
use Rattle.net_theory.specs.Document.{Table}
use Rattle.net_theory.specs.Cost.{table_cost}
use Rattle.net_theory.specs.WellFormed.{IsTable}
use Rattle.net_build.proofs.merging.total_cost.Goals as goal

pub loop-table-preserved : goal.loop-table-preserved
loop-table-preserved c = record {
  sum = omega (
    arith,
    c.loop-table.invariant.sum,
    ap (λ (ts : List Table). sum_by table_cost ts) c.in-Some.ensures.cases.0,
    sum_by-cons table_cost c.in-Some.table.now c.in-Some.rest.now,
    c.in_ok-total.ensures,
  );
  tables = All-rest IsTable c.in-Some.table.now c.in-Some.rest.now c.loop-table.left.now c.in-Some.ensures.cases.0 c.loop-table.invariant.tables;
}
