use Rattle.std.proofs.Common.{◌++◌, ℕ, List, sym, ap, ◌∙◌, append_assoc}
use Rattle.std.specs.List.{flat_map}
use Rattle.std.proofs.lemmas.List.Elements.{All-rest}
use Rattle.net_theory.specs.Document.{Table}
use Rattle.bench_core.specs.Spelling.{table_text, IsSmallTable}
use Rattle.bench_core.proofs.spelling.push_tables.Goals as goal

pub loop-table-preserved : goal.loop-table-preserved
loop-table-preserved c = record {
  same =
      ap (λ (xs : List ℕ). xs ++ flat_map (table_text c.args.source.now) c.in-Some.rest.now) c.in_ok-push_table.ensures
      ∙ append_assoc c.loop-table.text.items (table_text c.args.source.now c.in-Some.table.now) (flat_map (table_text c.args.source.now) c.in-Some.rest.now)
      ∙ ap (λ (ts : List Table). c.loop-table.text.items ++ flat_map (table_text c.args.source.now) ts) (sym c.in-Some.ensures.cases.0)
      ∙ c.loop-table.invariant.same;
  small = All-rest IsSmallTable c.in-Some.table.now c.in-Some.rest.now c.loop-table.left.now c.in-Some.ensures.cases.0 c.loop-table.invariant.small;
}
