use Rattle.std.proofs.Common.{ℕ, List, subst, sym, ap, ◌∙◌}
use Rattle.indexmap.specs.IndexMap.{get}
use Rattle.net_theory.specs.Document.{is_same}
use Rattle.net_theory.specs.NetOf.{with_tables, source_count}
use Rattle.net_build.specs.Parts.{growth, IsPartlyBuilt}
use Rattle.net_build.proofs.Growths.{begun_low, table_fits, begun_next, same_next}
use Rattle.net_build.proofs.building.add_tables.Goals as goal

pub table_at-requires : goal.table_at-requires
table_at-requires c =
    begun_low c.args.document.now c.loop-table.net (get is_same c.loop-table.signals) c.in-Some.table.now c.in-Some.rest.now
    (subst (λ (xs : List ℕ). IsPartlyBuilt c.args.document.now c.loop-table.net (get is_same c.loop-table.signals) xs) c.in-Some.ensures.cases.0 c.loop-table.invariant.begun)

pub add_table-requires-clause-fits : goal.add_table-requires-clause-fits
add_table-requires-clause-fits c =
    table_fits c.args.document.now c.loop-table.net (get is_same c.loop-table.signals) c.in-Some.table.now c.in-Some.rest.now c.table_at.result.now c.requires.well c.requires.small
    (subst (λ (xs : List ℕ). IsPartlyBuilt c.args.document.now c.loop-table.net (get is_same c.loop-table.signals) xs) c.in-Some.ensures.cases.0 c.loop-table.invariant.begun)
    c.table_at.ensures

pub loop-table-preserved : goal.loop-table-preserved
loop-table-preserved c =
    let begun = subst (λ (xs : List ℕ). IsPartlyBuilt c.args.document.now c.loop-table.net (get is_same c.loop-table.signals) xs) c.in-Some.ensures.cases.0 c.loop-table.invariant.begun in
    record {
      begun = begun_next c.args.document.now c.loop-table.net c.add_table.new.net (get is_same c.loop-table.signals)
          (get is_same c.add_table.new.signals) c.in-Some.table.now c.in-Some.rest.now c.table_at.result.now
          c.requires.well begun c.table_at.ensures c.in_ok-add_table.ensures.grown c.in_ok-add_table.ensures.sources
          c.in_ok-add_table.ensures.sinks;
      same =
          same_next c.args.document.now c.loop-table.net c.add_table.new.net (get is_same c.loop-table.signals)
          (get is_same c.add_table.new.signals) c.in-Some.table.now c.in-Some.rest.now c.table_at.result.now
          c.table_at.ensures begun.sources c.in_ok-add_table.ensures.grown
          ∙ ap (λ (xs : List ℕ). with_tables (source_count c.args.document.now) c.args.document.now.tables
          (growth c.loop-table.net.gates (get is_same c.loop-table.signals)) xs) (sym c.in-Some.ensures.cases.0)
          ∙ c.loop-table.invariant.same;
    }
