use Rattle.std.proofs.Common.{length, drop, refl, ap, ◌∙◌}
use Rattle.indexmap.specs.IndexMap.{get}
use Rattle.net_theory.specs.Document.{is_same, Table}
use Rattle.net_build.specs.Parts.{with_driver}
use Rattle.net_build.proofs.Drivers.{cut_last, driver_step}
use Rattle.net_build.proofs.signals.set_drivers.Goals as goal

pub loop-table-preserved : goal.loop-table-preserved
loop-table-preserved c = record {
  found =
      driver_step c.args.tables.now c.loop-table.left.now c.in-Some.rest.now c.in-Some.table.now
      (length c.in-Some.rest.now) (get is_same c.loop-table.drivers)
      (get is_same c.set_driver.new.drivers) c.in-Some.ensures.cases.0 c.loop-table.invariant.whole
      c.loop-table.invariant.found refl
      (c.in_ok-set_driver.ensures ∙ ap (λ (t : Table). with_driver (get is_same c.loop-table.drivers) t.output (length c.in-Some.rest.now)) c.table.view_is);
  whole = (cut_last c.args.tables.now c.loop-table.left.now c.in-Some.rest.now c.in-Some.table.now
      (drop (length c.loop-table.left.now) c.args.tables.now) c.in-Some.ensures.cases.0
      c.loop-table.invariant.whole).whole;
}
