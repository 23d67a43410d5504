use Rattle.std.proofs.Common.{List, [], sym, subst}
use Rattle.std.specs.Prelude.{All}
use Rattle.indexmap.specs.IndexMap.{get}
use Rattle.net_theory.specs.declared.data.Sig.{Sig}
use Rattle.net_theory.specs.Net.{IsSigBelow, end_of}
use Rattle.net_theory.specs.Document.{is_same, sink_names}
use Rattle.net_build.proofs.Growths.{begun_below, signals_below}
use Rattle.net_build.proofs.building.net_over.Goals as goal

pub with_sinks-requires : goal.with_sinks-requires
with_sinks-requires c =
    subst (λ (ss : List Sig). All (IsSigBelow (end_of c.add_tables.new.net)) ss) (sym c.in_ok-sinks.ensures)
    (signals_below c.add_tables.new.net (get is_same c.add_tables.new.signals) (sink_names c.args.document.now)
    (begun_below c.args.document.now c.add_tables.new.net
    (get is_same c.add_tables.new.signals) [] c.in_ok-add_tables.ensures.begun))
