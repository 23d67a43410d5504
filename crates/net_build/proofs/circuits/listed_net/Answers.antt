use Rattle.std.proofs.Common.{◌≡◌, ℕ, List, Some, sym, subst, ap}
use Rattle.net_theory.specs.Document.{Document}
use Rattle.graph_core.specs.Visit.{order_of}
use Rattle.net_theory.specs.NetOf.{graph_of}
use Rattle.net_theory.specs.WellFormed.{IsWellFormed}
use Rattle.net_document.specs.Listed.{Listed}
use Rattle.net_build.proofs.Faults.{listed_well}
use Rattle.net_build.proofs.circuits.listed_net.Goals as goal

pub ordered_net-requires-clause-ready : goal.ordered_net-requires-clause-ready
ordered_net-requires-clause-ready c =
    subst (λ (d : Document). (order : List ℕ) → order_of (graph_of d.tables) ≡ Some order → IsWellFormed d) (sym (ap (λ (l : Listed). l.document) c.listed.view_is))
    (λ order e. listed_well c.args.most c.args.listed.now order c.requires.limit c.requires.listed c.requires.free c.in_ok-check.ensures.good e)
