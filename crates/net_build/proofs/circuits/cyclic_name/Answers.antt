use Rattle.std.proofs.Common.{◌≡◌, ℕ, List, length, Option, subst, sym, ap, ◌∙◌, arith}
use Rattle.net_theory.specs.Document.{Table}
use Rattle.graph_core.specs.Visit.{Graph, order_of}
use Rattle.graph_core.specs.VisitLaws.{IsClosedGraph}
use Rattle.net_theory.specs.NetOf.{graph_of}
use Rattle.net_theory.specs.GraphLaws.{graph_closed, length-graph_of}
use Rattle.net_theory.specs.Dependence.{IsFirstCyclic}
use Rattle.graph_core.specs.Cycles.{IsFirstCyclicNode}
use Rattle.net_build.proofs.Wholes.{cyclic_first, cyclic_low, no_cyclic}
use Rattle.net_build.proofs.circuits.cyclic_name.Goals as goal

pub first_cyclic-requires-clause-small : goal.first_cyclic-requires-clause-small
first_cyclic-requires-clause-small c =
    let count : length c.args.graph.now ≡ length c.args.document.now.tables = ap (length {A = List ℕ}) c.requires.graph ∙ length-graph_of c.args.document.now.tables in
    omega (arith, count, c.requires.few)

pub first_cyclic-requires-clause-closed : goal.first_cyclic-requires-clause-closed
first_cyclic-requires-clause-closed c = subst (λ (g : Graph). IsClosedGraph g (length g)) (sym c.requires.graph) (graph_closed c.args.document.now)

pub table_at-requires : goal.table_at-requires
table_at-requires c =
    cyclic_low c.args.document.now c.in-Some.table
    (subst (λ (r : Option ℕ). IsFirstCyclicNode (graph_of c.args.document.now.tables) r) c.in-Some.is
    (subst (λ (g : Graph). IsFirstCyclicNode g c.in_ok-first.first) c.requires.graph c.in_ok-first.ensures))

pub unreachable-requires : goal.unreachable-requires
unreachable-requires c =
    no_cyclic c.args.document.now (ap order_of (sym c.requires.graph) ∙ c.requires.none)
    (subst (λ (r : Option ℕ). IsFirstCyclicNode (graph_of c.args.document.now.tables) r) c.in_default.is
    (subst (λ (g : Graph). IsFirstCyclicNode g c.in_ok-first.first) c.requires.graph c.in_ok-first.ensures))

pub returns : goal.returns
returns c =
    subst (IsFirstCyclic c.args.document.now) (sym (c.in_ok-name.ensures ∙ ap (λ (t : Table). t.output) c.behind-document.view_is))
    (cyclic_first c.args.document.now c.in-Some.table c.table_at.result.now c.requires.distinct
    (subst (λ (r : Option ℕ). IsFirstCyclicNode (graph_of c.args.document.now.tables) r) c.in-Some.is
    (subst (λ (g : Graph). IsFirstCyclicNode g c.in_ok-first.first) c.requires.graph c.in_ok-first.ensures))
    c.table_at.ensures)
