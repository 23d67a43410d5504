-- The circuit of a listed document, and combinational loops.
use Rattle.std.proofs.Common.{◌≡◌, ℕ, ◌+◌, ◌<◌, ◌≤◌, ◌^◌, true, List, length, map, Some, None, refl, sym, subst}
use Rattle.std.specs.Prelude.{slice_get}
use Rattle.std.proofs.lemmas.Grind.{common_steps}
use Rattle.std.proofs.lemmas.Option.{slice_get_within}
use Rattle.net_theory.specs.Document.{Table, Document, are_distinct, table_output}
use Rattle.net_theory.specs.Dependence.{DependsOn, at_once, by_way_of, IsFirstCyclic}
use Rattle.graph_core.specs.Visit.{order_of}
use Rattle.graph_core.specs.VisitLaws.{IsTopologicalOrder, order_is, no_order}
use Rattle.net_theory.specs.GraphLaws.{graph_closed, length-graph_of, leads_depends, depends_leads}
use Rattle.net_theory.specs.NetOf.{source_count, graph_of, net_in_order}
use Rattle.net_theory.specs.Circuit.{Circuit, IsCircuitOf}
use Rattle.net_theory.specs.CircuitLaws.{circuit_of, circuit_is}
use Rattle.graph_core.specs.Cycles.{IsFirstCyclicNode}
use Rattle.net_document.specs.Listed.{Listed, IsWellListed, AreControlsFree}
use Rattle.net_document.specs.Refusals.{fault_of}
use Rattle.net_build.proofs.Faults.{listed_well, outputs_distinct}
use Rattle.net_theory.specs.Limits.{most_gates}

pub cyclic_first : (d : Document) (k : ℕ) (t : Table) → are_distinct (map table_output d.tables) ≡ true →
    IsFirstCyclicNode (graph_of d.tables) (Some k) → slice_get d.tables k ≡ Some t → IsFirstCyclic d t.output
cyclic_first d k t distinct is at =
    record {
      node = k;
      table = t;
      at = at;
      output = refl;
      cyclic = leads_depends d k k is.0;
      first = λ i low on. is.1 i low (depends_leads d i i distinct on);
    }

depends_low : (d : Document) (i j : ℕ) → DependsOn d i j → i < length d.tables
depends_low d _ _ (at_once i j r) = slice_get_within d.tables i r.reader r.is_reader
depends_low d _ _ (by_way_of i j k r on) = slice_get_within d.tables i r.reader r.is_reader

pub cyclic_low : (d : Document) (k : ℕ) → IsFirstCyclicNode (graph_of d.tables) (Some k) → k < length d.tables
cyclic_low d k is = depends_low d k k (leads_depends d k k is.0)

pub no_cyclic : (d : Document) → order_of (graph_of d.tables) ≡ None → IsFirstCyclicNode (graph_of d.tables) None → ⊥
no_cyclic d none is = let leads = no_order (graph_of d.tables) (graph_closed d) none in is leads.0 leads.1

pub order_good : (d : Document) (order : List ℕ) → order_of (graph_of d.tables) ≡ Some order → IsTopologicalOrder (graph_of d.tables) order
order_good d order e = order_is (graph_of d.tables) order (graph_closed d) e

pub circuit_good : (most : ℕ) (l : Listed) (order : List ℕ) (c : Circuit) → most ≤ most_gates → IsWellListed l →
    AreControlsFree l.document → fault_of most l ≡ None → source_count l.document + most_gates < 2 ^ 31 →
    order_of (graph_of l.document.tables) ≡ Some order → c ≡ circuit_of l.document (net_in_order l.document order) →
    IsCircuitOf l.document c
circuit_good most l order c low is free none small e same =
    subst (λ (x : Circuit). IsCircuitOf l.document x) (sym same) (circuit_is l.document order (listed_well most l order low is free none e) e small)

pub ruleset circuits = (common_steps, listed_well, outputs_distinct, order_good, circuit_good, length-graph_of)
