use Rattle.std.proofs.Common.{◌≡◌, ℕ, List, length, Some, sym, subst, ap, ◌∙◌, arith}
use Rattle.net_theory.specs.Net.{Net}
use Rattle.graph_core.specs.Visit.{order_of}
use Rattle.net_theory.specs.NetOf.{graph_of}
use Rattle.net_theory.specs.Circuit.{IsCircuitOf}
use Rattle.net_theory.specs.CircuitLaws.{circuit_of, circuit_is}
use Rattle.net_build.proofs.Wholes.{order_good}
use Rattle.net_build.proofs.circuits.ordered_net.Goals as goal

pub visit_all-requires : goal.visit_all-requires
visit_all-requires c = omega (arith, c.in_ok-graph.ensures.count, c.requires.few, ap (length {A = List ℕ}) c.deref.ensures.value)

pub grow-requires-clause-order : goal.grow-requires-clause-order
grow-requires-clause-order c =
    let f = rw c.in-Some.is at c.in_ok-found.ensures in
    let e : order_of (graph_of c.args.document.now.tables) ≡ Some c.deref-2.result.now =
    ap order_of (sym (c.deref.ensures.value ∙ c.in_ok-graph.ensures.graph)) ∙ sym f
    ∙ ap Some (sym c.deref-2.ensures.value) in
    order_good c.args.document.now c.deref-2.result.now e

pub returns-clause-circuit : goal.returns-clause-circuit
returns-clause-circuit c =
    let f = rw c.in-Some.is at c.in_ok-found.ensures in
    let e : order_of (graph_of c.args.document.now.tables) ≡ Some c.deref-2.result.now =
    ap order_of (sym (c.deref.ensures.value ∙ c.in_ok-graph.ensures.graph)) ∙ sym f
    ∙ ap Some (sym c.deref-2.ensures.value) in
    subst (λ (n : Net). IsCircuitOf c.args.document.now (circuit_of c.args.document.now n)) (sym c.in_ok-net.ensures)
    (circuit_is c.args.document.now c.deref-2.result.now (c.requires.ready c.deref-2.result.now e) e c.requires.small)
