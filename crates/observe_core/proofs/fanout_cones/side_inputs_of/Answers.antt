use Rattle.std.proofs.Common.{ℕ, List, sym, subst}
use Rattle.std.proofs.lemmas.Result.{IfOk-weaker}
use Rattle.window_theory.specs.Nodes.{AreJust}
use Rattle.window_theory.specs.Window.{IsInput, IsReadBy}
use Rattle.observe_core.specs.Kept.{IsBoth}
use Rattle.observe_core.proofs.fanout_cones.side_inputs_of.Goals as goal

pub returns : goal.returns
returns c =
    IfOk-weaker c.nodes_read.result (λ side_inputs. AreJust (IsBoth (IsReadBy c.args.net.now c.args.gates.now) c.deref.result.now) side_inputs.items)
    (λ side_inputs. (inputs : List ℕ) × AreJust (IsInput c.args.net.now c.args.all.now) inputs × AreJust (IsBoth (IsReadBy c.args.net.now c.args.gates.now) inputs) side_inputs.items)
    (λ side_inputs kept. (c.deref.result.now, subst (AreJust (IsInput c.args.net.now c.args.all.now)) (sym c.deref.ensures.value) c.in_ok-inputs.ensures, kept))
    c.nodes_read.ensures
