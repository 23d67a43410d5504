use Rattle.std.proofs.Common.{◌∙◌, ◌++◌, [], ℕ, List, ap, sym, subst}
use Rattle.lane_sim.specs.Cone.{Cone}
use Rattle.window_core.specs.Expanding.{AreAbove}
use Rattle.window_core.specs.Masking.{AreNumbered}
use Rattle.window_core.specs.ConeLaws.{above_cone}
use Rattle.window_core.specs.MaskingLaws.{inner_above}
use Rattle.window_core.proofs.specifying.inner_cone.Goals as goal

pub new-requires : goal.new-requires
new-requires c =
    above_cone c.args.net.now c.extend_from_slice.new.self.items c.in_ok-gates.gates.items c.sources-sources.ensures.net
    (inner_above c.args.net.now c.args.window.now c.extend_from_slice.new.self.items c.in_ok-gates.gates.items c.requires
    (c.in_ok-extend_from_slice.ensures.items ∙ ap (λ (xs : List ℕ). xs ++ c.inputs.result.now) c.in_ok-inputs.ensures.items ∙ c.inputs.ensures.value) c.inputs.ensures.whole.few_inputs
    (subst (λ (ps : List ℕ). AreNumbered c.args.net.now ps [] c.in_ok-gates.gates.items) c.gates.ensures.value c.in_ok-gates.ensures))

pub returns-clause-gates : goal.returns-clause-gates
returns-clause-gates c =
    subst (λ (x : Cone). AreAbove c.args.net.now x.leaves x.gates) (sym c.new.ensures)
    (inner_above c.args.net.now c.args.window.now c.extend_from_slice.new.self.items c.in_ok-gates.gates.items c.requires
    (c.in_ok-extend_from_slice.ensures.items ∙ ap (λ (xs : List ℕ). xs ++ c.inputs.result.now) c.in_ok-inputs.ensures.items ∙ c.inputs.ensures.value) c.inputs.ensures.whole.few_inputs
    (subst (λ (ps : List ℕ). AreNumbered c.args.net.now ps [] c.in_ok-gates.gates.items) c.gates.ensures.value c.in_ok-gates.ensures))
