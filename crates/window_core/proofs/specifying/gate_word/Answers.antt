use Rattle.std.proofs.Common.{◌≡◌, ◌∙◌, ◌+◌, ◌<◌, ℕ, List, length, Some, ap, sym, subst}
use Rattle.std.specs.Prelude.{slice_get, slice_index_or}
use Rattle.window_core.specs.Masking.{HasGateValues}
use Rattle.window_core.specs.MaskingLaws.{word_index, word_values}
use Rattle.window_core.proofs.specifying.gate_word.Goals as goal

pub bounds-lanes_of-inputs : goal.bounds-lanes_of-inputs
bounds-lanes_of-inputs c =
    let at : slice_get c.args.window.now.gates c.index_of.result ≡ Some c.args.node = ap (λ (xs : List ℕ). slice_get xs c.index_of.result) (sym c.gates.ensures.value) ∙ c.index_of.ensures in
    subst (λ (xs : List ℕ). length xs + c.index_of.result < length c.lanes_of.result.now) (sym (c.leaves-inputs.ensures.value ∙ c.requires.leaves))
    (subst (λ (ls : List ℕ). length c.args.window.now.inputs + c.index_of.result < length ls) (sym c.lanes_of.ensures.value)
    (word_index c.args.cone.now c.args.words.now c.args.window.now.inputs c.args.window.now.gates c.index_of.result c.args.node c.requires.words c.requires.leaves c.requires.gates c.requires.few at))

pub returns : goal.returns
returns c =
    let at : slice_get c.args.window.now.gates c.index_of.result ≡ Some c.args.node = ap (λ (xs : List ℕ). slice_get xs c.index_of.result) (sym c.gates.ensures.value) ∙ c.index_of.ensures in
    subst (λ (xs : List ℕ). HasGateValues c.args.cone.now c.args.node (slice_index_or c.lanes_of.result.now (length xs + c.index_of.result) 0)) (sym (c.leaves-inputs.ensures.value ∙ c.requires.leaves))
    (subst (λ (ls : List ℕ). HasGateValues c.args.cone.now c.args.node (slice_index_or ls (length c.args.window.now.inputs + c.index_of.result) 0)) (sym c.lanes_of.ensures.value)
    (word_values c.args.cone.now c.args.words.now c.args.window.now.inputs c.args.window.now.gates c.index_of.result c.args.node c.requires.words c.requires.leaves c.requires.gates c.requires.few at))
