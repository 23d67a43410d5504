-- One more line, and no more lines.
use Rattle.std.proofs.Common.{◌≡◌, ℕ, zero, suc, ◌+◌, ◌-◌, ◌*◌, ◌≤◌, ◌<◌, List, [], ◌++◌, refl, arith}
use Rattle.std.proofs.lemmas.Grind.{common_steps}
use Rattle.aiger_binary.specs.Ascii.{Stage, literal_line, inputs_in, latch_start, lined, latches_in, outputs_in, gate_in, gates_in}

pub inputs_more : (variable left : ℕ) (text : List ℕ) → 0 < left →
    inputs_in variable left text ≡ inputs_in (variable + 1) (left - 1) (text ++ literal_line (variable * 2))
unfolding inputs_in
inputs_more variable zero text some = absurd (omega arith)
inputs_more variable (suc left) text some =
    let same : suc left - 1 ≡ left = omega arith in rw same refl

pub inputs_none : (variable left : ℕ) (text : List ℕ) → left ≤ 0 → inputs_in variable left text ≡ text
unfolding inputs_in
inputs_none variable zero text none = refl
inputs_none variable (suc left) text none = absurd (omega arith)

pub ruleset inputs = (common_steps, inputs_more, inputs_none)

pub latches_more : (variable left : ℕ) (s : Stage) → 0 < left →
    latches_in variable left s ≡ latches_in (variable + 1) (left - 1) (lined (latch_start variable) s.text s.rest)
unfolding latches_in
latches_more variable zero s some = absurd (omega arith)
latches_more variable (suc left) s some =
    let same : suc left - 1 ≡ left = omega arith in rw same refl

pub latches_none : (variable left : ℕ) (s : Stage) → left ≤ 0 → latches_in variable left s ≡ s
unfolding latches_in
latches_none variable zero s none = refl
latches_none variable (suc left) s none = absurd (omega arith)

pub ruleset latches = (common_steps, latches_more, latches_none)

pub outputs_more : (left : ℕ) (s : Stage) → 0 < left → outputs_in left s ≡ outputs_in (left - 1) (lined [] s.text s.rest)
unfolding outputs_in
outputs_more zero s some = absurd (omega arith)
outputs_more (suc left) s some =
    let same : suc left - 1 ≡ left = omega arith in rw same refl

pub outputs_none : (left : ℕ) (s : Stage) → left ≤ 0 → outputs_in left s ≡ s
unfolding outputs_in
outputs_none zero s none = refl
outputs_none (suc left) s none = absurd (omega arith)

pub ruleset outputs = (common_steps, outputs_more, outputs_none)

pub gates_more : (variable left : ℕ) (s : Stage) → 0 < left →
    gates_in variable left s ≡ gates_in (variable + 1) (left - 1) (gate_in (variable * 2) s)
unfolding gates_in
gates_more variable zero s some = absurd (omega arith)
gates_more variable (suc left) s some =
    let same : suc left - 1 ≡ left = omega arith in rw same refl

pub gates_none : (variable left : ℕ) (s : Stage) → left ≤ 0 → gates_in variable left s ≡ s
unfolding gates_in
gates_none variable zero s none = refl
gates_none variable (suc left) s none = absurd (omega arith)

pub ruleset gates = (common_steps, gates_more, gates_none)
