use Rattle.std.proofs.Common.{◌≡◌, ◌+◌, ◌-◌, map}
use Rattle.std.specs.List.{range_with_len}
use Rattle.chain_core.specs.Steps.{steps_of}
use Rattle.sat_theory.specs.Formula.{bits_of}
use Rattle.enc_theory.specs.Select.{chosen_step}
use Rattle.enc_select.proofs.decoding.chosen_steps.Given as goal

abbrev pub invariant-loop-i : goal.invariant-loop-i
invariant-loop-i l = steps_of l.steps.items ≡ map (chosen_step l.z (bits_of l.bits)) (range_with_len (l.z.n + 1) (l.i - (l.z.n + 1)))
