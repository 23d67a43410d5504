use Rattle.std.proofs.Common.{◌≡◌, map, take}
use Rattle.chain_core.specs.Steps.{steps_of}
use Rattle.sat_theory.specs.Formula.{bits_of}
use Rattle.enc_theory.specs.Decode.{decoded_step}
use Rattle.enc_base.proofs.decoding.decoded_steps.Given as goal

abbrev pub invariant-loop-step : goal.invariant-loop-step
invariant-loop-step l = steps_of l.chain.items ≡ map (decoded_step l.z (bits_of l.bits)) (take l.step-index l.steps)
