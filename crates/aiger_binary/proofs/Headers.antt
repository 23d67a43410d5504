-- Counts within their limits, and their sums.
use Rattle.std.proofs.Common.{◌≡◌, ℕ, ◌+◌, ◌^◌, ◌≤◌, ◌<◌, true, List, Some, arith}
use Rattle.std.proofs.lemmas.Bool.{eqb-true}
use Rattle.std.proofs.lemmas.Grind.{common_steps}
use Rattle.text_core.specs.Numbers.{number_up_to}
use Rattle.text_core.specs.ReadBack.{number_spells}
use Rattle.aiger_binary.specs.declared.header.Counts.{Counts}
use Rattle.aiger_binary.specs.Header.{most_count, is_packed}
use Rattle.aiger_binary.specs.Low.{AreLow}

pub count_low : (item : List ℕ) (n : ℕ) → number_up_to most_count item ≡ Some n → n ≤ most_count
count_low item n e = (number_spells most_count n item (omega arith) e).0

pub ruleset headers = (common_steps, count_low)

sum_is : (c : Counts) → is_packed c ≡ true → c.variables ≡ c.inputs + c.latches + c.gates
sum_is c e = eqb-true c.variables (c.inputs + c.latches + c.gates) e

pub two_low : (c : Counts) → AreLow c → c.inputs + c.latches < 2 ^ 32
two_low c low = omega (arith, low.inputs, low.latches)

pub three_low : (c : Counts) → AreLow c → c.inputs + c.latches + c.gates < 2 ^ 32
three_low c low = omega (arith, low.inputs, low.latches, low.gates)

pub one_low : (c : Counts) → AreLow c → 1 + c.inputs < 2 ^ 32
one_low c low = omega (arith, low.inputs)

pub first_low : (c : Counts) → AreLow c → 1 + c.inputs + c.latches < 2 ^ 32
first_low c low = omega (arith, low.inputs, low.latches)

pub inputs_low : (c : Counts) → AreLow c → c.inputs ≤ most_count
inputs_low c low = low.inputs

pub latches_low : (c : Counts) → AreLow c → is_packed c ≡ true → 1 + c.inputs + c.latches ≤ most_count + 1
latches_low c low e = omega (arith, low.variables, sum_is c e)

pub gates_low : (c : Counts) → AreLow c → is_packed c ≡ true → 1 + c.inputs + c.latches + c.gates ≤ most_count + 1
gates_low c low e = omega (arith, low.variables, sum_is c e)

pub ruleset sums = (common_steps, two_low, three_low, one_low, first_low, inputs_low, latches_low, gates_low)
