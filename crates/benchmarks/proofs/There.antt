-- Every node after the sources is a gate.
use Rattle.std.proofs.Common.{◌≡◌, ℕ, ◌+◌, ◌≤◌, ◌<◌, List, length, ap, arith}
use Rattle.net_theory.specs.declared.data.Gate.{Gate}
use Rattle.net_theory.specs.Net.{Net}
use Rattle.window_theory.specs.Paths.{IsGate}
use Rattle.window_theory.specs.WindowLaws.{gate_at}

pub gate_there : (n : Net) (p sources : ℕ) (gates : List Gate) → sources ≡ n.sources → gates ≡ n.gates → sources < p → p ≤ sources + length gates → IsGate n p
gate_there n p sources gates same all low high = gate_at n p (omega (arith, same, low)) (omega (arith, same, high, ap (length {A = Gate}) all))
