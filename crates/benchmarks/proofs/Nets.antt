use Rattle.std.specs.Prelude.{◌≡◌, ℕ, ◌+◌, List, [], ◌∷◌, ◌++◌, length}
use Rattle.std.proofs.Common.{sym, subst}
use Rattle.net_theory.specs.declared.data.Gate.{Gate}
use Rattle.net_theory.specs.Net.{IsGateAt, AreGates}
use Rattle.net_theory.specs.ValueLaws.{gates_push}

pub no_gates : (sources : ℕ) (gs : List Gate) → gs ≡ [] → AreGates sources gs
no_gates sources [] e = record { each = λ i g at. absurd cc }
no_gates sources (g ∷ gs) e = absurd cc

pub push_gate : (sources index : ℕ) (old new : List Gate) (g : Gate) → AreGates sources old → length old ≡ index → new ≡ old ++ g ∷ [] → IsGateAt (sources + 1 + index) g → AreGates sources new
push_gate sources index old new g are size e here =
    subst (AreGates sources) (sym e) (gates_push sources old g are (subst (λ (i : ℕ). IsGateAt (sources + 1 + i) g) (sym size) here))
