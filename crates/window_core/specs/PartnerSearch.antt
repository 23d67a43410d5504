-- Partners, while they are found from the greatest on.
use Rattle.std.specs.Prelude.{◌≡◌, ℕ, ◌≤◌, ◌<◌, true, List, ◌⊎◌}
use Rattle.net_theory.specs.declared.data.Gate.{Gate}
use Rattle.net_theory.specs.Net.{Net}
use Rattle.window_theory.specs.Nodes.{among, IsFalling}
use Rattle.window_theory.specs.Partner.{SharesBelow}
use Rattle.window_core.specs.Gates.{IsGateOf}
use Rattle.window_core.specs.Fanouts.{node_of, IsEarlier}

-- The partners at and above a bound were found; a and b are the next fanouts of the root's operands below it.
pub record IsPartnerSearch (n : Net) (root a b : ℕ) (partners : List ℕ) : Type 0 where
  pub bound : ℕ
  pub gate : Gate
  pub is : IsGateOf n root gate
  pub to : bound ≤ root
  pub falling : IsFalling partners
  pub from : (q : ℕ) → among partners q ≡ true → bound ≤ q
  pub share : (q : ℕ) → among partners q ≡ true → SharesBelow n root q
  pub all : (h : ℕ) → SharesBelow n root h → (among partners h ≡ true) ⊎ (h < bound)
  pub first : IsEarlier n bound (node_of gate.a) a
  pub second : IsEarlier n bound (node_of gate.b) b
