-- Chains that do what is asked of a window.
use Rattle.std.specs.Prelude.{Bool}
use Rattle.chain_theory.specs.Chain.{Chain, IsChain}
use Rattle.chain_theory.specs.Agreement.{Agrees}
use Rattle.chain_theory.specs.Specification.{Specification}
use Rattle.net_theory.specs.Net.{Net}
use Rattle.window_theory.specs.Window.{Window}
use Rattle.improve_theory.specs.LocalSpecification.{IsLocalSpecification}

-- The chain agrees with what is asked of the window.
pub record MeetsLocal (observe : Bool) (n : Net) (w : Window) (c : Chain) : Type 0 where
  pub chain : IsChain c
  pub specification : Specification
  pub is : IsLocalSpecification observe n w specification
  pub agrees : Agrees c specification
