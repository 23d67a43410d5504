-- The local specification of a window, and that no chain of fewer steps implements it.
use Rattle.std.specs.Prelude.{ℕ, Bool, true, false}
use Rattle.chain_theory.specs.Operator.{Basis}
use Rattle.chain_theory.specs.Agreement.{NoneBelow}
use Rattle.chain_theory.specs.Specification.{Specification}
use Rattle.net_theory.specs.Net.{Net}
use Rattle.window_theory.specs.Window.{Window}
use Rattle.improve_theory.specs.LocalSpecification.{IsLocalSpecification, HasNoFewerLocal}

pub none_asked : (observe : Bool) (n : Net) (basis : Basis) (w : Window) (count : ℕ) (s : Specification) →
    IsLocalSpecification observe n w s → NoneBelow s basis count → HasNoFewerLocal observe n basis w count
none_asked false n basis w count s is none = record { specification = s; is = is; none = none }
none_asked true n basis w count s is none = record { specification = s; is = is; none = none }
