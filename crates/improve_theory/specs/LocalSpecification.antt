-- The specification that the settings require of a window, its local function: its own specification, or,
-- with `observe`, the observed one.
use Rattle.std.specs.Prelude.{ℕ, Bool, true, false}
use Rattle.chain_theory.specs.Operator.{Basis}
use Rattle.chain_theory.specs.Specification.{Specification}
use Rattle.net_theory.specs.Net.{Net}
use Rattle.window_theory.specs.Window.{Window}
use Rattle.window_theory.specs.Care.{IsSpecificationOf, HasNoFewer}
use Rattle.observe_theory.specs.Observed.{IsObservedOf, HasNoFewerObserved}

abbrev pub IsLocalSpecification : Bool → Net → Window → Specification → Type 0
IsLocalSpecification false n w s = IsSpecificationOf n w s
IsLocalSpecification true n w s = IsObservedOf n w s

-- No chain over the basis of fewer steps than the count implements the window's local specification.
-- Example: where the gate 3 is XNOR of the sources 1 and 2, gate 4 is AND of 3 and the source 1, and the only
-- sink is 4, the window 3 has no chain of fewer than 1 steps. With `observe` it has one, the source 2.
abbrev pub HasNoFewerLocal : Bool → Net → Basis → Window → ℕ → Type 0
HasNoFewerLocal false n basis w count = HasNoFewer n basis w count
HasNoFewerLocal true n basis w count = HasNoFewerObserved n basis w count
