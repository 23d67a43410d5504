-- The specification of a window with observability don't-cares (ODC) too.
use Rattle.std.specs.Prelude.{◌≡◌, ℕ, ◌≤◌, ◌<◌, ◌^◌}
use Rattle.chain_theory.specs.Operator.{Basis}
use Rattle.chain_theory.specs.Agreement.{NoneBelow}
use Rattle.chain_theory.specs.Specification.{Specification}
use Rattle.chain_theory.specs.declared.data.Cell.TheVariants.{Free}
use Rattle.net_theory.specs.Net.{Net}
use Rattle.window_theory.specs.Window.{Window}
use Rattle.window_theory.specs.Care.{IsSpecificationOf}
use Rattle.observe_theory.specs.FanoutCone.{FanoutCone, IsFanoutCone}
use Rattle.observe_theory.specs.Unobservable.{IsUnobservable}

-- s is `whole` with the cells of all unobservable rows as don't-cares.
pub record IsRelaxed (n : Net) (w : Window) (t : FanoutCone) (whole s : Specification) : Type 0 where
  pub inputs : s.inputs ≡ whole.inputs
  pub outputs : s.outputs ≡ whole.outputs
  pub seen : (h row : ℕ) → 1 ≤ h → h ≤ whole.outputs → row < 2 ^ whole.inputs → (IsUnobservable n w t row → ⊥) →
      s.cell h row ≡ whole.cell h row
  pub unobservable : (h row : ℕ) → 1 ≤ h → h ≤ whole.outputs → row < 2 ^ whole.inputs → IsUnobservable n w t row →
      s.cell h row ≡ Free

-- The specification of a window, with the cells of all unobservable rows as don't-cares.
-- Example: where the gate 3 is XNOR of the sources 1 and 2, gate 4 is AND of 3 and the source 1, and the only
-- sink is 4, the cells of the window 3 are -, -, 0, 1. The source 2 implements them.
pub record IsObservedOf (n : Net) (w : Window) (s : Specification) : Type 0 where
  pub fanout_cone : FanoutCone
  pub is_fanout_cone : IsFanoutCone n w fanout_cone
  pub whole : Specification
  pub is_whole : IsSpecificationOf n w whole
  pub relaxed : IsRelaxed n w fanout_cone whole s

-- No chain over the basis of fewer than `count` steps implements the window with observability
-- don't-cares.
pub record HasNoFewerObserved (n : Net) (basis : Basis) (w : Window) (count : ℕ) : Type 0 where
  pub specification : Specification
  pub is : IsObservedOf n w specification
  pub none : NoneBelow specification basis count
