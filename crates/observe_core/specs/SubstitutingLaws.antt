-- A chain that implements an observed specification, substituted for the window.
use Rattle.chain_theory.specs.Chain.{Chain}
use Rattle.net_theory.specs.Net.{Net, IsNet}
use Rattle.window_theory.specs.Window.{Window, Belongs}
use Rattle.window_theory.specs.Substituted.{Fits}
use Rattle.subst_core.specs.Substitution.{KeepsSinks}
use Rattle.observe_theory.specs.ObservedLaws.{observed_fits, sinks_kept}
use Rattle.observe_core.specs.Observing.{MeetsObserved}

-- All sinks keep their values.
pub observable_keeps : (n : Net) (w : Window) (c : Chain) → IsNet n → Belongs n w → MeetsObserved n w c → KeepsSinks n w c
observable_keeps n w c net is meets given = sinks_kept n w meets.specification c given net is meets.chain meets.is meets.agrees

pub observable_fits : (n : Net) (w : Window) (c : Chain) → MeetsObserved n w c → Fits w c
observable_fits n w c meets = observed_fits n w meets.specification c meets.chain meets.is meets.agrees
