-- Settled nets: no window up to the cap has a shorter chain for its local specification, but for some that
-- are named.
use Rattle.std.specs.Prelude.{ℕ, ◌≤◌, List, Contains, ◌⊎◌}
use Rattle.op_basis.specs.Basis.{members}
use Rattle.net_theory.specs.Net.{Net}
use Rattle.window_theory.specs.Paths.{IsGate}
use Rattle.window_theory.specs.Window.{Window, IsPartnerOrNone, IsWindow}
use Rattle.settings.specs.declared.improve.ImproveSettings.{ImproveSettings}
use Rattle.improve_theory.specs.declared.candidate.WindowCandidate.{WindowCandidate}
use Rattle.improve_theory.specs.LocalSpecification.{HasNoFewerLocal}

-- No chain over the basis with fewer steps than the candidate's window has gates implements its local
-- specification; this holds trivially where there is no window.
pub record HasNoShorterChain (s : ImproveSettings) (n : Net) (v : WindowCandidate) : Type 0 where
  pub least : (w : Window) → IsWindow n v.root v.partner v.count w →
      HasNoFewerLocal s.observe n (members s.basis) w v.count

-- a gate, a partner of it or none, and a count from 1 to the cap
pub record IsListedCandidate (n : Net) (cap : ℕ) (v : WindowCandidate) : Type 0 where
  pub root : IsGate n v.root
  pub partner : IsPartnerOrNone n v.root v.partner
  pub from : 1 ≤ v.count
  pub to : v.count ≤ cap

-- For every gate, every partner of it or none, and every count up to the cap: the candidate is named, or its
-- window, if there is one, has no shorter chain. The basis, the cap and `observe` are those of the settings.
-- Example: for NAND of two sources and NOT of it, over all operators, the net is settled with cap 1 and none
-- named, since each gate alone needs a step. With cap 2 it isn't, since AND does what both do.
pub record IsSettled (s : ImproveSettings) (n : Net) (named : List WindowCandidate) : Type 0 where
  pub each : (v : WindowCandidate) → IsListedCandidate n s.cap v → Contains named v ⊎ HasNoShorterChain s n v
