-- The result of an attempt.
use Rattle.std.specs.Prelude.{◌≡◌}
use Rattle.net_theory.specs.Net.{Net}
use Rattle.window_theory.specs.Paths.{IsGate}
use Rattle.window_theory.specs.Window.{IsPartnerOrNone}
use Rattle.settings.specs.declared.improve.ImproveSettings.{ImproveSettings}
use Rattle.improve_theory.specs.declared.candidate.WindowCandidate.{WindowCandidate}
use Rattle.resyn_core.specs.declared.attempts.Attempted.{Attempted}
use Rattle.resyn_core.specs.declared.attempts.Attempted.TheVariants.{NoGain, Open, Accepted}
use Rattle.improve_theory.specs.Changes.{IsGain}
use Rattle.improve_theory.specs.Settled.{HasNoShorterChain}
use Rattle.improve_theory.specs.Undecided.{IsUndecided}

-- If the root is a gate and the partner one of it, no chain shorter than the candidate's window implements
-- its local specification.
pub record IsDone (s : ImproveSettings) (n : Net) (v : WindowCandidate) : Type 0 where
  pub done : IsGate n v.root → IsPartnerOrNone n v.root v.partner → HasNoShorterChain s n v

-- No gain: the net is unchanged, and the window has no shorter chain. Open: the net is unchanged, the window
-- has at least six gates, and the certificate leaves it undecided. Accepted: the window has a shorter chain, the new
-- net may replace the old one, and has fewer gates.
abbrev pub IsAttempted : ImproveSettings → Net → Net → WindowCandidate → Attempted → Type 0
IsAttempted s n m v NoGain = (m ≡ n) × IsDone s n v
IsAttempted s n m v (Open search) = (m ≡ n) × IsUndecided n s (record { candidate = v; search = search })
IsAttempted s n m v Accepted = IsGain s n m v
