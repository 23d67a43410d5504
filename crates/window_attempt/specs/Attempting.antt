-- The result of an attempt.
use Rattle.std.specs.Prelude.{◌≡◌, ℕ, ◌+◌, ◌≤◌, length}
use Rattle.tt_core.specs.Words.{specification}
use Rattle.net_theory.specs.Net.{Net}
use Rattle.window_theory.specs.Window.{Window}
use Rattle.window_core.specs.Fanouts.{Fanouts, AreFanouts}
use Rattle.settings.specs.declared.improve.ImproveSettings.{ImproveSettings}
use Rattle.settings.specs.Improve.{IsInRange}
use Rattle.cert_theory.specs.declared.data.Header.{Header}
use Rattle.decide_core.specs.declared.deciding.Decided.{Decided}
use Rattle.decide_core.specs.Decided.{IsDecided, IsClosed}
use Rattle.improve_theory.specs.declared.candidate.WindowCandidate.{WindowCandidate}
use Rattle.improve_theory.specs.LocalSpecification.{IsLocalSpecification}
use Rattle.improve_theory.specs.Undecided.{IsUndecided}
use Rattle.improve_theory.specs.Changes.{IsGain}
use Rattle.resyn_core.specs.Outcomes.{IsDone}
use Rattle.window_attempt.specs.declared.attempting.AttemptOutcome.{AttemptOutcome}
use Rattle.window_attempt.specs.declared.attempting.AttemptOutcome.TheVariants.{NoGain, Open, Accepted}

-- the settings, a net, its index, and the basis of the cache
pub record Attempting : Type 0 where
  pub settings : ImproveSettings
  pub net : Net
  pub fanouts : Fanouts
  pub basis : ℕ

pub record IsAttempting (t : Attempting) : Type 0 where
  pub range : IsInRange t.settings
  pub fanouts : AreFanouts t.net t.fanouts
  pub basis : t.basis ≡ t.settings.basis

-- The header has the local specification of the window by the settings, and asks for fewer steps than the
-- window has gates.
pub record IsHeaderFor (s : ImproveSettings) (n : Net) (w : Window) (h : Header) : Type 0 where
  pub tables : IsLocalSpecification s.observe n w (specification h.spec)
  pub basis_is : h.basis ≡ s.basis
  pub method_is : h.method ≡ s.method
  pub conflicts_is : h.conflicts ≡ s.conflicts
  pub max_is : h.max + 1 ≡ length w.gates

-- and the search decided it, which it always does where at most four steps are asked for
pub record IsDecidedFor (s : ImproveSettings) (n : Net) (w : Window) (d : Decided) : Type 0 where
  pub header : Header
  pub asks : IsHeaderFor s n w header
  pub decided : IsDecided header d
  pub closed : header.max ≤ 4 → IsClosed d

-- the result of an attempt of a candidate of n
abbrev pub IsAttemptOutcome : ImproveSettings → Net → WindowCandidate → AttemptOutcome → Type 0
IsAttemptOutcome s n v NoGain = IsDone s n v
IsAttemptOutcome s n v (Open search) = IsUndecided n s (record { candidate = v; search = search })
IsAttemptOutcome s n v (Accepted m) = IsGain s n m v
