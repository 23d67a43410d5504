-- Windows that stayed undecided.
use Rattle.std.specs.Prelude.{◌≡◌, ℕ, ◌+◌, ◌≤◌, List, map}
use Rattle.net_theory.specs.Net.{Net}
use Rattle.tt_core.specs.Words.{specification}
use Rattle.window_theory.specs.Window.{Window, IsWindow}
use Rattle.settings.specs.declared.improve.ImproveSettings.{ImproveSettings}
use Rattle.cert_theory.specs.declared.data.Verdict.TheVariants as verdicts
use Rattle.cert_theory.specs.Certificate.{Certificate, IsValid, HasOutput}
use Rattle.cert_theory.specs.LiveBounds.{HaveLiveBounds}
use Rattle.improve_theory.specs.declared.candidate.WindowCandidate.{WindowCandidate}
use Rattle.improve_theory.specs.LocalSpecification.{IsLocalSpecification}
use Rattle.improve_theory.specs.Settled.{IsListedCandidate}

pub record Undecided : Type 0 where
  pub candidate : WindowCandidate
  pub search : Certificate

abbrev pub candidate_of : Undecided → WindowCandidate
candidate_of u = u.candidate

-- the candidates that are named
abbrev pub candidates : List Undecided → List WindowCandidate
candidates named = map candidate_of named

-- A listed window of at least six gates (smaller ones are always decided), and a valid certificate for its
-- local specification, by the settings, that leaves open whether a chain has fewer steps than the window has
-- gates.
pub record IsUndecided (n : Net) (s : ImproveSettings) (u : Undecided) : Type 0 where
  pub listed : IsListedCandidate n s.cap u.candidate
  pub large : 6 ≤ u.candidate.count
  pub window : Window
  pub is : IsWindow n u.candidate.root u.candidate.partner u.candidate.count window
  pub tables : IsLocalSpecification s.observe n window (specification u.search.header.spec)
  pub basis_is : u.search.header.basis ≡ s.basis
  pub method_is : u.search.header.method ≡ s.method
  pub conflicts_is : u.search.header.conflicts ≡ s.conflicts
  pub max_is : u.search.header.max + 1 ≡ u.candidate.count
  pub valid : IsValid u.search
  pub output : HasOutput u.search
  pub low : ℕ
  pub verdict_is : u.search.verdict ≡ verdicts.Open low
  pub live_bounds : HaveLiveBounds u.search.header u.search.sections
