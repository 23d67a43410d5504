-- Rounds that changed a net: in each of them a shorter chain took the place of a listed window.
use Rattle.std.specs.Prelude.{ℕ, zero, suc, ◌≤◌, ◌<◌, length}
use Rattle.chain_theory.specs.Chain.{Chain, IsChain}
use Rattle.chain_theory.specs.Agreement.{IsOver, Agrees}
use Rattle.chain_theory.specs.Specification.{Specification}
use Rattle.op_basis.specs.Basis.{members}
use Rattle.net_theory.specs.Net.{Net}
use Rattle.window_theory.specs.Window.{Window, IsWindow}
use Rattle.settings.specs.declared.improve.ImproveSettings.{ImproveSettings}
use Rattle.improve_theory.specs.declared.candidate.WindowCandidate.{WindowCandidate}
use Rattle.improve_theory.specs.Leading.{IsReplacement}
use Rattle.improve_theory.specs.LocalSpecification.{IsLocalSpecification}
use Rattle.improve_theory.specs.Settled.{IsListedCandidate}

-- A chain over the basis with fewer steps than the candidate's window has gates implements its local specification.
pub record HasShorterChain (s : ImproveSettings) (n : Net) (v : WindowCandidate) : Type 0 where
  pub window : Window
  pub is : IsWindow n v.root v.partner v.count window
  pub specification : Specification
  pub tables : IsLocalSpecification s.observe n window specification
  pub chain : Chain
  pub is_chain : IsChain chain
  pub over : IsOver (members s.basis) chain
  pub agrees : Agrees chain specification
  pub fewer : length chain.steps < v.count

-- The listed window had a shorter chain, and m, which may replace n, has fewer gates.
pub record IsGain (s : ImproveSettings) (n m : Net) (v : WindowCandidate) : Type 0 where
  pub listed : IsListedCandidate n s.cap v
  pub shorter : HasShorterChain s n v
  pub replaces : IsReplacement (members s.basis) n m
  pub fewer : length m.gates < length n.gates

-- m may replace n, and has no more gates.
pub record IsNoLarger (s : ImproveSettings) (n m : Net) : Type 0 where
  pub replaces : IsReplacement (members s.basis) n m
  pub no_more : length m.gates ≤ length n.gates

-- Between n and m a listed window had a shorter chain, and the net became smaller.
pub record HasChanged (s : ImproveSettings) (n m : Net) : Type 0 where
  pub before : Net
  pub first : IsNoLarger s n before
  pub candidate : WindowCandidate
  pub after : Net
  pub gain : IsGain s before after candidate
  pub last : IsNoLarger s after m

-- From n to m so many rounds changed the net, one after another.
unfoldable pub HasChangedTimes : ℕ → ImproveSettings → Net → Net → Type 0
HasChangedTimes zero s n m = IsNoLarger s n m
HasChangedTimes (suc rounds) s n m = (between : Net) × HasChangedTimes rounds s n between × HasChanged s between m
