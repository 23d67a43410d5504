-- The effect of a part of a round.
use Rattle.std.specs.Prelude.{◌≡◌, ℕ, ◌+◌, ◌≤◌, ◌<◌, Bool, true, false, List, ◌++◌, length, All, Contains, ◌⊎◌}
use Rattle.chain_theory.specs.Operator.{Basis}
use Rattle.net_theory.specs.Net.{Net}
use Rattle.op_basis.specs.Basis.{members}
use Rattle.settings.specs.declared.improve.ImproveSettings.{ImproveSettings}
use Rattle.improve_theory.specs.declared.candidate.WindowCandidate.{WindowCandidate}
use Rattle.improve_theory.specs.Undecided.{Undecided, candidates, IsUndecided}
use Rattle.improve_theory.specs.Leading.{IsReplacement}
use Rattle.improve_theory.specs.Changes.{HasChanged, HasChangedTimes}
use Rattle.resyn_core.specs.Outcomes.{IsDone}
use Rattle.improve_theory.specs.Candidates.{AreInOrder}

-- whether a round has changed the net, and the candidates that it left undecided
pub record Round : Type 0 where
  pub changed : Bool
  pub named : List Undecided

-- the settings, the net, and the round at some moment
pub record LoopState : Type 0 where
  pub settings : ImproveSettings
  pub net : Net
  pub round : Round

abbrev pub loop_state : ImproveSettings → Net → Round → LoopState
loop_state s n round = record { settings = s; net = n; round = round }

abbrev pub basis_of : LoopState → Basis
basis_of a = members a.settings.basis

abbrev pub names_of : LoopState → List WindowCandidate
names_of a = candidates a.round.named

-- The candidates named since `before` have the property P, and are in order.
pub record AddsUndecided (P : WindowCandidate → Type 0) (before after : List Undecided) : Type 0 where
  pub more : List Undecided
  pub is : after ≡ before ++ more
  pub rising : AreInOrder (candidates more)
  pub each : (v : WindowCandidate) → Contains (candidates more) v → P v

-- From a to b the candidates with the property P were attempted. The net of b may replace the net of a. If
-- nothing has changed, the net is the same, each of those candidates has no shorter chain or is named, and
-- each that is named is undecided. If something has changed, a window had a shorter chain, and the net is smaller.
pub record IsResynthesized (P : WindowCandidate → Type 0) (a b : LoopState) : Type 0 where
  pub asked : b.settings ≡ a.settings
  pub replaces : IsReplacement (basis_of a) a.net b.net
  pub no_more : length b.net.gates ≤ length a.net.gates
  pub was : b.round.changed ≡ false → a.round.changed ≡ false
  pub same : b.round.changed ≡ false → b.net ≡ a.net
  pub kept : b.round.changed ≡ false → (v : WindowCandidate) → Contains (names_of a) v → Contains (names_of b) v
  pub done : b.round.changed ≡ false → (v : WindowCandidate) → P v → Contains (names_of b) v ⊎ IsDone b.settings b.net v
  pub adds : b.round.changed ≡ false → AddsUndecided P a.round.named b.round.named
  pub sound : b.round.changed ≡ false → All (IsUndecided a.net a.settings) a.round.named → All (IsUndecided b.net b.settings) b.round.named
  pub fewer_gates : a.round.changed ≡ false → b.round.changed ≡ true → length b.net.gates < length a.net.gates
  pub changed : a.round.changed ≡ false → b.round.changed ≡ true → HasChanged a.settings a.net b.net

-- The net after `rounds` rounds that each changed it.
pub record HasRounds (rounds : ℕ) (s t : ImproveSettings) (n m : Net) : Type 0 where
  pub asked : t ≡ s
  pub replaces : IsReplacement (members s.basis) n m
  pub fewer : length m.gates + rounds ≤ length n.gates
  pub changes : HasChangedTimes rounds s n m
