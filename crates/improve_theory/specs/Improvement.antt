-- The result of an improvement.
use Rattle.std.specs.Prelude.{◌≡◌, ◌+◌, ◌≤◌, Bool, true, false, List, [], length, All}
use Rattle.op_basis.specs.Basis.{members}
use Rattle.net_theory.specs.Net.{Net}
use Rattle.net_theory.specs.Implements.{IsCleanedUp}
use Rattle.net_theory.specs.Dangling.{cleanup}
use Rattle.settings.specs.declared.improve.ImproveSettings.{ImproveSettings}
use Rattle.improve_theory.specs.Settled.{IsSettled}
use Rattle.improve_theory.specs.Changes.{HasChangedTimes}
use Rattle.improve_theory.specs.Undecided.{Undecided, candidates, IsUndecided}
use Rattle.improve_theory.specs.Leading.{IsReplacement}
use Rattle.improve_theory.specs.Candidates.{AreInOrder}
use Rattle.net_theory.specs.Operators.{HasOperatorsWithin}

-- m is the result of resynthesis of n, or of a net that may replace n. If it is settled, no window up to the
-- cap has a shorter chain for its local specification, but for those that are named, each once and in the
-- order of candidates, and each of these is undecided by a certificate. Otherwise a listed window had a shorter
-- chain in each of as many rounds as there may be, at least as many gates have gone, and none is named.
pub record IsResynthesisOf (s : ImproveSettings) (n m : Net) (settled : Bool)
    (undecided : List Undecided) : Type 0 where
  pub replaces : IsReplacement (members s.basis) n m
  pub settled_is : settled ≡ true → IsSettled s m (candidates undecided)
  pub undecided_are : All (IsUndecided m s) undecided
  pub rising : AreInOrder (candidates undecided)
  pub stopped : settled ≡ false → length m.gates + s.rounds ≤ length n.gates
  pub rounds_changed : settled ≡ false → HasChangedTimes s.rounds s n m
  pub none_named : settled ≡ false → undecided ≡ []

-- m is n improved by the settings. It implements n, with no more gates, and each of its gates is in the
-- transitive fanin of a sink; each operator is of the basis or of n. If it is settled, no window up to the
-- cap has a shorter chain for its local specification, but for those that are named, each once and in the
-- order of candidates, and each of these is undecided by a certificate. Otherwise the rounds ended it: in each of
-- them, the last one too, a listed window had a shorter chain; at least as many gates have gone besides dangling ones,
-- and none is named. With the cap 0 only dangling gates go.
pub record IsImprovementBy (s : ImproveSettings) (n m : Net) (settled : Bool)
    (undecided : List Undecided) : Type 0 where
  pub cleaned_up : IsCleanedUp n m
  pub operators : HasOperatorsWithin (members s.basis) n m
  pub settled_is : settled ≡ true → IsSettled s m (candidates undecided)
  pub undecided_are : All (IsUndecided m s) undecided
  pub rising : AreInOrder (candidates undecided)
  pub stopped : settled ≡ false → length m.gates + s.rounds ≤ length (cleanup n).gates
  pub rounds_changed : settled ≡ false → HasChangedTimes s.rounds s (cleanup n) m
  pub none_named : settled ≡ false → undecided ≡ []
  pub untouched : s.cap ≡ 0 → (m ≡ cleanup n) × (settled ≡ true)
