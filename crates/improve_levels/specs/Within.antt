-- Nets and circuits improved under a limit of levels.
use Rattle.std.specs.Prelude.{◌≡◌, ℕ, ◌≤◌, max, length}
use Rattle.op_basis.specs.Basis.{members}
use Rattle.net_theory.specs.Cost.{cost}
use Rattle.net_theory.specs.Net.{Net}
use Rattle.net_theory.specs.Circuit.{Circuit, IsProper}
use Rattle.net_theory.specs.Implements.{IsCleanedUp}
use Rattle.net_theory.specs.Dangling.{cleanup}
use Rattle.net_theory.specs.Operators.{HasOperatorsWithin}
use Rattle.net_levels.specs.Levels.{levels_of}
use Rattle.net_document.specs.Format.{Format}
use Rattle.net_document.specs.Equivalence.{AreEquivalentCircuits}
use Rattle.settings.specs.declared.improve.ImproveSettings.{ImproveSettings}

-- m implements n, with no more gates, and each of its gates is in the transitive fanin of a sink; each operator is of
-- the basis or of n. It has at most `most` levels, or at most as many as n. With `most` 0 it has no more levels than n.
-- With a cap of 0 there is only the cleanup.
pub record IsWithin (s : ImproveSettings) (most : ℕ) (n m : Net) : Type 0 where
  pub cleaned_up : IsCleanedUp n m
  pub operators : HasOperatorsWithin (members s.basis) n m
  pub levels : levels_of m ≤ max most (levels_of n)
  pub untouched : s.cap ≡ 0 → m ≡ cleanup n

-- k is c with such a net. It is proper, has the model of c, and is equivalent to c. The numbers are the gates of c and
-- the cost of k as a text of the format, and the second is no more than the first.
pub record IsBetterWithin (f : Format) (s : ImproveSettings) (most : ℕ) (c k : Circuit) (before after : ℕ) : Type 0 where
  pub proper : IsProper k
  pub model : c.model ≡ k.model
  pub equivalent : AreEquivalentCircuits c k
  pub within : IsWithin s most c.net k.net
  pub before_is : before ≡ length c.net.gates
  pub after_is : after ≡ cost (f.written k)
  pub fewer : after ≤ before
