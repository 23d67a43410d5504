-- Netlists that were improved by wishes: the same behaviour, no more gates, and what is wished of operators and levels.
use Rattle.std.specs.Prelude.{◌≡◌, ℕ, ◌≤◌, Bool, true, false, List, length, Ok, Some}
use Rattle.op_basis.specs.Basis.{members}
use Rattle.net_theory.specs.Behaviour.{IsEquivalent}
use Rattle.net_theory.specs.Cost.{cost}
use Rattle.net_theory.specs.Dangling.{cleanup}
use Rattle.net_theory.specs.Document.{Name, Document}
use Rattle.net_theory.specs.Net.{Net}
use Rattle.net_theory.specs.NetOf.{net_of}
use Rattle.net_theory.specs.Naming.{gate_names}
use Rattle.net_theory.specs.Circuit.{Circuit, IsProper, Describes}
use Rattle.net_theory.specs.Implements.{Implements}
use Rattle.net_theory.specs.Operators.{HasOperatorsWithin}
use Rattle.net_theory.specs.WellFormed.{IsWellFormed}
use Rattle.net_document.specs.Listed.{Listed}
use Rattle.net_document.specs.Format.{Format, IsCircuitOfText}
use Rattle.net_document.specs.Equivalence.{AreEquivalentCircuits}
use Rattle.settings.specs.declared.improve.ImproveSettings.{ImproveSettings}
use Rattle.wish_names.specs.declared.wishes.Wishes.{Wishes}
use Rattle.wish_names.specs.declared.wishes.LevelsAsked.{LevelsAsked}
use Rattle.wish_names.specs.declared.wishes.LevelsAsked.TheVariants.{Untold, Tell, Keep, Most}
use Rattle.net_levels.specs.Levels.{levels_of}
use Rattle.net_basis.specs.DocumentOver.{IsDocumentOver}
use Rattle.net_basis.specs.OverBasis.{IsNetOver, MayHaveTooMany}
use Rattle.based.specs.Based.{left_of, IsInexpressibleBy}
use Rattle.improve_theory.specs.Undecided.{Undecided}
use Rattle.improve_theory.specs.Improvement.{IsImprovementBy}
use Rattle.improve_levels.specs.Within.{IsWithin}
use Rattle.improve_wishes.specs.LevelsReport.{wished_report}

-- ---- operators

-- What is improved: the document's net, or with `--only yes` what isn't dangling in it, over the basis: itself if its
-- gates are over the basis, and else with no more gates than take the place of them.
abbrev pub IsBaseNet : Bool → ImproveSettings → Net → Net → Type 0
IsBaseNet false s n base = base ≡ n
IsBaseNet true s n base = IsNetOver (members s.basis) (cleanup n) base

-- With `--only yes` the document that is written is over the basis: its tables are gates of the basis, NOT where the
-- basis has it, copies and constants.
abbrev pub IsOverIf : Bool → ImproveSettings → Document → Type 0
IsOverIf false s d = Unit {0}
IsOverIf true s d = IsDocumentOver (members s.basis) d

-- ---- levels

-- m is n improved by the settings, or under a limit of levels: those of n, or so many where n has no more.
abbrev pub IsReached : LevelsAsked → ImproveSettings → Net → Net → Bool → List Undecided → Type 0
IsReached Untold s n m settled undecided = IsImprovementBy s n m settled undecided
IsReached Tell s n m settled undecided = IsImprovementBy s n m settled undecided
IsReached Keep s n m settled undecided = IsWithin s 0 n m
IsReached (Most most) s n m settled undecided = IsWithin s most n m

-- ---- circuits

-- k is c improved by the settings and by what is wished of levels. It is proper, has the model of c and is equivalent to
-- c; its net implements that of c, with operators of the basis or of c. The numbers are the gates of c and the cost of k
-- as a text of the format, and the second is no more than the first.
pub record IsBetterBy (f : Format) (s : ImproveSettings) (levels : LevelsAsked) (c k : Circuit) (before after : ℕ)
    (settled : Bool) (undecided : List Undecided) : Type 0 where
  pub proper : IsProper k
  pub same : k ≡ record c { net = k.net }
  pub equivalent : AreEquivalentCircuits c k
  pub implements : Implements c.net k.net
  pub operators : HasOperatorsWithin (members s.basis) c.net k.net
  pub reached : IsReached levels s c.net k.net settled undecided
  pub before_is : before ≡ length c.net.gates
  pub after_is : after ≡ cost (f.written k)
  pub fewer : after ≤ before

-- b is what is improved of c: c itself, or with `--only yes` a proper circuit over the basis that is equivalent to c.
pub record IsBase (only : Bool) (s : ImproveSettings) (c b : Circuit) : Type 0 where
  pub proper : IsProper b
  pub same : b ≡ record c { net = b.net }
  pub equivalent : AreEquivalentCircuits c b
  pub net : IsBaseNet only s c.net b.net

-- The text is that of b improved by the settings and by what is wished of levels, and the report says so.
pub record IsTextBy (f : Format) (Can : Circuit → Type 0) (s : ImproveSettings) (levels : LevelsAsked) (b : Circuit)
    (text report : List ℕ) : Type 0 where
  pub circuit : Circuit
  pub before : ℕ
  pub after : ℕ
  pub settled : Bool
  pub undecided : List Undecided
  pub better : IsBetterBy f s levels b circuit before after settled undecided
  pub writes : Can circuit
  pub spelled : text ≡ f.text circuit
  pub reported : report ≡ wished_report levels (gate_names circuit) circuit.net.sources before after
      (levels_of b.net) (levels_of circuit.net) settled undecided

-- ---- texts

-- The bytes list a well-formed document within the limit of gates, whose net was improved, or with `--only yes` that of
-- an equivalent circuit over the basis. The text is that of a proper circuit with the document's model, which is
-- equivalent to it, has no more gates than what was improved, and has what is wished of levels. The text lists a
-- well-formed document again, which is equivalent to the first one, and over the basis if that is wished. The report has
-- the gates and the levels of both nets.
pub record IsWished (f : Format) (s : ImproveSettings) (w : Wishes) (bytes text report : List ℕ) : Type 0 where
  pub read : Listed
  pub said : f.listed bytes ≡ Ok read
  pub within : cost read.document ≤ f.most
  pub well : IsWellFormed read.document
  pub first : Net
  pub first_is : net_of read.document ≡ Some first
  pub base : Circuit
  pub base_is : IsBaseNet w.only s first base.net
  pub base_describes : Describes read.document base
  pub circuit : Circuit
  pub proper : IsProper circuit
  pub model : read.document.model ≡ circuit.model
  pub describes : Describes read.document circuit
  pub spelled : text ≡ f.text circuit
  pub operators : HasOperatorsWithin (members s.basis) base.net circuit.net
  pub again : Listed
  pub said_again : f.listed text ≡ Ok again
  pub well_again : IsWellFormed again.document
  pub over : IsOverIf w.only s again.document
  pub same : IsEquivalent read.document again.document
  pub before : ℕ
  pub after : ℕ
  pub settled : Bool
  pub undecided : List Undecided
  pub reached : IsReached w.levels s base.net circuit.net settled undecided
  pub before_is : before ≡ length base.net.gates
  pub after_is : after ≡ cost again.document
  pub fewer : after ≤ before
  pub reported : report ≡ wished_report w.levels (gate_names circuit) circuit.net.sources before after
      (levels_of base.net) (levels_of circuit.net) settled undecided

-- ---- what can't be over the basis

-- The bytes list a well-formed document. Its net has a gate that isn't dangling, and is written by this name, whose
-- function of its different signals no gates over the basis compute.
pub record IsCannotExpress (f : Format) (s : ImproveSettings) (w : Wishes) (bytes : List ℕ) (name : Name) : Type 0 where
  pub wish : w.only ≡ true
  pub circuit : Circuit
  pub of_text : IsCircuitOfText f bytes circuit
  pub gate : IsInexpressibleBy (members s.basis) (left_of circuit) name

-- The bytes list a well-formed document. Not all gates of its net that aren't dangling have operators of the basis, and
-- over it, what takes their place could have too many gates.
pub record IsTooLarge (f : Format) (s : ImproveSettings) (w : Wishes) (bytes : List ℕ) : Type 0 where
  pub wish : w.only ≡ true
  pub circuit : Circuit
  pub of_text : IsCircuitOfText f bytes circuit
  pub large : MayHaveTooMany (members s.basis) (cleanup circuit.net)
