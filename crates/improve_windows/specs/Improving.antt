-- Improved netlists: the same behaviour, no more gates, and, where the net is settled, no listed window with
-- a shorter chain but for those that are named.
use Rattle.std.specs.Prelude.{◌≡◌, ℕ, ◌≤◌, Bool, true, List, length, Ok, Some}
use Rattle.op_basis.specs.Basis.{members}
use Rattle.net_theory.specs.Behaviour.{IsEquivalent}
use Rattle.net_theory.specs.Cost.{cost}
use Rattle.net_theory.specs.Net.{Net}
use Rattle.net_theory.specs.NetOf.{net_of}
use Rattle.net_theory.specs.Naming.{gate_names}
use Rattle.net_theory.specs.Circuit.{Circuit, IsProper, Describes}
use Rattle.net_theory.specs.WellFormed.{IsWellFormed}
use Rattle.net_document.specs.Listed.{Listed}
use Rattle.net_document.specs.Format.{Format}
use Rattle.net_document.specs.Equivalence.{AreEquivalentCircuits}
use Rattle.settings.specs.declared.improve.ImproveSettings.{ImproveSettings}
use Rattle.improve_theory.specs.Undecided.{Undecided}
use Rattle.improve_theory.specs.Improvement.{IsImprovementBy}
use Rattle.improve_windows.specs.Report.{report_text}

-- Gates in this format may have each operator of the basis.
abbrev pub FitsFormat : Format → ImproveSettings → Type 0
FitsFormat f s = (op : ℕ) → members s.basis op ≡ true → f.operators op ≡ true

-- ---- circuits

-- k is c improved. It is proper, has the model of c, is equivalent to c, and its net is that of c improved by
-- the settings. The numbers are the gates of c and the cost of k as a text of the format, and the second is
-- no more than the first.
pub record IsBetter (f : Format) (s : ImproveSettings) (c k : Circuit) (before after : ℕ) (settled : Bool)
    (undecided : List Undecided) : Type 0 where
  pub proper : IsProper k
  pub model : c.model ≡ k.model
  pub equivalent : AreEquivalentCircuits c k
  pub left : IsImprovementBy s c.net k.net settled undecided
  pub before_is : before ≡ length c.net.gates
  pub after_is : after ≡ cost (f.written k)
  pub fewer : after ≤ before

-- ---- texts

-- The bytes list a well-formed document within the limit of gates. The text is that of a proper circuit with its model,
-- which is equivalent to the document, and whose net is the document's net improved by the settings. The text lists a
-- well-formed document again, which is equivalent to the first one: the outputs and the next states are the
-- same under every assignment. The numbers are the costs of the two documents, and the second is no more than
-- the first.
pub record IsImproved (f : Format) (s : ImproveSettings) (bytes text : List ℕ) (circuit : Circuit) (before after : ℕ)
    (settled : Bool) (undecided : List Undecided) : Type 0 where
  pub read : Listed
  pub said : f.listed bytes ≡ Ok read
  pub within : cost read.document ≤ f.most
  pub well : IsWellFormed read.document
  pub proper : IsProper circuit
  pub model : read.document.model ≡ circuit.model
  pub describes : Describes read.document circuit
  pub spelled : text ≡ f.text circuit
  pub first : Net
  pub first_is : net_of read.document ≡ Some first
  pub left : IsImprovementBy s first circuit.net settled undecided
  pub again : Listed
  pub said_again : f.listed text ≡ Ok again
  pub well_again : IsWellFormed again.document
  pub same : IsEquivalent read.document again.document
  pub before_is : before ≡ cost read.document
  pub after_is : after ≡ cost again.document
  pub fewer : after ≤ before

-- with its report, which names the windows by the gates of the circuit that was written
pub record IsReported (f : Format) (s : ImproveSettings) (bytes text report : List ℕ) : Type 0 where
  pub circuit : Circuit
  pub before : ℕ
  pub after : ℕ
  pub settled : Bool
  pub undecided : List Undecided
  pub improved : IsImproved f s bytes text circuit before after settled undecided
  pub all_reported : report ≡ report_text (gate_names circuit) circuit.net.sources before after settled undecided
