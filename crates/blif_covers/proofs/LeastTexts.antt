-- The text of a circuit by least covers lists a document that describes the circuit.
use Rattle.std.specs.Prelude.{◌≡◌, ◌≤◌, length}
use Rattle.std.proofs.Common.{arith, sym, ◌∙◌, ap, subst}
use Rattle.net_theory.specs.Document.{Document}
use Rattle.net_theory.specs.Behaviour.{IsEquivalent}
use Rattle.net_theory.specs.WellFormed.{IsWellFormed}
use Rattle.net_theory.specs.Cost.{cost}
use Rattle.net_theory.specs.Circuit.{Circuit, Describes}
use Rattle.net_document.specs.Listed.{AreControlsFree}
use Rattle.net_document.specs.Format.{IsReadBack, IsTextOf, IsFormat}
use Rattle.net_document.specs.FormatLaws.{fault_none}
use Rattle.blif_core.specs.Written.{written}
use Rattle.blif_core.specs.Spelling.{spelled}
use Rattle.blif_core.specs.Blif.{blif_format, CanWriteBlif}
use Rattle.blif_laws.specs.Spelled.{IsBlifSpelling}
use Rattle.blif_covers.specs.Least.{least_written, least_text, least_format}
use Rattle.blif_covers.proofs.WrittenTables.{written_kept}
use Rattle.blif_covers.proofs.SameDocuments.{cost_same, well_same, spelling_same, describes_same}

-- what blif_laws says of texts
abbrev pub ReadsBack : Type 0
ReadsBack = (d : Document) → IsBlifSpelling d → AreControlsFree d → IsReadBack blif_format (spelled d) d

-- two documents of one circuit are equivalent
equivalent_by : (d e : Document) (c : Circuit) → Describes d c → Describes e c → IsEquivalent d e
equivalent_by d e c first second = record {
  inputs = first.inputs ∙ sym second.inputs;
  outputs = first.outputs ∙ sym second.outputs;
  clocks = first.clocks ∙ sym second.clocks;
  latches = first.latches ∙ sym second.latches;
  first_has_one = first.one;
  second_has_one = second.one;
  sinks = λ given v w is_v is_w. first.sinks given v is_v ∙ sym (second.sinks given w is_w);
}

-- the writer's document
pub written_well : (c : Circuit) → IsFormat blif_format CanWriteBlif → CanWriteBlif c → IsWellFormed (written c)
written_well c format can = let text = format.read_back c can in subst IsWellFormed text.document text.well

written_describes : (c : Circuit) → IsFormat blif_format CanWriteBlif → CanWriteBlif c → Describes (written c) c
written_describes c format can =
    let text = format.read_back c can in subst (λ (d : Document). Describes d c) text.document text.describes

pub least_well : (c : Circuit) → IsFormat blif_format CanWriteBlif → CanWriteBlif c → IsWellFormed (least_written c)
least_well c format can = well_same (written c) (written_well c format can) (written_kept c)

pub least_describes : (c : Circuit) → IsFormat blif_format CanWriteBlif → CanWriteBlif c → Describes (least_written c) c
least_describes c format can =
    describes_same (written c) c (written_well c format can) (written_kept c) (written_describes c format can)

pub least_equivalent : (c : Circuit) → IsFormat blif_format CanWriteBlif → CanWriteBlif c →
    IsEquivalent (written c) (least_written c)
least_equivalent c format can =
    equivalent_by (written c) (least_written c) c (written_describes c format can) (least_describes c format can)

pub least_cost : (c : Circuit) → IsFormat blif_format CanWriteBlif → CanWriteBlif c →
    cost (least_written c) ≡ cost (written c)
least_cost c format can = cost_same (written c) (written_well c format can) (written_kept c)

cheap : (c : Circuit) → IsFormat blif_format CanWriteBlif → CanWriteBlif c → cost (least_written c) ≤ length c.net.gates
cheap c format can =
    let text = format.read_back c can in
    omega (arith, least_cost c format can, ap cost text.document, text.cheap)

model_is : (c : Circuit) → IsFormat blif_format CanWriteBlif → CanWriteBlif c → (written c).model ≡ c.model
model_is c format can =
    let text = format.read_back c can in ap (λ (d : Document). d.model) (sym text.document) ∙ text.model

pub least_is_text : (c : Circuit) → IsFormat blif_format CanWriteBlif → ReadsBack → CanWriteBlif c →
    IsTextOf least_format (least_text c) c
least_is_text c format reads can =
    let well = least_well c format can in
    let back = reads (least_written c) (spelling_same (written c) (written_well c format can) (written_kept c))
    well.controls in
    let listed_well : IsWellFormed back.listed.document = subst IsWellFormed (sym back.document) well in
    let few : cost back.listed.document ≤ length c.net.gates =
    subst (λ (d : Document). cost d ≤ length c.net.gates) (sym back.document) (cheap c format can) in
    record {
      listed = back.listed;
      said = back.said;
      document = back.document;
      good = fault_none (length c.net.gates) back.listed back.is listed_well few;
      well = listed_well;
      model = ap (λ (d : Document). d.model) back.document ∙ model_is c format can;
      describes = subst (λ (d : Document). Describes d c) (sym back.document) (least_describes c format can);
      cheap = few;
    }

pub least_is_format : IsFormat blif_format CanWriteBlif → ReadsBack → IsFormat least_format CanWriteBlif
least_is_format format reads = record {
  lists = format.lists;
  proper = format.proper;
  read_back = λ c can. least_is_text c format reads can;
  kept = λ gates bytes c is room. (is.circuit.proper, room);
  exchanged = format.exchanged;
}
