-- The text of a circuit lists a document that describes the circuit.
use Rattle.std.specs.Prelude.{◌≡◌, ◌≤◌, length, refl}
use Rattle.std.proofs.Common.{sym, ◌∙◌, ap, subst}
use Rattle.net_theory.specs.Document.{Document}
use Rattle.net_theory.specs.WellFormed.{IsWellFormed}
use Rattle.net_theory.specs.Cost.{cost}
use Rattle.net_theory.specs.Circuit.{Circuit, IsProper, Describes}
use Rattle.net_theory.specs.ExchangeLaws.{exchanged_proper}
use Rattle.net_core.specs.Names.{HasRoomForNames}
use Rattle.net_document.specs.Format.{IsTextOf, IsFormat}
use Rattle.net_document.specs.FormatLaws.{fault_none}
use Rattle.blif_text.specs.ListingLaws.{texts_list}
use Rattle.blif_core.specs.Written.{written}
use Rattle.blif_core.specs.Spelling.{circuit_text}
use Rattle.blif_core.specs.Blif.{blif_format, CanWriteBlif}
use Rattle.blif_laws.proofs.Spelled.{read_back}
use Rattle.blif_laws.proofs.CircuitNames.{AreNamed, circuit_named}
use Rattle.blif_laws.proofs.WrittenDocument.{written_spelled, written_cost, written_well}
use Rattle.blif_laws.proofs.WrittenValues.{written_describes}

written_model : (c : Circuit) → (written c).model ≡ c.model
unfolding written
written_model c = refl

text_by : (c : Circuit) → IsProper c → AreNamed c → IsTextOf blif_format (circuit_text c) c
text_by c is named =
    let well = written_well c is named in
    let back = read_back (written c) (written_spelled c is named) well.controls in
    let listed_well : IsWellFormed back.listed.document = subst IsWellFormed (sym back.document) well in
    let cheap : cost back.listed.document ≤ length c.net.gates =
    subst (λ (d : Document). cost d ≤ length c.net.gates) (sym back.document) (written_cost c is named) in
    record {
      listed = back.listed;
      said = back.said;
      document = back.document;
      good = fault_none (length c.net.gates) back.listed back.is listed_well cheap;
      well = listed_well;
      model = ap (λ (d : Document). d.model) back.document ∙ written_model c;
      describes = subst (λ (d : Document). Describes d c) (sym back.document) (written_describes c is named);
      cheap = cheap;
    }

pub text_is : (c : Circuit) → IsProper c → HasRoomForNames c → IsTextOf blif_format (circuit_text c) c
text_is c is small = text_by c is (circuit_named c is small)

pub blif_is_format : IsFormat blif_format CanWriteBlif
blif_is_format = record {
  lists = texts_list;
  proper = λ c can. can.0;
  read_back = λ c can. text_is c can.0 can.1;
  kept = λ gates bytes c is room. (is.circuit.proper, room);
  exchanged = λ c m can answers operators. (exchanged_proper c m can.0 answers, can.1);
}
