-- The document written for a circuit has tables, and costs at most as many gates as the circuit has.
use Rattle.std.specs.Prelude.{◌≡◌, ◌^◌, ◌≤◌, ◌<◌, length, All}
use Rattle.std.proofs.Common.{arith, sym, ◌∙◌, ap, subst}
use Rattle.std.proofs.lemmas.Grind.{common_steps}
use Rattle.net_theory.specs.Document.{Document}
use Rattle.net_theory.specs.WellFormed.{IsTable}
use Rattle.net_theory.specs.Cost.{cost}
use Rattle.net_theory.specs.Circuit.{Circuit, IsProper}
use Rattle.net_core.specs.Names.{HasRoomForNames}
use Rattle.net_document.specs.Format.{IsFormat}
use Rattle.blif_core.specs.Written.{written}
use Rattle.blif_core.specs.Blif.{blif_format, CanWriteBlif}

pub written_tables : (c : Circuit) (d : Document) → IsFormat blif_format CanWriteBlif → d ≡ written c → IsProper c → HasRoomForNames c → All IsTable d.tables
written_tables c d format e is room =
    let text = format.read_back c (is, room) in
    subst (λ (x : Document). All IsTable x.tables) (text.document ∙ sym e) text.well.tables

pub written_small : (c : Circuit) (d : Document) → IsFormat blif_format CanWriteBlif → d ≡ written c → IsProper c → HasRoomForNames c → cost d < 2 ^ 32
written_small c d format e is room =
    let text = format.read_back c (is, room) in
    omega (arith, text.well.gates, ap cost (text.document ∙ sym e))

pub written_cheap : (c : Circuit) → IsFormat blif_format CanWriteBlif → IsProper c → HasRoomForNames c → cost (written c) ≤ length c.net.gates
written_cheap c format is room =
    let text = format.read_back c (is, room) in
    subst (λ (x : Document). cost x ≤ length c.net.gates) text.document text.cheap

pub ruleset costing = (common_steps, written_cheap)
