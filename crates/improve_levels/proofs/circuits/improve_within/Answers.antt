use Rattle.std.specs.Prelude.{All}
use Rattle.std.proofs.Common.{ap, length, sym, subst, ◌∙◌}
use Rattle.net_theory.specs.declared.data.Gate.{Gate}
use Rattle.net_theory.specs.Document.{Document}
use Rattle.net_theory.specs.Circuit.{Circuit}
use Rattle.blif_core.specs.Spelling.{HasInit}
use Rattle.blif_core.specs.WrittenLaws.{written_init}
use Rattle.blif_core.specs.Blif.{blif_format}
use Rattle.improve_levels.specs.WithinLaws.{within_proper, better_within}
use Rattle.improve_levels.proofs.circuits.improve_within.Goals as goal

pub costed-requires : goal.costed-requires
costed-requires g c =
    within_proper c.args.settings c.args.most c.args.circuit c.in_ok-circuit.circuit c.in_ok-circuit.ensures.circuit
    c.requires.proper c.in_ok-circuit.ensures.within

pub returns-clause-inits : goal.returns-clause-inits
returns-clause-inits g c =
    let proper = within_proper c.args.settings c.args.most c.args.circuit c.in_ok-circuit.circuit c.in_ok-circuit.ensures.circuit
    c.requires.proper c.in_ok-circuit.ensures.within in
    subst (λ (d : Document). All HasInit d.latches) (sym c.in_ok-document.ensures.document) (written_init c.in_ok-circuit.circuit proper)

pub returns-clause-better : goal.returns-clause-better
returns-clause-better g c =
    better_within blif_format c.args.settings c.args.most c.args.circuit c.in_ok-circuit.circuit _ _ c.requires.proper
    c.in_ok-circuit.ensures.circuit c.in_ok-circuit.ensures.within
    (ap (length {A = Gate}) c.gates.ensures.gates ∙ ap (λ (x : Circuit). length x.net.gates) c.circuit.view_is)
    c.in_ok-document.ensures.cost c.in_ok-document.ensures.cheap
