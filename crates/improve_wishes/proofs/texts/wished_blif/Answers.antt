use Rattle.blif_core.specs.Blif.{CanWriteBlif}
use Rattle.improve_wishes.specs.Covers.{blif_in, format_in, circuit_in}
use Rattle.improve_wishes.specs.TextLaws.{base_at, cannot_express, too_large}
use Rattle.improve_wishes.specs.WishedLaws.{over_where, blif_writes, wished}
use Rattle.improve_wishes.proofs.texts.wished_blif.Goals as goal

pub returns-in_ok-improved-in-Base-clause-wished : goal.returns-in_ok-improved-in-Base-clause-wished
returns-in_ok-improved-in-Base-clause-wished g c =
    let covers = c.args.wishes.covers in
    wished (blif_in covers) CanWriteBlif c.args.settings c.args.wishes c.args.bytes.now _ _ c.in_ok-circuit.circuit
    c.in-Base.base (format_in covers c.blif_is_a_format.ensures c.least_is_a_format.ensures)
    (over_where c.args.wishes.only (blif_in covers) CanWriteBlif (blif_writes covers))
    (circuit_in covers c.args.bytes.now c.in_ok-circuit.circuit c.in_ok-circuit.ensures.circuit)
    (base_at c.args.wishes.only c.args.settings c.in_ok-circuit.circuit c.in-Base.base c.in_ok-found.found c.in-Base.is
    c.in_ok-found.ensures.base) c.in_ok-improved-in-Base.ensures

pub returns-in-Cannot-clause-wished : goal.returns-in-Cannot-clause-wished
returns-in-Cannot-clause-wished g c =
    let covers = c.args.wishes.covers in
    cannot_express (blif_in covers) c.args.settings c.args.wishes c.args.bytes.now c.in_ok-circuit.circuit
    c.in_ok-found.found c.in-Cannot.name
    (circuit_in covers c.args.bytes.now c.in_ok-circuit.circuit c.in_ok-circuit.ensures.circuit) c.in-Cannot.is
    c.in_ok-found.ensures.wish c.in_ok-found.ensures.cannot

pub returns-in-TooMany-clause-wished : goal.returns-in-TooMany-clause-wished
returns-in-TooMany-clause-wished g c =
    let covers = c.args.wishes.covers in
    too_large (blif_in covers) c.args.settings c.args.wishes c.args.bytes.now c.in_ok-circuit.circuit
    c.in_ok-found.found (circuit_in covers c.args.bytes.now c.in_ok-circuit.circuit c.in_ok-circuit.ensures.circuit)
    c.in-TooMany.is c.in_ok-found.ensures.wish c.in_ok-found.ensures.too_many
