use Rattle.net_formats.specs.Formats.{format_of}
use Rattle.equiv_match.specs.OrderLaws.{well_arranged}
use Rattle.equiv_match.proofs.ordering.ordered_circuit.Goals as goal

pub circuit_of-requires-clause-listed : goal.circuit_of-requires-clause-listed
circuit_of-requires-clause-listed c =
    well_arranged c.args.first.now ((format_of c.args.format).listed c.args.bytes.now) c.in-Ok.listed c.in_ok-ordered.ordered
    c.in-Ok.ensures.said c.requires.ready c.in-Ok.ensures.listed c.in_ok-ordered.ensures.document
    c.in_ok-ordered.ensures.driven c.in_ok-ordered.ensures.used
