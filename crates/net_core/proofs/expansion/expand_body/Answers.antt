use Rattle.net_theory.specs.Net.{Net}
use Rattle.net_core.specs.Wholes.{cover_of}
use Rattle.net_core.proofs.Expansions.{expanded_built, expanded_net}
use Rattle.net_core.specs.BodyLaws.{body_is}
use Rattle.net_core.proofs.expansion.expand_body.Goals as goal

pub invariant_of-net : goal.invariant_of-net
invariant_of-net c =
    let n : Net = record { sources = c.net.inside.sources; gates = c.net.inside.gates.items; sinks = c.net.inside.sinks.items } in
    let room = rw (← c.net.view_is) at c.requires.room in
    let inputs = rw (← c.net.view_is) at c.requires.inputs in
    expanded_net n (cover_of c.args.body.now) c.args.inputs.now c.body_gates.new.gates.items c.in-Ok.sig
    c.net.invariant (body_is c.args.body.now c.requires.body) c.requires.width inputs room c.in-Ok.ensures.gates

pub returns-in-Ok-clause-value : goal.returns-in-Ok-clause-value
returns-in-Ok-clause-value c =
    let n : Net = record { sources = c.net.inside.sources; gates = c.net.inside.gates.items; sinks = c.net.inside.sinks.items } in
    let inputs = rw (← c.net.view_is) at c.requires.inputs in
    rw (← c.net.view_is) (expanded_built n (cover_of c.args.body.now) c.args.inputs.now c.body_gates.new.gates.items
    c.in-Ok.sig c.net.invariant (body_is c.args.body.now c.requires.body) c.requires.width inputs
    c.in-Ok.ensures.gates)
