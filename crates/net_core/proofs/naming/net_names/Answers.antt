use Rattle.std.proofs.Common.{◌≡◌, ◌+◌, ap, length, arith}
use Rattle.net_theory.specs.declared.data.Gate.{Gate}
use Rattle.net_core.specs.Names.{AreFirsts}
use Rattle.net_core.proofs.Firsts.{names_are}
use Rattle.net_core.proofs.naming.net_names.Goals as goal

pub returns-clause-names : goal.returns-clause-names
returns-clause-names c =
    let firsts : AreFirsts c.in_ok-firsts.firsts.items c.args.outputs.now 0 c.args.net.now.sinks = rw c.sinks.ensures.sinks at c.in_ok-firsts.ensures.firsts in
    let gates : length c.gates-gates.result.now ≡ length c.args.net.now.gates = ap (length {A = Gate}) c.gates-gates.ensures.gates in
    let size : length c.in_ok-firsts.firsts.items ≡ c.args.net.now.sources + 1 + length c.args.net.now.gates =
    omega (arith, gates, c.in_ok-firsts.firsts.ok.0, c.in_ok-firsts.ensures.count, c.sources-sources.ensures.sources)
    in
    let named = rw c.deref.ensures.value at c.in_ok-names.ensures in
    names_are c.args.taken.now.keys c.args.outputs.now c.args.net.now c.in_ok-firsts.firsts.items
    (length c.gates-gates.result.now + 3 + c.len.result) c.sources-sources.result c.gates-gates.result.now _ _ firsts
    size (omega (arith, gates, c.len.ensures.len)) c.sources-sources.ensures.sources c.gates-gates.ensures.gates named
