use Rattle.std.proofs.Common.{◌≡◌, length, vec_len, refl}
use Rattle.net_core.proofs.DanglingGates.{nodes_of-set}
use Rattle.net_core.proofs.keeping.keep_gate.Goals as goal

pub returns-clause-kept : goal.returns-clause-kept
returns-clause-kept c =
    let size : vec_len c.args.gates.now ≡ length c.args.gates.now.items = c.args.gates.now.ok.0 in
    rw (c.in_ok-push.ensures.items, nodes_of-set _ _ _ c.requires.within, c.moved.ensures, c.moved-2.ensures, c.len.ensures, size) refl
