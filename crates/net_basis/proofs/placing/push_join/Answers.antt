-- The step's gate is appended, and its function has the signal of that gate.
use Rattle.std.proofs.Common.{◌≡◌, length, vec_len, refl}
use Rattle.net_basis.proofs.placing.push_join.Goals as goal

pub returns-clause-placed : goal.returns-clause-placed
returns-clause-placed c =
    let size : vec_len c.args.gates.now ≡ length c.args.gates.now.items = c.args.gates.now.ok.0 in
    rw (c.in_ok-push.ensures.items, c.put.ensures.put, c.signal_of.ensures, c.signal_of-2.ensures, c.function_of.ensures, c.len.ensures, size) refl
