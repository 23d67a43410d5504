use Rattle.std.proofs.Common.{◌≡◌, length, vec_len}
use Rattle.net_basis.proofs.Placements.{member_expresses}
use Rattle.net_basis.proofs.expressing.keep.Goals as goal

pub returns-clause-answer : goal.returns-clause-answer
returns-clause-answer c =
    let size : vec_len c.args.gates.now ≡ length c.args.gates.now.items = c.args.gates.now.ok.0 in
    rw (c.in_ok-push.ensures.items, c.len-2.ensures, size)
    (member_expresses _ _ _ c.args.gate.now c.args.member c.requires.gates c.requires.gate c.requires.member)
