-- The node is mapped as defined, or the gate is appended.
use Rattle.std.proofs.Common.{◌≡◌, length, vec_len, refl}
use Rattle.merge_core.specs.MergingLaws.{nodes_put}
use Rattle.merge_core.proofs.equal.reduce_gate.Goals as goal

pub returns-in-Some-clause-reduced : goal.returns-in-Some-clause-reduced
returns-in-Some-clause-reduced c =
    rw (nodes_put _ _ _ c.requires.within, c.moved.ensures, c.in-Some.is) refl

pub returns-in_ok-push-in-None-clause-reduced : goal.returns-in_ok-push-in-None-clause-reduced
returns-in_ok-push-in-None-clause-reduced c =
    let size : vec_len c.args.gates.now ≡ length c.args.gates.now.items = c.args.gates.now.ok.0 in
    rw (c.in_ok-push-in-None.ensures.items, nodes_put _ _ _ c.requires.within, c.moved-in-None.ensures, c.moved-in-None-2.ensures, c.len.ensures, size, c.in-None.is) refl
