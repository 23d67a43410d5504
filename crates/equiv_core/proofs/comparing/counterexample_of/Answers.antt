use Rattle.equiv_core.specs.SinkLaws.{solution_differs}
use Rattle.equiv_core.proofs.comparing.counterexample_of.Goals as goal

pub unreachable-requires : goal.unreachable-requires
unreachable-requires c =
    solution_differs c.args.first.now c.args.second.now c.args.assign.now _ c.in_ok-node.field-0 c.in_default.is
    c.in_ok-node.ensures.same c.requires.comparable
    (rw (c.bits.ensures, c.sources.ensures.sources) at c.split_at.ensures.front) c.requires.solution
