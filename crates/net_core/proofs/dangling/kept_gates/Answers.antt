use Rattle.std.proofs.Common.{◌+◌, length, ap, arith}
use Rattle.net_theory.specs.declared.data.Gate.{Gate}
use Rattle.net_theory.specs.MovingLaws.{marked_few}
use Rattle.net_core.specs.Marks.{set_of}
use Rattle.net_core.proofs.dangling.kept_gates.Goals as goal

pub keep_gates-requires-clause-room : goal.keep_gates-requires-clause-room
keep_gates-requires-clause-room c =
    omega (
      arith,
      marked_few (set_of c.args.marks.now) (c.sources-sources.result + 1) c.gates-gates.result.now,
      c.sources-sources.ensures.sources,
      c.sources-sources.ensures.net.nodes,
      ap (length {A = Gate}) c.gates-gates.ensures.gates,
      c.new-kept.ensures.len,
    )
