use Rattle.std.proofs.Common.{◌≡◌, ◌+◌, ◌-◌, ◌≤◌, [], length}
use Rattle.net_theory.specs.Naming.{free_names, names_after}
use Rattle.net_core.specs.Names.{naming, first_name}
use Rattle.net_core.proofs.naming.name_gates.Given as goal

abbrev pub invariant-loop-rest : goal.invariant-loop-rest
invariant-loop-rest l = record {
  names : names_after (first_name l.firsts l.outputs)
      (naming l.names.items (free_names l.taken.keys l.next (l.end - l.next))) l.node l.left ≡
      names_after (first_name l.firsts l.outputs) (naming [] (free_names l.taken.keys 1 (l.end - 1))) l.first l.gates;
  room : l.node + length l.left ≤ length l.firsts;
}

abbrev pub decreases-loop-rest : goal.decreases-loop-rest
decreases-loop-rest l = length l.left
