use Rattle.std.proofs.Common.{◌≡◌, ◌++◌, length}
use Rattle.std.specs.List.{flat_map}
use Rattle.bench_core.specs.Spelling.{port_text}
use Rattle.bench_core.proofs.spelling.push_ports.Given as goal

abbrev pub invariant-loop-name : goal.invariant-loop-name
invariant-loop-name l = l.text.items ++ flat_map (port_text l.keyword) l.left ≡ l.initial.text.items ++ flat_map (port_text l.keyword) l.names

abbrev pub decreases-loop-name : goal.decreases-loop-name
decreases-loop-name l = length l.left
