use Rattle.std.proofs.Common.{◌≡◌, length, map}
use Rattle.net_theory.specs.Document.{table_output}
use Rattle.net_theory.specs.Naming.{each_once}
use Rattle.blif_text.proofs.walking.add_driven.Given as goal

abbrev pub invariant-loop-table : goal.invariant-loop-table
invariant-loop-table l = each_once l.driven.keys (map table_output l.left) ≡ each_once l.initial.driven.keys (map table_output l.tables)

abbrev pub decreases-loop-table : goal.decreases-loop-table
decreases-loop-table l = length l.left
