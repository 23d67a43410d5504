use Rattle.std.proofs.Common.{◌≡◌, length}
use Rattle.text_core.specs.Lines.{lines_of}
use Rattle.text_core.specs.Rest.{IsRest}
use Rattle.tt_core.specs.Tables.{rows_of, tables_of}
use Rattle.tt_core.specs.Words.{IsSpec}
use Rattle.tt_core.proofs.reading.read.Given as goal

abbrev pub invariant-loop-text : goal.invariant-loop-text
invariant-loop-text l = (rows_of (record { n = l.n; on = l.on.items; care = l.care.items }) (lines_of l.left) ≡
    tables_of (lines_of l.bytes)) × IsSpec (record { n = l.n; on = l.on.items; care = l.care.items }) ×
    IsRest l.bytes l.left

abbrev pub decreases-loop-text : goal.decreases-loop-text
decreases-loop-text l = length l.left
