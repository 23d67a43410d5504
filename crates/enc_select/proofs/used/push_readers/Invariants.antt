use Rattle.std.proofs.Common.{◌++◌, ◌+◌, ◌-◌, ◌≡◌}
use Rattle.std.specs.List.{range_with_len, flat_map}
use Rattle.enc_theory.specs.Select.{choosers}
use Rattle.enc_select.proofs.used.push_readers.Given as goal

abbrev pub invariant-loop-later : goal.invariant-loop-later
invariant-loop-later l = l.raws.items ≡ l.initial.raws.items ++ flat_map (choosers l.z l.i) (range_with_len (l.i + 1) (l.later - (l.i + 1)))
