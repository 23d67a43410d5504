use Rattle.std.proofs.Common.{◌≡◌, length, map}
use Rattle.std.specs.String.{string_bytes}
use Rattle.front_formula.specs.MiterAsked.{taken_all}
use Rattle.front_formula.specs.MiterValues.{picked_value}
use Rattle.front_formula.proofs.picking.take_all.Given as goal

abbrev pub invariant-loop-name : goal.invariant-loop-name
invariant-loop-name l = taken_all (picked_value l.words) (map string_bytes l.left) ≡ taken_all (picked_value l.initial.words) (map string_bytes l.options)

abbrev pub decreases-loop-name : goal.decreases-loop-name
decreases-loop-name l = length l.left
