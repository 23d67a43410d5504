use Rattle.std.proofs.Common.{◌≡◌, ◌-◌, map}
use Rattle.std.specs.List.{range_with_len}
use Rattle.enc_theory.specs.Select.{chooses}
use Rattle.enc_select.proofs.chain.push_choice_exists.Given as goal

abbrev pub invariant-loop-j : goal.invariant-loop-j
invariant-loop-j l = l.raws.items ≡ map (chooses l.z l.side l.i) (range_with_len 1 (l.j - 1))
