-- A formula within the program's bounds, and a loop over later inputs.
use Rattle.std.proofs.Common.{◌≡◌, ℕ, suc, ◌+◌, ◌-◌, ◌≤◌, List, refl, arith}
use Rattle.std.specs.List.{flat_map, range_with_len}
use Rattle.std.proofs.lemmas.Grind.{common_steps}
use Rattle.clause_core.specs.RangeLaws.{loops}
use Rattle.enc_cuts.specs.Vars.{steps_have_vars}
use Rattle.enc_strong.specs.Bounds.{edges_rows, edge_vars-few, more_slots, more_room, strong-few}

pub ruleset room = (common_steps, edge_vars-few, more_slots, more_room)

pub ruleset families = (common_steps, steps_have_vars)

pub ruleset limits = (common_steps, edges_rows, strong-few)

-- a loop over the inputs after a given one
pub all_inputs : {A : Type 0} (f : ℕ → List A) (p n : ℕ) → p ≤ n → flat_map f (range_with_len (suc p) (n - p)) ≡ flat_map f (range_with_len (p + 1) (n + 1 - (p + 1)))
all_inputs {A} f p n low = let e : suc p ≡ p + 1 = omega arith in let l : n - p ≡ n + 1 - (p + 1) = omega arith in rw (e, l) refl

pub ruleset inputs = (loops, all_inputs)
