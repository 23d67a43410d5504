use Rattle.std.proofs.Common.{◌≡◌, ℕ, ◌<◌, false}
use Rattle.std.specs.Prelude.{slice_index_or}
use Rattle.equiv_values.proofs.differing.first_other.Given as goal

abbrev pub invariant-loop-i : goal.invariant-loop-i
invariant-loop-i l = record { same : (j : ℕ) → j < l.i → slice_index_or l.first j false ≡ slice_index_or l.second j false }
