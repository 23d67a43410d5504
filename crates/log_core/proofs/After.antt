-- What was appended to the array, piece by piece.
use Rattle.std.proofs.Common.{◌≡◌, ℕ, ℤ, List, [], ◌∷◌, ◌++◌, refl}
use Rattle.std.proofs.lemmas.Grind.{common_steps}
use Rattle.cnf_core.specs.Codes.{code_of}
use Rattle.log_core.specs.Numbers.{written}
use Rattle.log_core.specs.Lists.{step, ids_written, literals_written}
use Rattle.log_core.proofs.ReadNumbers.{far-none, written-one, written-two, written-three}
use Rattle.log_core.proofs.ReadRows.{begins-same, begins-more, begins-on}

pub ids_written-more : (last id : ℕ) (ids : List ℕ) → ids_written last (id ∷ ids) ≡ written (step last id) ++ ids_written id ids
unfolding ids_written
ids_written-more last id ids = refl

pub ids_written-none : (last : ℕ) → ids_written last [] ≡ []
unfolding ids_written
ids_written-none last = refl

pub literals_written-more : (l : ℤ) (lits : List ℤ) → literals_written (l ∷ lits) ≡ written (code_of l) ++ literals_written lits
unfolding literals_written
literals_written-more l lits = refl

pub literals_written-none : literals_written [] ≡ []
unfolding literals_written
literals_written-none = refl

pub ruleset after = (common_steps, far-none, begins-same, begins-more, begins-on)

pub ruleset numbers = (common_steps, written-one, written-two, written-three)

pub ruleset packed = (common_steps, ids_written-more, ids_written-none, literals_written-more, literals_written-none)
