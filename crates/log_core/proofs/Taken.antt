-- What was read of an array, byte by byte.
use Rattle.std.proofs.Common.{◌≡◌, ℕ, List, [], ◌∷◌, refl}
use Rattle.std.proofs.lemmas.Grind.{common_steps}
use Rattle.log_core.proofs.ReadNumbers.{numbers_from-last, numbers_from-more, numbers_from-none}
use Rattle.log_core.specs.Lists.{stepped, ids_from, literal_at, literals_from}

pub ids_from-more : (last n : ℕ) (ns : List ℕ) → ids_from last (n ∷ ns) ≡ stepped last n ∷ ids_from (stepped last n) ns
unfolding ids_from
ids_from-more last n ns = refl

pub ids_from-none : (last : ℕ) → ids_from last [] ≡ []
unfolding ids_from
ids_from-none last = refl

pub literals_from-more : (n : ℕ) (ns : List ℕ) → literals_from (n ∷ ns) ≡ literal_at n ∷ literals_from ns
unfolding literals_from
literals_from-more n ns = refl

pub literals_from-none : literals_from [] ≡ []
unfolding literals_from
literals_from-none = refl

pub ruleset taken = (common_steps, numbers_from-last, numbers_from-more, numbers_from-none, ids_from-more, ids_from-none, literals_from-more, literals_from-none)
