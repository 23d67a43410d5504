-- Constants that latches read, and written names.
use Rattle.std.proofs.Common.{◌≡◌, List, [], ◌∷◌, ◌++◌, refl}
use Rattle.std.specs.Prelude.{if◌then◌else◌}
use Rattle.std.proofs.lemmas.Grind.{common_steps}
use Rattle.net_theory.specs.Document.{Name, has}
use Rattle.net_theory.specs.Naming.{each_once}

pub ruleset names = (common_steps)

-- the set of the names of two lists
pub each_once-append : (seen xs ys : List Name) → each_once (each_once seen xs) ys ≡ each_once seen (xs ++ ys)
unfolding each_once
each_once-append seen [] ys = refl
each_once-append seen (x ∷ xs) ys = each_once-append (if has seen x then seen else seen ++ x ∷ []) xs ys

pub ruleset sets = (common_steps, each_once-append)
