-- The ids of a deletion that were seen, in a set.
use Rattle.std.specs.Prelude.{◌≡◌, ℕ, Bool, nat_eq, Option, Some, None, Result, Ok, Err}
use Rattle.std.specs.declared.hash.FoldHasher.{FoldHasher}
use Rattle.std.specs.declared.hash.BuildHasherDefault.{BuildHasherDefault}
use Rattle.std.specs.HashSet.{HashSet, contains}
use Rattle.lrat_check.specs.declared.error.CheckError.{CheckError}
use Rattle.lrat_check.specs.declared.error.CheckError.TheVariants.{Memory}

abbrev pub Numbers : Type 0
Numbers = HashSet ℕ (BuildHasherDefault FoldHasher)

unfoldable pub seen_in : Numbers → ℕ → Bool
seen_in seen id = contains nat_eq seen id

-- a refusal is the first fault, or memory ran out, which may happen at any time
abbrev pub Refuses : CheckError → Option CheckError → Type 0
Refuses Memory fault = Unit {0}
Refuses e fault = fault ≡ Some e

abbrev pub Judges : Result (Unit {0}) CheckError → Option CheckError → Type 0
Judges (Ok done) fault = fault ≡ None
Judges (Err e) fault = Refuses e fault
