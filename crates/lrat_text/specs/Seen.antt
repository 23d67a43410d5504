-- The variables of a clause that is being read: a table of marks, and a set.
use Rattle.std.specs.Prelude.{◌≡◌, ℕ, ◌<◌, ◌≤◌, ◌%◌, ℤ, Bool, true, false, List, [], length, nat_eq, slice_index_or}
use Rattle.std.specs.declared.hash.FoldHasher.{FoldHasher}
use Rattle.std.specs.declared.hash.BuildHasherDefault.{BuildHasherDefault}
use Rattle.std.specs.HashSet.{HashSet, contains}
use Rattle.lrat_text.specs.Reading.{has_variable}

abbrev pub Numbers : Type 0
Numbers = HashSet ℕ (BuildHasherDefault FoldHasher)

-- the set has the variables of the literals, and no others
pub record HasVariables (seen : Numbers) (lits : List ℤ) : Type 0 where
  pub each : (v : ℕ) → contains nat_eq seen v ≡ has_variable lits v

-- the set has the variables if there are more than 256 literals, and is empty otherwise
pub record IsSeen (seen : Numbers) (lits : List ℤ) : Type 0 where
  pub none : length lits ≤ 256 → seen.keys ≡ []
  pub all : 256 < length lits → HasVariables seen lits

-- there are 1024 marks, and the mark of each variable of the literals is set; other marks may be set too
pub record AreMarked (marks : List Bool) (lits : List ℤ) : Type 0 where
  pub each : (v : ℕ) → has_variable lits v ≡ true → slice_index_or marks (v % 1024) false ≡ true
  pub room : length marks ≡ 1024
