-- What a scan of a clause reports of the literals outside a set.
use Rattle.std.specs.Prelude.{◌≡◌, ℤ, List, [], ◌∷◌, Contains}
use Rattle.lrat_check.specs.declared.hints.Scan.{Scan}
use Rattle.lrat_check.specs.declared.hints.Scan.TheVariants as scans

-- at least two literals
pub record AreMany (out : List ℤ) : Type 0 where
  pub first : ℤ
  pub second : ℤ
  pub others : List ℤ
  pub is : out ≡ first ∷ second ∷ others

-- the only literal outside
abbrev pub Finds : List ℤ → List ℤ → Scan → Type 0
Finds clause out scans.Conflict = out ≡ []
Finds clause out (scans.Unit l) = (out ≡ l ∷ []) × Contains clause l
Finds clause out scans.Many = AreMany out
