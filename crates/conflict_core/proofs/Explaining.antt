-- Reasons by the ids recorded with the literals.
use Rattle.std.proofs.Common.{◌≡◌, ℕ, ◌-◌, ◌<◌, ◌↔◌, ℤ, List, Contains, Option, Some, sym, ap, ◌∙◌}
use Rattle.sat_theory.specs.Formula.{opposite}
use Rattle.cdcl_theory.specs.Propagation.{Implies}
use Rattle.cdcl_theory.specs.Trails.{TrailState, falsified_at, reason_of, IsExplained}
use Rattle.cdcl_theory.specs.TrailLaws.{others_falsified, implied_falsified}

-- an id other than 0
reason_some : (t : TrailState) (l implied : ℤ) (id : ℕ) → implied ≡ opposite l → id ≡ reason_of t implied → (id ≡ 0 → ⊥) → reason_of t (opposite l) ≡ 0 → ⊥
reason_some t l implied id at is some none = some (is ∙ ap (reason_of t) at ∙ none)

-- The other literals of a reason are false, in whatever order they are read.
pub others_down : (live : ℕ → Option (List ℤ)) (t : TrailState) (l implied m : ℤ) (id : ℕ) (lits : List ℤ) →
    IsExplained live t → 0 < falsified_at t l → implied ≡ opposite l → id ≡ reason_of t implied → (id ≡ 0 → ⊥) →
    ((clause : List ℤ) → live id ≡ Some clause → (x : ℤ) → Contains lits x ↔ Contains clause x) → Contains lits m →
    (m ≡ implied → ⊥) → 0 < falsified_at t m
others_down live t l implied m id lits explained down at is some same there apart =
    others_falsified live t l m implies.clause explained down none implies.is_live ((same implies.clause (ap live (is ∙ ap (reason_of t) at) ∙ implies.is_live) m).0 there) (λ e. apart (e ∙ sym at))
  where
    none : reason_of t (opposite l) ≡ 0 → ⊥
    none = reason_some t l implied id at is some

    implies : Implies live (falsified_at t) (falsified_at t l - 1) (opposite l) (reason_of t (opposite l))
    implies = implied_falsified live t l explained down none
