-- A checker, as contracts see it.
use Rattle.std.specs.Prelude.{◌≡◌, ℕ, ℤ, Bool, true, false, ◌==◌, ◌↔◌, length, refl, List}
use Rattle.std.specs.Coded.{Coded, code_by, coded×, coded_ℕ, coded_bool}
use Rattle.sat_theory.specs.Formula.{Formula, IsFormula}
use Rattle.sat_theory.specs.Line.{Line, Add, Delete}
use Rattle.sat_theory.specs.State.{State, start}
use Rattle.sat_theory.specs.Log.{after, LogHolds, HasEmpty}
use Rattle.lrat_check.specs.Live.{Live, live_code, live_at}

-- The live clauses by their ids, the formula's number of variables, the greatest id so far, and whether the empty
-- clause is in the formula or was added.
pub record Checked : Type 0 where
  pub live : Live
  pub vars : ℕ
  pub greatest : ℕ
  pub refuted : Bool

-- encoded as the pairs of its fields
abbrev pub checked_code : Coded Checked
checked_code =
    code_by (Live × (ℕ × (ℕ × Bool))) (coded× live_code (coded× coded_ℕ (coded× coded_ℕ coded_bool)))
    (λ c. (c.live, (c.vars, (c.greatest, c.refuted))))
    (λ p. record { live = p.0; vars = p.1.0; greatest = p.1.1.0; refuted = p.1.1.1 })
    (λ _. refl)

abbrev pub state_of : Checked → State
state_of c = record { live = live_at c.live; vars = c.vars; greatest = c.greatest }

abbrev pub is_empty : List ℤ → Bool
is_empty lits = length lits == 0

abbrev pub adds_empty : Line → Bool
adds_empty (Add id lits hints) = is_empty lits
adds_empty (Delete id ids) = false

-- The checker of a formula has accepted exactly these lines.
pub record HasAccepted (f : Formula) (lines : List Line) (c : Checked) : Type 0 where
  pub formula : IsFormula f
  pub holds : LogHolds f lines
  pub state : state_of c ≡ after (start f) lines
  pub refuted : (c.refuted ≡ true) ↔ HasEmpty f lines
