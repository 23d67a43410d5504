-- The trail: the true literals in the order of their assignment.
use Rattle.std.specs.Prelude.{◌≡◌, ℕ, ◌+◌, ◌-◌, ◌*◌, ◌<◌, ◌≤◌, ◌==◌, ◌⊎◌, ℤ, List, [], ◌∷◌, ◌++◌, length, count_by, slice_index_or, slice_set, Contains, All, AllPairs, Option}
use Rattle.sat_theory.specs.Formula.{variable, opposite}
use Rattle.cdcl_theory.specs.Codes.{code_of, position_in}
use Rattle.cdcl_theory.specs.Propagation.{Implies, SameFalsified, IsClosed}

-- The state of a trail over the variables 1 to vars. `table` has the position of each literal (1 + the trail
-- index of its opposite, 0 if it isn't false), `reasons` has for each variable the id of the clause that
-- implied it (0 for a decision).
pub record TrailState : Type 0 where
  pub vars : ℕ
  pub lits : List ℤ
  pub table : List ℕ
  pub reasons : List ℕ

abbrev pub falsified_at : TrailState → ℤ → ℕ
falsified_at t = position_in t.table

abbrev pub reason_of : TrailState → ℤ → ℕ
reason_of t l = slice_index_or t.reasons (variable l) 0

-- The positions are those of the trail: the literal whose opposite is at trail index p has the position p +
-- 1, and all others have 0.
pub record ArePositions (lits : List ℤ) (positions : ℤ → ℕ) : Type 0 where
  pub placed : (p : ℕ) (d : ℤ) → p < length lits → positions (opposite (slice_index_or lits p d)) ≡ p + 1
  pub within : (l : ℤ) → positions l ≤ length lits
  pub found : (l d : ℤ) → 0 < positions l → slice_index_or lits (positions l - 1) d ≡ opposite l
  pub one_side : (l : ℤ) → 0 < positions l → positions (opposite l) ≡ 0

-- The trail agrees with its tables: each of its literals is one of the variables 1 to vars, at its position,
-- and the tables have room for all variables. `room` counts: each trail literal replaced one 0 of the table,
-- so the trail is no longer than the table and positions fit 32 bits.
pub record IsTrail (t : TrailState) : Type 0 where
  pub positions : ArePositions t.lits (falsified_at t)
  pub variables : All (λ l. (0 < variable l) × (variable l ≤ t.vars)) t.lits
  pub table_room : length t.table ≡ 2 * t.vars + 2
  pub reasons_room : length t.reasons ≡ t.vars + 1
  pub room : length t.lits + count_by (λ x. x == 0) t.table ≡ length t.table
  pub few : t.vars < 1000000000

-- one more literal is assigned, with its reason
abbrev pub pushed : TrailState → ℤ → ℕ → TrailState
pushed t l reason = record {
  vars = t.vars;
  lits = t.lits ++ l ∷ [];
  table = slice_set t.table (code_of (opposite l)) (length t.lits + 1);
  reasons = slice_set t.reasons (variable l) reason;
}

-- the clause recorded for the literal at trail index p is its reason
pub record HasReason (live : ℕ → Option (List ℤ)) (t : TrailState) (p : ℕ) : Type 0 where
  pub implied : (d : ℤ) → Implies live (falsified_at t) p (slice_index_or t.lits p d) (reason_of t (slice_index_or t.lits p d))

-- The trail was extended: its old literals and reasons are unchanged, and each new literal has its reason.
pub record IsGrown (live : ℕ → Option (List ℤ)) (old new : TrailState) : Type 0 where
  pub vars : new.vars ≡ old.vars
  pub longer : length old.lits ≤ length new.lits
  pub lits : (p : ℕ) (d : ℤ) → p < length old.lits → slice_index_or new.lits p d ≡ slice_index_or old.lits p d
  pub same : SameFalsified (length old.lits) (falsified_at old) (falsified_at new)
  pub old_reasons : (p : ℕ) (d : ℤ) → p < length old.lits → reason_of new (slice_index_or old.lits p d) ≡ reason_of old (slice_index_or old.lits p d)
  pub new_reasons : (p : ℕ) → length old.lits ≤ p → p < length new.lits → HasReason live new p

-- The trail was cut back to its first n literals (backtracking).
pub record IsBacktracked (n : ℕ) (old new : TrailState) : Type 0 where
  pub vars : new.vars ≡ old.vars
  pub reasons : new.reasons ≡ old.reasons
  pub short : length new.lits ≡ n
  pub lits : (p : ℕ) (d : ℤ) → p < n → slice_index_or new.lits p d ≡ slice_index_or old.lits p d
  pub same : SameFalsified n (falsified_at old) (falsified_at new)

-- Each trail literal is implied by its reason, or is a decision, whose reason is 0.
pub record IsExplained (live : ℕ → Option (List ℤ)) (t : TrailState) : Type 0 where
  pub whole : IsTrail t
  pub reasons : (p : ℕ) (d : ℤ) → p < length t.lits → (reason_of t (slice_index_or t.lits p d) ≡ 0) ⊎ HasReason live t p

-- The decision levels of a trail begin at its decisions, whose trail indices are the starts and whose reason
-- is 0. The state before each decision is closed, and every other literal has a reason.
pub record IsLayered (live : ℕ → Option (List ℤ)) (t : TrailState) (starts : List ℕ) : Type 0 where
  pub whole : IsTrail t
  pub inside : All (λ s. s < length t.lits) starts
  pub rising : AllPairs (λ a b. a < b) starts
  pub closed : All (λ s. IsClosed live (falsified_at t) s) starts
  pub reasons : (p : ℕ) → p < length t.lits → Contains starts p ⊎ HasReason live t p
  pub decisions : (p : ℕ) (d : ℤ) → Contains starts p → reason_of t (slice_index_or t.lits p d) ≡ 0
