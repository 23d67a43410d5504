-- The open log in a depth certificate whose verdict is bounded (two numbers of levels).
use Rattle.std.specs.Prelude.{◌≡◌, ℕ, List, ◌++◌, length, Contains}
use Rattle.sat_theory.specs.Log.{ReachesBudget}
use Rattle.enc_theory.specs.declared.subproblem.Subproblem.TheVariants.{Levels}
use Rattle.cert_theory.specs.declared.data.LogEnd.TheVariants.{Open}
use Rattle.cert_theory.specs.declared.data.Header.{Header}
use Rattle.cert_theory.specs.Certificate.{SubproblemLog, formula_of}
use Rattle.cert_theory.specs.Spelling.{subproblem_lines, text_of}
use Rattle.depth_theory.specs.Flatter.{fences_for}

-- The text has the log of a listed fence with `low` levels, which leaves its fence open and has spent its budget:
-- it holds over the formula of the fence without the empty clause, and has as many new additions as the budget
-- asks.
pub record IsLeftOpen (text : List ℕ) (h : Header) (size low : ℕ) : Type 0 where
  pub fence : List ℕ
  pub listed : Contains (fences_for h.spec size) fence
  pub levels : length fence ≡ low
  pub log : SubproblemLog
  pub subproblem_is : log.subproblem ≡ Levels fence
  pub is_open : log.ended ≡ Open
  pub spent : ReachesBudget (formula_of h size (Levels fence)) log.log h.conflicts
  pub before : List ℕ
  pub following : List ℕ
  pub stands : text ≡ before ++ (text_of (subproblem_lines log) ++ following)
