-- The live clauses after a log.
use Rattle.std.proofs.Common.{◌≡◌, ◌==◌, ℤ, true, false, List, Some, None, subst}
use Rattle.std.proofs.Math.Logic.{⊎_elim}
use Rattle.std.proofs.lemmas.List.Elements.{All-contains}
use Rattle.sat_theory.specs.Formula.{Formula, IsClause, IsFormula}
use Rattle.sat_theory.specs.Line.{Line, Add, Delete}
use Rattle.sat_theory.specs.State.{State, start, next, is_listed}
use Rattle.sat_theory.specs.Log.{IsStep}
use Rattle.sat_theory.specs.Soundness.{by_id-Contains}
use Rattle.lrat_check.specs.Live.{AreClauses}
use Rattle.cert_laws.specs.LineSpellings.{chosen, some_is}

pub start_clauses : (f : Formula) → IsFormula f → AreClauses (start f).live
start_clauses f is = record { each = λ id clause at. All-contains IsClause f.clauses clause is.clauses (by_id-Contains f.clauses id clause at) }

pub next_clauses : (s : State) (line : Line) → AreClauses s.live → IsStep s line → AreClauses (next s line).live
next_clauses s (Add id lits hints) are step = record {
  each = λ k clause at.
      ⊎_elim
      (λ (new : (k == id ≡ true) × (Some lits ≡ Some clause)). subst (λ (c : List ℤ). IsClause c) (some_is lits clause new.1) step.is_line.clause)
      (λ (old : (k == id ≡ false) × (s.live k ≡ Some clause)). are.each k clause old.1)
      (chosen (k == id) (Some lits) (s.live k) (Some clause) at);
}
next_clauses s (Delete id ids) are step = record {
  each = λ k clause at.
      ⊎_elim
      (λ (gone : (is_listed ids k ≡ true) × (None ≡ Some clause)). absurd (let e = gone.1 in cc))
      (λ (kept : (is_listed ids k ≡ false) × (s.live k ≡ Some clause)). are.each k clause kept.1)
      (chosen (is_listed ids k) None (s.live k) (Some clause) at);
}
