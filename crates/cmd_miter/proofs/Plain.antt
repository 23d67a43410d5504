-- The log of a comparison.
use Rattle.std.specs.Prelude.{◌≡◌, ℕ, Bool, List, []}
use Rattle.std.proofs.lemmas.Grind.{common_steps}
use Rattle.sat_theory.specs.Line.{Line}
use Rattle.sat_theory.specs.Log.{Refutes, ReachesBudget}
use Rattle.net_theory.specs.Circuit.{Circuit}
use Rattle.equiv_theory.specs.Miter.{miter}
use Rattle.equiv_theory.specs.Counterexample.{HaveSameInterface, IsCounterexample}
use Rattle.equiv_run.specs.declared.answer.EquivOutcome.TheVariants.{Equal, Differ, Undecided}
use Rattle.cmd_formula.specs.Dimacs.{lrat_text, plain_log}
use Rattle.cmd_miter.specs.MiterReport.{IsLogged}

pub equal_log : (budget : ℕ) (c k : Circuit) (lines : List Line) (text : List ℕ) → HaveSameInterface c k →
    Refutes (miter c.net k.net) lines → text ≡ lrat_text (plain_log (miter c.net k.net) lines) →
    IsLogged budget c k text Equal
equal_log budget c k lines text interface refutes is =
    record { interface = interface; log = record { lines = lines; refutes = refutes; is = is } }

pub no_log : (budget : ℕ) (c k : Circuit) (sink : ℕ) (bits : List Bool) (text : List ℕ) → HaveSameInterface c k →
    IsCounterexample c.net k.net sink bits → text ≡ [] → IsLogged budget c k text Differ
no_log budget c k sink bits text interface differ is =
    record { interface = interface; log = record { sink = sink; bits = bits; differ = differ; is = is } }

pub open_log : (budget : ℕ) (c k : Circuit) (lines : List Line) (text : List ℕ) → HaveSameInterface c k →
    ReachesBudget (miter c.net k.net) lines budget → text ≡ lrat_text (plain_log (miter c.net k.net) lines) →
    IsLogged budget c k text Undecided
open_log budget c k lines text interface spent is =
    record { interface = interface; log = record { lines = lines; spent = spent; is = is } }

pub ruleset logging = (common_steps, equal_log, no_log, open_log)
