use Rattle.std.specs.Prelude.{◌≡◌}
use Rattle.sat_theory.specs.Formula.{Formula}
use Rattle.cdcl_core.specs.Searching.{IsLogged}
use Rattle.cdcl_core.specs.Strengthening.{IsStrengthening, HasStrengthened}
use Rattle.cdcl_core.proofs.search.Search.strengthen_all.Given as goal

abbrev pub invariant-loop-turn : goal.invariant-loop-turn
invariant-loop-turn l = record {
  strengthening : IsStrengthening l.self l.work.units;
  strengthened : HasStrengthened l.end l.initial.self l.self;
  low : l.self.shorter.low ≡ l.initial.self.shorter.low;
  logged : (f : Formula) → IsLogged f l.initial.self → IsLogged f l.self;
}
