use Rattle.std.proofs.Common.{◌≡◌, take, IfSome, Contains}
use Rattle.std.specs.Option.{option_to_list}
use Rattle.lrat_check.specs.LiteralMarks.{marked}
use Rattle.lrat_check.specs.Hints.{outside}
use Rattle.lrat_check.proofs.hints.scan_clause.Given as goal

abbrev pub invariant-loop-lit : goal.invariant-loop-lit
invariant-loop-lit l = record {
  same : outside (marked l.marks) (take l.lit-index l.clause) ≡ option_to_list l.found;
  there : IfSome l.found (λ m. Contains l.clause m);
}
