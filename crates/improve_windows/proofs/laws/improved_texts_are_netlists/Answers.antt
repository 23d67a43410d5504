use Rattle.std.proofs.Common.{arith}
use Rattle.improve_windows.proofs.laws.improved_texts_are_netlists.Goals as goal

pub returns-clause-read : goal.returns-clause-read
returns-clause-read c = λ f s bytes text report is. record {
  listed = is.improved.read;
  said = is.improved.said;
  within = is.improved.within;
  well = is.improved.well;
}

pub returns-clause-written : goal.returns-clause-written
returns-clause-written c = λ f s bytes text report is. record {
  listed = is.improved.again;
  said = is.improved.said_again;
  within = omega (arith, is.improved.within, is.improved.before_is, is.improved.after_is, is.improved.fewer);
  well = is.improved.well_again;
}
