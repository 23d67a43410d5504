-- A log without a line: all additions are missing.
use Rattle.std.proofs.Common.{arith}
use Rattle.sat_theory.specs.Log.{added_ids}
use Rattle.cert_file.proofs.subproblem.SubproblemReader.new.Goals as goal

pub returns-clause-reading : goal.returns-clause-reading
unfolding added_ids
returns-clause-reading c = record { accepted = c.in_ok-checker.ensures; missing = omega arith }
