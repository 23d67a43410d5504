use Rattle.net_theory.proofs.LawProofs.{marks_reached, sinks_are}
use Rattle.net_theory.proofs.laws.marks_are_what_is_reached.Goals as goal

pub returns-clause-marks : goal.returns-clause-marks
returns-clause-marks c = marks_reached

pub returns-clause-sinks : goal.returns-clause-sinks
returns-clause-sinks c = sinks_are
