use Rattle.equiv_core.specs.EquivalenceLaws.{equal_values, difference_shown, none_undecided}
use Rattle.equiv_core.proofs.nets.equal_nets.Goals as goal

pub returns-in-Equal-clause-same : goal.returns-in-Equal-clause-same
returns-in-Equal-clause-same g c = λ yes given. equal_values c.args.first.now c.args.second.now _ c.in-Equal.field-0 c.in-Equal.is c.requires.comparable c.in_ok-compare.ensures.equal given

pub returns-in-Differ-clause-decides : goal.returns-in-Differ-clause-decides
returns-in-Differ-clause-decides g c = λ enough other. difference_shown c.args.first.now c.args.second.now _ _ _ c.in-Differ.is c.in_ok-compare.ensures.differ

pub returns-clause-decides : goal.returns-clause-decides
returns-clause-decides g c = λ enough other. none_undecided c.args.first.now c.args.second.now _ _ c.in-Undecided.is (c.in_ok-compare.ensures.decides enough)
