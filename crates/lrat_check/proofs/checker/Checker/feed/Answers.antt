use Rattle.lrat_text.specs.Values.{line_value}
use Rattle.lrat_check.specs.Checked.{state_of}
use Rattle.lrat_check.proofs.Accepting.{taken_holds, holding_taken, accepted_on}
use Rattle.lrat_check.proofs.checker.Checker.feed.Goals as goal

pub returns-clause-holds : goal.returns-clause-holds
returns-clause-holds c = taken_holds c.take.result (state_of c.args.self.now) (line_value c.args.line) c.take.ensures.exact

pub returns-clause-accepts : goal.returns-clause-accepts
returns-clause-accepts c = holding_taken c.take.result (state_of c.args.self.now) (line_value c.args.line) c.take.ensures.whole c.take.ensures.exact

pub returns-clause-accepted : goal.returns-clause-accepted
returns-clause-accepted c = λ f lines before is_line.
    accepted_on c.take.result f lines (line_value c.args.line) c.args.self.now c.take.new.self before is_line
    c.take.ensures.exact c.take.ensures.next c.take.ensures.refuted
