use Rattle.window_attempt.specs.AttemptingLaws.{attempts_least, attempts_open, attempts_fewer, attempts_shorter}
use Rattle.window_attempt.proofs.attempting.attempt_window.Goals as goal

pub returns-in-Least-clause-outcome : goal.returns-in-Least-clause-outcome
returns-in-Least-clause-outcome g c = λ candidate window listed.
    attempts_least c.args.settings c.args.net.now candidate c.args.window.now c.in_ok-decide_window.field-0
    c.gates-gates.ensures.net window c.in_ok-decide_window.ensures.decided c.in-Least.is

pub returns-in-Open-clause-outcome : goal.returns-in-Open-clause-outcome
returns-in-Open-clause-outcome g c = λ candidate window listed.
    attempts_open c.args.settings c.args.net.now candidate c.args.window.now c.in_ok-decide_window.field-0
    c.in-Open.search c.gates-gates.ensures.net listed window c.in_ok-decide_window.ensures.decided c.in-Open.is

pub returns-in_ok-replaced-in-Shorter-clause-outcome : goal.returns-in_ok-replaced-in-Shorter-clause-outcome
returns-in_ok-replaced-in-Shorter-clause-outcome g c = λ candidate window listed. record {
  listed = listed;
  shorter = attempts_shorter c.args.settings c.args.net.now candidate c.args.window.now c.in_ok-decide_window.field-0
      c.in-Shorter.chain c.gates-gates.ensures.net window c.in_ok-decide_window.ensures.decided c.in-Shorter.is;
  replaces = c.in_ok-replaced-in-Shorter.ensures.replaces;
  fewer = c.in_ok-replaced-in-Shorter.ensures.fewer (attempts_fewer c.args.settings c.args.net.now c.args.window.now
      c.in_ok-decide_window.field-0 c.in-Shorter.chain c.in_ok-decide_window.ensures.decided c.in-Shorter.is);
}
