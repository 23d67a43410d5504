use Rattle.std.proofs.Common.{◌≡◌, length, ap, arith}
use Rattle.cdcl_core.proofs.Settling.{settled_propagated, logged_propagated, settled_backjumped, backjumped_reduced, settled_visited}
use Rattle.cdcl_core.proofs.Restarting.{logged_restarted, backjumped_restarted}
use Rattle.cdcl_core.proofs.search.Search.resolve_conflicts.Goals as goal

pub returns-in_default-last-clause-logged : goal.returns-in_default-last-clause-logged
returns-in_default-last-clause-logged c = λ f log. logged_propagated f c.loop-conflict.self c.propagate.new.self (c.loop-conflict.invariant.logged f log) c.in_ok-conflict.ensures.propagated

pub returns-in_default-last-clause-settled : goal.returns-in_default-last-clause-settled
returns-in_default-last-clause-settled c = settled_propagated c.args.self.now c.loop-conflict.self c.propagate.new.self c.loop-conflict.invariant.settled c.in_ok-conflict.ensures.propagated

pub returns-clause-logged : goal.returns-clause-logged
returns-clause-logged c = λ f log. logged_propagated f c.loop-conflict.self c.propagate.new.self (c.loop-conflict.invariant.logged f log) c.in_ok-conflict.ensures.propagated

pub returns-clause-settled : goal.returns-clause-settled
returns-clause-settled c = settled_propagated c.args.self.now c.loop-conflict.self c.propagate.new.self c.loop-conflict.invariant.settled c.in_ok-conflict.ensures.propagated

pub loop-conflict-preserved : goal.loop-conflict-preserved
loop-conflict-preserved c = record {
  searching = c.restart.ensures.searching;
  visited = c.restart.ensures.visited;
  logged = λ f log. logged_restarted f c.subsume_recent.new.self c.restart.new.self
      (c.in_ok-subsume_recent.ensures.logged f (c.in_ok-learn_and_backjump.ensures.logged f
      (logged_propagated f c.loop-conflict.self c.propagate.new.self
      (c.loop-conflict.invariant.logged f log) c.in_ok-conflict.ensures.propagated))) c.restart.ensures.restarted;
  settled = settled_backjumped c.args.self.now c.propagate.new.self c.restart.new.self
      (settled_propagated c.args.self.now c.loop-conflict.self c.propagate.new.self c.loop-conflict.invariant.settled
      c.in_ok-conflict.ensures.propagated)
      (backjumped_restarted c.propagate.new.self c.subsume_recent.new.self c.restart.new.self
      (backjumped_reduced c.propagate.new.self c.learn_and_backjump.new.self c.subsume_recent.new.self
      c.in_ok-learn_and_backjump.ensures.backjumped c.in_ok-subsume_recent.ensures.reduced)
      c.restart.ensures.restarted);
}

pub loop-conflict-smaller : goal.loop-conflict-smaller
loop-conflict-smaller c =
    let backjumped = backjumped_restarted c.propagate.new.self c.subsume_recent.new.self c.restart.new.self
    (backjumped_reduced c.propagate.new.self c.learn_and_backjump.new.self c.subsume_recent.new.self
    c.in_ok-learn_and_backjump.ensures.backjumped c.in_ok-subsume_recent.ensures.reduced) c.restart.ensures.restarted
    in
    let same : length c.propagate.new.self.starts.items ≡ length c.loop-conflict.self.starts.items = ap (λ ls. length ls.items) c.in_ok-conflict.ensures.propagated.starts in
    omega (arith, backjumped.starts, same)

pub returns-clause-none : goal.returns-clause-none
returns-clause-none c = settled_visited c.propagate.new.self c.in_ok-conflict.ensures.searching c.in_ok-conflict.ensures.visited (rw c.in_default.is at c.in_ok-conflict.ensures.all)
