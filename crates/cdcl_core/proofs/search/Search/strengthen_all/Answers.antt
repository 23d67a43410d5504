use Rattle.std.proofs.Common.{◌∙◌, refl}
use Rattle.cdcl_core.proofs.Replacing.{strengthened_self, strengthened_trans}
use Rattle.cdcl_core.proofs.search.Search.strengthen_all.Goals as goal

pub loop-turn-init : goal.loop-turn-init
loop-turn-init c = record {
  strengthening = c.requires.strengthening;
  strengthened = strengthened_self c.args.end c.args.self.now;
  low = refl;
  logged = λ f logged. logged;
}

pub strengthen_one-requires-clause-strengthening : goal.strengthen_one-requires-clause-strengthening
strengthen_one-requires-clause-strengthening c = c.loop-turn.invariant.strengthening

pub loop-turn-preserved : goal.loop-turn-preserved
loop-turn-preserved c = record {
  strengthening = c.in_ok-strengthen_one.ensures.strengthening;
  strengthened = strengthened_trans c.args.end c.args.self.now c.loop-turn.self c.strengthen_one.new.self c.loop-turn.invariant.strengthened c.in_ok-strengthen_one.ensures.strengthened;
  low = c.in_ok-strengthen_one.ensures.low ∙ c.loop-turn.invariant.low;
  logged = λ f logged. c.in_ok-strengthen_one.ensures.logged f (c.loop-turn.invariant.logged f logged);
}

pub returns-clause-strengthening : goal.returns-clause-strengthening
returns-clause-strengthening c = c.loop-turn.invariant.strengthening

pub returns-clause-strengthened : goal.returns-clause-strengthened
returns-clause-strengthened c = c.loop-turn.invariant.strengthened

pub returns-clause-logged : goal.returns-clause-logged
returns-clause-logged c = c.loop-turn.invariant.logged

pub returns-clause-low : goal.returns-clause-low
returns-clause-low c = c.loop-turn.invariant.low
