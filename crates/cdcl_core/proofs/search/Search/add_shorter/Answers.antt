use Rattle.std.proofs.Common.{◌<◌, arith, refl}
use Rattle.cdcl_core.proofs.Logging.{log_added, new_added}
use Rattle.cdcl_core.proofs.Replacing.{covered_more}
use Rattle.cdcl_core.proofs.search.Search.add_shorter.Goals as goal

pub returns-clause-logged : goal.returns-clause-logged
returns-clause-logged c = λ f logged.
    let s = c.args.self.now in
    let few : s.trail.vars < 1000000000 = c.requires.unassigned.searching.layered.whole.few in
    let small : s.clauses.vars < 1000000000 = omega (arith, few, c.requires.unassigned.searching.vars) in
    record {
      log = rw (c.in_ok-id.ensures.ok, c.in_ok-add.ensures.ok)
          (log_added f s.clauses s.lines c.in_ok-id.id c.args.lits.now c.args.hints.now s.deleted s.least logged.log
          c.requires.unassigned.searching.stored c.requires.clause c.requires.within small c.in_ok-id.ensures.id
          c.requires.hold);
      new = rw c.in_ok-add.ensures.ok
          (new_added f s c.in_ok-id.id c.args.lits.now c.args.hints.now logged c.requires.new c.requires.some);
      given = logged.given;
      covered = covered_more f s _ c.args.lits.now logged.covered c.in_ok-id.ensures.ok refl refl (omega (arith, c.requires.high, c.in_ok-id.ensures.id));
    }
