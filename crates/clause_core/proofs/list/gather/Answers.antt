use Rattle.std.proofs.Common.{◌-◌, length, refl, arith}
use Rattle.std.proofs.lemmas.Grind.{common_steps}
use Rattle.clause_core.specs.Clauses.{IsWithin}
use Rattle.clause_core.specs.ListLaws.{all_rest}
use Rattle.clause_core.proofs.Marks.{blank_seen, empty_clause}
use Rattle.clause_core.proofs.list.gather.Goals as goal

pub loop-raw-init : goal.loop-raw-init
loop-raw-init c = record {
  same = rw c.requires.none refl;
  clause = rw c.requires.none empty_clause;
  seen = rw c.requires.none (blank_seen c.args.seen.now c.requires.blank);
  left = c.requires.within;
}

pub loop-raw-preserved : goal.loop-raw-preserved
loop-raw-preserved c = record {
  same = grind (arith, common_steps, c.in_ok-add.ensures.same c.in-Some.rest.now);
  clause = c.in_ok-add.ensures.clause;
  seen = c.in_ok-add.ensures.seen;
  left = all_rest (IsWithin (length c.args.seen.now - 1)) c.loop-raw.left.now c.in-Some.rest.now c.in-Some.raw.now c.in-Some.ensures.cases.0 c.loop-raw.invariant.left;
}
