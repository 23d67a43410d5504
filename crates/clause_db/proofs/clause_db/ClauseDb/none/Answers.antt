use Rattle.clause_db.proofs.Databases.{whole_none}
use Rattle.clause_db.proofs.clause_db.ClauseDb.none.Goals as goal

pub invariant_of-result : goal.invariant_of-result
invariant_of-result c = (whole_none c.args.vars c.in_ok-with_capacity.field-0.items c.in_ok-none.field-0 c.in_ok-with_capacity.ensures.items c.in_ok-none.ensures).0

pub returns : goal.returns
returns c = (whole_none c.args.vars c.in_ok-with_capacity.field-0.items c.in_ok-none.field-0 c.in_ok-with_capacity.ensures.items c.in_ok-none.ensures).1
