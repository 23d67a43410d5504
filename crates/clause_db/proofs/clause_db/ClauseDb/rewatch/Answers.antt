use Rattle.clause_db.specs.Stored.{Stored}
use Rattle.clause_db.specs.Moving.{IsMovable}
use Rattle.clause_db.proofs.Databases.{found_movable, found_moved}
use Rattle.clause_db.proofs.clause_db.ClauseDb.rewatch.Goals as goal

pub returns-clause-ok : goal.returns-clause-ok
returns-clause-ok c =
    let s : Stored = c.args.self.now in
    let movable : IsMovable s c.args.id c.args.from c.args.to c.find-index.result =
    found_movable s c.args.from c.args.to c.args.id c.find-index.result c.find-index.ensures.inside
    c.find-index.ensures.there c.requires.there c.requires.other in
    found_moved s c.rewatch_at.new.self c.args.from c.args.to c.args.id c.find-index.result movable c.in_ok-rewatch_at.ensures.ok
