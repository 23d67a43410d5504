use Rattle.std.proofs.Common.{subst}
use Rattle.std.specs.List.Sorted.{IsPermutation}
use Rattle.std.proofs.lemmas.List.Sorted.{IsPermutation-sym, Contains-permutation}
use Rattle.clause_db.specs.Stored.{IsStored}
use Rattle.clause_db.proofs.Databases.{block_value, block_order, block_long, block_front, block_clause}
use Rattle.clause_db.proofs.clause_db.ClauseDb.arranged.Goals as goal

pub returns-clause-value : goal.returns-clause-value
returns-clause-value c =
    block_value c.self.inside.vars c.self.inside.live.items c.self.inside.watches c.args.self.now c.args.id c.block.result.now c.self.view_is c.self.invariant.2 c.block.ensures c.requires.live

pub returns-clause-long : goal.returns-clause-long
returns-clause-long c = λ clause is. block_long c.self.inside.vars c.self.inside.live.items c.self.inside.watches
    c.args.self.now c.args.id c.block.result.now clause c.self.view_is c.self.invariant.2 c.block.ensures is

pub returns-clause-same : goal.returns-clause-same
returns-clause-same c = λ clause is l.
    let order : IsPermutation clause c.block.result.now =
    block_order c.self.inside.vars c.self.inside.live.items c.self.inside.watches c.args.self.now c.args.id c.block.result.now clause c.self.view_is c.self.invariant.2 c.block.ensures is in
    (Contains-permutation c.block.result.now clause l (IsPermutation-sym clause c.block.result.now order), Contains-permutation clause c.block.result.now l order)

pub returns-clause-front : goal.returns-clause-front
returns-clause-front c = block_front c.self.inside.vars c.self.inside.live.items c.self.inside.watches c.args.self.now c.args.id c.block.result.now c.self.view_is c.self.invariant.2 c.block.ensures

pub returns-clause-clause : goal.returns-clause-clause
returns-clause-clause c =
    (block_clause c.self.inside.vars c.self.inside.live.items c.self.inside.watches c.args.self.now c.args.id c.block.result.now c.self.view_is
    (subst IsStored c.self.view_is c.self.invariant.0) c.self.invariant.2 c.block.ensures c.requires.live).0

pub returns-clause-over : goal.returns-clause-over
returns-clause-over c =
    (block_clause c.self.inside.vars c.self.inside.live.items c.self.inside.watches c.args.self.now c.args.id c.block.result.now c.self.view_is
    (subst IsStored c.self.view_is c.self.invariant.0) c.self.invariant.2 c.block.ensures c.requires.live).1
