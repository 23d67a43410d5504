use Rattle.std.proofs.Common.{◌≡◌, ◌+◌, ◌≤◌, ◌<◌, length, vec_len, arith, refl}
use Rattle.clause_db.specs.ArenaRanges.{count_at}
use Rattle.clause_db.proofs.Gaps.{start_here}
use Rattle.clause_db.proofs.Emptying.{empty_laid}
use Rattle.clause_db.proofs.arena.Arena.empty.Goals as goal

pub overflow_sub-start : goal.overflow_sub-start
overflow_sub-start c =
    let some : 1 < c.index.result.now = (start_here c.args.self.now c.self.inside.row.items c.self.inside.starts.items
    c.args.index c.index.result.now c.self.view_is c.self.invariant c.requires c.index.ensures).0 in
    omega (arith, some)

pub index_mut-requires : goal.index_mut-requires
index_mut-requires c =
    let first = start_here c.args.self.now c.self.inside.row.items c.self.inside.starts.items c.args.index c.index.result.now c.self.view_is c.self.invariant c.requires c.index.ensures in
    let some : 1 < c.index.result.now = first.0 in
    let end : c.index.result.now + count_at c.self.inside.row.items c.index.result.now ≤ length c.self.inside.row.items = first.1 in
    let long : vec_len c.self.inside.row ≡ length c.self.inside.row.items = c.self.inside.row.ok.0 in
    omega (arith, some, end, long)

pub invariant_of-self : goal.invariant_of-self
invariant_of-self c = (empty_laid c.args.self.now c.self.inside.row.items _ c.self.inside.starts.items c.args.index
    c.index.result.now c.written.result c.self.view_is c.self.invariant c.requires c.index.ensures c.written.ensures
    refl).0

pub returns-clause-lists : goal.returns-clause-lists
returns-clause-lists c = (empty_laid c.args.self.now c.self.inside.row.items _ c.self.inside.starts.items c.args.index
    c.index.result.now c.written.result c.self.view_is c.self.invariant c.requires c.index.ensures c.written.ensures
    refl).1
