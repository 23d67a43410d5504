use Rattle.std.proofs.Common.{◌≡◌, ◌+◌, ◌≤◌, ◌<◌, ℤ, List, length, vec_len, arith}
use Rattle.clause_db.specs.ArenaRanges.{count_at}
use Rattle.clause_db.proofs.Starts.{start_inside, read_id}
use Rattle.clause_db.proofs.arena.Arena.id.Goals as goal

pub overflow_sub-start : goal.overflow_sub-start
overflow_sub-start c =
    let some : 1 < c.args.start = (start_inside c.args.self.now c.self.inside.row.items c.self.inside.starts.items c.args.start c.self.view_is c.self.invariant.0 c.requires).0 in
    omega (arith, some)

pub index-requires : goal.index-requires
index-requires c =
    let row : List ℤ = c.self.inside.row.items in
    let within : (1 < c.args.start) × (c.args.start + count_at row c.args.start ≤ length row) =
    start_inside c.args.self.now row c.self.inside.starts.items c.args.start c.self.view_is c.self.invariant.0
    c.requires in
    let some : 1 < c.args.start = within.0 in
    let end : c.args.start + count_at row c.args.start ≤ length row = within.1 in
    let long : vec_len c.self.inside.row ≡ length row = c.self.inside.row.ok.0 in
    omega (arith, some, end, long)

pub returns : goal.returns
returns c = read_id c.args.self.now c.self.inside.row.items c.self.inside.starts.items c.args.start c.index.result.now
    c.variable.result c.self.view_is c.self.invariant c.requires c.index.ensures c.variable.ensures.value
