use Rattle.std.proofs.Common.{◌≡◌, ◌+◌, ◌-◌, ◌≤◌, ◌<◌, ℤ, List, length, vec_len, arith, ap}
use Rattle.clause_db.specs.ArenaRanges.{count_at}
use Rattle.clause_db.proofs.Starts.{start_inside, read_count, read_list}
use Rattle.clause_db.proofs.arena.Arena.read.Goals as goal

pub overflow_sub-start : goal.overflow_sub-start
overflow_sub-start c =
    let some : 1 < c.args.start = (start_inside c.args.self.now c.self.inside.row.items c.self.inside.starts.items c.args.start c.self.view_is c.self.invariant.0 c.requires).0 in
    omega (arith, some)

pub index-requires : goal.index-requires
index-requires c =
    let row : List ℤ = c.self.inside.row.items in
    let within : (1 < c.args.start) × (c.args.start + count_at row c.args.start ≤ length row) =
    start_inside c.args.self.now row c.self.inside.starts.items c.args.start c.self.view_is c.self.invariant.0
    c.requires in
    let some : 1 < c.args.start = within.0 in
    let end : c.args.start + count_at row c.args.start ≤ length row = within.1 in
    let long : vec_len c.self.inside.row ≡ length row = c.self.inside.row.ok.0 in
    omega (arith, some, end, long)

pub slice_bounds-result-end : goal.slice_bounds-result-end
slice_bounds-result-end c =
    let row : List ℤ = c.self.inside.row.items in
    let within : (1 < c.args.start) × (c.args.start + count_at row c.args.start ≤ length row) =
    start_inside c.args.self.now row c.self.inside.starts.items c.args.start c.self.view_is c.self.invariant.0
    c.requires in
    let end : c.args.start + count_at row c.args.start ≤ length row = within.1 in
    let count : c.variable.result - 1 ≡ count_at row c.args.start = read_count row c.args.start c.index.result.now c.variable.result within c.index.ensures c.variable.ensures.value in
    let all : length c.deref.result.now ≡ length row = ap (λ (xs : List ℤ). length xs) c.deref.ensures.value in
    omega (arith, end, count, all)

pub returns : goal.returns
returns c = read_list c.args.self.now c.self.inside.row.items c.deref.result.now c.self.inside.starts.items
    c.args.start c.index.result.now c.variable.result c.self.view_is c.self.invariant.0 c.requires c.index.ensures
    c.variable.ensures.value c.deref.ensures.value
