use Rattle.std.proofs.Common.{◌≡◌, ◌+◌, ◌-◌, ◌≤◌, ◌<◌, ◌∙◌, length, vec_len, arith, rules, refl, sym}
use Rattle.clause_db.specs.ArenaRanges.{count_at}
use Rattle.clause_db.proofs.Gaps.{IsRead, start_here, is_read, stays, down_laid, down_lists, down_end}
use Rattle.clause_db.proofs.arena.Arena.move_down.Goals as goal

pub overflow_sub-start : goal.overflow_sub-start
overflow_sub-start c =
    let some : 1 < c.index.result.now = (start_here c.args.self.now c.self.inside.row.items c.self.inside.starts.items
    c.args.index c.index.result.now c.self.view_is c.self.invariant c.requires.inside c.index.ensures).0 in
    omega (arith, some)

pub index-requires-2 : goal.index-requires-2
index-requires-2 c =
    let first = start_here c.args.self.now c.self.inside.row.items c.self.inside.starts.items c.args.index c.index.result.now c.self.view_is c.self.invariant c.requires.inside c.index.ensures in
    let some : 1 < c.index.result.now = first.0 in
    let end : c.index.result.now + count_at c.self.inside.row.items c.index.result.now ≤ length c.self.inside.row.items = first.1 in
    let long : vec_len c.self.inside.row ≡ length c.self.inside.row.items = c.self.inside.row.ok.0 in
    omega (arith, some, end, long)

pub overflow_add-end : goal.overflow_add-end
overflow_add-end c =
    let read : IsRead c.self.inside.row.items c.self.inside.starts.items c.args.index c.args.end c.index.result.now
    c.variable.result = is_read c.args.self.now c.self.inside.row.items c.self.inside.starts.items c.args.index
    c.args.end c.index.result.now c.index-2.result.now c.variable.result c.self.view_is c.self.invariant
    c.requires.inside c.requires.before c.index.ensures c.index-2.ensures c.variable.ensures.value
    c.variable.ensures.some in
    let room : c.args.end + 2 ≤ c.index.result.now = read.room in
    search rules

pub returns-then-start-end-clause-end : goal.returns-then-start-end-clause-end
returns-then-start-end-clause-end c =
    let read : IsRead c.self.inside.row.items c.self.inside.starts.items c.args.index c.args.end c.index.result.now
    c.variable.result = is_read c.args.self.now c.self.inside.row.items c.self.inside.starts.items c.args.index
    c.args.end c.index.result.now c.index-2.result.now c.variable.result c.self.view_is c.self.invariant
    c.requires.inside c.requires.before c.index.ensures c.index-2.ensures c.variable.ensures.value
    c.variable.ensures.some in
    stays c.args.self.now c.self.inside.row.items c.self.inside.starts.items c.args.index c.args.end c.index.result.now c.variable.result c.self.view_is c.self.invariant read

pub overflow_sub-start-2 : goal.overflow_sub-start-2
overflow_sub-start-2 c =
    let read : IsRead c.self.inside.row.items c.self.inside.starts.items c.args.index c.args.end c.index.result.now
    c.variable.result = is_read c.args.self.now c.self.inside.row.items c.self.inside.starts.items c.args.index
    c.args.end c.index.result.now c.index-2.result.now c.variable.result c.self.view_is c.self.invariant
    c.requires.inside c.requires.before c.index.ensures c.index-2.ensures c.variable.ensures.value
    c.variable.ensures.some in
    let some : 1 < c.index.result.now = read.headed in
    omega (arith, some)

pub copy_within-requires-clause-in_bounds : goal.copy_within-requires-clause-in_bounds
copy_within-requires-clause-in_bounds c =
    let read : IsRead c.self.inside.row.items c.self.inside.starts.items c.args.index c.args.end c.index.result.now
    c.variable.result = is_read c.args.self.now c.self.inside.row.items c.self.inside.starts.items c.args.index
    c.args.end c.index.result.now c.index-2.result.now c.variable.result c.self.view_is c.self.invariant
    c.requires.inside c.requires.before c.index.ensures c.index-2.ensures c.variable.ensures.value
    c.variable.ensures.some in
    let room : c.args.end + 2 ≤ c.index.result.now = read.room in
    let end : c.index.result.now + count_at c.self.inside.row.items c.index.result.now ≤ length c.self.inside.row.items = read.inside in
    let counted : c.variable.result ≡ count_at c.self.inside.row.items c.index.result.now + 1 = read.counted in
    let long : vec_len c.self.inside.row ≡ length c.self.inside.row.items = c.self.inside.row.ok.0 in
    omega (arith, end, counted, long)

pub copy_within-requires-clause-dest_in_bounds : goal.copy_within-requires-clause-dest_in_bounds
copy_within-requires-clause-dest_in_bounds c =
    let read : IsRead c.self.inside.row.items c.self.inside.starts.items c.args.index c.args.end c.index.result.now
    c.variable.result = is_read c.args.self.now c.self.inside.row.items c.self.inside.starts.items c.args.index
    c.args.end c.index.result.now c.index-2.result.now c.variable.result c.self.view_is c.self.invariant
    c.requires.inside c.requires.before c.index.ensures c.index-2.ensures c.variable.ensures.value
    c.variable.ensures.some in
    let room : c.args.end + 2 ≤ c.index.result.now = read.room in
    let end : c.index.result.now + count_at c.self.inside.row.items c.index.result.now ≤ length c.self.inside.row.items = read.inside in
    let counted : c.variable.result ≡ count_at c.self.inside.row.items c.index.result.now + 1 = read.counted in
    let long : vec_len c.self.inside.row ≡ length c.self.inside.row.items = c.self.inside.row.ok.0 in
    let some : 1 < c.index.result.now = read.headed in
    let fine : c.args.end + (c.index.result.now + c.variable.result - 1 - (c.index.result.now - 2)) ≤ vec_len c.self.inside.row = omega (arith, end, counted, long, room, some) in
    fine

pub overflow_cast-end : goal.overflow_cast-end
overflow_cast-end c =
    let read : IsRead c.self.inside.row.items c.self.inside.starts.items c.args.index c.args.end c.index.result.now
    c.variable.result = is_read c.args.self.now c.self.inside.row.items c.self.inside.starts.items c.args.index
    c.args.end c.index.result.now c.index-2.result.now c.variable.result c.self.view_is c.self.invariant
    c.requires.inside c.requires.before c.index.ensures c.index-2.ensures c.variable.ensures.value
    c.variable.ensures.some in
    let room : c.args.end + 2 ≤ c.index.result.now = read.room in
    search rules

pub overflow_add-end-2 : goal.overflow_add-end-2
overflow_add-end-2 c =
    let read : IsRead c.self.inside.row.items c.self.inside.starts.items c.args.index c.args.end c.index.result.now
    c.variable.result = is_read c.args.self.now c.self.inside.row.items c.self.inside.starts.items c.args.index
    c.args.end c.index.result.now c.index-2.result.now c.variable.result c.self.view_is c.self.invariant
    c.requires.inside c.requires.before c.index.ensures c.index-2.ensures c.variable.ensures.value
    c.variable.ensures.some in
    let room : c.args.end + 2 ≤ c.index.result.now = read.room in
    search rules

pub overflow_add-result : goal.overflow_add-result
overflow_add-result c =
    let read : IsRead c.self.inside.row.items c.self.inside.starts.items c.args.index c.args.end c.index.result.now
    c.variable.result = is_read c.args.self.now c.self.inside.row.items c.self.inside.starts.items c.args.index
    c.args.end c.index.result.now c.index-2.result.now c.variable.result c.self.view_is c.self.invariant
    c.requires.inside c.requires.before c.index.ensures c.index-2.ensures c.variable.ensures.value
    c.variable.ensures.some in
    let room : c.args.end + 2 ≤ c.index.result.now = read.room in
    search rules

pub overflow_add-result-2 : goal.overflow_add-result-2
overflow_add-result-2 c =
    let read : IsRead c.self.inside.row.items c.self.inside.starts.items c.args.index c.args.end c.index.result.now
    c.variable.result = is_read c.args.self.now c.self.inside.row.items c.self.inside.starts.items c.args.index
    c.args.end c.index.result.now c.index-2.result.now c.variable.result c.self.view_is c.self.invariant
    c.requires.inside c.requires.before c.index.ensures c.index-2.ensures c.variable.ensures.value
    c.variable.ensures.some in
    let room : c.args.end + 2 ≤ c.index.result.now = read.room in
    let end : c.index.result.now + count_at c.self.inside.row.items c.index.result.now ≤ length c.self.inside.row.items = read.inside in
    let counted : c.variable.result ≡ count_at c.self.inside.row.items c.index.result.now + 1 = read.counted in
    let long : vec_len c.self.inside.row ≡ length c.self.inside.row.items = c.self.inside.row.ok.0 in
    let fine : c.args.end + 2 + (c.index.result.now + c.variable.result - 1 - c.index.result.now) ≤ length c.self.inside.row.items = omega (arith, end, counted, room) in
    search rules

pub invariant_of-self : goal.invariant_of-self
invariant_of-self c =
    let read : IsRead c.self.inside.row.items c.self.inside.starts.items c.args.index c.args.end c.index.result.now
    c.variable.result = is_read c.args.self.now c.self.inside.row.items c.self.inside.starts.items c.args.index
    c.args.end c.index.result.now c.index-2.result.now c.variable.result c.self.view_is c.self.invariant
    c.requires.inside c.requires.before c.index.ensures c.index-2.ensures c.variable.ensures.value
    c.variable.ensures.some in
    let kept : length c.copy_within.new.self.items ≡ length c.self.inside.row.items = sym c.copy_within.new.self.ok.0 ∙ c.copy_within.ensures.len ∙ c.self.inside.row.ok.0 in
    down_laid c.self.inside.row.items c.copy_within.new.self.items c.self.inside.starts.items _ c.args.index c.args.end
    c.index.result.now c.variable.result c.self.invariant read refl kept c.copy_within.ensures.by_index

pub returns-clause-lists : goal.returns-clause-lists
returns-clause-lists c =
    let read : IsRead c.self.inside.row.items c.self.inside.starts.items c.args.index c.args.end c.index.result.now
    c.variable.result = is_read c.args.self.now c.self.inside.row.items c.self.inside.starts.items c.args.index
    c.args.end c.index.result.now c.index-2.result.now c.variable.result c.self.view_is c.self.invariant
    c.requires.inside c.requires.before c.index.ensures c.index-2.ensures c.variable.ensures.value
    c.variable.ensures.some in
    let kept : length c.copy_within.new.self.items ≡ length c.self.inside.row.items = sym c.copy_within.new.self.ok.0 ∙ c.copy_within.ensures.len ∙ c.self.inside.row.ok.0 in
    down_lists c.args.self.now c.self.inside.row.items c.copy_within.new.self.items c.self.inside.starts.items _
    c.args.index c.args.end c.index.result.now c.variable.result c.self.view_is c.self.invariant read refl kept
    c.copy_within.ensures.by_index

pub returns-clause-end : goal.returns-clause-end
returns-clause-end c =
    let read : IsRead c.self.inside.row.items c.self.inside.starts.items c.args.index c.args.end c.index.result.now
    c.variable.result = is_read c.args.self.now c.self.inside.row.items c.self.inside.starts.items c.args.index
    c.args.end c.index.result.now c.index-2.result.now c.variable.result c.self.view_is c.self.invariant
    c.requires.inside c.requires.before c.index.ensures c.index-2.ensures c.variable.ensures.value
    c.variable.ensures.some in
    let kept : length c.copy_within.new.self.items ≡ length c.self.inside.row.items = sym c.copy_within.new.self.ok.0 ∙ c.copy_within.ensures.len ∙ c.self.inside.row.ok.0 in
    down_end c.self.inside.row.items c.copy_within.new.self.items c.self.inside.starts.items _ c.args.index c.args.end
    c.index.result.now c.variable.result c.self.invariant read refl kept c.copy_within.ensures.by_index
