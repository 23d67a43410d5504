use Rattle.std.proofs.Common.{ℕ, ◌-◌, ◌<◌, ◌≤◌, List, slice_index_or, sym, arith}
use Rattle.std.proofs.lemmas.List.{get_or_read}
use Rattle.cdcl_core.proofs.Dropping.{dropped_from}
use Rattle.cdcl_core.proofs.levels.drop_levels.Goals as goal
use Rattle.cdcl_core.proofs.levels.drop_levels.Goals.{then-loop-keep-test+else-index-back, else-loop-keep-test}

pub returns : goal.returns
returns c =
    let old : List ℕ = c.args.starts.now.items in
    let keep : ℕ = c.loop-keep.keep in
    let end : ℕ = c.index-end.result.now in
    let at = get_or_read old keep end c.loop-keep.invariant.inside c.index-end.ensures in
    let high : c.args.back ≤ end = omega (arith, c.loop-keep.invariant.high end, at end) in
    let low : 0 < keep → (d : ℕ) → slice_index_or old (keep - 1) d < c.args.back = λ some d.
    elim c.loop-keep-test.branch [
      | then-loop-keep-test+else-index-back w ↦ (let before = get_or_read old (keep - 1) w.index.result.now
          (omega (arith, c.loop-keep.invariant.inside)) w.index.ensures d in omega (arith, before, w.if-index-back.false))
      | else-loop-keep-test w ↦ absurd (omega (arith, some, w.loop-keep-test.false))
    ] in
    dropped_from c.args.back keep end old c.truncate.new.self.items c.truncate.ensures.items c.loop-keep.invariant.inside (λ d. sym (at d)) high c.requires.rising low
