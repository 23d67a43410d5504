use Rattle.std.proofs.Common.{◌≡◌, ◌+◌, ℕ, ◌∙◌, ap, arith}
use Rattle.net_theory.specs.Moving.{Kept, kept_after, marked_count}
use Rattle.net_core.specs.Marks.{set_of, kept}
use Rattle.subst_core.specs.Lists.{window_of}
use Rattle.subst_core.proofs.Rebuilds.{late_kept, late_count}
use Rattle.subst_core.proofs.rebuilding.keep_late.Goals as goal

pub keep_gates-requires-clause-room : goal.keep_gates-requires-clause-room
keep_gates-requires-clause-room c =
    let n = c.args.net.now in
    let count = late_count n (window_of c.args.window.now) c.args.marks.now c.mark_others.new.marks c.requires.mark_count c.requires.marks c.mark_others.ensures in
    let sources : c.sources-sources.result ≡ n.sources = c.sources-sources.ensures.sources in
    let same : marked_count (set_of c.mark_others.new.marks) (c.sources-sources.result + 1) c.gates.result.now ≡ marked_count (set_of c.mark_others.new.marks) (n.sources + 1) n.gates =
    ap (λ (s : ℕ). marked_count (set_of c.mark_others.new.marks) (s + 1) c.gates.result.now) sources
    ∙ ap (marked_count (set_of c.mark_others.new.marks) (n.sources + 1)) c.gates.ensures.gates in
    omega (arith, c.requires.room, count, same, sources)

pub returns : goal.returns
returns c =
    let n = c.args.net.now in
    let k : Kept = kept c.args.nodes.now c.args.gates.now.items in
    c.in_ok-keep_gates.ensures
    ∙ ap (λ (s : ℕ). kept_after (set_of c.mark_others.new.marks) s k (s + 1) c.gates.result.now) c.sources-sources.ensures.sources
    ∙ ap (kept_after (set_of c.mark_others.new.marks) n.sources k (n.sources + 1)) c.gates.ensures.gates
    ∙ late_kept n (window_of c.args.window.now) c.args.marks.now c.mark_others.new.marks k c.requires.mark_count c.requires.marks c.mark_others.ensures
