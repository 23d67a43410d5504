use Rattle.std.proofs.Common.{arith}
use Rattle.window_attempt.specs.MergedLaws.{merged_replaces}
use Rattle.window_attempt.proofs.tables.equal_merged.Goals as goal

pub returns-clause-replaces : goal.returns-clause-replaces
returns-clause-replaces c = λ basis. merged_replaces basis c.args.net.now c.in_ok-merged.merged c.in_ok-left.left
    c.in_ok-merged.ensures.implements c.in_ok-merged.ensures.operators c.in_ok-left.ensures.exact
    c.in_ok-left.ensures.cleaned_up

pub returns-clause-fewer : goal.returns-clause-fewer
returns-clause-fewer c = omega (arith, c.in_ok-merged.ensures.implements.fewer, c.in_ok-left.ensures.cleaned_up.implements.fewer)
