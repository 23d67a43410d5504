use Rattle.std.proofs.Common.{◌+◌, ◌∙◌, length, ap, arith}
use Rattle.sat_theory.specs.Formula.{Formula}
use Rattle.equiv_core.specs.RowLaws.{added_one}
use Rattle.equiv_core.specs.MiteringLaws.{some_within, miter_added}
use Rattle.equiv_core.proofs.mitering.list_miter.Goals as goal

pub push-requires : goal.push-requires
push-requires c =
    some_within _ (c.sources-sources.result + length c.gates.result.now + length c.gates-2.result.now + 1) (length c.sinks.result.now) _ (c.deref.ensures.value ∙ c.in_ok-row.ensures) (omega arith)
    (omega (arith, c.in_ok-push_sinks.ensures.vars, c.in_ok-push_gates-2.ensures.vars, c.in_ok-push_gates.ensures.vars, ap (λ (f : Formula). f.vars) c.in_ok-list.ensures))

pub returns : goal.returns
returns c =
    let none = rw (c.sources-sources.ensures.sources, c.gates.ensures.gates, c.gates-2.ensures.gates, c.sinks.ensures.sinks) at c.in_ok-list.ensures in
    let one = rw (c.gates-3.ensures.gates, c.sources-sources.ensures.sources, c.gates.ensures.gates) at c.in_ok-push_gates.ensures in
    let two = rw (c.gates-4.ensures.gates, c.sources-others.ensures.sources, c.gates.ensures.gates) at c.in_ok-push_gates-2.ensures in
    let three = rw (
      c.sinks-2.ensures.sinks,
      c.sinks-3.ensures.sinks,
      c.sources-sources.ensures.sources,
      c.sources-others.ensures.sources,
      c.gates.ensures.gates,
      c.gates-2.ensures.gates,
    ) at c.in_ok-push_sinks.ensures in
    let row = rw (c.sources-sources.ensures.sources, c.gates.ensures.gates, c.gates-2.ensures.gates, c.sinks.ensures.sinks) at (c.deref.ensures.value ∙ c.in_ok-row.ensures) in
    let four = rw row at (added_one _ _ _ c.in_ok-push.ensures.written) in
    miter_added c.args.first.now c.args.second.now _ _ _ _ _ none one two three four
