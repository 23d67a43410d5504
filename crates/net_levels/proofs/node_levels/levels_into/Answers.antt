use Rattle.std.proofs.Common.{◌≡◌, suc, ◌+◌, ◌<◌, ◌≤◌, ◌∙◌, ap, length, length-set, arith, sym}
use Rattle.net_theory.specs.declared.data.Gate.{Gate}
use Rattle.net_levels.proofs.LevelRuns.{low_written, sig_low, after_write, after_none}
use Rattle.net_levels.proofs.node_levels.levels_into.Goals as goal

pub overflow_add-levels : goal.overflow_add-levels
overflow_add-levels c =
    let size : length c.loop-gate.left.now ≡ suc (length c.in-Some.rest.now) = ap (length {A = Gate}) c.in-Some.ensures.cases.0 in
    omega (
      arith,
      size,
      c.max.ensures,
      c.sig_level-a.ensures,
      c.sig_level-b.ensures,
      c.loop-gate.invariant.room,
      c.loop-gate.invariant.size,
      c.requires.size,
      sig_low c.loop-gate.levels c.in-Some.gate.now.a c.loop-gate.node c.loop-gate.invariant.low,
      sig_low c.loop-gate.levels c.in-Some.gate.now.b c.loop-gate.node c.loop-gate.invariant.low,
    )

pub loop-gate-preserved : goal.loop-gate-preserved
loop-gate-preserved c =
    let size : length c.loop-gate.left.now ≡ suc (length c.in-Some.rest.now) = ap (length {A = Gate}) c.in-Some.ensures.cases.0 in
    let inside : c.loop-gate.node < length c.loop-gate.levels = omega (arith, size, c.loop-gate.invariant.room) in
    let few : 1 + c.max.result ≤ c.loop-gate.node + 1 = omega (
      arith,
      c.max.ensures,
      c.sig_level-a.ensures,
      c.sig_level-b.ensures,
      sig_low c.loop-gate.levels c.in-Some.gate.now.a c.loop-gate.node c.loop-gate.invariant.low,
      sig_low c.loop-gate.levels c.in-Some.gate.now.b c.loop-gate.node c.loop-gate.invariant.low,
    ) in
    record {
      room = omega (arith, size, c.loop-gate.invariant.room, length-set c.loop-gate.levels c.loop-gate.node (1 + c.max.result));
      size = length-set c.loop-gate.levels c.loop-gate.node (1 + c.max.result) ∙ c.loop-gate.invariant.size;
      low = low_written c.loop-gate.levels c.loop-gate.node (1 + c.max.result) c.loop-gate.node inside c.loop-gate.invariant.low few;
      same = after_write c.loop-gate.levels c.loop-gate.node c.loop-gate.left.now c.in-Some.rest.now c.in-Some.gate.now (1 + c.max.result)
          c.in-Some.ensures.cases.0 inside (omega (arith, c.max.ensures, c.sig_level-a.ensures, c.sig_level-b.ensures))
          ∙ c.loop-gate.invariant.same;
    }

pub returns : goal.returns
returns c = sym (after_none _ _ _ c.in_default.ensures.cases) ∙ c.loop-gate.invariant.same
