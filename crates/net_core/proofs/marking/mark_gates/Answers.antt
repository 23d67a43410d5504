use Rattle.std.proofs.Common.{◌≡◌, ◌+◌, ◌∷◌, [], ◌∙◌, length, length-append, ap, refl, arith}
use Rattle.net_theory.specs.declared.data.Gate.{Gate}
use Rattle.net_core.proofs.DanglingGates.{marked-none, marked-on, marked-off, prefix_at}
use Rattle.net_core.proofs.marking.mark_gates.Goals as goal

pub loop-gate-preserved-then-marks-sources : goal.loop-gate-preserved-then-marks-sources
loop-gate-preserved-then-marks-sources c =
    let size : length c.loop-gate.left.now ≡ length c.in-Some.rest.now + 1 = ap (length {A = Gate}) c.in-Some.ensures.cases.0 ∙ length-append c.in-Some.rest.now (c.in-Some.gate.now ∷ []) in
    record {
      marks = rw (c.mark-then-marks-sources.ensures, c.mark.ensures)
          (marked-on _ (c.args.sources + 1) (c.args.sources + 1 + length c.in-Some.rest.now) _ _ _
          c.in-Some.ensures.cases.0 refl c.if-marks-sources.true ∙ c.loop-gate.invariant.marks);
      stand = prefix_at _ _ _ _ c.in-Some.ensures.cases.0 c.loop-gate.invariant.stand;
      room = omega (arith, size);
    }

pub loop-gate-preserved : goal.loop-gate-preserved
loop-gate-preserved c =
    let size : length c.loop-gate.left.now ≡ length c.in-Some.rest.now + 1 = ap (length {A = Gate}) c.in-Some.ensures.cases.0 ∙ length-append c.in-Some.rest.now (c.in-Some.gate.now ∷ []) in
    record {
      marks = marked-off _ (c.args.sources + 1) (c.args.sources + 1 + length c.in-Some.rest.now) _ _ _ c.in-Some.ensures.cases.0 refl c.if-marks-sources.false ∙ c.loop-gate.invariant.marks;
      stand = prefix_at _ _ _ _ c.in-Some.ensures.cases.0 c.loop-gate.invariant.stand;
      room = omega (arith, size);
    }

pub returns : goal.returns
returns c = marked-none _ _ _ c.in_default.ensures.cases ∙ c.loop-gate.invariant.marks
