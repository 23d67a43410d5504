use Rattle.std.proofs.Common.{◌+◌, ◌≡◌, ◌∙◌, ◌∷◌, [], length, length-append, sym, subst, ap, arith, refl}
use Rattle.net_theory.specs.declared.data.Gate.{Gate}
use Rattle.net_theory.specs.Net.{AreGates}
use Rattle.net_theory.specs.ValueLaws.{gates_push}
use Rattle.improve_tests.proofs.nets.are_gates.Goals as goal

pub overflow_cast-rest : goal.overflow_cast-rest
overflow_cast-rest c =
    let size : length c.loop-gate.left.now ≡ length c.in-Some.rest.now + 1 = ap (length {A = Gate}) c.in-Some.ensures.cases.0 ∙ length-append c.in-Some.rest.now (c.in-Some.gate.now ∷ []) in
    omega (arith, size, c.loop-gate.invariant.size, c.requires)

pub overflow_add-sources-in-Some : goal.overflow_add-sources-in-Some
overflow_add-sources-in-Some c =
    let size : length c.loop-gate.left.now ≡ length c.in-Some.rest.now + 1 = ap (length {A = Gate}) c.in-Some.ensures.cases.0 ∙ length-append c.in-Some.rest.now (c.in-Some.gate.now ∷ []) in
    omega (arith, size, c.loop-gate.invariant.size, c.requires)

pub loop-gate-preserved : goal.loop-gate-preserved
loop-gate-preserved c =
    let size : length c.loop-gate.left.now ≡ length c.in-Some.rest.now + 1 = ap (length {A = Gate}) c.in-Some.ensures.cases.0 ∙ length-append c.in-Some.rest.now (c.in-Some.gate.now ∷ []) in
    record {
      size = omega (arith, size, c.loop-gate.invariant.size);
      all = λ are. c.loop-gate.invariant.all (subst (AreGates c.args.sources) (sym c.in-Some.ensures.cases.0)
          (gates_push c.args.sources c.in-Some.rest.now c.in-Some.gate.now are (c.if-not-is_gate_at.ensures refl)));
    }
