use Rattle.std.proofs.Common.{◌≡◌, suc, ◌+◌, ◌∙◌, ap, length, length-set, arith, sym}
use Rattle.net_theory.specs.declared.data.Gate.{Gate}
use Rattle.net_theory.specs.ValueLaws.{below_later}
use Rattle.net_core.proofs.Evaluations.{first_at, rest_at, values_after-none, values_after-write}
use Rattle.net_core.proofs.evaluation.gates_into.Goals as goal

pub sig_bit-a-requires : goal.sig_bit-a-requires
sig_bit-a-requires c =
    below_later _ (c.loop-gate.node + 1) _ (omega arith) (first_at _ _ _ _ c.in-Some.ensures.cases.0 c.loop-gate.invariant.stand).first

pub sig_bit-b-requires : goal.sig_bit-b-requires
sig_bit-b-requires c =
    below_later _ (c.loop-gate.node + 1) _ (omega arith) (first_at _ _ _ _ c.in-Some.ensures.cases.0 c.loop-gate.invariant.stand).second

pub loop-gate-preserved : goal.loop-gate-preserved
loop-gate-preserved c =
    let size : length c.loop-gate.left.now ≡ suc (length c.in-Some.rest.now) = ap (length {A = Gate}) c.in-Some.ensures.cases.0 in
    record {
      room = omega (arith, size, length-set c.loop-gate.nodes c.loop-gate.node c.apply.result);
      stand = rest_at _ _ _ _ c.in-Some.ensures.cases.0 c.loop-gate.invariant.stand;
      same = values_after-write _ _ _ _ _ _ c.in-Some.ensures.cases.0 (omega (arith, size)) (rw (c.sig_bit-a.ensures, c.sig_bit-b.ensures) at c.apply.ensures) ∙ c.loop-gate.invariant.same;
    }

pub returns : goal.returns
returns c = sym (values_after-none _ _ _ c.in_default.ensures.cases) ∙ c.loop-gate.invariant.same
