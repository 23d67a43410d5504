use Rattle.std.proofs.Common.{◌∙◌, ℕ, length, sym, subst}
use Rattle.window_core.specs.Fanouts.{named_by_gate, sum_gates}
use Rattle.window_core.specs.Noting.{IsOperandBelow, AreBefore}
use Rattle.window_core.specs.NotingLaws.{before_first, before_rest, gates_step, counting_end, sum_none}
use Rattle.window_core.proofs.fanouts.count_gates.Goals as goal

pub count_use-requires : goal.count_use-requires
count_use-requires c =
    (before_first (length c.loop-gate.uses) c.loop-gate.left.now c.in-Some.gate.now c.in-Some.rest.now c.in-Some.ensures.cases.0 c.loop-gate.invariant.before).0

pub count_use-requires-in-Some : goal.count_use-requires-in-Some
count_use-requires-in-Some c =
    subst (λ (n : ℕ). IsOperandBelow n c.in-Some.gate.now.b) (sym c.count_use.ensures.size)
    (before_first (length c.loop-gate.uses) c.loop-gate.left.now c.in-Some.gate.now c.in-Some.rest.now c.in-Some.ensures.cases.0 c.loop-gate.invariant.before).1

pub loop-gate-preserved : goal.loop-gate-preserved
loop-gate-preserved c = record {
  counting = gates_step (λ p. sum_gates (λ q g. named_by_gate p g) 0 c.args.gates.now) c.loop-gate.left.now
      c.in-Some.gate.now c.in-Some.rest.now c.args.uses.now c.loop-gate.uses c.count_use.new.uses
      c.count_use-in-Some.new.uses
      c.in-Some.ensures.cases.0 c.count_use.ensures c.count_use-in-Some.ensures c.loop-gate.invariant.counting;
  before = subst (λ (n : ℕ). AreBefore n c.in-Some.rest.now) (sym (c.count_use-in-Some.ensures.size ∙ c.count_use.ensures.size))
      (before_rest (length c.loop-gate.uses) c.loop-gate.left.now c.in-Some.gate.now c.in-Some.rest.now c.in-Some.ensures.cases.0 c.loop-gate.invariant.before);
  small = λ p. (c.type_inv.uses p).fits;
}

pub returns : goal.returns
returns c =
    counting_end (λ p. sum_gates (λ q g. named_by_gate p g) 0 c.args.gates.now) (λ p. sum_gates (λ q g. named_by_gate p g) 0 c.loop-gate.left.now) c.args.uses.now c.loop-gate.uses
    (λ p. sum_none (λ q g. named_by_gate p g) 0 c.loop-gate.left.now c.in_default.ensures.cases) c.loop-gate.invariant.small c.loop-gate.invariant.counting
