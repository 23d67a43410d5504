use Rattle.std.proofs.Common.{ℕ, length, sym, subst}
use Rattle.std.specs.List.{All}
use Rattle.std.proofs.lemmas.List.Elements.{All-rest}
use Rattle.window_core.specs.Fanouts.{named_by, named_by_sinks}
use Rattle.window_core.specs.Noting.{IsOperandBelow}
use Rattle.window_core.specs.NotingLaws.{sinks_first, sinks_none, counting_step, counting_end}
use Rattle.window_core.proofs.fanouts.count_sinks.Goals as goal

pub loop-sink-preserved : goal.loop-sink-preserved
loop-sink-preserved c = record {
  counting = counting_step (λ p. named_by_sinks p c.args.sinks.now) (λ p. named_by_sinks p c.loop-sink.left.now)
      (λ p. named_by_sinks p c.in-Some.rest.now) (λ p. named_by p c.in-Some.sink.now) c.args.uses.now c.loop-sink.uses
      c.count_use.new.uses
      (λ p. sinks_first p c.loop-sink.left.now c.in-Some.sink.now c.in-Some.rest.now c.in-Some.ensures.cases.0) c.count_use.ensures c.loop-sink.invariant.counting;
  before = subst (λ (n : ℕ). All (IsOperandBelow n) c.in-Some.rest.now) (sym c.count_use.ensures.size)
      (All-rest (IsOperandBelow (length c.loop-sink.uses)) _ _ _ c.in-Some.ensures.cases.0 c.loop-sink.invariant.before);
  small = λ p. (c.type_inv.uses p).fits;
}

pub returns : goal.returns
returns c =
    counting_end (λ p. named_by_sinks p c.args.sinks.now) (λ p. named_by_sinks p c.loop-sink.left.now) c.args.uses.now c.loop-sink.uses
    (λ p. sinks_none p c.loop-sink.left.now c.in_default.ensures.cases) c.loop-sink.invariant.small c.loop-sink.invariant.counting
