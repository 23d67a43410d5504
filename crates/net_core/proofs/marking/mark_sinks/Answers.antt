use Rattle.std.proofs.Common.{ℕ, ◌∙◌, length, sym, subst}
use Rattle.std.specs.List.{All}
use Rattle.std.proofs.lemmas.List.Elements.{All-rest}
use Rattle.net_theory.specs.Net.{IsSigBelow}
use Rattle.net_core.proofs.DanglingGates.{sink_marks-none, sink_marks-next}
use Rattle.net_core.proofs.marking.mark_sinks.Goals as goal

pub loop-sink-preserved : goal.loop-sink-preserved
loop-sink-preserved c = record {
  marks = rw c.mark.ensures (sink_marks-next _ _ _ _ c.in-Some.ensures.cases.0 ∙ c.loop-sink.invariant.marks);
  below = subst (λ (n : ℕ). All (IsSigBelow n) c.in-Some.rest.now) (sym c.mark.auto.marks)
      (All-rest (IsSigBelow (length c.loop-sink.marks)) _ _ _ c.in-Some.ensures.cases.0 c.loop-sink.invariant.below);
}

pub returns : goal.returns
returns c = sink_marks-none _ _ c.in_default.ensures.cases ∙ c.loop-sink.invariant.marks
