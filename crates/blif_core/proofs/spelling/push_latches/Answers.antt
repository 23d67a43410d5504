use Rattle.std.proofs.Common.{◌++◌, ℕ, List, sym, ap, ◌∙◌, append_assoc}
use Rattle.std.specs.List.{flat_map}
use Rattle.std.proofs.lemmas.List.Elements.{All-rest}
use Rattle.net_theory.specs.Document.{LatchLine}
use Rattle.blif_core.specs.Spelling.{latch_text, HasInit}
use Rattle.blif_core.proofs.spelling.push_latches.Goals as goal

pub loop-latch-preserved : goal.loop-latch-preserved
loop-latch-preserved c = record {
  same =
      ap (λ (xs : List ℕ). xs ++ flat_map latch_text c.in-Some.rest.now) c.in_ok-push_latch.ensures
      ∙ append_assoc c.loop-latch.text.items (latch_text c.in-Some.latch.now) (flat_map latch_text c.in-Some.rest.now)
      ∙ ap (λ (ls : List LatchLine). c.loop-latch.text.items ++ flat_map latch_text ls) (sym c.in-Some.ensures.cases.0)
      ∙ c.loop-latch.invariant.same;
  inits = All-rest HasInit c.in-Some.latch.now c.in-Some.rest.now c.loop-latch.left.now c.in-Some.ensures.cases.0 c.loop-latch.invariant.inits;
}
