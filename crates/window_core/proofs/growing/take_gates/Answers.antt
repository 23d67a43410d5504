use Rattle.std.proofs.Common.{◌∙◌, ℕ, List, length, ap, sym, subst, arith}
use Rattle.window_theory.specs.Window.{AreTaken, IsGreatestCandidate, IsGrowthCandidate}
use Rattle.window_core.specs.GrowingLaws.{none_taken, one_more, no_window}
use Rattle.window_core.proofs.growing.take_gates.Goals as goal

pub loop-taken-init : goal.loop-taken-init
loop-taken-init c = record {
  are = subst (AreTaken c.args.net.now c.args.root c.args.partner) (sym c.in_ok-taken.ensures.items) (none_taken c.args.net.now c.args.root c.args.partner);
  count = ap (length {A = ℕ}) c.in_ok-taken.ensures.items;
}

pub returns-in_default-clause-none : goal.returns-in_default-clause-none
returns-in_default-clause-none c = λ w.
    no_window c.args.net.now c.args.root c.args.partner c.args.count c.loop-taken.taken.items w c.loop-taken.invariant.are
    (omega (arith, c.loop-taken.invariant.count, c.loop-taken-test.true))
    (subst (λ (xs : List ℕ). (p : ℕ) → IsGrowthCandidate c.args.net.now c.args.root c.args.partner xs p → ⊥) c.deref.ensures.value c.in_default.ensures.none)

pub loop-taken-preserved : goal.loop-taken-preserved
loop-taken-preserved c = record {
  are = one_more c.args.net.now c.args.root c.args.partner c.loop-taken.taken.items c.insert.new.self.items c.in-Some.node c.in_ok-insert.ensures.items c.loop-taken.invariant.are
      (subst (λ (xs : List ℕ). IsGreatestCandidate c.args.net.now c.args.root c.args.partner xs c.in-Some.node) c.deref.ensures.value c.in-Some.ensures.some);
  count = ap (length {A = ℕ}) c.in_ok-insert.ensures.items ∙ omega (arith, c.loop-taken.invariant.count);
}
