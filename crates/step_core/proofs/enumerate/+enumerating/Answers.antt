-- What each branch of the enumeration rules out.
use Rattle.std.proofs.Common.{◌≡◌, ◌+◌, ◌-◌, ◌*◌, ◌<◌, length, refl, arith, sym, ap, ◌∙◌}
use Rattle.op_basis.specs.Basis.{members}
use Rattle.chain_theory.specs.Chain.{IsStepAt}
use Rattle.chain_core.specs.Steps.{step_of}
use Rattle.step_core.specs.Pruning.{due}
use Rattle.step_core.specs.Waits.{waiting}
use Rattle.step_core.specs.StepStacks.{StackView}
use Rattle.step_core.specs.Enumeration.{NoneFrom, NoneWith, HasLarger, HasPair, HasOperands}
use Rattle.step_core.specs.OutcomeLaws.{all_placed, under_next, found_on, none_there, by_larger, by_pair, by_order, by_operator}
use Rattle.step_core.specs.PruningLaws.{too_few}
use Rattle.step_core.specs.WaitLaws.{too_many}
use Rattle.step_core.specs.NormalFormLaws.{must_rise}
use Rattle.step_core.proofs.enumerate.+enumerating.Goals as goal

pub enumerate-returns-then-left-eq0 : goal.enumerate-returns-then-left-eq0
enumerate-returns-then-left-eq0 t c = all_placed c.args.spec.now
    (members c.args.rules.now.basis) c.args.rules.now.whole c.args.left c.args.stack.now c.ends.new.stack c.ends.result
    c.n.ensures.whole c.requires.enumerating c.if-left-eq0.true c.ends.ensures.same c.ends.ensures.meets_all
    c.ends.ensures.none

pub enumerate-enumerate_larger-requires : goal.enumerate-enumerate_larger-requires
enumerate-enumerate_larger-requires t c =
    let at : 5 * c.args.left ≡ t = c.decreases in
    let less : 5 * c.args.left - 1 < t = omega (arith, at, c.if-left-eq0.false) in
    let same : c.loop-before.stack.n + length c.loop-before.stack.steps ≡
    c.args.stack.now.n + length c.args.stack.now.steps =
    ap (λ (x : StackView). x.n + length x.steps) c.loop-before.invariant.same in
    let count : c.due-due.result ≡ due c.args.spec.now c.loop-before.stack.steps = c.due-due.ensures ∙ ap (λ (x : StackView). due c.args.spec.now x.steps) (sym c.loop-before.invariant.same) in
    let wait : c.waiting-waiting.result ≡ waiting c.args.spec.now c.loop-before.stack.steps =
    c.waiting-waiting.ensures ∙ ap (λ (x : StackView). waiting c.args.spec.now x.steps)
    (sym c.loop-before.invariant.same) in
    (less, (c.loop-before.invariant.enumerating, (omega (arith, c.if-left-eq0.false), (count, (wait, omega (arith, same, c.loop-before-test.true, c.n.ensures.inputs, c.len.ensures.count))))))

pub enumerate-returns-then-branch : goal.enumerate-returns-then-branch
enumerate-returns-then-branch t c = found_on c.args.spec.now (members c.args.rules.now.basis) c.args.rules.now.whole
    c.args.left c.args.stack.now c.loop-before.stack c.enumerate_larger.new.stack
    (NoneWith c.args.spec.now (members c.args.rules.now.basis) c.loop-before.stack.steps c.args.left
    (HasLarger (c.loop-before.before + 1))) (NoneFrom c.args.spec.now
    (members c.args.rules.now.basis) c.args.stack.now.steps c.args.left) c.in_ok-enumerate_larger.field-0
    c.loop-before.invariant.same c.in_ok-enumerate_larger.ensures c.if-branch.true

pub enumerate-returns : goal.enumerate-returns
enumerate-returns t c =
    let end : c.loop-before.before ≡ c.args.stack.now.n + length c.args.stack.now.steps =
    omega (arith, c.loop-before-test.false, c.loop-before.auto.before-end, c.n.ensures.inputs, c.len.ensures.count) in
    none_there c.args.spec.now (members c.args.rules.now.basis) c.args.rules.now.whole c.args.left c.args.stack.now
    c.loop-before.stack (NoneFrom c.args.spec.now (members c.args.rules.now.basis) c.args.stack.now.steps
    c.args.left) c.loop-before.invariant.same
    (λ sure. by_larger c.args.spec.now (members c.args.rules.now.basis) c.args.stack.now c.args.left (omega (arith, c.if-left-eq0.false)) c.requires.enumerating.inputs
    (λ m from to. (c.loop-before.invariant.none sure).each m from (omega (arith, to, end))))

pub enumerate_larger-enumerate_pair-requires : goal.enumerate_larger-enumerate_pair-requires
enumerate_larger-enumerate_pair-requires t c =
    let at : 5 * c.args.left - 1 ≡ t = c.decreases in
    let less : 5 * c.args.left - 2 < t = omega (arith, at, c.requires.some) in
    let same : c.loop-before.stack.n + length c.loop-before.stack.steps ≡
    c.args.stack.now.n + length c.args.stack.now.steps =
    ap (λ (x : StackView). x.n + length x.steps) c.loop-before.invariant.same in
    let count : c.args.due ≡ due c.args.spec.now c.loop-before.stack.steps = c.requires.due ∙ ap (λ (x : StackView). due c.args.spec.now x.steps) (sym c.loop-before.invariant.same) in
    let wait : c.args.waiting ≡ waiting c.args.spec.now c.loop-before.stack.steps = c.requires.waiting ∙ ap (λ (x : StackView). waiting c.args.spec.now x.steps) (sym c.loop-before.invariant.same) in
    (less, (c.loop-before.invariant.enumerating, (c.requires.some, (count, (wait, (omega arith, (omega (arith, c.loop-before-test.true), omega (arith, same, c.requires.high))))))))

pub enumerate_larger-returns-then-branch : goal.enumerate_larger-returns-then-branch
enumerate_larger-returns-then-branch t c = found_on c.args.spec.now
    (members c.args.rules.now.basis) c.args.rules.now.whole c.args.left c.args.stack.now c.loop-before.stack
    c.enumerate_pair.new.stack (NoneWith c.args.spec.now (members c.args.rules.now.basis) c.loop-before.stack.steps
    c.args.left (HasPair (c.loop-before.before + 1) c.args.high))
    (NoneWith c.args.spec.now (members c.args.rules.now.basis) c.args.stack.now.steps c.args.left
    (HasLarger c.args.high)) c.in_ok-enumerate_pair.field-0 c.loop-before.invariant.same c.in_ok-enumerate_pair.ensures
    c.if-branch.true

pub enumerate_larger-returns : goal.enumerate_larger-returns
enumerate_larger-returns t c =
    let end : c.loop-before.before ≡ c.args.high = omega (arith, c.loop-before-test.false, c.loop-before.auto.before-end) in
    none_there c.args.spec.now (members c.args.rules.now.basis) c.args.rules.now.whole c.args.left c.args.stack.now
    c.loop-before.stack (NoneWith c.args.spec.now (members c.args.rules.now.basis) c.args.stack.now.steps c.args.left
    (HasLarger c.args.high)) c.loop-before.invariant.same
    (λ sure. by_pair c.args.spec.now (members c.args.rules.now.basis) c.args.stack.now c.args.left c.args.high
    (λ m from to. (c.loop-before.invariant.none sure).each m from (omega (arith, to, end))))

pub enumerate_operators-enumerate_step-requires : goal.enumerate_operators-enumerate_step-requires
enumerate_operators-enumerate_step-requires t c =
    let at : 5 * c.args.left - 3 ≡ t = c.decreases in
    let less : 5 * c.args.left - 4 < t = omega (arith, at, c.requires.some) in
    let same : c.loop-word.stack.n + length c.loop-word.stack.steps ≡ c.args.stack.now.n + length c.args.stack.now.steps = ap (λ (x : StackView). x.n + length x.steps) c.loop-word.invariant.same in
    let place : IsStepAt (c.loop-word.stack.n + 1 + length c.loop-word.stack.steps) (step_of record {
      j = c.args.j;
      k = c.args.k;
      op = c.new-op.result;
    }) = record {
      j_from = c.requires.j_from;
      j_below = omega (arith, same, c.requires.j);
      k_from = c.requires.k_from;
      k_below =
          omega (arith, same, c.requires.k);
      op_below = omega (arith, c.new-op.ensures, c.loop-word-test.true);
    } in
    let count : c.args.due ≡ due c.args.spec.now c.loop-word.stack.steps = c.requires.due ∙ ap (λ (x : StackView). due c.args.spec.now x.steps) (sym c.loop-word.invariant.same) in
    (less, (c.loop-word.invariant.enumerating, (c.requires.some, (count, (sym c.if-not-contains.ensures, place)))))

pub enumerate_operators-returns-then-branch : goal.enumerate_operators-returns-then-branch
enumerate_operators-returns-then-branch t c = found_on c.args.spec.now
    (members c.args.rules.now.basis) c.args.rules.now.whole c.args.left c.args.stack.now c.loop-word.stack
    c.enumerate_step.new.stack _ (NoneWith c.args.spec.now (members c.args.rules.now.basis) c.args.stack.now.steps
    c.args.left (HasOperands c.args.j c.args.k)) c.in_ok-enumerate_step.field-0 c.loop-word.invariant.same
    c.in_ok-enumerate_step.ensures c.if-branch.true

pub enumerate_operators-returns : goal.enumerate_operators-returns
enumerate_operators-returns t c =
    let end : c.loop-word.word ≡ 16 = omega (arith, c.loop-word-test.false, c.loop-word.auto.word-end) in
    none_there c.args.spec.now (members c.args.rules.now.basis) c.args.rules.now.whole c.args.left c.args.stack.now
    c.loop-word.stack (NoneWith c.args.spec.now (members c.args.rules.now.basis) c.args.stack.now.steps c.args.left
    (HasOperands c.args.j c.args.k)) c.loop-word.invariant.same
    (λ sure. by_operator c.args.spec.now (members c.args.rules.now.basis) c.args.stack.now c.args.left c.args.j c.args.k
    (λ op low member. (c.loop-word.invariant.none sure).each op (omega (arith, low, end)) member))

pub enumerate-returns-then-due-left : goal.enumerate-returns-then-due-left
enumerate-returns-then-due-left t c =
    none_there c.args.spec.now (members c.args.rules.now.basis) c.args.rules.now.whole c.args.left c.args.stack.now
    c.args.stack.now (NoneFrom c.args.spec.now (members c.args.rules.now.basis) c.args.stack.now.steps c.args.left)
    refl
    (λ sure. too_few c.args.spec.now (members c.args.rules.now.basis) c.args.stack.now.steps c.args.left (omega (arith, c.if-due-left.true, c.due-due.ensures)))

pub enumerate-returns-then-waiting-most : goal.enumerate-returns-then-waiting-most
enumerate-returns-then-waiting-most t c =
    none_there c.args.spec.now (members c.args.rules.now.basis) c.args.rules.now.whole c.args.left c.args.stack.now
    c.args.stack.now (NoneFrom c.args.spec.now (members c.args.rules.now.basis) c.args.stack.now.steps c.args.left)
    refl
    (λ sure. too_many c.args.spec.now (members c.args.rules.now.basis) c.args.stack.now.steps c.args.left c.n-inputs.ensures.whole (omega (arith, c.if-waiting-most.true, c.waiting-waiting.ensures)))

pub enumerate_pair-returns-then-orders_operands : goal.enumerate_pair-returns-then-orders_operands
enumerate_pair-returns-then-orders_operands t c =
    let rising = c.in_ok-enumerate_operators.ensures in
    none_there c.args.spec.now (members c.args.rules.now.basis) c.args.rules.now.whole c.args.left c.args.stack.now
    c.enumerate_operators.new.stack (NoneWith c.args.spec.now (members c.args.rules.now.basis) c.args.stack.now.steps
    c.args.left (HasPair c.args.low c.args.high)) (rising.same c.if-branch.false)
    (λ sure. by_order c.args.spec.now (members c.args.rules.now.basis) c.args.stack.now c.args.left c.args.low c.args.high (rising.none c.if-branch.false sure)
    (must_rise c.args.spec.now (members c.args.rules.now.basis) c.args.stack.now.steps c.args.left c.args.low
    c.args.high (sym c.orders_operands.ensures
    ∙ c.if-orders_operands.true) (omega (arith, c.requires.low, c.if-low-high.false))))

pub enumerate-loop-before-preserved : goal.enumerate-loop-before-preserved
enumerate-loop-before-preserved t c = under_next c.args.spec.now
    (members c.args.rules.now.basis) c.args.rules.now.whole c.args.left c.loop-before.before c.args.stack.now
    c.loop-before.stack c.enumerate_larger.new.stack HasLarger c.in_ok-enumerate_larger.field-0 c.loop-before.invariant
    c.in_ok-enumerate_larger.ensures c.if-branch.false

pub enumerate_larger-loop-before-preserved : goal.enumerate_larger-loop-before-preserved
enumerate_larger-loop-before-preserved t c = under_next c.args.spec.now
    (members c.args.rules.now.basis) c.args.rules.now.whole c.args.left c.loop-before.before c.args.stack.now
    c.loop-before.stack c.enumerate_pair.new.stack (λ m. HasPair m c.args.high) c.in_ok-enumerate_pair.field-0
    c.loop-before.invariant c.in_ok-enumerate_pair.ensures c.if-branch.false
