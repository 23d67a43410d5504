-- What each branch of the refutation rules out.
use Rattle.std.proofs.Common.{rules, ◌≡◌, ℕ, ◌+◌, ◌-◌, ◌*◌, ◌≤◌, true, false, length, refl, arith, sym, ap, ◌∙◌, subst}
use Rattle.std.proofs.lemmas.Bool.{both_ways}
use Rattle.op_basis.specs.Basis.{members}
use Rattle.chain_theory.specs.Operator.{digit}
use Rattle.chain_theory.specs.Chain.{IsStepAt}
use Rattle.chain_core.specs.Steps.{step_of}
use Rattle.step_core.specs.StepStacks.{StackView}
use Rattle.step_core.specs.Enumeration.{NoneWith, HasLarger, HasPair, HasOperands, IsGivenStep}
use Rattle.step_core.specs.Reads.{NoneReadingWith}
use Rattle.step_core.specs.DeterminedLaws.{none_in_conflict}
use Rattle.step_core.specs.RefutingLaws.{NoneAfter, NoneOwn, refuted_by, passed_over, passed_on, moved_open, moved_refuting, moved_after, same_places, pushed_after, after_refuting, popped_back, by_count, by_due, opened, case_done, own_done, given_done, step_done, by_rule, larger_unread, smaller_unread, by_larger, by_pair, by_order, by_equal, by_rising, by_operator, all_more}
use Rattle.step_core.proofs.refuting.+refuting.Goals as goal

-- ---- a state

pub refute-returns-then-count-most : goal.refute-returns-then-count-most
refute-returns-then-count-most t c = refuted_by c.args.stack.now c.args.stack.now _ refl
    (by_count c.args.spec.now (members c.args.rules.now.basis) c.args.stack.now c.args.left c.args.due c.args.missing
    c.args.reads (c.n.result + c.len.result) c.count-2.result c.outputs.result (c.args.left + c.count.result)
    c.requires (omega (arith, c.n.ensures.inputs, c.len.ensures.count)) c.count-2.ensures.count c.outputs.ensures
    (ap (λ x. c.args.left + x) c.count.ensures.count) c.if-count-most.true)

pub refute-returns-then-due-left : goal.refute-returns-then-due-left
refute-returns-then-due-left t c = refuted_by c.args.stack.now c.args.stack.now _ refl
    (by_due c.args.spec.now (members c.args.rules.now.basis) c.args.stack.now c.args.left c.args.due c.args.missing
    c.args.reads c.requires c.if-due-left.true)

pub refute-returns-then-not-are_determined : goal.refute-returns-then-not-are_determined
refute-returns-then-not-are_determined t c = refuted_by c.args.stack.now c.args.stack.now _ refl
    (none_in_conflict c.args.spec.now (members c.args.rules.now.basis) c.args.stack.now.steps c.args.left
    (digit c.args.reads) (c.are_determined.ensures c.if-not-are_determined.true))

pub refute-returns-then-not-may_share : goal.refute-returns-then-not-may_share
refute-returns-then-not-may_share t c = refuted_by c.args.stack.now c.args.stack.now _ refl
    (c.may_share.ensures c.if-not-may_share.true (members c.args.rules.now.basis))

pub refute-refute_steps-requires : goal.refute-refute_steps-requires
refute-refute_steps-requires t c =
    let at : 9 * c.args.left ≡ t = c.decreases in
    let some : 1 ≤ c.args.left = omega (arith, c.if-left-eq0.false) in
    (omega (arith, at, some), opened c.args.spec.now c.args.stack.now c.args.left c.args.due c.args.missing c.requires some)

-- ---- next steps

pub refute_steps-loop-before-preserved-then-not-has : goal.refute_steps-loop-before-preserved-then-not-has
refute_steps-loop-before-preserved-then-not-has t c = all_more _ c.loop-before.before c.args.stack.now
    c.loop-before.stack c.loop-before.stack c.loop-before.invariant refl
    (larger_unread c.args.spec.now (members c.args.rules.now.basis) c.args.stack.now.steps c.args.left
    c.loop-before.before c.args.reads c.has.result
    (omega (arith, c.loop-before-test.true, c.n.ensures.inputs, c.len.ensures.count, c.requires.going.inputs)) c.has.ensures c.if-not-has.true)

pub refute_steps-refute_larger-requires : goal.refute_steps-refute_larger-requires
refute_steps-refute_larger-requires t c =
    let at : 9 * c.args.left - 1 ≡ t = c.decreases in
    let same = c.loop-before.invariant.same in
    (omega (arith, at, c.requires.going.some), (moved_open c.args.spec.now c.args.stack.now c.loop-before.stack c.args.left c.args.due same c.requires.going, omega (arith, same_places c.args.stack.now c.loop-before.stack same, c.loop-before-test.true, c.n.ensures.inputs, c.len.ensures.count)))

pub refute_steps-loop-before-preserved : goal.refute_steps-loop-before-preserved
refute_steps-loop-before-preserved t c =
    let is = c.in_ok-refute_larger.ensures in
    all_more _ c.loop-before.before c.args.stack.now c.loop-before.stack c.refute_larger.new.stack
    c.loop-before.invariant (is.same c.if-not-branch.false)
    (subst (λ (x : StackView). NoneReadingWith c.args.spec.now (members c.args.rules.now.basis) x.steps c.args.left
    (digit c.args.reads) (HasLarger (c.loop-before.before + 1))) c.loop-before.invariant.same (is.none c.if-not-branch.false))

pub refute_steps-returns : goal.refute_steps-returns
refute_steps-returns t c =
    let end : c.loop-before.before ≡ c.args.stack.now.n + length c.args.stack.now.steps =
    omega (arith, c.loop-before-test.false, c.loop-before.auto.before-end, c.n.ensures.inputs, c.len.ensures.count) in
    refuted_by c.args.stack.now c.loop-before.stack _ c.loop-before.invariant.same
    (by_larger c.args.spec.now (members c.args.rules.now.basis) c.args.stack.now.steps c.args.left (digit c.args.reads) c.requires.going.some
    (λ m low. c.loop-before.invariant.none.each m (omega (arith, low, end, c.requires.going.inputs))))

pub refute_larger-loop-before-preserved-then-not-has : goal.refute_larger-loop-before-preserved-then-not-has
refute_larger-loop-before-preserved-then-not-has t c = all_more _ c.loop-before.before c.args.stack.now
    c.loop-before.stack c.loop-before.stack c.loop-before.invariant refl
    (smaller_unread c.args.spec.now (members c.args.rules.now.basis) c.args.stack.now.steps c.args.left
    c.loop-before.before c.args.high c.args.reads c.has.result
    (omega (arith, c.loop-before-test.true, c.requires.high, c.requires.going.inputs)) c.has.ensures c.if-not-has.true)

pub refute_larger-refute_pair-requires : goal.refute_larger-refute_pair-requires
refute_larger-refute_pair-requires t c =
    let at : 9 * c.args.left - 2 ≡ t = c.decreases in
    let same = c.loop-before.invariant.same in
    (omega (arith, at, c.requires.going.some), (moved_open c.args.spec.now c.args.stack.now c.loop-before.stack c.args.left c.args.due same c.requires.going, (omega arith, (omega (arith, c.loop-before-test.true), omega (arith, same_places c.args.stack.now c.loop-before.stack same, c.requires.high)))))

pub refute_larger-loop-before-preserved : goal.refute_larger-loop-before-preserved
refute_larger-loop-before-preserved t c =
    let is = c.in_ok-refute_pair.ensures in
    all_more _ c.loop-before.before c.args.stack.now c.loop-before.stack c.refute_pair.new.stack
    c.loop-before.invariant (is.same c.if-not-branch.false)
    (subst (λ (x : StackView). NoneReadingWith c.args.spec.now (members c.args.rules.now.basis) x.steps c.args.left
    (digit c.args.reads) (HasPair (c.loop-before.before + 1) c.args.high)) c.loop-before.invariant.same (is.none c.if-not-branch.false))

pub refute_larger-returns : goal.refute_larger-returns
refute_larger-returns t c =
    let end : c.loop-before.before ≡ c.args.high = omega (arith, c.loop-before-test.false, c.loop-before.auto.before-end) in
    refuted_by c.args.stack.now c.loop-before.stack _ c.loop-before.invariant.same
    (by_pair c.args.spec.now (members c.args.rules.now.basis) c.args.stack.now.steps c.args.left c.args.high (digit c.args.reads)
    (λ m low. c.loop-before.invariant.none.each m (omega (arith, low, end))))

-- ---- a pair

pub refute_pair-returns-then-not-may_follow : goal.refute_pair-returns-then-not-may_follow
refute_pair-returns-then-not-may_follow t c = refuted_by c.args.stack.now c.args.stack.now _ refl
    (by_rule c.args.spec.now (members c.args.rules.now.basis) c.args.stack.now.steps c.args.left (digit c.args.reads)
    (HasPair c.args.low c.args.high)
    (c.may_follow.ensures c.if-not-may_follow.true c.args.spec.now (members c.args.rules.now.basis) c.args.left))

pub refute_pair-refute_operators-requires : goal.refute_pair-refute_operators-requires
refute_pair-refute_operators-requires t c =
    let at : 9 * c.args.left - 3 ≡ t = c.decreases in
    (omega (arith, at, c.requires.going.some), (c.requires.going, (c.requires.low_from, (omega (arith, c.requires.low, c.requires.high), (omega (arith, c.requires.low_from, c.requires.low), c.requires.high)))))

pub refute_pair-returns-then-low-high : goal.refute_pair-returns-then-low-high
refute_pair-returns-then-low-high t c =
    let is = c.in_ok-refute_operators.ensures in
    refuted_by c.args.stack.now c.refute_operators.new.stack _ (is.same c.if-not-branch.false)
    (by_equal c.args.spec.now (members c.args.rules.now.basis) c.args.stack.now.steps c.args.left c.args.low
    c.args.high (digit c.args.reads) c.if-low-high.true (is.none c.if-not-branch.false))

pub refute_pair-returns-then-orders_operands : goal.refute_pair-returns-then-orders_operands
refute_pair-returns-then-orders_operands t c =
    let is = c.in_ok-refute_operators.ensures in
    refuted_by c.args.stack.now c.refute_operators.new.stack _ (is.same c.if-not-branch.false)
    (by_rising c.args.spec.now (members c.args.rules.now.basis) c.args.stack.now.steps c.args.left c.args.low
    c.args.high (digit c.args.reads) c.orders_operands.result c.requires.low (λ e. omega (arith, e, c.if-low-high.false)) c.orders_operands.ensures
    c.if-orders_operands.true (is.none c.if-not-branch.false))

pub refute_pair-refute_operators-requires-2 : goal.refute_pair-refute_operators-requires-2
refute_pair-refute_operators-requires-2 t c =
    let at : 9 * c.args.left - 3 ≡ t = c.decreases in
    let same = c.in_ok-refute_operators.ensures.same c.if-not-branch.false in
    let places = same_places c.args.stack.now c.refute_operators.new.stack same in
    (omega (arith, at, c.requires.going.some), (moved_open c.args.spec.now c.args.stack.now c.refute_operators.new.stack c.args.left c.args.due same c.requires.going, (omega (arith, c.requires.low_from, c.requires.low), (omega (arith, places, c.requires.high), (c.requires.low_from, omega (arith, places, c.requires.low, c.requires.high))))))

pub refute_pair-returns : goal.refute_pair-returns
refute_pair-returns t c =
    let is = c.in_ok-refute_operators.ensures in
    passed_over c.args.stack.now c.refute_operators.new.stack _ (λ x. NoneReadingWith c.args.spec.now (members c.args.rules.now.basis) x.steps c.args.left (digit c.args.reads) (HasOperands c.args.high c.args.low)) _ _
    (is.same c.if-not-branch.false) c.in_ok-refuted.ensures
    (by_order c.args.spec.now (members c.args.rules.now.basis) c.args.stack.now.steps c.args.left c.args.low c.args.high
    (digit c.args.reads) (is.none c.if-not-branch.false))

-- ---- operators

pub refute_operators-loop-word-preserved-then-not-contains : goal.refute_operators-loop-word-preserved-then-not-contains
refute_operators-loop-word-preserved-then-not-contains t c = all_more _ c.loop-word.word c.args.stack.now
    c.loop-word.stack c.loop-word.stack c.loop-word.invariant refl
    (λ member. absurd (both_ways (members c.args.rules.now.basis c.loop-word.word) (ap (members c.args.rules.now.basis) (sym c.new-op.ensures) ∙ sym c.contains.ensures ∙ c.if-not-contains.true) member))

pub refute_operators-loop-word-preserved-then-not-is_nontrivial : goal.refute_operators-loop-word-preserved-then-not-is_nontrivial
refute_operators-loop-word-preserved-then-not-is_nontrivial t c = all_more _ c.loop-word.word c.args.stack.now
    c.loop-word.stack c.loop-word.stack c.loop-word.invariant refl
    (λ member. by_rule c.args.spec.now (members c.args.rules.now.basis) c.args.stack.now.steps c.args.left
    (digit c.args.reads) (IsGivenStep (record { j = c.args.j; k = c.args.k; op = c.loop-word.word }))
    (subst (λ (x : ℕ). NoneWith c.args.spec.now (members c.args.rules.now.basis) c.args.stack.now.steps c.args.left
    (IsGivenStep (record { j = c.args.j; k = c.args.k; op = x }))) c.new-op.ensures
    (c.is_nontrivial.ensures c.if-not-is_nontrivial.true c.args.spec.now c.args.stack.now.steps c.args.left)))

pub refute_operators-refute_step-requires : goal.refute_operators-refute_step-requires
refute_operators-refute_step-requires t c =
    let at : 9 * c.args.left - 4 ≡ t = c.decreases in
    let same = c.loop-word.invariant.same in
    let places = same_places c.args.stack.now c.loop-word.stack same in
    let place : IsStepAt (c.loop-word.stack.n + 1 + length c.loop-word.stack.steps) (step_of record { j = c.args.j; k = c.args.k; op = c.new-op.result }) = record {
      j_from = c.requires.j_from;
      j_below = omega (arith, places, c.requires.j);
      k_from = c.requires.k_from;
      k_below = omega (arith, places, c.requires.k);
      op_below = omega (arith, c.new-op.ensures, c.loop-word-test.true);
    } in
    (omega (arith, at, c.requires.going.some), (moved_open c.args.spec.now c.args.stack.now c.loop-word.stack c.args.left c.args.due same c.requires.going, place))

pub refute_operators-loop-word-preserved : goal.refute_operators-loop-word-preserved
refute_operators-loop-word-preserved t c =
    let is = c.in_ok-refute_step.ensures in
    all_more _ c.loop-word.word c.args.stack.now c.loop-word.stack c.refute_step.new.stack
    c.loop-word.invariant (is.same c.if-not-branch.false)
    (λ member. subst (λ (x : ℕ). NoneReadingWith c.args.spec.now (members c.args.rules.now.basis) c.args.stack.now.steps c.args.left
    (digit c.args.reads) (IsGivenStep (record { j = c.args.j; k = c.args.k; op = x }))) c.new-op.ensures
    (subst (λ (x : StackView). NoneReadingWith c.args.spec.now (members c.args.rules.now.basis) x.steps c.args.left
    (digit c.args.reads) (IsGivenStep (record { j = c.args.j; k = c.args.k; op = c.new-op.result }))) c.loop-word.invariant.same (is.none c.if-not-branch.false)))

pub refute_operators-returns : goal.refute_operators-returns
refute_operators-returns t c =
    let end : c.loop-word.word ≡ 16 = omega (arith, c.loop-word-test.false, c.loop-word.auto.word-end) in
    refuted_by c.args.stack.now c.loop-word.stack _ c.loop-word.invariant.same
    (by_operator c.args.spec.now (members c.args.rules.now.basis) c.args.stack.now.steps c.args.left c.args.j c.args.k (digit c.args.reads)
    (λ op low member. c.loop-word.invariant.none.each op (omega (arith, low, end)) member))

-- ---- a step

pub refute_step-returns-then-not-may_come : goal.refute_step-returns-then-not-may_come
refute_step-returns-then-not-may_come t c = refuted_by c.args.stack.now c.args.stack.now _ refl
    (by_rule c.args.spec.now (members c.args.rules.now.basis) c.args.stack.now.steps c.args.left (digit c.args.reads)
    (IsGivenStep (step_of c.args.step)) (c.may_come.ensures c.if-not-may_come.true))

pub refute_step-refute_after-requires : goal.refute_step-refute_after-requires
refute_step-refute_after-requires t c =
    let at : 9 * c.args.left - 5 ≡ t = c.decreases in
    (omega (arith, at, c.requires.going.some), pushed_after c.args.spec.now c.args.stack.now c.push.new.self (step_of c.args.step) c.args.left (c.args.left - 1) c.args.due c.in_ok-push.ensures.inputs c.in_ok-push.ensures.steps refl c.requires.going c.requires.at)

pub refute_step-returns : goal.refute_step-returns
refute_step-returns t c =
    let is = c.in_ok-refute_after.ensures in
    refuted_by c.args.stack.now c.pop.new.self _
    (popped_back c.args.stack.now c.push.new.self c.refute_after.new.stack c.pop.new.self (step_of c.args.step) c.in_ok-push.ensures.inputs c.in_ok-push.ensures.steps (is.same c.if-not-branch.false) c.pop.ensures.inputs c.pop.ensures.steps)
    (step_done c.args.spec.now (members c.args.rules.now.basis) c.args.stack.now c.push.new.self (step_of c.args.step) c.args.left (c.args.left - 1) c.on_words-word.result (digit c.args.reads) c.gives_some-gives.result c.in_ok-push.ensures.steps refl c.requires.going.inputs (search rules) c.gives_some-gives.ensures (is.none c.if-not-branch.false))

-- ---- the cases

pub refute_after-refute_own-requires : goal.refute_after-refute_own-requires
refute_after-refute_own-requires t c =
    let at : 9 * c.args.left + 3 ≡ t = c.decreases in
    (omega (arith, at), (after_refuting c.args.spec.now c.args.stack.now c.args.left c.args.j c.args.k c.due-due.result c.missing_outputs-missing.result c.requires c.due-due.ensures c.missing_outputs-missing.ensures, c.requires))

pub refute_after-returns-then-not-gives : goal.refute_after-returns-then-not-gives
refute_after-returns-then-not-gives t c =
    let is = c.in_ok-refute_own.ensures in
    refuted_by c.args.stack.now c.refute_own.new.stack _ (is.same c.if-not-branch.false)
    (given_done c.args.spec.now (members c.args.rules.now.basis) c.args.stack.now.steps c.args.left (digit c.args.reads) c.args.j c.args.k c.args.gives
    (λ e. absurd (both_ways c.args.gives c.if-not-gives.true e)) (is.none c.if-not-branch.false))

pub refute_after-refute_own-requires-2 : goal.refute_after-refute_own-requires-2
refute_after-refute_own-requires-2 t c =
    let at : 9 * c.args.left + 3 ≡ t = c.decreases in
    let same = c.in_ok-refute_own.ensures.same c.if-not-branch.false in
    let first = after_refuting c.args.spec.now c.args.stack.now c.args.left c.args.j c.args.k c.due-due.result c.missing_outputs-missing.result c.requires c.due-due.ensures c.missing_outputs-missing.ensures in
    (omega (arith, at), (moved_refuting c.args.spec.now c.args.stack.now c.refute_own.new.stack c.args.left c.due-due.result c.missing_outputs-missing.result same first, moved_after c.args.spec.now c.args.stack.now c.refute_own.new.stack c.args.left c.args.j c.args.k same c.requires))

pub refute_after-returns : goal.refute_after-returns
refute_after-returns t c =
    let is = c.in_ok-refute_own.ensures in
    passed_over c.args.stack.now c.refute_own.new.stack _ (λ x. NoneOwn c.args.spec.now (members c.args.rules.now.basis) x.steps c.args.left (digit c.args.reads) c.args.j c.args.k false) _ _
    (is.same c.if-not-branch.false) c.in_ok-refuted.ensures
    (λ unread. given_done c.args.spec.now (members c.args.rules.now.basis) c.args.stack.now.steps c.args.left (digit c.args.reads) c.args.j c.args.k c.args.gives
    (λ e. unread) (is.none c.if-not-branch.false))

pub refute_own-refute_case-requires : goal.refute_own-refute_case-requires
refute_own-refute_case-requires t c =
    let at : 9 * c.args.left + 2 ≡ t = c.decreases in
    (omega (arith, at), (c.requires.refuting, c.requires.after))

pub refute_own-refute_case-requires-2 : goal.refute_own-refute_case-requires-2
refute_own-refute_case-requires-2 t c =
    let at : 9 * c.args.left + 2 ≡ t = c.decreases in
    let same = c.in_ok-refute_case.ensures.same c.if-not-branch.false in
    (omega (arith, at), (moved_refuting c.args.spec.now c.args.stack.now c.refute_case.new.stack c.args.left c.args.due c.args.missing same c.requires.refuting, moved_after c.args.spec.now c.args.stack.now c.refute_case.new.stack c.args.left c.args.j c.args.k same c.requires.after))

pub refute_own-refute_case-requires-3 : goal.refute_own-refute_case-requires-3
refute_own-refute_case-requires-3 t c =
    let at : 9 * c.args.left + 2 ≡ t = c.decreases in
    let same = c.in_ok-refute_case-2.ensures.same c.if-not-branch-2.false ∙ c.in_ok-refute_case.ensures.same c.if-not-branch.false in
    (omega (arith, at), (moved_refuting c.args.spec.now c.args.stack.now c.refute_case-2.new.stack c.args.left c.args.due c.args.missing same c.requires.refuting, moved_after c.args.spec.now c.args.stack.now c.refute_case-2.new.stack c.args.left c.args.j c.args.k same c.requires.after))

pub refute_own-refute_case-requires-4 : goal.refute_own-refute_case-requires-4
refute_own-refute_case-requires-4 t c =
    let at : 9 * c.args.left + 2 ≡ t = c.decreases in
    let same = c.in_ok-refute_case-3.ensures.same c.if-not-branch-3.false ∙ c.in_ok-refute_case-2.ensures.same c.if-not-branch-2.false ∙ c.in_ok-refute_case.ensures.same c.if-not-branch.false in
    (omega (arith, at), (moved_refuting c.args.spec.now c.args.stack.now c.refute_case-3.new.stack c.args.left c.args.due c.args.missing same c.requires.refuting, moved_after c.args.spec.now c.args.stack.now c.refute_case-3.new.stack c.args.left c.args.j c.args.k same c.requires.after))

pub refute_own-returns : goal.refute_own-returns
refute_own-returns t c =
    let one = c.in_ok-refute_case.ensures in
    let two = c.in_ok-refute_case-2.ensures in
    let three = c.in_ok-refute_case-3.ensures in
    let first = one.same c.if-not-branch.false in
    let second = two.same c.if-not-branch-2.false ∙ first in
    passed_over c.args.stack.now c.refute_case-3.new.stack _ (λ x. NoneAfter c.args.spec.now (members c.args.rules.now.basis) x.steps c.args.left (digit c.args.reads) c.args.j c.args.k true true c.args.own) _ _
    (three.same c.if-not-branch-3.false ∙ second) c.in_ok-refuted.ensures
    (own_done c.args.spec.now (members c.args.rules.now.basis) c.args.stack.now.steps c.args.left (digit c.args.reads) c.args.j c.args.k c.args.own
    (one.none c.if-not-branch.false)
    (subst (λ (x : StackView). NoneAfter c.args.spec.now (members c.args.rules.now.basis) x.steps c.args.left (digit c.args.reads) c.args.j c.args.k false true c.args.own) first (two.none c.if-not-branch-2.false))
    (subst (λ (x : StackView). NoneAfter c.args.spec.now (members c.args.rules.now.basis) x.steps c.args.left (digit c.args.reads) c.args.j c.args.k true false c.args.own) second (three.none c.if-not-branch-3.false)))

pub refute_case-overflow_sub-j : goal.refute_case-overflow_sub-j
refute_case-overflow_sub-j t c = omega (arith, c.requires.after.first_from)

pub refute_case-overflow_sub-k : goal.refute_case-overflow_sub-k
refute_case-overflow_sub-k t c = omega (arith, c.requires.after.second_from)

pub refute_case-refute-requires : goal.refute_case-refute-requires
refute_case-refute-requires t c =
    let at : 9 * c.args.left + 1 ≡ t = c.decreases in
    (omega (arith, at), c.requires.refuting)

pub refute_case-returns : goal.refute_case-returns
refute_case-returns t c = passed_on _ _ _ _ _
    (case_done c.args.spec.now (members c.args.rules.now.basis) c.args.stack.now.steps c.args.left c.args.reads
    c.put-one.result c.put-two.result c.put-all.result c.args.j c.args.k c.args.stack.now.n (c.n.result + c.len.result)
    c.args.first c.args.second c.args.own c.requires.refuting.inputs
    (omega (arith, c.n.ensures.inputs, c.len.ensures.count)) c.put-one.ensures c.put-two.ensures c.put-all.ensures)
    c.in_ok-refuted.ensures
