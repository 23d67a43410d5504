-- An output is live where neither a constant nor an input has its values.
use Rattle.std.proofs.Common.{◌≡◌, ◌∙◌, ℕ, ◌+◌, ◌-◌, ◌≤◌, true, sym, ap, subst, arith}
use Rattle.chain_theory.specs.Operator.{digit}
use Rattle.chain_theory.specs.declared.data.Out.TheVariants as outs
use Rattle.op_basis.specs.WordOperator.{input_word}
use Rattle.tt_core.specs.Live.{fits}
use Rattle.tt_core.specs.Words.{specification}
use Rattle.bound_core.specs.ValueLaws.{NoneFits, none_more, all_live, not_live, zero_word, one_word, place_word}
use Rattle.bound_core.proofs.words.is_live.Goals as goal

pub returns-then-has_values : goal.returns-then-has_values
returns-then-has_values c =
    let fit : fits (specification c.args.spec.now) c.args.h outs.Zero ≡ true =
    sym (c.has_values.ensures outs.Zero (λ t low. ap (λ (word : ℕ). digit word t) c.spread.ensures
    ∙ zero_word c.args.spec.now.n t c.n-n.ensures.whole.inputs low)) ∙ c.if-has_values.true in
    sym (not_live (specification c.args.spec.now) c.args.h outs.Zero tt fit)

pub returns-then-has_values-2 : goal.returns-then-has_values-2
returns-then-has_values-2 c =
    let fit : fits (specification c.args.spec.now) c.args.h outs.One ≡ true =
    sym (c.has_values-2.ensures outs.One (λ t low. ap (λ (word : ℕ). digit word t) c.spread-2.ensures
    ∙ one_word c.args.spec.now.n t c.n-n.ensures.whole.inputs low)) ∙ c.if-has_values-2.true in
    sym (not_live (specification c.args.spec.now) c.args.h outs.One tt fit)

pub loop-before-init : goal.loop-before-init
loop-before-init c = record {
  zero = sym (c.has_values.ensures outs.Zero (λ t low. ap (λ (word : ℕ). digit word t) c.spread.ensures ∙ zero_word c.args.spec.now.n t c.n-n.ensures.whole.inputs low)) ∙ c.if-has_values.false;
  one = sym (c.has_values-2.ensures outs.One (λ t low. ap (λ (word : ℕ). digit word t) c.spread-2.ensures ∙ one_word c.args.spec.now.n t c.n-n.ensures.whole.inputs low)) ∙ c.if-has_values-2.false;
  each = λ j from to. absurd (omega (arith, from, to));
}

pub returns-then-has_values-3 : goal.returns-then-has_values-3
returns-then-has_values-3 c =
    let place : ℕ = c.loop-before.before + 1 in
    let within : place ≤ c.args.spec.now.n = omega (arith, c.loop-before-test.true, c.n-n.ensures.value) in
    let fit : fits (specification c.args.spec.now) c.args.h (outs.Place place) ≡ true =
    sym (c.has_values-in-loop-before.ensures (outs.Place place) (λ t low.
    ap (λ (word : ℕ). digit word t) (c.input_word.ensures
    ∙ ap (λ (k : ℕ). input_word (k - place)) c.n-n.ensures.value)
    ∙ place_word c.args.spec.now.n place t c.n-n.ensures.whole.inputs (omega arith) within low))
    ∙ c.if-has_values-3.true in
    sym (not_live (specification c.args.spec.now) c.args.h (outs.Place place) (omega arith, within) fit)

pub loop-before-preserved : goal.loop-before-preserved
loop-before-preserved c =
    let place : ℕ = c.loop-before.before + 1 in
    let within : place ≤ c.args.spec.now.n = omega (arith, c.loop-before-test.true, c.n-n.ensures.value) in
    none_more (specification c.args.spec.now) c.args.h c.loop-before.before c.loop-before.invariant
    (sym (c.has_values-in-loop-before.ensures (outs.Place place) (λ t low.
    ap (λ (word : ℕ). digit word t) (c.input_word.ensures
    ∙ ap (λ (k : ℕ). input_word (k - place)) c.n-n.ensures.value)
    ∙ place_word c.args.spec.now.n place t c.n-n.ensures.whole.inputs (omega arith) within low))
    ∙ c.if-has_values-3.false)

pub returns : goal.returns
returns c =
    let end : c.loop-before.before ≡ c.args.spec.now.n = omega (arith, c.loop-before-test.false, c.loop-before.auto.before-end, c.n-n.ensures.value) in
    sym (all_live (specification c.args.spec.now) c.args.h (subst (NoneFits (specification c.args.spec.now) c.args.h) end c.loop-before.invariant))
