use Rattle.std.proofs.Common.{◌≡◌, ◌<◌, ◌≤◌, ◌∙◌, ℕ, ℤ, List, length, slice_index_or, sym, ap, subst, inl, inr, rules}
use Rattle.std.specs.List.{swap}
use Rattle.std.proofs.lemmas.List.{get_or_read}
use Rattle.sat_theory.specs.Formula.{variable}
use Rattle.cdcl_theory.specs.Trails.{falsified_at}
use Rattle.conflict_core.proofs.Raising.{none_more}
use Rattle.conflict_core.proofs.analysis.move_to_front.Goals as goal

pub falsified_at-requires : goal.falsified_at-requires
falsified_at-requires c =
    let x : ℤ = c.index.result.now in
    let same : c.loop-index.lits.items ≡ c.args.lits.now.items = c.loop-index.invariant.same in
    let low : c.loop-index.index < length c.args.lits.now.items = search rules in
    let at : x ≡ slice_index_or c.args.lits.now.items c.loop-index.index x = c.index.ensures ∙ ap (λ (xs : List ℤ). slice_index_or xs c.loop-index.index x) same in
    subst (λ (y : ℤ). variable y ≤ c.args.trail.now.vars) (sym at) (c.requires c.loop-index.index x low)

pub returns-then-falsified_at-back : goal.returns-then-falsified_at-back
returns-then-falsified_at-back c =
    let x : ℤ = c.index.result.now in
    let i : ℕ = c.loop-index.index in
    let same : c.loop-index.lits.items ≡ c.args.lits.now.items = c.loop-index.invariant.same in
    let low : c.loop-index.index < length c.args.lits.now.items = search rules in
    let at : x ≡ slice_index_or c.args.lits.now.items c.loop-index.index x = c.index.ensures ∙ ap (λ (xs : List ℤ). slice_index_or xs c.loop-index.index x) same in
    let here : falsified_at c.args.trail.now x ≡ c.args.back = sym c.falsified_at.ensures.value ∙ c.if-falsified_at-back.true in
    inl (i, low, c.swap.ensures.items ∙ ap (λ (xs : List ℤ). swap xs 0 i) same, λ d. ap (falsified_at c.args.trail.now) (sym (get_or_read c.args.lits.now.items i x low at d)) ∙ here)

pub returns : goal.returns
returns c =
    let same : c.loop-index.lits.items ≡ c.args.lits.now.items = c.loop-index.invariant.same in
    let done : length c.loop-index.lits.items ≤ c.loop-index.index = search rules in
    inr (
      same,
      subst (λ (xs : List ℤ). (k : ℕ) (d : ℤ) → k < length xs →
          falsified_at c.args.trail.now (slice_index_or xs k d) ≡ c.args.back →
          ⊥) same (none_more (falsified_at c.args.trail.now) c.loop-index.lits.items c.loop-index.index c.args.back
          c.loop-index.invariant.none done),
    )
