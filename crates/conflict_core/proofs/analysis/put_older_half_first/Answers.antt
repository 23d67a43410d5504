use Rattle.std.proofs.Common.{◌≡◌, ◌≤◌, ◌<◌, ◌∙◌, ℤ, List, length, slice_index_or, All, sym, ap, subst, swap, refl, arith, rules}
use Rattle.std.specs.List.Sorted.{IsPermutation}
use Rattle.std.proofs.lemmas.List.Sorted.{IsPermutation-refl, IsPermutation-trans, IsPermutation-swap, All-permutation, length_permutation}
use Rattle.sat_theory.specs.Formula.{variable}
use Rattle.conflict_core.proofs.analysis.put_older_half_first.Goals as goal
use Rattle.conflict_core.proofs.analysis.put_older_half_first.Goals.{then-falsified_at-back, else-falsified_at-back}

pub loop-index-init : goal.loop-index-init
loop-index-init c = record { order = IsPermutation-refl c.args.lits.now.items; head = λ d. refl; some = omega arith; older = omega arith }

pub falsified_at-requires : goal.falsified_at-requires
falsified_at-requires c =
    let x : ℤ = c.index.result.now in
    let now : List ℤ = c.loop-index.lits.items in
    let long : length now ≡ length c.args.lits.now.items = length_permutation c.args.lits.now.items now c.loop-index.invariant.order in
    let low : c.loop-index.index < length now = search (long, rules) in
    let within : All (λ m. variable m ≤ c.args.trail.now.vars) now = All-permutation (λ m. variable m ≤ c.args.trail.now.vars) c.args.lits.now.items now c.loop-index.invariant.order c.requires in
    subst (λ (y : ℤ). variable y ≤ c.args.trail.now.vars) (sym c.index.ensures) (within c.loop-index.index x low)

pub swap-requires-clause-i_in_bounds : goal.swap-requires-clause-i_in_bounds
swap-requires-clause-i_in_bounds c =
    let long : length c.loop-index.lits.items ≡ length c.args.lits.now.items = length_permutation c.args.lits.now.items c.loop-index.lits.items c.loop-index.invariant.order in
    let low : c.loop-index.index < length c.loop-index.lits.items = search (long, rules) in
    let older : c.loop-index.older ≤ c.loop-index.index = c.loop-index.invariant.older in
    search (long, low, older, rules)

pub overflow_add-older : goal.overflow_add-older
overflow_add-older c =
    let older : c.loop-index.older ≤ c.loop-index.index = c.loop-index.invariant.older in
    search (older, rules)

pub loop-index-preserved : goal.loop-index-preserved
loop-index-preserved c =
    let long : length c.loop-index.lits.items ≡ length c.args.lits.now.items = length_permutation c.args.lits.now.items c.loop-index.lits.items c.loop-index.invariant.order in
    let low : c.loop-index.index < length c.loop-index.lits.items = search (long, rules) in
    let older : c.loop-index.older ≤ c.loop-index.index = c.loop-index.invariant.older in
    let some : 0 < c.loop-index.older = c.loop-index.invariant.some in
    let old : List ℤ = c.args.lits.now.items in
    let before : List ℤ = c.loop-index.lits.items in
    elim c.if-falsified_at-back.branch [
      | then-falsified_at-back w ↦
          let is : c.if-falsified_at-back.lits.items ≡ swap before c.loop-index.older c.loop-index.index = ap (λ v. v.items) w.lits-is ∙ w.swap.ensures.items in
          record {
            order = IsPermutation-trans old before c.if-falsified_at-back.lits.items c.loop-index.invariant.order
                (IsPermutation-swap before c.if-falsified_at-back.lits.items c.loop-index.older c.loop-index.index
                (omega (arith, low, older)) low is);
            head = λ d. ap (λ v. slice_index_or v.items 0 d) w.lits-is
                ∙ w.swap.ensures.by_index.2 0 d (λ e. omega (arith, some, e)) (λ e. omega (arith, some, older, e))
                ∙ c.loop-index.invariant.head d;
            some = omega (arith, some, w.older-is);
            older = omega (arith, older, w.older-is);
          }
      | else-falsified_at-back w ↦ record {
        order = subst (λ v. IsPermutation old v.items) (sym w.lits-is) c.loop-index.invariant.order;
        head = λ d. ap (λ v. slice_index_or v.items 0 d) w.lits-is ∙ c.loop-index.invariant.head d;
        some = omega (arith, some, w.older-is);
        older = omega (arith, older, w.older-is);
      }
    ]

pub returns-clause-order : goal.returns-clause-order
returns-clause-order c = c.loop-index.invariant.order

pub returns-clause-head : goal.returns-clause-head
returns-clause-head c = c.loop-index.invariant.head
