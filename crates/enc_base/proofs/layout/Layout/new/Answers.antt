use Rattle.std.proofs.Common.{◌≡◌, ℕ, ◌+◌, ◌-◌, ◌≤◌, List, [], ◌∷◌, ◌++◌, length, length-append, refl, arith, rules}
use Rattle.enc_theory.specs.declared.data.Pair.{Pair}
use Rattle.enc_theory.specs.Pairs.{StepSlots, layout, vars_of, slot_count}
use Rattle.enc_base.proofs.Laying.{laid_on, laid_all, slot_count-push, layout_within}
use Rattle.enc_base.proofs.layout.Layout.new.Goals as goal

pub loop-place-preserved : goal.loop-place-preserved
loop-place-preserved g c =
    let pairs : ℕ → List Pair = g.P.Pairs.pairs_of c.args.pairs.now in
    let place : ℕ = c.loop-place.place in
    let own : List Pair = c.deref.result.now in
    let old : List StepSlots = c.loop-place.steps.items in
    let step : StepSlots = record { place = place; slots = c.in_ok-slots.slots.items } in
    let is : own ≡ pairs place = rw c.deref.ensures.value c.in_ok-below.ensures in
    let most : length (pairs place) ≤ 1000 = g.met.P.Pairs.few c.args.pairs.now place (omega arith) in
    let few : length own ≤ 1000 = rw is most in
    let count : c.len.result ≡ length step.slots = search rules in
    let long : c.len.result ≡ length own = rw count c.in_ok-slots.ensures.count in
    let push : c.push.new.self.items ≡ old ++ step ∷ [] = rw c.in_ok-push.ensures.items (rw c.new.ensures refl) in
    let slots : slot_count c.push.new.self.items ≡ slot_count old + length step.slots = rw push (slot_count-push old step) in
    let steps : length c.push.new.self.items ≡ length old + 1 = rw push (length-append old (step ∷ [])) in
    record {
      same = laid_on pairs c.loop-place.next c.len.result place
          (c.args.z.n + 1 + c.args.z.r) own c.in_ok-slots.slots.items old c.push.new.self.items (layout pairs c.args.z)
          (omega arith) is c.in_ok-slots.ensures.slots long push c.loop-place.invariant.same;
      next = omega arith;
      count = omega arith;
      few = omega arith;
    }

pub returns-clause-steps : goal.returns-clause-steps
returns-clause-steps g c = laid_all (g.P.Pairs.pairs_of c.args.pairs.now) c.loop-place.next c.loop-place.place (c.args.z.n + 1 + c.args.z.r) _ _ (omega arith) c.loop-place.invariant.same

pub returns-clause-slots : goal.returns-clause-slots
returns-clause-slots g c =
    let pairs = g.P.Pairs.pairs_of c.args.pairs.now in
    let all : c.loop-place.steps.items ≡ layout pairs c.args.z = laid_all pairs c.loop-place.next c.loop-place.place (c.args.z.n + 1 + c.args.z.r) _ _ (omega arith) c.loop-place.invariant.same in
    let count : c.loop-place.next - 1 ≡ vars_of c.args.z c.loop-place.steps.items = omega (arith, c.loop-place.invariant.next) in
    layout_within pairs (g.met.P.Pairs.below c.args.pairs.now) c.args.z
    (c.loop-place.next - 1) c.loop-place.steps.items
    (omega (arith, c.s_first-next.ensures.value, c.s_first-next.ensures.few)) all count
