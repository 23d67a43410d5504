use Rattle.std.proofs.Common.{◌≡◌, ◌++◌, ℕ, All, sym, subst, ◌∙◌, arith}
use Rattle.std.proofs.lemmas.Grind.{common_steps}
use Rattle.enc_cuts.specs.Vars.{HaveVars}
use Rattle.clause_core.specs.Clauses.{IsWithin}
use Rattle.enc_theory.specs.Cuts.{exchange_slot, readers_without}
use Rattle.std.specs.List.{flat_map}
use Rattle.std.proofs.lemmas.List.Elements.{All-same, All-append}
use Rattle.clause_core.specs.ListLaws.{all_first, all_rest}
use Rattle.enc_cuts.specs.LiteralLaws.{without_within}
use Rattle.enc_cuts.proofs.Walks.{exchanged}
use Rattle.enc_cuts.proofs.exchange.push_exchange_steps.Goals as goal

pub loop-step-preserved : goal.loop-step-preserved
loop-step-preserved c =
    let p = c.args.p in
    let q = c.args.q in
    let old = c.loop-step.list in
    let new = c.push_exchange_slots.new.list in
    let left = c.loop-step.left.now in
    let step = c.in-Some.step.now in
    let later = c.in-Some.later.now in
    let before = c.loop-step.before.items in
    let split = c.in-Some.ensures.cases.0 in
    let read = c.deref.ensures.value in
    let slots = c.slots.ensures in
    let piece : new.clauses ≡ old.clauses ++ flat_map (exchange_slot p q before) step.slots = grind (arith, common_steps) in
    let vars : new.vars ≡ old.vars = grind (arith, common_steps) in
    let more : c.push_readers_without.new.raws.items ≡ before ++ readers_without p q step = c.in_ok-push_readers_without.ensures in
    record {
      vars = vars ∙ c.loop-step.invariant.vars;
      clauses = exchanged p q before c.push_readers_without.new.raws.items old.clauses new.clauses _ left later step piece split more c.loop-step.invariant.clauses;
      before = subst (λ (v : ℕ). All (IsWithin v) c.push_readers_without.new.raws.items) (sym vars)
          (All-same (IsWithin old.vars) c.push_readers_without.new.raws.items (before ++ readers_without p q step) more
          (All-append (IsWithin old.vars) before (readers_without p q step) c.loop-step.invariant.before
          (without_within old.vars p q step (all_first
          (HaveVars old.vars) left later step split c.loop-step.invariant.slots))));
      slots = subst (λ (v : ℕ). All (HaveVars v) later) (sym vars) (all_rest (HaveVars old.vars) left later step split c.loop-step.invariant.slots);
    }
