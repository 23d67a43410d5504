use Rattle.std.proofs.Common.{◌≡◌, ◌<◌, ◌≤◌, ◌-◌, ◌∙◌, ℕ, ℤ, length, slice_index_or, sym, subst, ap, arith}
use Rattle.std.proofs.lemmas.List.{length-set}
use Rattle.sat_theory.specs.Formula.{variable}
use Rattle.var_heap.specs.Held.{IsHeld}
use Rattle.std.specs.Vec.{with_item}
use Rattle.cdcl_core.specs.declared.deciding.DecisionHeap.{DecisionHeap}
use Rattle.cdcl_core.specs.Deciding.{IsDecisionHeap}
use Rattle.cdcl_core.proofs.Decisions.{choosing_back, choosing_put, last_released}
use Rattle.cdcl_core.proofs.deciding.DecisionHeap.unassign_last.Goals as goal

pub returns-clause-deciding : goal.returns-clause-deciding
returns-clause-deciding c =
    let t = c.args.trail.now in
    let v : ℕ = c.variable-2.result in
    let is : v ≡ variable c.at-lit.result = c.variable-2.ensures.value in
    let inside : v < length c.args.self.now.heap.marks = c.requires.deciding.room v c.variable-2.ensures.some (subst (λ (n : ℕ). n ≤ t.vars) (sym is) c.at-lit.ensures.over.1) in
    let now : DecisionHeap = record { heap = c.push.new.self; phases = with_item c.args.self.now.phases c.variable.result c.is_positive.result; increment = c.args.self.now.increment } in
    let put : IsDecisionHeap t now × IsHeld now.heap v =
    choosing_put t c.args.self.now now v inside c.requires.deciding c.push.ensures.held
    (length-set c.args.self.now.phases.items c.variable.result c.is_positive.result) in
    let last : (d : ℤ) → c.at-lit.result ≡ slice_index_or t.lits (length t.lits - 1) d = (λ d. c.at-lit.ensures.value d ∙ ap (λ (n : ℕ). slice_index_or t.lits (n - 1) d) c.len.ensures.value) in
    choosing_back t c.pop.new.self (length t.lits - 1) (length t.lits) now c.requires.whole (omega arith) put.0
    (last_released t now c.at-lit.result last (subst (λ (w : ℕ). IsHeld now.heap w) is put.1)) c.pop.ensures.back
