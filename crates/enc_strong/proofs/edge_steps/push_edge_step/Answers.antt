use Rattle.std.proofs.Common.{ℕ, All, sym, subst, ap, ◌∙◌}
use Rattle.std.proofs.lemmas.List.Elements.{All-same}
use Rattle.sat_theory.specs.Formula.{Formula}
use Rattle.clause_core.specs.Clauses.{IsWithin}
use Rattle.strong_theory.specs.Strong.{or_others}
use Rattle.enc_strong.proofs.Within.{or_others_within}
use Rattle.enc_strong.proofs.edge_steps.push_edge_step.Goals as goal

-- the literals of the other readers are within, as before the clauses that were pushed
pub push_sole_readers-requires-clause-rest : goal.push_sole_readers-requires-clause-rest
push_sole_readers-requires-clause-rest c =
    let z = c.args.z in
    let steps = c.args.steps.now in
    let at = c.args.at in
    let place = c.args.step.now.place in
    let kept = ap (λ (f : Formula). f.vars) c.in_ok-push_operands_differ.ensures ∙ ap (λ (f : Formula). f.vars) c.in_ok-push_values_differ.ensures in
    let listed = c.deref.ensures.value ∙ c.in_ok-rest.ensures ∙ ap (or_others z steps at.edge at.before) c.place.ensures in
    subst (λ (v : ℕ). All (IsWithin v) c.deref.result.now) (sym kept)
    (All-same (IsWithin c.args.list.now.vars) c.deref.result.now (or_others z steps at.edge at.before place) listed
    (or_others_within z c.args.list.now.vars steps at.edge at.before place c.requires.steps c.requires.step.place c.requires.edge.within))
