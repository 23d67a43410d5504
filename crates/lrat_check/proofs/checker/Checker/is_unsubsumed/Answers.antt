use Rattle.std.proofs.Common.{◌≡◌, true, false, subst, Bool, IsTrue, ◌↔◌}
use Rattle.std.proofs.Math.Logic.{⊎_elim}
use Rattle.std.proofs.lemmas.Bool.{cases_Bool}
use Rattle.sat_theory.specs.Log.{IsUnsubsumed}
use Rattle.lrat_check.specs.Live.{live_at}
use Rattle.lrat_check.specs.Checked.{Checked}
use Rattle.lrat_check.proofs.checker.Checker.is_unsubsumed.Goals as goal

decides : (b : Bool) (P : Type 0) → (b ≡ true → P) → (b ≡ false → P → ⊥) → IsTrue b ↔ P
decides b P yes_ no_ = (yes_, λ p. ⊎_elim (λ (is : b ≡ true). is) (λ (is : b ≡ false). absurd (no_ is p)) (cases_Bool b))

pub returns : goal.returns
returns c =
    let error_in : IsTrue c.is_unsubsumed.result ↔ IsUnsubsumed (live_at c.self.inside.clauses) c.args.lits.now =
    decides c.is_unsubsumed.result (IsUnsubsumed (live_at c.self.inside.clauses) c.args.lits.now)
    c.is_unsubsumed.ensures.new c.is_unsubsumed.ensures.old in
    subst (λ (v : Checked). IsTrue c.is_unsubsumed.result ↔ IsUnsubsumed (live_at v.live) c.args.lits.now) c.self.view_is error_in
