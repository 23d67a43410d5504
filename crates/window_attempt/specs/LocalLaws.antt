-- What is asked of a window, by whether unseen rows are left out of account.
use Rattle.std.specs.Prelude.{◌≡◌, Bool, true, false}
use Rattle.std.proofs.Common.{sym, ◌∙◌, subst}
use Rattle.std.proofs.lemmas.Grind.{common_steps}
use Rattle.chain_theory.specs.Chain.{Chain}
use Rattle.chain_theory.specs.Specification.{Specification}
use Rattle.net_theory.specs.Net.{Net, IsNet}
use Rattle.window_theory.specs.Window.{Window, Belongs}
use Rattle.window_theory.specs.Care.{IsSpecificationOf}
use Rattle.window_theory.specs.Substituted.{Fits}
use Rattle.observe_theory.specs.Observed.{IsObservedOf}
use Rattle.observe_core.specs.Observing.{MeetsObserved}
use Rattle.observe_core.specs.SubstitutingLaws.{observable_keeps, observable_fits}
use Rattle.subst_core.specs.Substitution.{Meets, KeepsSinks}
use Rattle.subst_core.specs.SubstitutionLaws.{agrees_keeps}
use Rattle.improve_theory.specs.LocalSpecification.{IsLocalSpecification}
use Rattle.window_attempt.specs.LocalSpecification.{MeetsLocal}

-- ---- specifications

pub asks_own : (observe : Bool) (n : Net) (w : Window) (s : Specification) → observe ≡ false → IsSpecificationOf n w s → IsLocalSpecification observe n w s
asks_own observe n w s off is = subst (λ (o : Bool). IsLocalSpecification o n w s) (sym off) is

pub asks_seen : (observe : Bool) (n : Net) (w : Window) (s : Specification) → observe ≡ true → IsObservedOf n w s → IsLocalSpecification observe n w s
asks_seen observe n w s on is = subst (λ (o : Bool). IsLocalSpecification o n w s) (sym on) is

-- ---- chains

own_meets : (n : Net) (w : Window) (c : Chain) → MeetsLocal false n w c → Meets n w c
own_meets n w c is = record { chain = is.chain; specification = is.specification; is = is.is; agrees = is.agrees }

observed_meets : (n : Net) (w : Window) (c : Chain) → MeetsLocal true n w c → MeetsObserved n w c
observed_meets n w c is = record { chain = is.chain; specification = is.specification; is = is.is; agrees = is.agrees }

-- No sink distinguishes a chain that does what is asked from what the window computes.
pub asked_keeps : (observe : Bool) (n : Net) (w : Window) (c : Chain) → IsNet n → Belongs n w → MeetsLocal observe n w c → KeepsSinks n w c
asked_keeps false n w c net is meets = agrees_keeps n w c net is (own_meets n w c meets)
asked_keeps true n w c net is meets = observable_keeps n w c net is (observed_meets n w c meets)

own_fits : (n : Net) (w : Window) (c : Chain) → Meets n w c → Fits w c
own_fits n w c meets = record { chain = meets.chain; inputs = meets.agrees.inputs ∙ meets.is.inputs; outs = meets.agrees.outputs ∙ meets.is.outputs }

pub asked_fits : (observe : Bool) (n : Net) (w : Window) (c : Chain) → MeetsLocal observe n w c → Fits w c
asked_fits false n w c meets = own_fits n w c (own_meets n w c meets)
asked_fits true n w c meets = observable_fits n w c (observed_meets n w c meets)

pub ruleset asking = (common_steps, asks_own, asks_seen)
