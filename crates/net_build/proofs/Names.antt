-- Maps of names as functions.
use Rattle.std.proofs.Common.{◌≡◌, ℕ, Option, Some}
use Rattle.std.specs.Prelude.{if◌then◌else◌}
use Rattle.std.proofs.lemmas.Grind.{common_steps}
use Rattle.net_theory.specs.declared.data.Sig.{Sig}
use Rattle.net_theory.specs.Document.{Name, is_same}
use Rattle.net_theory.specs.NetOf.{Signals, with_signal}
use Rattle.net_build.specs.Parts.{with_driver}

-- functions that agree at each name are equal
pub by_names : {A : Type 0} (f g : Name → A) → ((n : Name) → f n ≡ g n) → f ≡ g
by_names f g same = λ i n. same n i

pub signal_set : (old new : Signals) (name : Name) (s : Sig) → ((n : Name) → new n ≡ (if is_same name n then Some s else old n)) → new ≡ with_signal old name s
signal_set old new name s h = by_names new (with_signal old name s) h

pub driver_set : (old new : Name → Option ℕ) (name : Name) (t : ℕ) → ((n : Name) → new n ≡ (if is_same name n then Some t else old n)) → new ≡ with_driver old name t
driver_set old new name t h = by_names new (with_driver old name t) h

pub ruleset updates = (common_steps, signal_set, driver_set)
