-- What is improved: a circuit itself, or one over the basis.
use Rattle.std.specs.Prelude.{◌≡◌, Bool, true, false, refl}
use Rattle.std.proofs.Common.{sym, subst}
use Rattle.std.proofs.lemmas.Grind.{common_steps}
use Rattle.op_basis.specs.Basis.{members}
use Rattle.net_theory.specs.Circuit.{Circuit, IsProper}
use Rattle.settings.specs.declared.improve.ImproveSettings.{ImproveSettings}
use Rattle.based.specs.declared.answer.Based.{Based}
use Rattle.based.specs.declared.answer.Based.TheVariants.{Base, Cannot, TooMany}
use Rattle.based.specs.Based.{IsBasedOn, IfBase, IfNone}
use Rattle.improve_wishes.specs.Wished.{IsBase}

-- without `--only yes` it is the circuit itself
itself : (s : ImproveSettings) (c : Circuit) → IsProper c → IsBase false s c c
itself s c is = record {
  proper = is;
  same = refl;
  equivalent = record { inputs = refl; outputs = refl; clocks = refl; latches = refl; values = λ given. refl };
  net = refl;
}

pub without_wish : (only : Bool) (s : ImproveSettings) (c : Circuit) → IsProper c → only ≡ false → IsBase only s c c
without_wish only s c is no_wish = subst (λ (o : Bool). IsBase o s c c) (sym no_wish) (itself s c is)

base_over : (only : Bool) (s : ImproveSettings) (c b : Circuit) → only ≡ true → IsBasedOn (members s.basis) c b →
    IsBase only s c b
base_over only s c b wish over = subst (λ (o : Bool). IsBase o s c b) (sym wish) (record {
  proper = over.proper;
  same = over.same;
  equivalent = over.equivalent;
  net = over.over;
})

pub based_over : (found : Based) (only : Bool) (s : ImproveSettings) (c : Circuit) → only ≡ true →
    IfBase found (IsBasedOn (members s.basis) c) → IfBase found (IsBase only s c)
based_over (Base b) only s c wish over = base_over only s c b wish over
based_over (Cannot name) only s c wish over = tt
based_over TooMany only s c wish over = tt

pub by_wish : (found : Based) (only : Bool) → only ≡ true → IfNone found (only ≡ true)
by_wish (Base b) only wish = tt
by_wish (Cannot name) only wish = wish
by_wish TooMany only wish = wish

pub ruleset basing = (common_steps, without_wish, based_over, by_wish)
