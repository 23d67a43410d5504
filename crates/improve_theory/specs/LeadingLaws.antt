-- A net takes its own place, and what takes its place can be replaced again.
use Rattle.std.specs.Prelude.{◌≡◌, ℕ, true, ◌⊎◌, refl}
use Rattle.std.proofs.Common.{sym, ◌∙◌, ap, inl, inr, ⊎_elim}
use Rattle.chain_theory.specs.Operator.{Basis}
use Rattle.net_theory.specs.Net.{Net}
use Rattle.net_theory.specs.Operators.{HasOperator, HasOperatorsWithin}
use Rattle.improve_theory.specs.Leading.{IsReplacement}

has_itself : (basis : Basis) (n : Net) → HasOperatorsWithin basis n n
has_itself basis n = record { each = λ i g at. inr (record { index = i; gate = g; at = at; same = refl }) }

pub replaces_itself : (basis : Basis) (n : Net) → IsReplacement basis n n
replaces_itself basis n = record { cleaned_up = λ first is. is; operators = has_itself basis n }

has_on : (basis : Basis) (n m : Net) (op : ℕ) → HasOperatorsWithin basis n m → HasOperator m op → (basis op ≡ true) ⊎ HasOperator n op
has_on basis n m op within has =
    ⊎_elim
    (λ on. inl (ap basis (sym has.same) ∙ on))
    (λ old. inr (record { index = old.index; gate = old.gate; at = old.at; same = old.same ∙ has.same }))
    (within.each has.index has.gate has.at)

pub replaces_on : (basis : Basis) (a b c : Net) → IsReplacement basis a b → IsReplacement basis b c → IsReplacement basis a c
replaces_on basis a b c first second = record {
  cleaned_up = λ net is. second.cleaned_up net (first.cleaned_up net is);
  operators = record {
    each = λ i g at. ⊎_elim (λ on. inl on) (λ has. has_on basis a b g.op first.operators has) (second.operators.each i g at);
  };
}
