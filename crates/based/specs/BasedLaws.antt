-- What isn't dangling in a circuit, over a basis.
use Rattle.std.specs.Prelude.{◌≡◌, ℕ}
use Rattle.std.proofs.Common.{sym, ◌∙◌, ap, subst}
use Rattle.std.proofs.lemmas.Grind.{common_steps}
use Rattle.chain_theory.specs.Operator.{Basis}
use Rattle.net_theory.specs.Circuit.{Circuit, sources_of, IsProper, by_node}
use Rattle.net_theory.specs.Dangling.{cleanup}
use Rattle.net_theory.specs.Document.{Name}
use Rattle.net_theory.specs.ExchangeLaws.{with_net, exchanged_proper}
use Rattle.net_theory.specs.Implements.{Implements}
use Rattle.net_theory.specs.Net.{Net}
use Rattle.net_document.specs.Equivalence.{AreEquivalentCircuits}
use Rattle.net_basis.specs.declared.answer.Converted.{Converted}
use Rattle.net_basis.specs.declared.answer.Converted.TheVariants as circuits
use Rattle.net_basis.specs.OverBasis as low
use Rattle.net_basis.specs.OverBasis.{IsCircuitOver, IsInexpressibleAt, MayHaveTooMany}
use Rattle.based.specs.declared.answer.Based.{Based}
use Rattle.based.specs.declared.answer.Based.TheVariants.{Base, Cannot, TooMany}
use Rattle.based.specs.Based.{left_of, gate_name, IsBasedOn, IsInexpressibleBy, IfBase, IfCannot, IfTooMany}

-- ---- what isn't dangling

pub left_is : (c k : Circuit) (m : Net) → m ≡ cleanup c.net → k ≡ with_net c m → k ≡ left_of c
left_is c k m is same = same ∙ ap (with_net c) is

pub left_proper : (c k : Circuit) (m : Net) → IsProper c → Implements c.net m → k ≡ with_net c m → IsProper k
left_proper c k m is implements same = subst IsProper (sym same) (exchanged_proper c m is implements)

pub left_implements : (c k : Circuit) (m : Net) → Implements c.net m → k ≡ with_net c m → Implements c.net k.net
left_implements c k m implements same = subst (λ (x : Circuit). Implements c.net x.net) (sym same) implements

pub ruleset cleaning = (common_steps, left_is, left_implements)

-- ---- what was converted

pub over_at : (basis : Basis) (c b : Circuit) (found : Converted) → found ≡ circuits.Over b →
    low.IfOver found (IsCircuitOver basis c) → IsCircuitOver basis c b
over_at basis c b found is over = subst (λ (x : Converted). low.IfOver x (IsCircuitOver basis c)) is over

pub kept_at : (c left : Circuit) (node : ℕ) (found : Converted) → found ≡ circuits.Cannot left node →
    low.IfCannot found (λ (k : Circuit) (n : ℕ). k ≡ c) → left ≡ c
kept_at c left node found is kept = subst (λ (x : Converted). low.IfCannot x (λ (k : Circuit) (n : ℕ). k ≡ c)) is kept

pub cannot_at : (basis : Basis) (c left : Circuit) (node : ℕ) (name : Name) (found : Converted) →
    found ≡ circuits.Cannot left node →
    low.IfCannot found (λ (k : Circuit) (n : ℕ). IsInexpressibleAt basis c.net n) →
    low.IfCannot found (λ (k : Circuit) (n : ℕ). k ≡ c) → name ≡ gate_name left node → IsInexpressibleBy basis c name
cannot_at basis c left node name found is at kept named = record {
  node = node;
  inexpressible = subst
      (λ (x : Converted). low.IfCannot x (λ (k : Circuit) (n : ℕ). IsInexpressibleAt basis c.net n)) is at;
  named = subst (λ (x : Circuit). name ≡ gate_name x node) (kept_at c left node found is kept) named;
}

pub cannot_proper : (c left : Circuit) (node : ℕ) (found : Converted) → found ≡ circuits.Cannot left node →
    low.IfCannot found (λ (k : Circuit) (n : ℕ). k ≡ c) → IsProper c → IsProper left
cannot_proper c left node found is kept proper = subst IsProper (sym (kept_at c left node found is kept)) proper

pub large_at : (basis : Basis) (c left : Circuit) (found : Converted) → found ≡ circuits.TooMany left →
    low.IfTooMany found (λ (k : Circuit). MayHaveTooMany basis c.net) → MayHaveTooMany basis c.net
large_at basis c left found is large =
    subst (λ (x : Converted). low.IfTooMany x (λ (k : Circuit). MayHaveTooMany basis c.net)) is large

pub ruleset converting = (common_steps, over_at, cannot_at, cannot_proper, large_at)

-- ---- of the whole circuit

with_net_again : (c b k : Circuit) → k ≡ left_of c → b ≡ with_net k b.net → b ≡ with_net c b.net
with_net_again c b k is same = same ∙ ap (λ (x : Circuit). with_net x b.net) is

left_equivalent : (c b k : Circuit) → k ≡ left_of c → Implements c.net k.net → AreEquivalentCircuits k b →
    AreEquivalentCircuits c b
left_equivalent c b k is implements equal =
    let of_left : Implements c.net (cleanup c.net) = subst (λ (x : Circuit). Implements c.net x.net) is implements in
    let e : AreEquivalentCircuits (left_of c) b = subst (λ (x : Circuit). AreEquivalentCircuits x b) is equal in
    record {
      inputs = e.inputs;
      outputs = e.outputs;
      clocks = e.clocks;
      latches = e.latches;
      values = λ given. sym (of_left.values (by_node (sources_of c) given)) ∙ e.values given;
    }

based_on : (basis : Basis) (c b k : Circuit) → k ≡ left_of c → Implements c.net k.net → IsCircuitOver basis k b →
    IsBasedOn basis c b
based_on basis c b k is implements over = record {
  same = with_net_again c b k is over.same;
  proper = over.proper;
  equivalent = left_equivalent c b k is implements over.equivalent;
  over = subst (λ (x : Circuit). low.IsNetOver basis x.net b.net) is over.over;
}

pub over_left : (basis : Basis) (c k : Circuit) (found : Based) → k ≡ left_of c → Implements c.net k.net →
    IfBase found (IsCircuitOver basis k) → IfBase found (IsBasedOn basis c)
over_left basis c k (Base b) is implements over = based_on basis c b k is implements over
over_left basis c k (Cannot name) is implements over = tt
over_left basis c k TooMany is implements over = tt

pub cannot_left : (basis : Basis) (c k : Circuit) (found : Based) → k ≡ left_of c →
    IfCannot found (IsInexpressibleBy basis k) → IfCannot found (IsInexpressibleBy basis (left_of c))
cannot_left basis c k found is cannot = subst (λ (x : Circuit). IfCannot found (IsInexpressibleBy basis x)) is cannot

pub large_left : (basis : Basis) (c k : Circuit) (found : Based) → k ≡ left_of c →
    IfTooMany found (MayHaveTooMany basis k.net) → IfTooMany found (MayHaveTooMany basis (cleanup c.net))
large_left basis c k found is large = subst (λ (x : Circuit). IfTooMany found (MayHaveTooMany basis x.net)) is large

pub ruleset basing = (common_steps, over_left, cannot_left, large_left)
