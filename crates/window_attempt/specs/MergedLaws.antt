-- A net whose structurally equal gates were merged may replace the old one.
use Rattle.std.specs.Prelude.{◌≡◌, ℕ, ◌<◌, length, slice_get, Option, Some, IfSome}
use Rattle.std.proofs.Common.{arith, refl, sym, ◌∙◌, ◌≢◌, subst, inr}
use Rattle.std.proofs.lemmas.Grind.{common_steps}
use Rattle.chain_theory.specs.Operator.{Basis}
use Rattle.net_theory.specs.declared.data.Gate.{Gate}
use Rattle.net_theory.specs.Net.{Net}
use Rattle.net_theory.specs.Implements.{Implements, IsCleanedUp}
use Rattle.net_theory.specs.ExchangeLaws.{implements_on}
use Rattle.net_theory.specs.Dangling.{cleanup}
use Rattle.net_theory.specs.Operators.{HasOperator}
use Rattle.net_theory.specs.DanglingLaws.{cleanup_operators}
use Rattle.op_basis.specs.Basis.{members}
use Rattle.settings.specs.declared.improve.ImproveSettings.{ImproveSettings}
use Rattle.merge_core.specs.Merging.{HaveOperatorsOf}
use Rattle.improve_theory.specs.Leading.{IsReplacement}
use Rattle.improve_theory.specs.LeadingLaws.{replaces_itself}
use Rattle.improve_theory.specs.ChangesLaws.{no_larger_itself}
use Rattle.improve_theory.specs.Changes.{IsNoLarger}

-- after cleanup the gates have operators of the first net
left_operator : (n m k : Net) (i : ℕ) (g : Gate) → Implements n m → HaveOperatorsOf n m.gates → k ≡ cleanup m → slice_get k.gates i ≡ Some g → HasOperator n g.op
left_operator n m k i g implements old exact at =
    let was = cleanup_operators m g.op implements.net (record { index = i; gate = g; at = subst (λ (x : Net). slice_get x.gates i ≡ Some g) exact at; same = refl }) in
    let first = old.each was.index was.gate was.at in
    record { index = first.index; gate = first.gate; at = first.at; same = first.same ∙ was.same }

pub merged_replaces : (basis : Basis) (n m k : Net) → Implements n m → HaveOperatorsOf n m.gates → k ≡ cleanup m → IsCleanedUp m k → IsReplacement basis n k
merged_replaces basis n m k implements old exact cleaned_up = record {
  cleaned_up = λ first is. record { implements = implements_on first m k (implements_on first n m is.implements implements) cleaned_up.implements; reached = cleaned_up.reached };
  operators = record { each = λ i g at. inr (left_operator n m k i g implements old exact at) };
}

pub merged_fewer : (n m k : Net) → Implements n m → IsCleanedUp m k → length m.gates ≢ length n.gates → length k.gates < length n.gates
merged_fewer n m k implements cleaned_up other = omega (arith, implements.fewer, cleaned_up.implements.fewer, other)

-- the net that was stored
pub shrunk_by : (s : ImproveSettings) (n own m new : Net) (o : Option Net) → own ≡ n → m ≡ new → o ≡ Some new →
    ((basis : Basis) → IfSome o (λ x. IsReplacement basis own x)) → IfSome o (λ x. length x.gates < length own.gates) →
    IsNoLarger s n m
shrunk_by s n own m new o is_own put some replaces less =
    subst (λ (x : Net). IsNoLarger s n x) (sym put)
    (subst (λ (x : Net). IsNoLarger s x new) is_own (
    let fewer : length new.gates < length own.gates = subst (λ (x : Option Net). IfSome x (λ y. length y.gates < length own.gates)) some less in
    record {
      replaces = subst (λ (x : Option Net). IfSome x (λ y. IsReplacement (members s.basis) own y)) some (replaces (members s.basis));
      no_more = omega (arith, fewer);
    }
    ))

pub ruleset merging = (common_steps, replaces_itself, merged_replaces, merged_fewer, no_larger_itself)
