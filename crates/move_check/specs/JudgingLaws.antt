-- A candidate whose sinks have the net's values can replace the net.
use Rattle.std.specs.Prelude.{◌≡◌, ℕ, ◌≤◌, Bool, true, List, ◌∷◌, length, slice_get, Some, ◌⊎◌, refl}
use Rattle.std.proofs.Common.{arith, sym, ◌∙◌, subst, ap}
use Rattle.std.proofs.lemmas.List.Elements.{All-cons}
use Rattle.std.proofs.lemmas.Grind.{common_steps}
use Rattle.chain_theory.specs.Operator.{Basis}
use Rattle.net_theory.specs.declared.data.Gate.{Gate}
use Rattle.net_theory.specs.Net.{Net, IsNet, sink_values}
use Rattle.net_theory.specs.Operators.{HasOperator, HasOperatorsWithin}
use Rattle.net_theory.specs.NameLaws.{all_at}
use Rattle.net_theory.specs.Implements.{Implements, IsCleanedUp}
use Rattle.net_theory.specs.ExchangeLaws.{implements_on}
use Rattle.net_theory.specs.Dangling.{cleanup}
use Rattle.net_theory.specs.DanglingLaws.{cleanup_operators}
use Rattle.equiv_theory.specs.Counterexample.{AreComparable}
use Rattle.move_check.specs.Allowed.{AreAllowed}
use Rattle.equiv_core.specs.Limits.{AreSmall}
use Rattle.move_check.specs.Fitting.{IsFit}
use Rattle.move_check.specs.Sinks.{HasSinksOf}

pub comparable_nets : (n m : Net) → IsNet n → IsNet m → HasSinksOf n m → AreComparable n m
comparable_nets n m of_n of_m has = record { first_net = of_n; second_net = of_m; sources = sym has.sources; sinks = sym has.sink_count }

judged_implements : (n m : Net) → IsNet m → HasSinksOf n m → length m.gates ≤ length n.gates → ((given : ℕ → Bool) → sink_values n given ≡ sink_values m given) → Implements n m
judged_implements n m net has few same = record {
  net = net;
  sources = has.sources;
  sink_count = has.sink_count;
  values = λ given. sym (same given);
  fewer = few;
  still = has.still;
  equal = has.equal;
}

pub judged_cleaned_up : (n m k : Net) → IsNet m → HasSinksOf n m → length m.gates ≤ length n.gates →
    ((given : ℕ → Bool) → sink_values n given ≡ sink_values m given) → IsCleanedUp m k → IsCleanedUp n k
judged_cleaned_up n m k net has few same cleaned_up = record {
  implements = implements_on n m k (judged_implements n m net has few same) cleaned_up.implements;
  reached = cleaned_up.reached;
}

pub judged_operators : (basis : Basis) (n c m k : Net) → IsNet m → HasOperatorsWithin basis n c → m.gates ≡ c.gates → k ≡ cleanup m → HasOperatorsWithin basis n k
judged_operators basis n c m k net within gates exact = record {
  each = λ i g at.
      let has : HasOperator m g.op = cleanup_operators m g.op net (record { index = i; gate = g; at = subst (λ (x : Net). slice_get x.gates i ≡ Some g) exact at; same = refl }) in
      subst (λ (op : ℕ). (basis op ≡ true) ⊎ HasOperator n op) has.same
      (within.each has.index has.gate (sym (ap (λ (gs : List Gate). slice_get gs has.index) gates) ∙ has.at));
}

pub within : (basis : Basis) (n m : Net) → AreAllowed basis n m.gates → HasOperatorsWithin basis n m
within basis n m all = record { each = λ i g at. all_at (λ x. (basis x.op ≡ true) ⊎ HasOperator n x.op) m.gates i g all at }

pub allowed_more : (basis : Basis) (n : Net) (g : Gate) (rest left : List Gate) → left ≡ g ∷ rest → (basis g.op ≡ true) ⊎ HasOperator n g.op → AreAllowed basis n rest → AreAllowed basis n left
allowed_more basis n g rest left split here all = subst (AreAllowed basis n) (sym split) (All-cons (λ x. (basis x.op ≡ true) ⊎ HasOperator n x.op) g rest here all)

pub small_with : (n c m : Net) → AreSmall n c → m.gates ≡ c.gates → AreSmall n m
small_with n c m small same = record { small = small.small; first_gates = small.first_gates; second_gates = omega (arith, small.second_gates, ap (length {A = Gate}) same) }

-- the cleaned-up candidate, if it fits and has the net's sinks with their values
pub judged_is : (basis : Basis) (n c m k : Net) → IsFit basis n c → IsNet m → m.gates ≡ c.gates → HasSinksOf n m →
    ((given : ℕ → Bool) → sink_values n given ≡ sink_values m given) → IsCleanedUp m k → IsCleanedUp n k
judged_is basis n c m k fit net gates has same cleaned_up = judged_cleaned_up n m k net has (omega (arith, fit.fewer, ap (length {A = Gate}) gates)) same cleaned_up

-- after both cleanups the candidate has no more gates than before
pub judged_lean : (n c m k : Net) → IsCleanedUp n c → m.gates ≡ c.gates → IsCleanedUp m k → length k.gates ≤ length n.gates
judged_lean n c m k first gates second = omega (arith, first.implements.fewer, ap (length {A = Gate}) gates, second.implements.fewer)

pub ruleset judging = (common_steps, comparable_nets, small_with, judged_is, judged_operators)
