-- A net with a chain that implements the window's specification implements the old net, and so does what
-- cleanup leaves of it.
use Rattle.std.specs.Prelude.{◌≡◌, ℕ, zero, suc, ◌+◌, ◌≤◌, ◌<◌, Bool, true, nat_eq, not, ◌&&◌, if◌then◌else◌, List, [], ◌∷◌, length, map, slice_get, Some, refl}
use Rattle.std.proofs.Common.{arith, ◌∙◌, ap, subst, inl, inr, ⊎_elim, add-zero}
use Rattle.std.proofs.lemmas.Bool.{and_parts, eq-eqb, eqb-true, cond-true, cond-false, cases_Bool, cases_lt}
use Rattle.chain_theory.specs.Chain.{Chain}
use Rattle.net_theory.specs.declared.data.Gate.{Gate}
use Rattle.net_theory.specs.Net.{Net, IsNet}
use Rattle.net_theory.specs.NameLaws.{at_map}
use Rattle.net_theory.specs.Dangling.{cleanup}
use Rattle.net_theory.specs.DanglingLaws.{cleanup_operators}
use Rattle.net_theory.specs.Operators.{HasOperator}
use Rattle.net_theory.specs.ExchangeLaws.{implements_on}
use Rattle.net_theory.specs.Implements.{Implements, IsCleanedUp}
use Rattle.window_theory.specs.Nodes.{among}
use Rattle.window_theory.specs.Window.{Window, Belongs}
use Rattle.window_theory.specs.Substituted.{step_gate, passing, IsSubstitution}
use Rattle.window_theory.specs.SubstitutionLaws.{signals_real}
use Rattle.subst_core.specs.Substitution.{Meets, KeepsSinks, IsSubstituted, HasOldOperators}

-- A chain that implements the specification keeps the sinks.
pub agrees_keeps : (n : Net) (w : Window) (c : Chain) → IsNet n → Belongs n w → Meets n w c → KeepsSinks n w c
agrees_keeps n w c net is meets given = signals_real n w meets.specification c given net is meets.chain meets.is meets.agrees

pub kept_substituted : (n m : Net) (w : Window) (c : Chain) → KeepsSinks n w c → IsSubstitution n w c m → IsSubstituted n w c m
kept_substituted n m w c keeps new = record { after_substitution = new; values = λ given. new.values given ∙ keeps given }

pub substituted_is : (n m : Net) (w : Window) (c : Chain) → IsNet n → Belongs n w → Meets n w c → IsSubstitution n w c m → IsSubstituted n w c m
substituted_is n m w c net is meets new = kept_substituted n m w c (agrees_keeps n w c net is meets) new

pub substituted_stands : (n m : Net) (w : Window) (c : Chain) → IsSubstituted n w c m → length c.steps ≤ length w.gates → Implements n m
substituted_stands n m w c is few =
    record {
      net = is.after_substitution.net;
      sources = is.after_substitution.sources;
      sink_count = is.after_substitution.sink_count;
      values = is.values;
      fewer = omega (arith, is.after_substitution.gate_count, few);
      still = is.after_substitution.still;
      equal = is.after_substitution.equal;
    }

pub cleaned_up_on : (first n m left : Net) (w : Window) (c : Chain) → IsCleanedUp first n → IsSubstituted n w c m → length c.steps ≤ length w.gates → IsCleanedUp m left → IsCleanedUp first left
cleaned_up_on first n m left w c before is few after =
    record {
      implements = implements_on first m left (implements_on first n m before.implements (substituted_stands n m w c is few)) after.implements;
      reached = after.reached;
    }

-- ---- operators

-- a gate that passes a test counts
passing_some : (test : ℕ → Bool) (node : ℕ) (gs : List Gate) (i : ℕ) (g : Gate) → slice_get gs i ≡ Some g → test g.op ≡ true → 1 ≤ passing (λ p op. test op) node gs
unfolding passing
passing_some test node [] i g at on = absurd cc
passing_some test node (h ∷ gs) zero g at on =
    let same : h ≡ g = cc in
    let head : ◌≡◌ {A = ℕ} (if test h.op then 1 else 0) 1 = cond-true (test h.op) 1 0 (ap (λ (x : Gate). test x.op) same ∙ on) in
    omega (arith, head)
passing_some test node (h ∷ gs) (suc i) g at on = omega (arith, passing_some test (node + 1) gs i g at on)

-- and where the count isn't 0, some gate passes
record PassesTest (test : ℕ → ℕ → Bool) (node : ℕ) (gs : List Gate) : Type 0 where
  index : ℕ
  gate : Gate
  at : slice_get gs index ≡ Some gate
  passes : test (node + index) gate.op ≡ true

some_passes : (test : ℕ → ℕ → Bool) (node : ℕ) (gs : List Gate) → 1 ≤ passing test node gs → PassesTest test node gs
unfolding passing
some_passes test node [] some = absurd (omega arith)
some_passes test node (g ∷ gs) some =
    ⊎_elim
    (λ on. record { index = 0; gate = g; at = refl; passes = ap (λ (p : ℕ). test p g.op) (add-zero node) ∙ on })
    (λ off.
    let head : ◌≡◌ {A = ℕ} (if test node g.op then 1 else 0) 0 = cond-false (test node g.op) 1 0 off in
    let rest : PassesTest test (node + 1) gs = some_passes test (node + 1) gs (omega (arith, some, head)) in
    let e : node + suc rest.index ≡ (node + 1) + rest.index = omega arith in
    record { index = suc rest.index; gate = rest.gate; at = rest.at; passes = ap (λ (p : ℕ). test p rest.gate.op) e ∙ rest.passes })
    (cases_Bool (test node g.op))

pub substituted_operators : (n m : Net) (w : Window) (c : Chain) → IsSubstitution n w c m → HasOldOperators n c m
substituted_operators n m w c is op from =
    let test : ℕ → Bool = λ x. nat_eq x op in
    let outside : ℕ = passing (λ p x. not (among w.gates p) && test x) (n.sources + 1) n.gates in
    let steps : ℕ = passing (λ p x. test x) (c.n + 1) (map step_gate c.steps) in
    let some : 1 ≤ passing (λ p x. test x) (m.sources + 1) m.gates = passing_some test (m.sources + 1) m.gates from.index from.gate from.at (eq-eqb from.gate.op op from.same) in
    ⊎_elim
    (λ (none : outside < 1).
    let p : PassesTest (λ p x. test x) (c.n + 1) (map step_gate c.steps) = some_passes (λ p x. test x) (c.n + 1) (map step_gate c.steps) (omega (arith, some, none, is.operators test)) in
    let s = at_map step_gate c.steps p.index p.gate p.at in
    inr (record { index = p.index; step = s.0; at = s.1; is = ap (λ (x : Gate). x.op) s.2 ∙ eqb-true p.gate.op op p.passes }))
    (λ (one : 1 ≤ outside).
    let p : PassesTest (λ p x. not (among w.gates p) && test x) (n.sources + 1) n.gates = some_passes (λ p x. not (among w.gates p) && test x) (n.sources + 1) n.gates one in
    inl (record { index = p.index; gate = p.gate; at = p.at; same = eqb-true p.gate.op op (and_parts (not (among w.gates (n.sources + 1 + p.index))) (test p.gate.op) p.passes).1 }))
    (cases_lt outside 1)

-- and cleanup brings in no new operator
pub cleanup_old : (n m left : Net) (w : Window) (c : Chain) → IsSubstituted n w c m → left ≡ cleanup m → HasOldOperators n c left
cleanup_old n m left w c is e op from =
    substituted_operators n m w c is.after_substitution op (cleanup_operators m op is.after_substitution.net (subst (λ (x : Net). HasOperator x op) e from))
