-- A chain in a window's place makes a net that leads on.
use Rattle.std.specs.Prelude.{◌≡◌, ℕ, ◌+◌, ◌≤◌, ◌<◌, true, length, refl}
use Rattle.std.proofs.Common.{arith, sym, ◌∙◌, ap, inl, inr, ⊎_elim}
use Rattle.chain_theory.specs.Operator.{Basis}
use Rattle.chain_theory.specs.Chain.{Step, Chain}
use Rattle.chain_theory.specs.Agreement.{IsOver}
use Rattle.net_theory.specs.Net.{Net, IsNet}
use Rattle.net_theory.specs.Implements.{IsCleanedUp}
use Rattle.net_theory.specs.NameLaws.{all_at}
use Rattle.window_theory.specs.Window.{Window}
use Rattle.subst_core.specs.Lists.{HaveSameLists}
use Rattle.subst_core.specs.ListsLaws.{same_size}
use Rattle.subst_core.specs.Substitution.{HasNodeRoom, IsStepOperator, HasOldOperators}
use Rattle.improve_theory.specs.Leading.{IsReplacement}

pub room_there : (n : Net) (w : Window) (c : Chain) → IsNet n → length c.steps ≤ length w.gates → HasNodeRoom n w c
room_there n w c net few = omega (arith, net.nodes, few)

-- ---- the new net

step_over : (basis : Basis) (c : Chain) (op : ℕ) → IsOver basis c → IsStepOperator c op → basis op ≡ true
step_over basis c op over has = ap basis (sym has.is) ∙ all_at (λ (s : Step). basis s.op ≡ true) c.steps has.index has.step over has.at

-- The window is replaced by its lists, v.
pub replaced_replaces : (basis : Basis) (n m : Net) (c : Chain) (w v : Window) → HaveSameLists w v →
    ((first : Net) → IsCleanedUp first n → length c.steps ≤ length v.gates → IsCleanedUp first m) →
    length c.steps ≤ length w.gates → IsOver basis c → HasOldOperators n c m → IsReplacement basis n m
replaced_replaces basis n m c w v same cleaned_up few over old =
    let size : length w.gates ≡ length v.gates = same_size w v same in
    record {
      cleaned_up = λ first is. cleaned_up first is (omega (arith, few, size));
      operators = record {
        each = λ i g at. ⊎_elim
            (λ has. inr has)
            (λ step. inl (step_over basis c g.op over step))
            (old g.op (record { index = i; gate = g; at = at; same = refl }));
      };
    }

pub replaced_no_more : (n m : Net) (c : Chain) (w v : Window) → HaveSameLists w v →
    length m.gates + length v.gates ≤ length n.gates + length c.steps → length c.steps ≤ length w.gates →
    length m.gates ≤ length n.gates
replaced_no_more n m c w v same less few =
    let size : length w.gates ≡ length v.gates = same_size w v same in
    omega (arith, less, few, size)

pub replaced_fewer : (n m : Net) (c : Chain) (w v : Window) → HaveSameLists w v →
    length m.gates + length v.gates ≤ length n.gates + length c.steps → length c.steps < length w.gates →
    length m.gates < length n.gates
replaced_fewer n m c w v same less few =
    let size : length w.gates ≡ length v.gates = same_size w v same in
    omega (arith, less, few, size)
