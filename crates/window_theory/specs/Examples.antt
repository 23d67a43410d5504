-- Worked examples: small nets, and what the definitions give for them.
use Rattle.std.specs.Prelude.{◌≡◌, ℕ, ◌+◌, true, false, nat_eq, List, [], ◌∷◌, slice_get, None, Some, refl}
use Rattle.std.proofs.Common.{arith, sym, subst, inl, ⊎_elim}
use Rattle.std.proofs.lemmas.Bool.{eq-eqb, or_left}
use Rattle.chain_theory.specs.Chain.{Chain}
use Rattle.chain_theory.specs.declared.data.Out.TheVariants as outs
use Rattle.net_theory.specs.declared.data.Sig.TheVariants.{One, Node}
use Rattle.net_theory.specs.Net.{Net}
use Rattle.net_theory.specs.Reach.{marked}
use Rattle.net_theory.specs.Expansion.{gate_of}
use Rattle.net_theory.specs.Moving.{kept_after}
use Rattle.window_theory.specs.Nodes.{IsFalling}
use Rattle.window_theory.specs.NodeLaws.{among_cases}
use Rattle.window_theory.specs.Paths.{Reads}
use Rattle.window_theory.specs.Partner.{SharesBelow, ArePartners}
use Rattle.window_theory.specs.Window.{Window}
use Rattle.window_theory.specs.WindowLaws.{gate_high}
use Rattle.window_theory.specs.Substituted.{with_sigs, after_substitution}

abbrev window_of : ℕ → List ℕ → List ℕ → List ℕ → Window
window_of root gates inputs outputs = record { root = root; partner = None; gates = gates; inputs = inputs; outputs = outputs }

-- ---- NAND, and NOT of it

-- the gates at 3 and 4 over two sources; the second is the sink
abbrev pub nand_not : Net
nand_not = record { sources = 2; gates = gate_of 14 (Node 1) (Node 2) ∷ gate_of 14 (Node 3) (Node 3) ∷ []; sinks = Node 4 ∷ [] }

abbrev pub both_gates : Window
both_gates = window_of 4 (3 ∷ 4 ∷ []) (1 ∷ 2 ∷ []) (4 ∷ [])

abbrev pub and_chain : Chain
and_chain = record { n = 2; steps = record { j = 1; k = 2; op = 1 } ∷ []; outs = outs.Place 3 ∷ [] }

abbrev pub and_net : Net
and_net = record { sources = 2; gates = gate_of 1 (Node 1) (Node 2) ∷ []; sinks = Node 3 ∷ [] }

-- the first gate by itself, with the second, which reads it, as an input
abbrev pub input_above : Window
input_above = window_of 3 (3 ∷ []) (1 ∷ 2 ∷ 4 ∷ []) (3 ∷ [])

pub nand_not_is_and : after_substitution nand_not both_gates and_chain ≡ and_net
unfolding after_substitution kept_after marked with_sigs
nand_not_is_and = refl

-- ---- a gate with a gate and a sink as fanouts

-- AND at 3, OR of the first source and it at 4, XOR of the sources at 5; all three are sinks, and so is a
-- source
abbrev pub three_gates : Net
three_gates = record { sources = 2; gates = gate_of 1 (Node 1) (Node 2) ∷ gate_of 7 (Node 1) (Node 3) ∷ gate_of 6 (Node 1) (Node 2) ∷ []; sinks = Node 4 ∷ Node 5 ∷ Node 3 ∷ Node 2 ∷ [] }

abbrev pub first_gate : Window
first_gate = window_of 3 (3 ∷ []) (1 ∷ 2 ∷ []) (3 ∷ [])

-- chains without steps: the output is an input, or a constant
abbrev pub input_chain : Chain
input_chain = record { n = 2; steps = []; outs = outs.Place 1 ∷ [] }

abbrev pub one_chain : Chain
one_chain = record { n = 2; steps = []; outs = outs.One ∷ [] }

abbrev pub with_input : Net
with_input = record { sources = 2; gates = gate_of 7 (Node 1) (Node 1) ∷ gate_of 6 (Node 1) (Node 2) ∷ []; sinks = Node 3 ∷ Node 4 ∷ Node 1 ∷ Node 2 ∷ [] }

abbrev pub with_one : Net
with_one = record { sources = 2; gates = gate_of 7 (Node 1) One ∷ gate_of 6 (Node 1) (Node 2) ∷ []; sinks = Node 3 ∷ Node 4 ∷ One ∷ Node 2 ∷ [] }

pub out_is_input : after_substitution three_gates first_gate input_chain ≡ with_input
unfolding after_substitution kept_after marked with_sigs
out_is_input = refl

pub out_is_constant : after_substitution three_gates first_gate one_chain ≡ with_one
unfolding after_substitution kept_after marked with_sigs
out_is_constant = refl

-- ---- two gates side by side

-- AND at 3 and at 4
abbrev pub two_ands : Net
two_ands = record { sources = 2; gates = gate_of 1 (Node 1) (Node 2) ∷ gate_of 1 (Node 1) (Node 2) ∷ []; sinks = Node 3 ∷ Node 4 ∷ [] }

-- one step has both outputs
abbrev pub one_for_two : Chain
one_for_two = record { n = 2; steps = record { j = 1; k = 2; op = 1 } ∷ []; outs = outs.Place 3 ∷ outs.Place 3 ∷ [] }

abbrev pub both_ands : Window
both_ands = window_of 4 (3 ∷ 4 ∷ []) (1 ∷ 2 ∷ []) (3 ∷ 4 ∷ [])

abbrev pub one_and : Net
one_and = record { sources = 2; gates = gate_of 1 (Node 1) (Node 2) ∷ []; sinks = Node 3 ∷ Node 3 ∷ [] }

pub two_are_one : after_substitution two_ands both_ands one_for_two ≡ one_and
unfolding after_substitution kept_after marked with_sigs
two_are_one = refl

-- the second by itself, with the first as a further input
abbrev pub wide_second : Window
wide_second = window_of 4 (4 ∷ []) (1 ∷ 2 ∷ 3 ∷ []) (4 ∷ [])

-- the chain that has this input for its output
abbrev pub third_input : Chain
third_input = record { n = 3; steps = []; outs = outs.Place 3 ∷ [] }

pub second_is_first : after_substitution two_ands wide_second third_input ≡ one_and
unfolding after_substitution kept_after marked with_sigs
second_is_first = refl

reads_first : (h index : ℕ) → slice_get two_ands.gates index ≡ Some (gate_of 1 (Node 1) (Node 2)) → 3 + index ≡ h → Reads two_ands h 1
reads_first h index at node = record { fanout = record { index = index; gate = gate_of 1 (Node 1) (Node 2); at = at; node = node }; reads = inl refl }

shares_three : SharesBelow two_ands 4 3
shares_three = record { below = omega arith; shared = 1; first = reads_first 4 1 refl refl; second = reads_first 3 0 refl refl }

is_three : (h : ℕ) → SharesBelow two_ands 4 h → h ≡ 3
is_three h s = let high = gate_high two_ands h s.second.fanout in omega (arith, high.0, s.below)

-- the partner of 4 is 3 alone
pub partner_of_four : ArePartners two_ands 4 (3 ∷ [])
unfolding IsFalling
partner_of_four =
    record {
      falling = (λ q e. absurd (let x : false ≡ true = e in cc), tt);
      share = λ h e. ⊎_elim (λ (same : h ≡ 3). subst (SharesBelow two_ands 4) (sym same) shares_three) (λ none. absurd (let x : false ≡ true = none in cc)) (among_cases 3 h [] e);
      few = omega arith;
      others = λ h s. inl (or_left (nat_eq h 3) false (eq-eqb h 3 (is_three h s)));
    }

-- and 3 has none
pub partner_of_three : ArePartners two_ands 3 []
unfolding IsFalling
partner_of_three =
    record {
      falling = tt;
      share = λ h e. absurd (let x : false ≡ true = e in cc);
      few = omega arith;
      others = λ h s. absurd (let high = gate_high two_ands h s.second.fanout in omega (arith, high.0, s.below));
    }
