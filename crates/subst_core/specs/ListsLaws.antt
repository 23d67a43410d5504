-- What holds of a window holds of every window with the same lists.
use Rattle.std.specs.Prelude.{◌≡◌, ℕ, ◌+◌, ◌-◌, ◌≤◌, ◌<◌, ◌^◌, Bool, true, not, ◌&&◌, List, length, map, slice_index_or}
use Rattle.std.proofs.Common.{arith, sym, ◌∙◌, ap, subst}
use Rattle.chain_theory.specs.Specification.{Specification}
use Rattle.chain_theory.specs.Chain.{Chain}
use Rattle.chain_theory.specs.Value.{values_after}
use Rattle.chain_theory.specs.declared.data.Cell.TheVariants.{Free}
use Rattle.net_theory.specs.Net.{Net, end_of, sig_value, value, sink_values}
use Rattle.window_theory.specs.Nodes.{among, IsRising, AreJust}
use Rattle.window_theory.specs.Window.{Window, IsInput, IsOutput, IsOutsideFanout, Belongs}
use Rattle.window_theory.specs.Care.{values_with, HasRow, IsCareRow, cell_of, IsSpecificationOf}
use Rattle.window_theory.specs.Substituted.{Fits, out_bit, with_bits, step_gate, passing, IsSubstitution}
use Rattle.subst_core.specs.Lists.{HaveSameLists}
use Rattle.subst_core.specs.Substitution.{HasNodeRoom, Meets, KeepsSinks, IsSubstituted}

pub same_turned : (w v : Window) → HaveSameLists w v → HaveSameLists v w
same_turned w v same = record { gates = sym same.gates; inputs = sym same.inputs; outputs = sym same.outputs }

-- what a window's inputs are, by its gates
record HasInputs (n : Net) (gates inputs : List ℕ) : Type 0 where
  rising : IsRising inputs
  read : (p : ℕ) → IsInput n gates p → among inputs p ≡ true
  apart : (p : ℕ) → among inputs p ≡ true → IsOutsideFanout n gates p
  within : (p : ℕ) → among inputs p ≡ true → (1 ≤ p) × (p < end_of n)

pub same_belongs : (n : Net) (w v : Window) → HaveSameLists w v → Belongs n w → Belongs n v
same_belongs n w v same is =
    let own : HasInputs n w.gates w.inputs = record { rising = is.inputs_rising; read = is.read; apart = is.apart; within = is.within } in
    let inputs : HasInputs n v.gates v.inputs = subst (λ (gs : List ℕ). HasInputs n gs v.inputs) same.gates (subst (HasInputs n w.gates) same.inputs own) in
    record {
      rising = subst IsRising same.gates is.rising;
      gates = λ p on. is.gates p (subst (λ (gs : List ℕ). among gs p ≡ true) (sym same.gates) on);
      inputs_rising = inputs.rising;
      read = inputs.read;
      apart = inputs.apart;
      within = inputs.within;
      outputs = subst (λ (gs : List ℕ). AreJust (IsOutput n gs) v.outputs) same.gates (subst (AreJust (IsOutput n w.gates)) same.outputs is.outputs);
    }

pub same_fits : (w v : Window) (c : Chain) → HaveSameLists w v → Fits w c → Fits v c
same_fits w v c same fits =
    record {
      chain = fits.chain;
      inputs = fits.inputs ∙ ap (length {A = ℕ}) same.inputs;
      outs = fits.outs ∙ ap (length {A = ℕ}) same.outputs;
    }

-- ---- specifications

abbrev HasCare : Net → Specification → List ℕ → List ℕ → Type 0
HasCare n s inputs outputs = (h t : ℕ) (given : ℕ → Bool) → 1 ≤ h → h ≤ length outputs → t < 2 ^ length inputs →
    IsCareRow n inputs t → HasRow given inputs t →
    s.cell h t ≡ cell_of (values_with n (among inputs) given (slice_index_or outputs (h - 1) 0))

abbrev HasFree : Net → Specification → List ℕ → List ℕ → Type 0
HasFree n s inputs outputs = (h t : ℕ) → 1 ≤ h → h ≤ length outputs → t < 2 ^ length inputs → (IsCareRow n inputs t → ⊥) → s.cell h t ≡ Free

-- a fact about two lists carries over to equal lists
along : (P : List ℕ → List ℕ → Type 0) (a b c d : List ℕ) → a ≡ c → b ≡ d → P a b → P c d
along P a b c d first second fact = subst (P c) second (subst (λ (xs : List ℕ). P xs b) first fact)

pub same_specification : (n : Net) (w v : Window) (s : Specification) → HaveSameLists w v → IsSpecificationOf n w s → IsSpecificationOf n v s
same_specification n w v s same spec =
    record {
      inputs = spec.inputs ∙ ap (length {A = ℕ}) same.inputs;
      outputs = spec.outputs ∙ ap (length {A = ℕ}) same.outputs;
      care = along (HasCare n s) w.inputs w.outputs v.inputs v.outputs same.inputs same.outputs spec.care;
      free = along (HasFree n s) w.inputs w.outputs v.inputs v.outputs same.inputs same.outputs spec.free;
    }

pub same_meets : (n : Net) (w v : Window) (c : Chain) → HaveSameLists w v → Meets n w c → Meets n v c
same_meets n w v c same meets =
    record {
      chain = meets.chain;
      specification = meets.specification;
      is = same_specification n w v meets.specification same meets.is;
      agrees = meets.agrees;
    }

-- ---- substitutions

-- the values of the sinks where a chain replaces the window of these inputs and outputs
abbrev HasSubstitutedValues : Net → Chain → Net → List ℕ → List ℕ → Type 0
HasSubstitutedValues n c m inputs outputs = (given : ℕ → Bool) →
    sink_values m given ≡ map (sig_value (values_with n (among outputs)
    (with_bits given outputs (map (out_bit (values_after (λ j. value n given (slice_index_or inputs (j - 1) 0))
    (c.n + 1) c.steps)) c.outs)))) n.sinks

abbrev HasOperatorsOutside : Net → Chain → Net → List ℕ → Type 0
HasOperatorsOutside n c m gates = (test : ℕ → Bool) → passing (λ p op. test op) (m.sources + 1) m.gates ≡
    passing (λ p op. not (among gates p) && test op) (n.sources + 1) n.gates + passing (λ p op. test op) (c.n + 1)
    (map step_gate c.steps)

pub same_substitution : (n m : Net) (w v : Window) (c : Chain) → HaveSameLists w v → IsSubstitution n w c m → IsSubstitution n v c m
same_substitution n m w v c same is =
    record {
      net = is.net;
      sources = is.sources;
      sink_count = is.sink_count;
      values = along (HasSubstitutedValues n c m) w.inputs w.outputs v.inputs v.outputs same.inputs same.outputs is.values;
      operators = subst (HasOperatorsOutside n c m) same.gates is.operators;
      gate_count = subst (λ (gs : List ℕ). length m.gates + length gs ≡ length n.gates + length c.steps) same.gates is.gate_count;
      still = is.still;
      equal = is.equal;
    }

-- the sinks keep their values where a chain replaces the window of these inputs and outputs
abbrev KeepsByLists : Net → Chain → List ℕ → List ℕ → Type 0
KeepsByLists n c inputs outputs = (given : ℕ → Bool) →
    map (sig_value (values_with n (among outputs)
    (with_bits given outputs (map (out_bit (values_after (λ j. value n given (slice_index_or inputs (j - 1) 0))
    (c.n + 1) c.steps)) c.outs)))) n.sinks ≡ sink_values n given

pub same_keeps : (n : Net) (w v : Window) (c : Chain) → HaveSameLists w v → KeepsSinks n w c → KeepsSinks n v c
same_keeps n w v c same keeps = along (KeepsByLists n c) w.inputs w.outputs v.inputs v.outputs same.inputs same.outputs keeps

pub same_substituted : (n m : Net) (w v : Window) (c : Chain) → HaveSameLists w v → IsSubstituted n w c m → IsSubstituted n v c m
same_substituted n m w v c same is = record { after_substitution = same_substitution n m w v c same is.after_substitution; values = is.values }

-- ---- sizes

pub same_size : (w v : Window) → HaveSameLists w v → length w.gates ≡ length v.gates
same_size w v same = ap (length {A = ℕ}) same.gates

pub same_room : (n : Net) (w v : Window) (c : Chain) → HaveSameLists w v → HasNodeRoom n w c → HasNodeRoom n v c
same_room n w v c same room = let size : length w.gates ≡ length v.gates = same_size w v same in omega (arith, room, size)
