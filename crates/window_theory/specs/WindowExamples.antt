-- Worked examples: two gates side by side, both AND of the two sources and both sinks, as a window with a
-- partner and as a wide window; and an input that a window can't have.
use Rattle.std.specs.Prelude.{◌≡◌, ℕ, zero, suc, ◌≤◌, ◌<◌, true, false, [], ◌∷◌, slice_get, Some, refl}
use Rattle.std.proofs.Common.{arith, sym, ◌∙◌, ap, subst, inl, inr, ⊎_elim, ◌≢◌}
use Rattle.std.proofs.lemmas.Bool.{cases_Bool}
use Rattle.net_theory.specs.declared.data.Sig.TheVariants.{Node}
use Rattle.net_theory.specs.declared.data.Gate.{Gate}
use Rattle.net_theory.specs.Reach.{ReadsNode, is_sink}
use Rattle.net_theory.specs.Expansion.{gate_of}
use Rattle.window_theory.specs.Nodes.{among, IsRising, AreJust}
use Rattle.window_theory.specs.NodeLaws.{among_cases}
use Rattle.window_theory.specs.Paths.{IsGate, Reads, HasPath, at_once, by_way_of}
use Rattle.window_theory.specs.Window.{Window, IsGreatestCandidate, AreTaken, IsInput, IsOutput, Belongs, IsWindow}
use Rattle.window_theory.specs.WindowLaws.{gate_high}
use Rattle.window_theory.specs.Examples.{two_ands, wide_second, nand_not, input_above}
use Rattle.window_theory.specs.RowExamples.{none_among, two_cases, three_cases, low_two, low_three, rising_two, rising_three}

-- the window of the second gate with the first as its partner
abbrev pub side_by_side : Window
side_by_side = record { root = 4; partner = Some 3; gates = 3 ∷ 4 ∷ []; inputs = 1 ∷ 2 ∷ []; outputs = 3 ∷ 4 ∷ [] }

-- ---- the gates

abbrev first : IsGate two_ands 3
first = record { index = 0; gate = gate_of 1 (Node 1) (Node 2); at = refl; node = refl }

abbrev second : IsGate two_ands 4
second = record { index = 1; gate = gate_of 1 (Node 1) (Node 2); at = refl; node = refl }

-- ---- the inputs

one_or_two : (q p : ℕ) → Node q ≡ Node p → q ≡ p
one_or_two q p e = cc

and_reads : (g : Gate) (p : ℕ) → gate_of 1 (Node 1) (Node 2) ≡ g → ReadsNode g p → (1 ≤ p) × (p < 3)
and_reads g p same reads =
    ⊎_elim
    (λ a. let one : 1 ≡ p = one_or_two 1 p (ap (λ (x : Gate). x.a) same ∙ a) in (omega (arith, one), omega (arith, one)))
    (λ b. let two : 2 ≡ p = one_or_two 2 p (ap (λ (x : Gate). x.b) same ∙ b) in (omega (arith, two), omega (arith, two)))
    reads

same_gate : (g : Gate) → Some (gate_of 1 (Node 1) (Node 2)) ≡ Some g → gate_of 1 (Node 1) (Node 2) ≡ g
same_gate g e = cc

reads_in_turn : (i : ℕ) (g : Gate) (p : ℕ) → slice_get two_ands.gates i ≡ Some g → ReadsNode g p → (1 ≤ p) × (p < 3)
reads_in_turn zero g p at reads = and_reads g p (same_gate g at) reads
reads_in_turn (suc zero) g p at reads = and_reads g p (same_gate g at) reads
reads_in_turn (suc (suc i)) g p at reads = absurd cc

-- the gates read the sources alone
reads_sources : (h p : ℕ) → Reads two_ands h p → (1 ≤ p) × (p < 3)
reads_sources h p r = reads_in_turn r.fanout.index r.fanout.gate p r.fanout.at r.reads

sources_are_inputs : AreJust (IsInput two_ands (3 ∷ 4 ∷ [])) (1 ∷ 2 ∷ [])
sources_are_inputs =
    record {
      rising = rising_two;
      only = λ p e. ⊎_elim
          (λ one. subst (IsInput two_ands (3 ∷ 4 ∷ [])) (sym one) (record { outside = refl; read = record { fanout = 3; inside = refl; reads = record { fanout = first; reads = inl refl } } }))
          (λ two. subst (IsInput two_ands (3 ∷ 4 ∷ [])) (sym two) (record { outside = refl; read = record { fanout = 3; inside = refl; reads = record { fanout = first; reads = inr refl } } }))
          (two_cases 1 2 p e);
      all = λ p is. let low = reads_sources is.read.fanout p is.read.reads in low_two p low.0 low.1;
    }

-- ---- the outputs

rising_gates : IsRising (3 ∷ 4 ∷ [])
unfolding IsRising
rising_gates =
    let last : IsRising (4 ∷ []) = (λ q e. absurd (none_among q e), tt) in
    (λ q e. ⊎_elim (λ (four : q ≡ 4). omega arith) (λ none. absurd (none_among q none)) (among_cases 4 q [] e), last)

both_are_outputs : AreJust (IsOutput two_ands (3 ∷ 4 ∷ [])) (3 ∷ 4 ∷ [])
unfolding is_sink
both_are_outputs =
    record {
      rising = rising_gates;
      only = λ p e. ⊎_elim
          (λ three. subst (IsOutput two_ands (3 ∷ 4 ∷ [])) (sym three) (record { inside = refl; seen = inr refl }))
          (λ four. subst (IsOutput two_ands (3 ∷ 4 ∷ [])) (sym four) (record { inside = refl; seen = inr refl }))
          (two_cases 3 4 p e);
      all = λ p is. is.inside;
    }

-- ---- the gates are taken

root_is_first : IsGreatestCandidate two_ands 4 (Some 3) [] 4
root_is_first =
    record {
      candidate = record { gate = second; outside = refl; why = inl (inl refl) };
      greatest = λ q is. let high = gate_high two_ands q is.gate in omega (arith, high.1);
    }

not_four : (q : ℕ) → among (4 ∷ []) q ≡ false → q ≢ 4
not_four q out four = let e : true ≡ false = subst (λ (x : ℕ). among (4 ∷ []) x ≡ false) four out in absurd cc

partner_is_next : IsGreatestCandidate two_ands 4 (Some 3) (4 ∷ []) 3
partner_is_next =
    record {
      candidate = record { gate = first; outside = refl; why = inl (inr refl) };
      greatest = λ q is.
          let high = gate_high two_ands q is.gate in
          let other : q ≢ 4 = not_four q is.outside in
          omega (arith, high.1, other);
    }

both_are_taken : AreTaken two_ands 4 (Some 3) (3 ∷ 4 ∷ [])
unfolding AreTaken
both_are_taken = (partner_is_next, (root_is_first, tt))

-- The window of 4, its partner 3 and the count 2 has both gates, both sources for inputs, and both gates for
-- outputs.
pub side_by_side_is : IsWindow two_ands 4 (Some 3) 2 side_by_side
side_by_side_is =
    record {
      root_is = refl;
      partner_is = refl;
      takes = record { taken = 3 ∷ 4 ∷ []; are = both_are_taken; count_is = refl; gates_are = record { rising = rising_gates; only = λ p e. e; all = λ p e. e } };
      has_partner = refl;
      inputs = sources_are_inputs;
      outputs = both_are_outputs;
      few_inputs = omega arith;
      few_outputs = omega arith;
    }

-- ---- a wide window

just_four : (p : ℕ) → among (4 ∷ []) p ≡ true → p ≡ 4
just_four p e = ⊎_elim (λ four. four) (λ none. absurd (none_among p none)) (among_cases 4 p [] e)

rising_four : IsRising (4 ∷ [])
unfolding IsRising
rising_four = (λ q e. absurd (none_among q e), tt)

four_is_output : AreJust (IsOutput two_ands (4 ∷ [])) (4 ∷ [])
unfolding is_sink
four_is_output =
    record {
      rising = rising_four;
      only = λ p e. subst (IsOutput two_ands (4 ∷ [])) (sym (just_four p e)) (record { inside = refl; seen = inr refl });
      all = λ p is. is.inside;
    }

-- paths begin at the sources
from_sources : (p g : ℕ) → HasPath two_ands p g → p < 3
from_sources _ _ (at_once p g reads) = (reads_sources g p reads).1
from_sources _ _ (by_way_of p q g before reads) = from_sources p q before

one_to_three : (p : ℕ) → among (1 ∷ 2 ∷ 3 ∷ []) p ≡ true → (1 ≤ p) × (p < 4)
one_to_three p e = ⊎_elim
    (λ (one : p ≡ 1). (omega arith, omega arith))
    (λ rest. ⊎_elim (λ (two : p ≡ 2). (omega arith, omega arith)) (λ (three : p ≡ 3). (omega arith, omega arith)) rest)
    (three_cases 1 2 3 p e)

four_outside : (p : ℕ) → p < 4 → among (4 ∷ []) p ≡ false
four_outside p low = ⊎_elim (λ on. absurd (omega (arith, low, just_four p on))) (λ off. off) (cases_Bool (among (4 ∷ []) p))

-- The second gate with the first as a further input.
pub wide_belongs : Belongs two_ands wide_second
wide_belongs =
    record {
      rising = rising_four;
      gates = λ p e. subst (IsGate two_ands) (sym (just_four p e)) second;
      inputs_rising = rising_three;
      read = λ p is. let low = reads_sources is.read.fanout p is.read.reads in low_three p low.0 (omega (arith, low.1));
      apart = λ p e. record {
        outside = four_outside p (one_to_three p e).1;
        above = λ g inside up. let low : g < 3 = from_sources g p up in absurd (omega (arith, low, just_four g inside));
      };
      within = λ p e. let there = one_to_three p e in (there.0, omega (arith, there.1));
      outputs = four_is_output;
    }

-- A gate that reads a window's gate is none of the window's inputs.
pub above_is_refused : Belongs nand_not input_above → ⊥
above_is_refused is = (is.apart 4 refl).above 3 refl (at_once 3 4 (record { fanout = record { index = 1; gate = gate_of 14 (Node 3) (Node 3); at = refl; node = refl }; reads = inl refl }))
