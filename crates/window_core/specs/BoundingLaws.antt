-- Gates that were taken, with their inputs and outputs, are the window, or there is none.
use Rattle.std.specs.Prelude.{ℕ, ◌≤◌, ◌<◌, List, length, Option}
use Rattle.std.proofs.Common.{arith, refl}
use Rattle.net_theory.specs.Net.{Net, IsNet}
use Rattle.window_theory.specs.Nodes.{AreJust}
use Rattle.window_theory.specs.Window.{Window, AreTaken, Takes, IsInput, IsOutput, HasPartner, IsWindow}
use Rattle.window_theory.specs.WindowLaws.{taken_rising}
use Rattle.window_theory.specs.GrowthLaws.{window_partner, window_inputs}
use Rattle.window_core.specs.Shape.{IsShaped}
use Rattle.chain_theory.specs.Limits.{most_inputs, most_outputs}
use Rattle.settings.specs.Limits.{most_gates_of_window}

pub takes_these : (n : Net) (root : ℕ) (partner : Option ℕ) (gates : List ℕ) → IsNet n → AreTaken n root partner gates → Takes n root partner (length gates) gates
takes_these n root partner gates net are =
    record {
      taken = gates;
      are = are;
      count_is = refl;
      gates_are = record { rising = taken_rising n root partner gates net are; only = λ p e. e; all = λ p e. e };
    }

pub no_partner : (n : Net) (root : ℕ) (partner : Option ℕ) (gates : List ℕ) (w : Window) → IsNet n →
    AreTaken n root partner gates → (HasPartner partner gates → ⊥) → IsWindow n root partner (length gates) w → ⊥
no_partner n root partner gates w net are none is = none (window_partner n root partner (length gates) gates w (takes_these n root partner gates net are) is)

pub many_inputs : (n : Net) (root : ℕ) (partner : Option ℕ) (gates inputs : List ℕ) (w : Window) → IsNet n →
    AreTaken n root partner gates → AreJust (IsInput n gates) inputs → most_inputs < length inputs →
    IsWindow n root partner (length gates) w → ⊥
many_inputs n root partner gates inputs w net are just many is =
    let few : length inputs ≤ most_inputs = window_inputs n root partner (length gates) gates inputs w (takes_these n root partner gates net are) just is in
    omega (arith, few, many)

pub window_is : (n : Net) (root : ℕ) (partner : Option ℕ) (gates inputs outputs : List ℕ) → IsNet n →
    AreTaken n root partner gates → HasPartner partner gates → AreJust (IsInput n gates) inputs → length inputs ≤ most_inputs →
    AreJust (IsOutput n gates) outputs → length outputs ≤ most_outputs
    → IsWindow n root partner (length gates) (record { root = root; partner = partner; gates = gates; inputs = inputs; outputs = outputs })
window_is n root partner gates inputs outputs net are has just_in few_in just_out few_out =
    record {
      root_is = refl;
      partner_is = refl;
      takes = takes_these n root partner gates net are;
      has_partner = has;
      inputs = just_in;
      outputs = just_out;
      few_inputs = few_in;
      few_outputs = few_out;
    }

pub window_shaped : (n : Net) (root : ℕ) (partner : Option ℕ) (gates inputs outputs : List ℕ) → IsNet n →
    AreTaken n root partner gates → 1 ≤ length gates → length gates ≤ most_gates_of_window → AreJust (IsInput n gates) inputs →
    length inputs ≤ most_inputs → AreJust (IsOutput n gates) outputs → length outputs ≤ most_outputs
    → IsShaped (record { root = root; partner = partner; gates = gates; inputs = inputs; outputs = outputs })
window_shaped n root partner gates inputs outputs net are some few just_in few_in just_out few_out =
    record {
      gates = taken_rising n root partner gates net are;
      inputs = just_in.rising;
      outputs = just_out.rising;
      some_gates = some;
      few_gates = few;
      few_inputs = few_in;
      few_outputs = few_out;
    }
