-- Circuits whose miter is refuted are equivalent.
use Rattle.sat_theory.specs.Log.{Refutes}
use Rattle.sat_theory.specs.Soundness.{no_assignment}
use Rattle.std.specs.Prelude.{◌≡◌, ℕ, ◌-◌, Bool, List}
use Rattle.std.proofs.Common.{subst}
use Rattle.sat_theory.specs.Line.{Line}
use Rattle.net_theory.specs.Net.{Net, bit_of, sink_values}
use Rattle.net_theory.specs.Circuit.{Circuit, IsProper}
use Rattle.net_document.specs.Equivalence.{AreEquivalentCircuits}
use Rattle.equiv_theory.specs.Miter.{miter}
use Rattle.equiv_theory.specs.Counterexample.{AreComparable, HaveSameInterface, IsCounterexample, DifferAt}
use Rattle.equiv_theory.specs.FormulaLaws.{miter_formula}
use Rattle.equiv_theory.specs.CircuitLaws.{comparable, refuted_equivalent, refuted_values}
use Rattle.equiv_core.specs.declared.answer.EquivResult.{EquivResult}
use Rattle.equiv_core.specs.declared.answer.EquivResult.TheVariants.{Equal, Differ, Undecided}
use Rattle.equiv_core.specs.Comparing.{IfEqual, IfDiffer, IsDecided}

pub equal_equivalent : (c k : Circuit) (e : EquivResult) → IsProper c → IsProper k → HaveSameInterface c k → IfEqual e (Refutes (miter c.net k.net)) → IfEqual e (λ _. AreEquivalentCircuits c k)
equal_equivalent c k (Equal log) of_c of_k same refutes =
    refuted_equivalent c k of_c of_k same (λ some. no_assignment (miter c.net k.net) log some.0 (miter_formula c.net k.net (comparable c k of_c of_k same)) refutes some.1)
equal_equivalent c k (Differ sink at) of_c of_k same refutes = tt
equal_equivalent c k (Undecided log) of_c of_k same refutes = tt

-- nets whose miter is refuted have the same values at their sinks
pub equal_values : (first second : Net) (e : EquivResult) (log : List Line) → e ≡ Equal log → AreComparable first second →
    IfEqual e (Refutes (miter first second)) → (given : ℕ → Bool) → sink_values first given ≡ sink_values second given
equal_values first second e log is are refutes =
    refuted_values first second are (λ some. no_assignment (miter first second) log some.0
    (miter_formula first second are) (subst (λ (x : EquivResult). IfEqual x (Refutes (miter first second))) is refutes)
    some.1)

-- the answer of a difference is a counterexample to the nets' equivalence
pub difference_shown : (first second : Net) (e : EquivResult) (sink : ℕ) (bits : List Bool) → e ≡ Differ sink bits →
    IfDiffer e (IsCounterexample first second) → (given : ℕ → Bool) × (i : ℕ) × DifferAt first second given i
difference_shown first second e sink bits is found =
    let simulated : IsCounterexample first second sink bits = subst (λ (x : EquivResult). IfDiffer x (IsCounterexample first second)) is found in
    (bit_of bits, sink - 1, simulated.first_sink.here)

-- if an answer decides, it isn't undecided
pub none_undecided : (first second : Net) (e : EquivResult) (log : List Line) → e ≡ Undecided log → IsDecided e → (given : ℕ → Bool) × (i : ℕ) × DifferAt first second given i
none_undecided first second e log is decided = absurd (subst (λ (x : EquivResult). IsDecided x) is decided)
