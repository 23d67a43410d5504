-- The miter of circuits: where it is unsatisfiable, circuits of one interface are equivalent.
use Rattle.std.proofs.Common.{◌≡◌, ◌≢◌, ℕ, ◌<◌, Bool, true, false, List, [], ◌∷◌, ◌++◌, suc, length, map, refl, sym, ap, ◌∙◌, arith}
use Rattle.std.specs.Prelude.{slice_index_or}
use Rattle.std.proofs.lemmas.List.{length-map}
use Rattle.clause_core.specs.Clauses.{IsSatisfiable}
use Rattle.net_theory.specs.Document.{Name, Latch, latch_output}
use Rattle.net_theory.specs.Net.{Net, sig_value, value, sink_values}
use Rattle.net_theory.specs.Circuit.{Circuit, IsProper, sources_of, by_node}
use Rattle.net_document.specs.Equivalence.{AreEquivalentCircuits}
use Rattle.equiv_theory.specs.Miter.{miter}
use Rattle.equiv_theory.specs.Counterexample.{sink_bit, AreComparable, Differ, HaveSameInterface}
use Rattle.equiv_theory.specs.MiterLaws.{miter_complete}

same_sources : (c k : Circuit) → HaveSameInterface c k → sources_of c ≡ sources_of k
same_sources c k same = ap (λ (ns : List Name). ns ++ map latch_output c.latches) same.inputs ∙ ap (λ (ls : List Latch). k.inputs ++ map latch_output ls) same.latches

-- circuits of one interface have nets that can be compared
pub comparable : (c k : Circuit) → IsProper c → IsProper k → HaveSameInterface c k → AreComparable c.net k.net
comparable c k of_c of_k same = record {
  first_net = of_c.net;
  second_net = of_k.net;
  sources = of_c.source_count ∙ ap length (same_sources c k same) ∙ sym of_k.source_count;
  sinks =
      let outputs : length c.outputs ≡ length k.outputs = ap length same.outputs in
      let latches : length c.latches ≡ length k.latches = ap length same.latches in
      omega (arith, of_c.sink_count, of_k.sink_count);
}

-- lists of one length that differ nowhere are equal
same_bits : (xs ys : List Bool) → length xs ≡ length ys → ((i : ℕ) → i < length xs → slice_index_or xs i false ≡ slice_index_or ys i false) → xs ≡ ys
same_bits [] [] long each = refl
same_bits [] (y ∷ ys) long each = absurd (omega arith)
same_bits (x ∷ xs) [] long each = absurd (omega arith)
same_bits (x ∷ xs) (y ∷ ys) long each =
    let here : x ≡ y = each 0 (omega arith) in
    rw here (ap (λ (zs : List Bool). y ∷ zs) (same_bits xs ys (omega arith) (λ i low. each (suc i) (omega arith))))

same_or_other : (x y : Bool) → (x ≢ y → ⊥) → x ≡ y
same_or_other true true h = refl
same_or_other true false h = absurd (h (λ e. cc))
same_or_other false true h = absurd (h (λ e. cc))
same_or_other false false h = refl

values_same : (first second : Net) (given : ℕ → Bool) → length first.sinks ≡ length second.sinks → (Differ first second → ⊥) → sink_values first given ≡ sink_values second given
values_same first second given sinks never =
    let first_long : length (sink_values first given) ≡ length first.sinks = length-map first.sinks (sig_value (value first given)) in
    let second_long : length (sink_values second given) ≡ length second.sinks = length-map second.sinks (sig_value (value second given)) in
    same_bits (sink_values first given) (sink_values second given) (first_long ∙ sinks ∙ sym (second_long))
    (λ i low. same_or_other (sink_bit first given i) (sink_bit second given i) (λ apart. never (given, i, record { below = omega (arith, low, first_long); differ = apart })))

-- If the miter of two nets is unsatisfiable, their sinks have the same values under every assignment.
pub refuted_values : (first second : Net) → AreComparable first second → (IsSatisfiable (miter first second) → ⊥) → (given : ℕ → Bool) → sink_values first given ≡ sink_values second given
refuted_values first second are none given = values_same first second given are.sinks (λ differ. none (miter_complete first second are differ))

-- If the miter of two circuits of one interface is unsatisfiable, the circuits are equivalent.
pub refuted_equivalent : (c k : Circuit) → IsProper c → IsProper k → HaveSameInterface c k → (IsSatisfiable (miter c.net k.net) → ⊥) → AreEquivalentCircuits c k
refuted_equivalent c k of_c of_k same none =
    let are : AreComparable c.net k.net = comparable c k of_c of_k same in
    record {
      inputs = same.inputs;
      outputs = same.outputs;
      clocks = same.clocks;
      latches = same.latches;
      values = λ given. values_same c.net k.net (by_node (sources_of c) given) are.sinks (λ differ. none (miter_complete c.net k.net are differ))
          ∙ ap (λ (ns : List Name). sink_values k.net (by_node ns given)) (same_sources c k same);
    }
