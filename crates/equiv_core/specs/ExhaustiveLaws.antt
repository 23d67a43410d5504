-- The assignments of the sources that extend given values are those that extend them by 0 and by 1 at the next
-- source; if no source is left, there is one.
use Rattle.std.proofs.Common.{◌≡◌, ◌≢◌, ℕ, suc, ◌+◌, ◌-◌, ◌≤◌, ◌<◌, Bool, true, false, List, [], ◌∷◌, ◌++◌, length, length-append, add-zero, refl, sym, ap, ◌∙◌, subst, arith, ⊎_elim}
use Rattle.std.specs.Prelude.{slice_get, slice_index_or, Option, Some, IfSome}
use Rattle.std.proofs.lemmas.Bool.{cases_eq, ne_eqb}
use Rattle.std.proofs.lemmas.List.{get_or_append_left}
use Rattle.std.proofs.Math.Seq.{get_or-append_seam}
use Rattle.chain_theory.specs.Value.{extended}
use Rattle.chain_theory.specs.ValueLaws.{extended-same, extended-other}
use Rattle.net_theory.specs.declared.data.Gate.{Gate}
use Rattle.net_theory.specs.Net.{Net, IsNet, IsGateAt, gate_value, values_after, bit_of, end_of, sink_values, value}
use Rattle.equiv_theory.specs.Counterexample.{sink_bit, AreComparable, Differ, DifferAt, DifferFirstAt}
use Rattle.equiv_theory.specs.MiterLaws.{miter_sound}
use Rattle.equiv_theory.specs.CircuitLaws.{refuted_values}
use Rattle.equiv_core.specs.SinkLaws.{sig_same, signals_same}
use Rattle.equiv_core.specs.Exhaustive.{HasNoneUnder}

-- ---- there is no node 0

gate_same : (f g : ℕ → Bool) (node : ℕ) (gate : Gate) → IsGateAt node gate → ((p : ℕ) → 1 ≤ p → p < node → f p ≡ g p) → gate_value f gate ≡ gate_value g gate
gate_same f g node gate is same = rw (sig_same f g gate.a node is.first same, sig_same f g gate.b node is.second same) refl

nodes_same : (f g : ℕ → Bool) (node : ℕ) (gs : List Gate) →
    ((i : ℕ) (h : Gate) → slice_get gs i ≡ Some h → IsGateAt (node + i) h) → ((p : ℕ) → 1 ≤ p → p < node → f p ≡ g p) →
    (p : ℕ) → 1 ≤ p → p < node + length gs → values_after f node gs p ≡ values_after g node gs p
unfolding values_after
nodes_same f g node [] are same p some low = same p some (omega arith)
nodes_same f g node (h ∷ gs) are same p some low =
    let own : IsGateAt node h = subst (λ (q : ℕ). IsGateAt q h) (add-zero node) (are 0 h refl) in
    let later : (i : ℕ) (x : Gate) → slice_get gs i ≡ Some x → IsGateAt ((node + 1) + i) x = λ i x at. let e : node + suc i ≡ (node + 1) + i = omega arith in
    subst (λ (q : ℕ). IsGateAt q x) e (are (suc i) x at) in
    let agree : (q : ℕ) → 1 ≤ q → q < node + 1 → extended f node (gate_value f h) q ≡ extended g node (gate_value g h) q = λ q s l. ⊎_elim
    (λ (here : q ≡ node). extended-same f node q (gate_value f h) here ∙ gate_same f g node h own same ∙ sym (extended-same g node q (gate_value g h) here))
    (λ (other : q ≢ node). extended-other f node q (gate_value f h) other ∙ same q s (omega (arith, other, l)) ∙ sym (extended-other g node q (gate_value g h) other))
    (cases_eq q node) in
    nodes_same (extended f node (gate_value f h)) (extended g node (gate_value g h)) (node + 1) gs later agree p some (omega (arith, low))

-- the values of the sinks depend only on the values of the sources, which begin with node 1
every_sink_same : (n : Net) (f g : ℕ → Bool) → IsNet n → ((p : ℕ) → 1 ≤ p → p ≤ n.sources → f p ≡ g p) → sink_values n f ≡ sink_values n g
every_sink_same n f g is same = signals_same (value n f) (value n g) n.sinks (end_of n) is.sinks (λ p some low.
    nodes_same f g (n.sources + 1) n.gates is.gates.each (λ q s l. same q s (omega (arith, l))) p some low)

-- ---- the bits of all sources are given

moved_difference : (first second : Net) (f g : ℕ → Bool) (i : ℕ) → AreComparable first second →
    ((p : ℕ) → 1 ≤ p → p ≤ first.sources → f p ≡ g p) → DifferAt first second f i → DifferAt first second g i
moved_difference first second f g i are same at =
    let one : sink_bit first f i ≡ sink_bit first g i = ap (λ (xs : List Bool). slice_index_or xs i false) (every_sink_same first f g are.first_net same) in
    let two : sink_bit second f i ≡ sink_bit second g i =
    ap (λ (xs : List Bool). slice_index_or xs i false)
    (every_sink_same second f g are.second_net (λ p some low. same p some (omega (arith, low, are.sources)))) in
    record { below = at.below; differ = λ e. at.differ (one ∙ e ∙ sym two) }

pub none_at_all_bits : (first second : Net) (bits : List Bool) → AreComparable first second →
    length bits ≡ first.sources → ((i : ℕ) → DifferAt first second (bit_of bits) i → ⊥) → HasNoneUnder first second bits
none_at_all_bits first second bits are all never = record {
  none = λ given i same at. never i (moved_difference first second given (bit_of bits) i are (λ p some low. same p some (omega (arith, low, all))) at);
}

-- ---- the next source has either bit

earlier_bit : (bits : List Bool) (b : Bool) (p : ℕ) → 1 ≤ p → p ≤ length bits → bit_of (bits ++ b ∷ []) p ≡ bit_of bits p
earlier_bit bits b p some low =
    let apart : p ≢ 0 = omega (arith, some) in
    rw (ne_eqb p 0 apart) (get_or_append_left bits (b ∷ []) false (p - 1) (omega (arith, some, low)))

last_bit : (bits : List Bool) (b : Bool) (p : ℕ) → p ≡ length bits + 1 → bit_of (bits ++ b ∷ []) p ≡ b
last_bit bits b p is =
    let apart : p ≢ 0 = omega (arith, is) in
    let before : p - 1 ≡ length bits = omega (arith, is) in
    rw (ne_eqb p 0 apart) (ap (λ (n : ℕ). slice_index_or (bits ++ b ∷ []) n false) before ∙ get_or-append_seam bits b [] false)

under_next : (first second : Net) (bits : List Bool) (b : Bool) (given : ℕ → Bool) (i : ℕ) →
    HasNoneUnder first second (bits ++ b ∷ []) → given (length bits + 1) ≡ b →
    ((p : ℕ) → 1 ≤ p → p ≤ length bits → given p ≡ bit_of bits p) → DifferAt first second given i → ⊥
under_next first second bits b given i has next same at = has.none given i
    (λ p some low. ⊎_elim
    (λ (here : p ≡ length bits + 1). ap given here ∙ next ∙ sym (last_bit bits b p here))
    (λ (other : p ≢ length bits + 1). let before : p ≤ length bits = omega (arith, low, other, length-append bits (b ∷ [])) in same p some before ∙ sym (earlier_bit bits b p some before))
    (cases_eq p (length bits + 1)))
    at

by_next : (first second : Net) (bits : List Bool) (given : ℕ → Bool) (i : ℕ) (b : Bool) → given (length bits + 1) ≡ b →
    HasNoneUnder first second (bits ++ false ∷ []) → HasNoneUnder first second (bits ++ true ∷ []) →
    ((p : ℕ) → 1 ≤ p → p ≤ length bits → given p ≡ bit_of bits p) → DifferAt first second given i → ⊥
by_next first second bits given i false next low high same at = under_next first second bits false given i low next same at
by_next first second bits given i true next low high same at = under_next first second bits true given i high next same at

pub none_under_both : (first second : Net) (bits low high : List Bool) → low ≡ bits ++ false ∷ [] → high ≡ bits ++
    true ∷ [] → HasNoneUnder first second low → HasNoneUnder first second high → HasNoneUnder first second bits
none_under_both first second bits low high is_low is_high of_low of_high = record {
  none = λ given i same at. by_next first second bits given i (given (length bits + 1)) refl
      (subst (λ (bs : List Bool). HasNoneUnder first second bs) is_low of_low)
      (subst (λ (bs : List Bool). HasNoneUnder first second bs) is_high of_high) same at;
}

-- ---- all assignments

pub none_at_all : (first second : Net) (bits : List Bool) → bits ≡ [] → AreComparable first second →
    HasNoneUnder first second bits → (given : ℕ → Bool) → sink_values first given ≡ sink_values second given
none_at_all first second bits is are has given =
    refuted_values first second are
    (λ some. let found = miter_sound first second are some in
    let none : length bits ≡ 0 = ap length is in
    has.none found.0 found.1 (λ p from to. absurd (omega (arith, from, to, none))) found.2)
    given

pub difference_found : (first second : Net) (bits : List Bool) (x : Option ℕ) (k : ℕ) → x ≡ Some k → IfSome x (DifferFirstAt first second (bit_of bits)) → Differ first second
difference_found first second bits x k is found =
    let at : DifferFirstAt first second (bit_of bits) k = subst (λ (y : Option ℕ). IfSome y (DifferFirstAt first second (bit_of bits))) is found in
    (bit_of bits, k, at.here)
