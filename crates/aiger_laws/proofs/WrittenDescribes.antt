-- The document of a circuit that can be written is equivalent to the circuit.
use Rattle.std.proofs.Common.{◌≡◌, ℕ, zero, suc, ◌+◌, ◌-◌, ◌*◌, ◌/◌, ◌%◌, ◌≤◌, ◌<◌, Bool, true, false, List, [], ◌∷◌, ◌++◌, length, map, drop, take, refl, ap, ◌∙◌, sym, subst, arith, ⊎_elim}
use Rattle.std.specs.Prelude.{◌==◌, All, replicate, codes, slice_get, slice_index_or, Some}
use Rattle.std.proofs.lemmas.Bool.{both_ways, cond_both, cond-false, and_parts, eqb-true, eq-eqb, false_from_ne_true, cases_lt}
use Rattle.std.proofs.lemmas.List.{map-append, take-append-drop, length-replicate, get_or-replicate}
use Rattle.std.proofs.lemmas.List.Elements.{All-nil, All-cons, All-head, All-tail}
use Rattle.std.proofs.lemmas.Option.{slice_get-get_or}
use Rattle.net_theory.specs.declared.data.Sig.{Sig}
use Rattle.net_theory.specs.Net.{IsSigBelow, end_of, sig_value, values_of}
use Rattle.net_theory.specs.Cover.{cover_value, matches}
use Rattle.net_theory.specs.Document.{Name, is_same, Latch, Table, latch_input, sink_names}
use Rattle.net_theory.specs.NameLaws.{all_at, same_name}
use Rattle.net_theory.specs.Behaviour.{HoldsIn, IsValuationOf}
use Rattle.net_theory.specs.Circuit.{Circuit, sources_of, by_node, values_by_name, Describes}
use Rattle.aiger_text.specs.declared.file.AigGate.{AigGate}
use Rattle.aiger_text.specs.Naming.{name_at}
use Rattle.aiger_text.specs.Meaning.{bit_at, next_of, with_marks, Signals, is_complement, needs_not, zero_table, one_table}
use Rattle.aiger_text.specs.Meaning.{gate_table, unary_table, not_table, not_tables, sink_name, latch_line, is_driver, output_tables, tables_of}
use Rattle.aiger_core.specs.Written.{sig_literal, mapped, latches_from}
use Rattle.aiger_laws.specs.Writable.{CanWriteAiger}
use Rattle.aiger_laws.proofs.MappedValues.{AreBits, Holds, AreValued, flip, sig_valued, mapped_values}
use Rattle.aiger_laws.proofs.WrittenFile.{start, even_size, sink_literals, all_variables, circuit_ands, circuit_shaped, nexts_count, nexts_low, literals_sizes}
use Rattle.aiger_laws.proofs.WrittenDocument.{circuit_file, circuit_signals, circuit_document, document_inputs, document_latches, document_sources}
use Rattle.aiger_laws.proofs.WrittenSignals.{AreGatesFrom, later_gates, marks_length, marks_set, turns_before}
use Rattle.aiger_laws.proofs.WrittenValues.{val, HasZero, HasNots, val_bits, gate_holds, copy_value, odd_marked, sink_bit}
use Rattle.aiger_laws.proofs.WrittenWell.{gate_part, not_part, output_part, all_tables, name_of_source, even_at, unmarked, output_low, output_marked, tables_layered}
use Rattle.blif_laws.specs.Layers.{AreLayered, layered_map}

-- ---- what holds in a valuation of the document

all_left : {A : Type 0} (P : A → Type 0) (xs ys : List A) → All P (xs ++ ys) → All P xs
all_left P [] ys all = All-nil P
all_left P (x ∷ xs) ys all = All-cons P x xs (All-head P x (xs ++ ys) all) (all_left P xs ys (All-tail P x (xs ++ ys) all))

all_right : {A : Type 0} (P : A → Type 0) (xs ys : List A) → All P (xs ++ ys) → All P ys
all_right P [] ys all = all
all_right P (x ∷ xs) ys all = all_right P xs ys (All-tail P x (xs ++ ys) all)

-- the parts of the tables hold
record HoldParts (c : Circuit) (v : Name → Bool) : Type 0 where
  zero : HoldsIn v zero_table
  one : HoldsIn v one_table
  gates : All (HoldsIn v) (gate_part c)
  nots : All (HoldsIn v) (not_part c)
  outputs : All (HoldsIn v) (output_part c)

parts_hold : (c : Circuit) (v : Name → Bool) → All (HoldsIn v) (all_tables c) → HoldParts c v
parts_hold c v all =
    let constants = zero_table ∷ one_table ∷ [] in
    let first = all_left (HoldsIn v) (constants ++ gate_part c ++ not_part c) (output_part c) all in
    let second = all_left (HoldsIn v) (constants ++ gate_part c) (not_part c) first in
    let third = all_left (HoldsIn v) constants (gate_part c) second in
    record {
      zero = All-head (HoldsIn v) zero_table (one_table ∷ []) third;
      one = All-head (HoldsIn v) one_table [] (All-tail (HoldsIn v) zero_table (one_table ∷ []) third);
      gates = all_right (HoldsIn v) constants (gate_part c) second;
      nots = all_right (HoldsIn v) (constants ++ gate_part c) (not_part c) first;
      outputs = all_right (HoldsIn v) (constants ++ gate_part c ++ not_part c) (output_part c) all;
    }

zero_bit : (v : Name → Bool) → HoldsIn v zero_table → v zero_table.output ≡ false
unfolding cover_value
zero_bit v holds = holds

one_bit : (v : Name → Bool) → HoldsIn v one_table → v one_table.output ≡ true
unfolding cover_value matches
one_bit v holds = holds

gates_hold : (s : Signals) (v : Name → Bool) (first : ℕ) (gs : List AigGate) → AreGatesFrom first gs → All (HoldsIn v) (map (gate_table s) gs) → All (Holds (val s v)) gs
gates_hold s v first [] each all = All-nil (Holds (val s v))
gates_hold s v first (g ∷ gs) each all =
    let here = each 0 g refl in
    let even : g.literal % 2 ≡ 0 = omega (arith, here.literal) in
    All-cons (Holds (val s v)) g gs (gate_holds s v g even (All-head (HoldsIn v) (gate_table s g) (map (gate_table s) gs) all))
    (gates_hold s v (first + 1) gs (later_gates first g gs each) (All-tail (HoldsIn v) (gate_table s g) (map (gate_table s) gs) all))

nots_hold : (s : Signals) (v : Name → Bool) (w n k : ℕ) → All (HoldsIn v) (not_tables s w n) → w ≤ k → k < w + n → needs_not s k ≡ true → HoldsIn v (not_table s k)
unfolding not_tables
nots_hold s v w zero k all from to needs = absurd (omega (arith, from, to))
nots_hold s v w (suc n) k all from to needs =
    let later : All (HoldsIn v) (not_tables s (w + 1) n) → (w == k) ≡ false → HoldsIn v (not_table s k) =
    λ rest other. nots_hold s v (w + 1) n k rest (past w k from other) (omega (arith, to)) needs in
    cond_both (needs_not s w) (not_table s w ∷ not_tables s (w + 1) n) (not_tables s (w + 1) n) (λ (ts : List Table). All (HoldsIn v) ts → HoldsIn v (not_table s k))
    (λ here all. cond_both (w == k) 0 0 (λ (z : ℕ). HoldsIn v (not_table s k))
    (λ same. subst (λ (j : ℕ). HoldsIn v (not_table s j)) (eqb-true w k same) (All-head (HoldsIn v) (not_table s w) (not_tables s (w + 1) n) all))
    (λ other. later (All-tail (HoldsIn v) (not_table s w) (not_tables s (w + 1) n) all) other))
    (λ none all. cond_both (w == k) 0 0 (λ (z : ℕ). HoldsIn v (not_table s k))
    (λ same. absurd (both_ways (needs_not s w) none (subst (λ (j : ℕ). needs_not s j ≡ true) (sym (eqb-true w k same)) needs)))
    (λ other. later all other)) all where
      past : (w k : ℕ) → w ≤ k → (w == k) ≡ false → w + 1 ≤ k
      past w k from other = ⊎_elim (λ lt. omega (arith, lt)) (λ ge. absurd (let same : w ≡ k = omega (arith, ge, from) in both_ways (w == k) other (eq-eqb w k same))) (cases_lt w k)

-- ---- values of nodes

-- the bits of a valuation of the circuit's document
record AreCircuitBits (c : Circuit) (given v : Name → Bool) : Type 0 where
  bits : AreBits (val (circuit_signals c) v)
  has : HasZero (circuit_signals c) v
  nots : HasNots (circuit_signals c) v (all_variables c)
  valued : AreValued (val (circuit_signals c) v) (values_of (by_node (sources_of c) given) c.net.sources c.net.gates) (end_of c.net) (mapped c.net).literals

turned_none : (c : Circuit) (w : ℕ) → CanWriteAiger c → w < c.net.sources + 1 → bit_at (circuit_signals c).turns w ≡ false
turned_none c w is low =
    turns_before (circuit_signals c).marks (replicate (all_variables c + 1) false) (c.net.sources + 1) w (mapped c.net).gates (circuit_shaped c is).gates low
    ∙ get_or-replicate (all_variables c + 1) w false false (omega (arith, low))

-- the literals of the sources have the given bits
source_bits : (c : Circuit) (given v : Name → Bool) → CanWriteAiger c → All (λ n. v n ≡ given n) (sources_of c) →
    AreValued (val (circuit_signals c) v) (by_node (sources_of c) given) (c.net.sources + 1) (start c.net.sources).literals
unfolding is_complement
source_bits c given v is sources = record {
  count = even_size 0 (c.net.sources + 1);
  values = λ p low high.
      let s = circuit_signals c in
      let j : p - 1 + 1 ≡ p = omega (arith, low) in
      let within : p - 1 < length (sources_of c) = omega (arith, low, high, is.proper.source_count) in
      let name = slice_index_or (sources_of c) (p - 1) (codes "&") in
      let half : p * 2 / 2 ≡ p = omega arith in
      let place : (0 + p) * 2 ≡ p * 2 = omega arith in
      let even : p * 2 % 2 ≡ 0 = omega arith in
      let named : name_at s.names (p * 2) ≡ name = ap (λ (k : ℕ). slice_index_or s.names k (codes "&")) (half ∙ sym j) ∙ name_of_source c (p - 1) within in
      let flat : bit_at s.turns (p * 2 / 2) ≡ false = ap (bit_at s.turns) half ∙ turned_none c p is high in
      let plain : is_complement s (p * 2) ≡ false = cond-false (bit_at s.turns (p * 2 / 2)) (p * 2 % 2 == 0) (p * 2 % 2 == 1) flat ∙ ap (λ (n : ℕ). n == 1) even in
      ap (val s v) (even_at 0 (c.net.sources + 1) p high ∙ place)
      ∙ ap (λ (b : Bool). flip b (v (name_at s.names (p * 2)))) plain
      ∙ ap v named
      ∙ all_at (λ n. v n ≡ given n) (sources_of c) (p - 1) name sources (slice_get-get_or (sources_of c) (p - 1) (codes "&") within)
      ∙ ap given (index_default (sources_of c) (p - 1) within);
} where
  index_default : (ns : List Name) (k : ℕ) → k < length ns → slice_index_or ns k (codes "&") ≡ slice_index_or ns k []
  index_default [] k low = absurd (omega (arith, low))
  index_default (n ∷ ns) zero low = refl
  index_default (n ∷ ns) (suc k) low = index_default ns k (omega (arith, low))

circuit_bits : (c : Circuit) (given v : Name → Bool) → CanWriteAiger c → All (λ n. v n ≡ given n) (sources_of c) → All (HoldsIn v) (all_tables c) → AreCircuitBits c given v
circuit_bits c given v is sources holds =
    let s = circuit_signals c in
    let parts = parts_hold c v holds in
    let zero : HasZero s v = record { turned = turned_none c 0 is (omega arith); bit = zero_bit v parts.zero } in
    let bits : AreBits (val s v) = val_bits s v zero in
    record {
      bits = bits;
      has = zero;
      nots = record {
        one = one_bit v parts.one;
        nots = λ w from to needs. nots_hold s v 1 (all_variables c) w parts.nots from (omega (arith, to)) needs;
        unmarked = unmarked c is;
      };
      valued = mapped_values (val s v) (by_node (sources_of c) given) c.net.sources (c.net.sources + 1) (start c.net.sources) c.net.gates bits
          (source_bits c given v is sources) (circuit_ands c is) (gates_hold s v (c.net.sources + 1) (mapped c.net).gates (circuit_shaped c is).gates parts.gates);
    }

-- ---- values of sinks

-- an even literal that is no complement has the bit of its variable's name
driver_bit : (s : Signals) (v : Name → Bool) (lit : ℕ) (o : Name) → is_driver s.names lit o ≡ true → (is_complement s lit ≡ true → lit % 2 ≡ 1) → v o ≡ val s v lit
unfolding is_driver
driver_bit s v lit o driver odd =
    let parts = and_parts (lit % 2 == 0) (is_same (name_at s.names lit) o) driver in
    let even : lit % 2 ≡ 0 = eqb-true (lit % 2) 0 parts.0 in
    let plain : is_complement s lit ≡ false = false_from_ne_true (is_complement s lit) (λ c. omega (arith, even, odd c)) in
    ap v (sym (same_name (name_at s.names lit) o parts.1)) ∙ sym (ap (λ (b : Bool). flip b (v (name_at s.names lit))) plain)

-- the literals are outputs or next states, and a complement among them is odd
record AreSinkLiterals (s : Signals) (v : Name → Bool) (lits : List ℕ) : Type 0 where
  bits : (i lit : ℕ) → slice_get lits i ≡ Some lit → v (sink_name s lit) ≡ val s v lit
  odd : (i lit : ℕ) → slice_get lits i ≡ Some lit → is_complement s lit ≡ true → lit % 2 ≡ 1

-- the names of outputs have the bits of their literals
outputs_bits : (s : Signals) (v : Name → Bool) (lits : List ℕ) (os : List Name) → length lits ≡ length os →
    AreSinkLiterals s v lits → All (HoldsIn v) (output_tables s lits os) → map v os ≡ map (val s v) lits
unfolding output_tables
outputs_bits s v [] [] size are holds = refl
outputs_bits s v [] (o ∷ os) size are holds = absurd (omega (arith, size))
outputs_bits s v (lit ∷ lits) [] size are holds = absurd (omega (arith, size))
outputs_bits s v (lit ∷ lits) (o ∷ os) size are holds =
    let later : All (HoldsIn v) (output_tables s lits os) → map v os ≡ map (val s v) lits = λ rest.
    outputs_bits s v lits os (omega (arith, size)) (record { bits = λ i l at. are.bits (suc i) l at; odd = λ i l at. are.odd (suc i) l at }) rest in
    cond_both (is_driver s.names lit o) (output_tables s lits os) (unary_table (sink_name s lit) 49 o ∷ output_tables s lits os)
    (λ (ts : List Table). All (HoldsIn v) ts → map v (o ∷ os) ≡ map (val s v) (lit ∷ lits))
    (λ driver all. ap (λ (b : Bool). b ∷ map v os) (driver_bit s v lit o driver (are.odd 0 lit refl)) ∙ ap (λ (bs : List Bool). val s v lit ∷ bs) (later all))
    (λ other all.
    let first : v o ≡ val s v lit = All-head (HoldsIn v) (unary_table (sink_name s lit) 49 o) (output_tables s lits os) all ∙ copy_value (v (sink_name s lit)) ∙ are.bits 0 lit refl in
    ap (λ (b : Bool). b ∷ map v os) first
    ∙ ap (λ (bs : List Bool). val s v lit ∷ bs) (later (All-tail (HoldsIn v) (unary_table (sink_name s lit) 49 o) (output_tables s lits os) all)))
    holds

pub next_low : (c : Circuit) (i lit : ℕ) → CanWriteAiger c → slice_get (drop (length c.outputs) (sink_literals c)) i ≡ Some lit → lit ≤ all_variables c * 2 + 1
next_low c i lit is at = all_at (λ x. x ≤ all_variables c * 2 + 1) (drop (length c.outputs) (sink_literals c)) i lit (nexts_low c is) at

pub latches_nexts : (node : ℕ) (ls : List Latch) (nexts : List ℕ) → length ls ≡ length nexts → map next_of (latches_from node ls nexts) ≡ nexts
unfolding latches_from
latches_nexts node [] [] e = refl
latches_nexts node [] (n ∷ ns) e = absurd (omega (arith, e))
latches_nexts node (l ∷ ls) [] e = absurd (omega (arith, e))
latches_nexts node (l ∷ ls) (n ∷ ns) e = ap (λ (xs : List ℕ). n ∷ xs) (latches_nexts (node + 1) ls ns (omega (arith, e)))

pub next_marked : (c : Circuit) (i lit : ℕ) → CanWriteAiger c → slice_get (drop (length c.outputs) (sink_literals c)) i ≡ Some lit → bit_at (circuit_signals c).marks lit ≡ true
next_marked c i lit is at =
    let first = with_marks (replicate (all_variables c * 2 + 2) false) (circuit_file c).outputs in
    let nexts = latches_nexts (1 + length c.inputs) c.latches (drop (length c.outputs) (sink_literals c)) (nexts_count c is) in
    let size : length first ≡ all_variables c * 2 + 2 = marks_length (replicate (all_variables c * 2 + 2) false) (circuit_file c).outputs ∙ length-replicate (all_variables c * 2 + 2) false in
    marks_set first (map next_of (circuit_file c).latches) i lit (ap (λ (xs : List ℕ). slice_get xs i) nexts ∙ at) (omega (arith, size, next_low c i lit is at))

sink_literals_are : (c : Circuit) (given v : Name → Bool) (lits : List ℕ) → CanWriteAiger c → AreCircuitBits c given v →
    ((i lit : ℕ) → slice_get lits i ≡ Some lit → (lit ≤ all_variables c * 2 + 1) × (bit_at (circuit_signals c).marks lit ≡ true)) → AreSinkLiterals (circuit_signals c) v lits
sink_literals_are c given v lits is are each = record {
  bits = λ i lit at. let e = each i lit at in sink_bit (circuit_signals c) v (all_variables c) lit are.has are.nots e.0 e.1;
  odd = λ i lit at complement. (odd_marked (circuit_signals c) lit are.nots.unmarked (each i lit at).1 complement).0;
}

-- the names of the latches' inputs have the bits of their literals
lines_bits : (s : Signals) (v : Name → Bool) (node : ℕ) (ls : List Latch) (nexts : List ℕ) → length ls ≡ length nexts → AreSinkLiterals s v nexts →
    map v (map latch_input (map (latch_line s) (latches_from node ls nexts))) ≡ map (val s v) nexts
unfolding latches_from
lines_bits s v node [] [] count are = refl
lines_bits s v node [] (n ∷ ns) count are = absurd (omega (arith, count))
lines_bits s v node (l ∷ ls) [] count are = absurd (omega (arith, count))
lines_bits s v node (l ∷ ls) (n ∷ ns) count are =
    ap (λ (b : Bool). b ∷ map v (map latch_input (map (latch_line s) (latches_from (node + 1) ls ns)))) (are.bits 0 n refl)
    ∙ ap (λ (bs : List Bool). val s v n ∷ bs) (lines_bits s v (node + 1) ls ns (omega (arith, count)) (record { bits = λ i l at. are.bits (suc i) l at; odd = λ i l at. are.odd (suc i) l at }))

-- the literals of the sinks have the values of the sinks
sinks_valued : (c : Circuit) (given v : Name → Bool) (sinks : List Sig) → AreCircuitBits c given v → All (IsSigBelow (end_of c.net)) sinks →
    map (val (circuit_signals c) v) (map (sig_literal (mapped c.net).literals) sinks) ≡ map (sig_value (values_of (by_node (sources_of c) given) c.net.sources c.net.gates)) sinks
sinks_valued c given v [] are below = refl
sinks_valued c given v (s ∷ sinks) are below =
    let bits = values_of (by_node (sources_of c) given) c.net.sources c.net.gates in
    let first = sig_valued (val (circuit_signals c) v) bits (end_of c.net) (mapped c.net).literals s are.bits are.valued (All-head (IsSigBelow (end_of c.net)) s sinks below) in
    ap (λ (b : Bool). b ∷ map (val (circuit_signals c) v) (map (sig_literal (mapped c.net).literals) sinks)) first
    ∙ ap (λ (bs : List Bool). sig_value bits s ∷ bs) (sinks_valued c given v sinks are (All-tail (IsSigBelow (end_of c.net)) s sinks below))

pub tables_are : (c : Circuit) → (circuit_document c).tables ≡ all_tables c
unfolding tables_of
tables_are c = refl

document_values : (c : Circuit) (given v : Name → Bool) → CanWriteAiger c → IsValuationOf (circuit_document c) given v →
    map v (sink_names (circuit_document c)) ≡ values_by_name c given
document_values c given v is valuation =
    let s = circuit_signals c in
    let lits = take (length c.outputs) (sink_literals c) in
    let nexts = drop (length c.outputs) (sink_literals c) in
    let sources = subst (λ (ns : List Name). All (λ n. v n ≡ given n) ns) (document_sources c is) valuation.sources in
    let holds = subst (All (HoldsIn v)) (tables_are c) valuation.tables in
    let are = circuit_bits c given v is sources holds in
    let parts = parts_hold c v holds in
    map-append v c.outputs (map latch_input (circuit_document c).latches)
    ∙ ap (λ (bs : List Bool). bs ++ map v (map latch_input (circuit_document c).latches))
    (outputs_bits s v lits c.outputs (literals_sizes c is).outputs (sink_literals_are c given v lits is are (λ i lit at. (output_low c i lit is at, output_marked c i lit is at))) parts.outputs)
    ∙ ap (λ (bs : List Bool). map (val s v) lits ++ bs)
    (lines_bits s v (1 + length c.inputs) c.latches nexts (nexts_count c is) (sink_literals_are c given v nexts is are (λ i lit at. (next_low c i lit is at, next_marked c i lit is at))))
    ∙ sym (map-append (val s v) lits nexts)
    ∙ ap (map (val s v)) (take-append-drop (length c.outputs) (sink_literals c))
    ∙ sinks_valued c given v c.net.sinks are is.proper.net.sinks

pub circuit_describes : (c : Circuit) → CanWriteAiger c → Describes (circuit_document c) c
circuit_describes c is = record {
  inputs = document_inputs c;
  outputs = refl;
  clocks = sym is.clocks;
  latches = document_latches c is;
  one = λ given. layered_map (circuit_document c) given
      (subst (λ (ns : List Name). AreLayered ns (circuit_document c).tables) (sym (document_sources c is)) (subst (AreLayered (sources_of c)) (sym (tables_are c)) (tables_layered c is)));
  sinks = λ given v valuation. document_values c given v is valuation;
}
