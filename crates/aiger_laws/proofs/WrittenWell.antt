-- The document of a circuit that can be written: its tables are in order, and it is well formed.
use Rattle.std.proofs.Common.{◌≡◌, ℕ, zero, suc, ◌+◌, ◌-◌, ◌*◌, ◌/◌, ◌%◌, ◌^◌, ◌≤◌, ◌<◌, Bool, true, false, List}
use Rattle.std.proofs.Common.{[], ◌∷◌, ◌++◌, length, map, take, refl, ap, ◌∙◌, sym, subst, arith, append_assoc, length-append, inl, inr, ⊎_elim}
use Rattle.std.specs.Prelude.{not, ◌==◌, All, replicate, codes, slice_get, slice_index_or, Some}
use Rattle.std.proofs.lemmas.Bool.{both_ways, cond_both, and_from, and_parts, eq-eqb, false_from_ne_true, not_from_false, cases_lt}
use Rattle.std.proofs.lemmas.List.{map-append, get_or-append_right, get_or_append_left, length-replicate}
use Rattle.std.proofs.lemmas.Option.{slice_get-get_or, get_or_from_slice_get}
use Rattle.net_theory.specs.declared.data.Sig.{Sig}
use Rattle.net_theory.specs.declared.data.Sig.TheVariants.{Zero, Node}
use Rattle.net_theory.specs.declared.data.Gate.{Gate}
use Rattle.net_theory.specs.Document.{Name, has, is_same, Table, table_output}
use Rattle.net_theory.specs.NameLaws.{has_first, has_later, has_cases, has_none, has_index, has_at, has_left, has_right, has_either, all_has, same_name, name_same, at_map, all_at}
use Rattle.net_theory.specs.Circuit.{Circuit, sources_of}
use Rattle.aiger_text.specs.Naming.{gate_name, gate_names_from, name_at}
use Rattle.aiger_text.specs.Meaning.{bit_at, next_of, with_marks, is_complement, zero_table, one_table, gate_table, not_tables, is_driver, output_tables, sink_name}
use Rattle.aiger_core.specs.Written.{sig_literal, even_from, Mapped, with_node, mapped_from, mapped}
use Rattle.aiger_laws.specs.Writable.{IsFreeName, CanWriteAiger}
use Rattle.aiger_laws.proofs.MappedValues.{node_gate}
use Rattle.aiger_laws.proofs.WrittenFile.{start, even_size, sink_literals, all_variables, circuit_shaped, get_past, free_left, free_right, literals_sizes, outputs_low}
use Rattle.aiger_laws.proofs.WrittenNames.{circuit_names}
use Rattle.aiger_laws.proofs.WrittenDocument.{circuit_file, circuit_signals}
use Rattle.aiger_laws.proofs.WrittenSignals.{marks_keep, marks_set, none_marked, turned_unmarked}
use Rattle.aiger_laws.proofs.WrittenValues.{odd_marked}
use Rattle.aiger_laws.proofs.WrittenLayers.{reserved, reserved_same, never_free, AreBefore, AreGateNames, gates_layered, nots_layered, free_from, outputs_layered}
use Rattle.blif_laws.specs.Layers.{AreLayered, layered_append}

-- ---- the names of variables

gate_at : (k n i : ℕ) → i < n → slice_index_or (gate_names_from k n) i (codes "&") ≡ gate_name (k + i)
unfolding gate_names_from
gate_at k zero i low = absurd (omega (arith, low))
gate_at k (suc n) zero low = let same : k ≡ k + 0 = omega arith in ap gate_name same
gate_at k (suc n) (suc i) low = let same : k + 1 + i ≡ k + suc i = omega arith in gate_at (k + 1) n i (omega (arith, low)) ∙ ap gate_name same

abbrev gate_count : Circuit → ℕ
gate_count c = length (mapped c.net).gates

names_of_gates : (c : Circuit) → CanWriteAiger c → AreGateNames (circuit_signals c) (c.net.sources + 1) (gate_count c)
names_of_gates c is w from to =
    let size : length (gate_name 0 ∷ sources_of c) ≡ c.net.sources + 1 = omega (arith, is.proper.source_count) in
    let place : c.net.sources + 1 + (w - (c.net.sources + 1)) ≡ w = omega (arith, from) in
    get_or-append_right (gate_name 0 ∷ sources_of c) (gate_names_from (c.net.sources + 1) (gate_count c)) (c.net.sources + 1) w (codes "&") size from
    ∙ gate_at (c.net.sources + 1) (gate_count c) (w - (c.net.sources + 1)) (omega (arith, from, to))
    ∙ ap gate_name place

pub name_of_source : (c : Circuit) (j : ℕ) → j < length (sources_of c) → slice_index_or (circuit_names c) (j + 1) (codes "&") ≡ slice_index_or (sources_of c) j (codes "&")
name_of_source c j low =
    let place : j + 1 ≡ suc j = omega arith in
    ap (λ (k : ℕ). slice_index_or (circuit_names c) k (codes "&")) place
    ∙ get_or_append_left (sources_of c) (gate_names_from (c.net.sources + 1) (gate_count c)) (codes "&") j low

source_there : (c : Circuit) (w : ℕ) → CanWriteAiger c → 1 ≤ w → w < c.net.sources + 1 → has (sources_of c) (slice_index_or (circuit_names c) w (codes "&")) ≡ true
source_there c w is some low =
    let j : w - 1 + 1 ≡ w = omega (arith, some) in
    let within : w - 1 < length (sources_of c) = omega (arith, some, low, is.proper.source_count) in
    has_at (sources_of c) (w - 1) (slice_index_or (circuit_names c) w (codes "&"))
    (slice_get-get_or (sources_of c) (w - 1) (codes "&") within
    ∙ ap Some (sym (name_of_source c (w - 1) within) ∙ ap (λ (k : ℕ). slice_index_or (circuit_names c) k (codes "&")) j))

-- ---- the constants

free_sources : (c : Circuit) → CanWriteAiger c → All IsFreeName (sources_of c)
free_sources c is = free_left (sources_of c) c.outputs is.free

unreserved : (c : Circuit) (k : ℕ) → CanWriteAiger c → has (sources_of c) (reserved k) ≡ false
unreserved c k is = false_from_ne_true (has (sources_of c) (reserved k)) (λ there. never_free k (all_has IsFreeName (sources_of c) (reserved k) (free_sources c is) there))

abbrev pub constants : List Table
constants = zero_table ∷ one_table ∷ []

one_fresh : (c : Circuit) → CanWriteAiger c → has (sources_of c ++ reserved 0 ∷ []) (reserved 1) ≡ false
one_fresh c is = false_from_ne_true (has (sources_of c ++ reserved 0 ∷ []) (reserved 1)) (λ there. ⊎_elim
    (λ source. both_ways (has (sources_of c) (reserved 1)) (unreserved c 1 is) source)
    (λ zero. ⊎_elim (λ same. omega (arith, reserved_same 1 0 (omega arith) (omega arith) same)) (λ none. has_none (reserved 1) none) (has_cases (reserved 0) [] (reserved 1) zero))
    (has_either (sources_of c) (reserved 0 ∷ []) (reserved 1) there))

constants_layered : (c : Circuit) → CanWriteAiger c → AreLayered (sources_of c) constants
constants_layered c is = (
  record { fresh = unreserved c 0 is; inputs = λ n read. absurd (has_none n read) },
  (record { fresh = one_fresh c is; inputs = λ n read. absurd (has_none n read) }, tt),
)

abbrev before_gates : Circuit → List Name
before_gates c = sources_of c ++ map table_output constants

sources_before : (c : Circuit) → CanWriteAiger c → AreBefore (circuit_signals c) (sources_of c) (c.net.sources + 1) 1 (before_gates c)
sources_before c is = record {
  small = (omega (arith, is.sources, is.proper.source_count), omega arith);
  one = has_right (sources_of c) (reserved 0 ∷ reserved 1 ∷ []) (reserved 1) (has_later (reserved 0) (reserved 1 ∷ []) (reserved 1) (has_first (reserved 1) []));
  had = λ w low. first w low;
  nots = λ w from to needs. absurd (omega (arith, from, to));
  from = λ n there. ⊎_elim
      (λ source. inl source)
      (λ constant. ⊎_elim
      (λ zero. inr (0, zero, inl (omega arith)))
      (λ more. ⊎_elim (λ one. inr (1, one, inl (omega arith))) (λ none. absurd (has_none n none)) (has_cases (reserved 1) [] n more))
      (has_cases (reserved 0) (reserved 1 ∷ []) n constant))
      (has_either (sources_of c) (reserved 0 ∷ reserved 1 ∷ []) n there);
} where
  first : (w : ℕ) → w < c.net.sources + 1 → has (before_gates c) (slice_index_or (circuit_names c) w (codes "&")) ≡ true
  first zero low = has_right (sources_of c) (reserved 0 ∷ reserved 1 ∷ []) (reserved 0) (has_first (reserved 0) (reserved 1 ∷ []))
  first (suc w) low = has_left (sources_of c) (reserved 0 ∷ reserved 1 ∷ []) (slice_index_or (circuit_names c) (suc w) (codes "&")) (source_there c (suc w) is (omega arith) low)

-- ---- gates and complements

abbrev pub gate_part : Circuit → List Table
gate_part c = map (gate_table (circuit_signals c)) (mapped c.net).gates

abbrev pub not_part : Circuit → List Table
not_part c = not_tables (circuit_signals c) 1 (all_variables c)

abbrev pub output_part : Circuit → List Table
output_part c = output_tables (circuit_signals c) (take (length c.outputs) (sink_literals c)) c.outputs

abbrev pub all_tables : Circuit → List Table
all_tables c = constants ++ gate_part c ++ not_part c ++ output_part c

low_variables : (c : Circuit) → CanWriteAiger c → all_variables c + 2 < 2 ^ 32
low_variables c is = omega (arith, (circuit_shaped c is).few, is.proper.gates, is.sources, is.proper.source_count)

gates_part : (c : Circuit) → CanWriteAiger c → AreLayered (before_gates c) (gate_part c) ×
    AreBefore (circuit_signals c) (sources_of c) (all_variables c + 1) 1 (before_gates c ++ map table_output (gate_part c))
gates_part c is =
    let size : c.net.sources + 1 + gate_count c ≡ all_variables c + 1 = omega arith in
    let parts = gates_layered (circuit_signals c) (sources_of c) (c.net.sources + 1) (before_gates c) (mapped c.net).gates (sources_before c is) (free_sources c is) (omega arith)
    (omega (arith, low_variables c is)) (circuit_shaped c is).gates (names_of_gates c is) in
    (parts.0, subst (λ (k : ℕ). AreBefore (circuit_signals c) (sources_of c) k 1 (before_gates c ++ map table_output (gate_part c))) size parts.1)

abbrev before_nots : Circuit → List Name
before_nots c = before_gates c ++ map table_output (gate_part c)

abbrev pub before_outputs : Circuit → List Name
before_outputs c = before_nots c ++ map table_output (not_part c)

nots_part : (c : Circuit) → CanWriteAiger c → AreLayered (before_nots c) (not_part c) ×
    AreBefore (circuit_signals c) (sources_of c) (all_variables c + 1) (all_variables c + 1) (before_outputs c)
nots_part c is =
    let size : 1 + all_variables c ≡ all_variables c + 1 = omega arith in
    let parts = nots_layered (circuit_signals c) (sources_of c) (all_variables c + 1) 1 (all_variables c) (before_nots c) (gates_part c is).1 (free_sources c is) (omega arith) (omega arith) in
    (parts.0, subst (λ (k : ℕ). AreBefore (circuit_signals c) (sources_of c) (all_variables c + 1) k (before_outputs c)) size parts.1)

-- ---- literals of sources

pub even_at : (k n p : ℕ) → p < n → slice_index_or (even_from k n) p 0 ≡ (k + p) * 2
unfolding even_from
even_at k zero p low = absurd (omega (arith, low))
even_at k (suc n) zero low = omega arith
even_at k (suc n) (suc p) low = let rest = even_at (k + 1) n p (omega (arith, low)) in rest ∙ (let same : (k + 1 + p) * 2 ≡ (k + suc p) * 2 = omega arith in same)

literals_kept : (s : ℕ) (m : Mapped) (gs : List Gate) (p : ℕ) → p < length m.literals → slice_index_or (mapped_from s m gs).literals p 0 ≡ slice_index_or m.literals p 0
unfolding mapped_from
literals_kept s m [] p low = refl
literals_kept s m (g ∷ gs) p low =
    let lit = (node_gate s m g).literal in
    literals_kept s (with_node s m g) gs p (omega (arith, low, length-append m.literals (lit ∷ [])))
    ∙ get_or_append_left m.literals (lit ∷ []) 0 p low

source_literal : (c : Circuit) (j : ℕ) → j < c.net.sources → sig_literal (mapped c.net).literals (Node (j + 1)) ≡ (j + 1) * 2
source_literal c j low =
    let size = even_size 0 (c.net.sources + 1) in
    let place : (0 + (j + 1)) * 2 ≡ (j + 1) * 2 = omega arith in
    literals_kept c.net.sources (start c.net.sources) c.net.gates (j + 1) (omega (arith, size, low)) ∙ even_at 0 (c.net.sources + 1) (j + 1) (omega (arith, low)) ∙ place

take_at : {A : Type 0} (n : ℕ) (xs : List A) (i : ℕ) (x : A) → slice_get (take n xs) i ≡ Some x → slice_get xs i ≡ Some x
take_at zero xs i x e = absurd cc
take_at (suc n) [] i x e = absurd cc
take_at (suc n) (y ∷ xs) zero x e = e
take_at (suc n) (y ∷ xs) (suc i) x e = take_at n xs i x e

-- the signal of an output's literal
output_signal : (c : Circuit) (i lit : ℕ) → slice_get (take (length c.outputs) (sink_literals c)) i ≡ Some lit →
    (sig : Sig) × (slice_get c.net.sinks i ≡ Some sig) × (sig_literal (mapped c.net).literals sig ≡ lit)
output_signal c i lit at = at_map (sig_literal (mapped c.net).literals) c.net.sinks i lit (take_at (length c.outputs) (sink_literals c) i lit at)

-- an output with the name of a source is that source, by its literal
source_drives : (c : Circuit) (i lit : ℕ) (o : Name) → CanWriteAiger c → slice_get (take (length c.outputs) (sink_literals c)) i ≡ Some lit → slice_get c.outputs i ≡ Some o →
    has (sources_of c) o ≡ true → is_driver (circuit_names c) lit o ≡ true
unfolding is_driver
source_drives c i lit o is at_lit at_o there =
    let found = has_index (sources_of c) o there in
    let j = found.0 in
    let low_j : j < length (sources_of c) = get_past (sources_of c) j o found.1 in
    let low_i : i < length c.outputs = get_past c.outputs i o at_o in
    let signal = output_signal c i lit at_lit in
    let sinks : slice_index_or c.net.sinks i Zero ≡ signal.0 = get_or_from_slice_get c.net.sinks i signal.0 Zero signal.1 in
    let source : slice_index_or c.net.sinks i Zero ≡ Node (j + 1) =
    is.proper.source_outputs i j low_i low_j (get_or_from_slice_get c.outputs i o [] at_o ∙ sym (get_or_from_slice_get (sources_of c) j o [] found.1)) in
    let literal : lit ≡ (j + 1) * 2 = sym signal.2 ∙ ap (sig_literal (mapped c.net).literals) (sym sinks ∙ source) ∙ source_literal c j (omega (arith, low_j, is.proper.source_count)) in
    let even : lit % 2 ≡ 0 = omega (arith, literal) in
    let half : lit / 2 ≡ j + 1 = omega (arith, literal) in
    let name : name_at (circuit_names c) lit ≡ o =
    ap (λ (k : ℕ). slice_index_or (circuit_names c) k (codes "&")) half ∙ name_of_source c j low_j ∙ get_or_from_slice_get (sources_of c) j o (codes "&") found.1 in
    and_from (lit % 2 == 0) (is_same (name_at (circuit_names c) lit) o) (eq-eqb (lit % 2) 0 even) (name_same (name_at (circuit_names c) lit) o name)

pub output_low : (c : Circuit) (i lit : ℕ) → CanWriteAiger c → slice_get (take (length c.outputs) (sink_literals c)) i ≡ Some lit → lit ≤ all_variables c * 2 + 1
output_low c i lit is at = all_at (λ x. x ≤ all_variables c * 2 + 1) (take (length c.outputs) (sink_literals c)) i lit (outputs_low c is) at

-- an output whose name is that of its variable has the name of a source
pub driver_source : (c : Circuit) (i lit : ℕ) (o : Name) → CanWriteAiger c → slice_get (take (length c.outputs) (sink_literals c)) i ≡ Some lit → slice_get c.outputs i ≡ Some o →
    is_driver (circuit_names c) lit o ≡ true → has (sources_of c) o ≡ true
unfolding is_driver
driver_source c i lit o is at_lit at_o e =
    let same : name_at (circuit_names c) lit ≡ o = same_name (name_at (circuit_names c) lit) o (and_parts (lit % 2 == 0) (is_same (name_at (circuit_names c) lit) o) e).1 in
    let free : IsFreeName o = all_at IsFreeName c.outputs i o (free_right (sources_of c) c.outputs is.free) at_o in
    let low = output_low c i lit is at_lit in
    by (lit / 2) (omega (arith, low)) same free where
      by : (w : ℕ) → w < all_variables c + 1 → slice_index_or (circuit_names c) w (codes "&") ≡ o → IsFreeName o → has (sources_of c) o ≡ true
      by zero high same free = absurd (never_free 0 (subst IsFreeName (sym same) free))
      by (suc w) high same free = ⊎_elim
          (λ low. subst (λ (n : Name). has (sources_of c) n ≡ true) same (source_there c (suc w) is (omega arith) low))
          (λ past. absurd (never_free (suc w * 2) (subst IsFreeName (sym same ∙ names_of_gates c is (suc w) past (omega (arith, high))) free)))
          (cases_lt (suc w) (c.net.sources + 1))

-- ---- outputs and next states

abbrev sink_marks : Circuit → List Bool
sink_marks c = (circuit_signals c).marks

pub unmarked : (c : Circuit) → CanWriteAiger c → (w : ℕ) → bit_at (circuit_signals c).turns w ≡ true → bit_at (sink_marks c) (w * 2) ≡ false
unmarked c is w e =
    turned_unmarked (sink_marks c) (replicate (all_variables c + 1) false) (c.net.sources + 1) w (mapped c.net).gates (circuit_shaped c is).gates
    (λ p bit. absurd (none_marked (all_variables c + 1) p bit)) e

-- the name of an output's or a next state's literal is driven before the outputs
pub sink_had : (c : Circuit) (lit : ℕ) → CanWriteAiger c → lit ≤ all_variables c * 2 + 1 → bit_at (sink_marks c) lit ≡ true → has (before_outputs c) (sink_name (circuit_signals c) lit) ≡ true
sink_had c lit is low marked =
    let s = circuit_signals c in
    let bs = (nots_part c is).1 in
    cond_both (is_complement s lit) (reserved lit) (name_at s.names lit) (λ (n : Name). has (before_outputs c) n ≡ true)
    (λ complement.
    let parts = odd_marked s lit (unmarked c is) marked complement in
    let whole : lit ≡ lit / 2 * 2 + 1 = omega (arith, parts.0) in
    subst (λ (k : ℕ). has (before_outputs c) (reserved k) ≡ true) (sym whole)
    (by (lit / 2) (omega (arith, low)) (subst (λ (k : ℕ). bit_at (sink_marks c) k ≡ true) whole marked) parts.1))
    (λ plain. bs.had (lit / 2) (omega (arith, low))) where
      by : (w : ℕ) → w < all_variables c + 1 → bit_at (sink_marks c) (w * 2 + 1) ≡ true → bit_at (circuit_signals c).turns w ≡ false → has (before_outputs c) (reserved (w * 2 + 1)) ≡ true
      by zero high bit flat = (nots_part c is).1.one
      by (suc w) high bit flat = (nots_part c is).1.nots (suc w) (omega arith) high
          (and_from (bit_at (sink_marks c) (suc w * 2 + 1)) (not (bit_at (circuit_signals c).turns (suc w))) bit (not_from_false (bit_at (circuit_signals c).turns (suc w)) flat))

pub output_marked : (c : Circuit) (i lit : ℕ) → CanWriteAiger c → slice_get (take (length c.outputs) (sink_literals c)) i ≡ Some lit → bit_at (sink_marks c) lit ≡ true
output_marked c i lit is at =
    let size : all_variables c * 2 + 2 ≡ length (replicate (all_variables c * 2 + 2) false) = sym (length-replicate (all_variables c * 2 + 2) false) in
    marks_keep (with_marks (replicate (all_variables c * 2 + 2) false) (circuit_file c).outputs) (map next_of (circuit_file c).latches) lit
    (marks_set (replicate (all_variables c * 2 + 2) false) (circuit_file c).outputs i lit at (omega (arith, output_low c i lit is at, size)))

-- ---- all tables

outputs_part : (c : Circuit) → CanWriteAiger c → AreLayered (before_outputs c) (output_part c)
outputs_part c is =
    outputs_layered (circuit_signals c) (sources_of c) [] (before_outputs c) (take (length c.outputs) (sink_literals c)) c.outputs (literals_sizes c is).outputs
    (free_from (circuit_signals c) (sources_of c) (all_variables c + 1) (all_variables c + 1) (before_outputs c) (nots_part c is).1)
    (free_right (sources_of c) c.outputs is.free) is.apart (λ n none there. absurd (has_none n none))
    (λ i lit o at_lit at_o there. source_drives c i lit o is at_lit at_o there)
    (λ i lit at. sink_had c lit is (output_low c i lit is at) (output_marked c i lit is at))

pub names_after : (bs : List Name) (xs ys : List Table) → bs ++ map table_output (xs ++ ys) ≡ (bs ++ map table_output xs) ++ map table_output ys
names_after bs xs ys = ap (λ (ns : List Name). bs ++ ns) (map-append table_output xs ys) ∙ sym (append_assoc bs (map table_output xs) (map table_output ys))

gates_after : (c : Circuit) → sources_of c ++ map table_output (constants ++ gate_part c) ≡ before_nots c
gates_after c = names_after (sources_of c) constants (gate_part c)

pub nots_after : (c : Circuit) → sources_of c ++ map table_output (constants ++ gate_part c ++ not_part c) ≡ before_outputs c
nots_after c = names_after (sources_of c) (constants ++ gate_part c) (not_part c) ∙ ap (λ (ns : List Name). ns ++ map table_output (not_part c)) (gates_after c)

pub tables_layered : (c : Circuit) → CanWriteAiger c → AreLayered (sources_of c) (all_tables c)
tables_layered c is =
    layered_append (sources_of c) (constants ++ gate_part c ++ not_part c) (output_part c)
    (layered_append (sources_of c) (constants ++ gate_part c) (not_part c)
    (layered_append (sources_of c) constants (gate_part c) (constants_layered c is) (gates_part c is).0)
    (subst (λ (ns : List Name). AreLayered ns (not_part c)) (sym (gates_after c)) (nots_part c is).0))
    (subst (λ (ns : List Name). AreLayered ns (output_part c)) (sym (nots_after c)) (outputs_part c is))
