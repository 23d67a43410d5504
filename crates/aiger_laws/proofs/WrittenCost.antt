-- The document of a circuit that can be written costs no more gates than the circuit has.
use Rattle.std.proofs.Common.{◌≡◌, ℕ, zero, suc, ◌+◌, ◌-◌, ◌*◌, ◌≤◌, ◌<◌, Bool, true, false, List, [], ◌∷◌, ◌++◌, length, map, drop, take, refl, ap, ◌∙◌, sym, subst, arith, inl, inr, ⊎_elim, ◌⊎◌}
use Rattle.std.specs.Prelude.{All, not, ◌&&◌, ◌||◌, ◌==◌, nat_le, replicate, slice_index_or, sum_by}
use Rattle.std.specs.List.{list_any}
use Rattle.std.proofs.lemmas.Bool.{both_ways, cond_both, eq-eqb, eqb-true, le-leb, ne_eqb, cases_lt}
use Rattle.std.proofs.lemmas.List.{length-replicate}
use Rattle.std.proofs.lemmas.List.Sums.{sum_by-cons, sum_by-append}
use Rattle.std.proofs.lemmas.List.Elements.{All-head, All-tail}
use Rattle.net_theory.specs.declared.data.Sig.{Sig}
use Rattle.net_theory.specs.declared.data.Sig.TheVariants.{Zero, One, Node}
use Rattle.net_theory.specs.Net.{IsSigBelow, end_of}
use Rattle.net_theory.specs.Cover.{cover_value, matches}
use Rattle.net_theory.specs.Cost.{unary_cost, binary_cost, unary_cover, merged_table, cover_cost, table_cost, cost}
use Rattle.net_theory.specs.Expansion.{unary_word, binary_word}
use Rattle.net_theory.specs.Document.{Name, is_same, Table}
use Rattle.net_theory.specs.Circuit.{Circuit}
use Rattle.aiger_text.specs.declared.file.AigGate.{AigGate}
use Rattle.aiger_text.specs.Naming.{name_at}
use Rattle.aiger_text.specs.Meaning.{bit_at, next_of, with_marks, is_turned, Signals, zero_table, one_table, gate_table}
use Rattle.aiger_text.specs.Meaning.{needs_not, unary_table, not_table, not_tables, sink_name, is_driver, output_tables, tables_of}
use Rattle.aiger_core.specs.Written.{sig_literal, even_from, mapped}
use Rattle.aiger_laws.specs.Writable.{CanWriteAiger}
use Rattle.aiger_laws.proofs.Charges.{among, needs_by, needs, digit_if, need_count, mapped_pays, start_count}
use Rattle.aiger_laws.proofs.WrittenFile.{start, nexts_count, sink_literals, all_variables, circuit_ands, circuit_shaped, start_shaped}
use Rattle.aiger_laws.proofs.WrittenSignals.{marks_cases, none_marked, turns_at}
use Rattle.aiger_laws.proofs.WrittenDocument.{circuit_file, circuit_signals, circuit_document}
use Rattle.aiger_laws.proofs.WrittenDescribes.{latches_nexts}
use Rattle.aiger_laws.proofs.WrittenWell.{gate_part, not_part, output_part}

-- ---- costs of tables

zero_cost : table_cost zero_table ≡ 0
unfolding table_cost merged_table
zero_cost = refl

one_cost : table_cost one_table ≡ 0
unfolding table_cost merged_table
one_cost = refl

copy_cost : (input output : Name) → table_cost (unary_table input 49 output) ≡ 0
unfolding table_cost merged_table cover_value matches
copy_cost input output = refl

unary_few : (w : ℕ) → unary_cost w ≤ 1
unary_few w = cond_both (w == 2) 1 0 (λ (n : ℕ). n ≤ 1) (λ e. omega arith) (λ e. omega arith)

binary_few : (w : ℕ) → binary_cost w ≤ 1
binary_few w = cond_both _ 0 1 (λ (n : ℕ). n ≤ 1) (λ e. omega arith) (λ e. omega arith)

not_few : (s : Signals) (w : ℕ) → table_cost (not_table s w) ≤ 1
unfolding table_cost merged_table
not_few s w = unary_few (unary_word (not_table s w).cover)

gate_few : (s : Signals) (g : AigGate) → table_cost (gate_table s g) ≤ 1
unfolding table_cost merged_table
gate_few s g =
    let t = gate_table s g in
    cond_both (is_same (name_at s.names g.first) (name_at s.names g.second)) _ t (λ (m : Table). cover_cost m.cover m.inputs ≤ 1)
    (λ one. unary_few (unary_word (unary_cover (cover_value t.cover (false ∷ false ∷ [])) (cover_value t.cover (true ∷ true ∷ [])))))
    (λ other. binary_few (binary_word t.cover))

gates_cost : (s : Signals) (gs : List AigGate) → sum_by table_cost (map (gate_table s) gs) ≤ length gs
gates_cost s [] = omega arith
gates_cost s (g ∷ gs) = omega (arith, sum_by-cons table_cost (gate_table s g) (map (gate_table s) gs), gate_few s g, gates_cost s gs)

nots_cost : (s : Signals) (n : ℕ) (literals : List ℕ) (w count : ℕ) → ((v : ℕ) → w ≤ v → v < w + count → needs_not s v ≡ true → needs n literals v ≡ true) →
    sum_by table_cost (not_tables s w count) ≤ need_count n literals w count
unfolding not_tables need_count
nots_cost s n literals w zero each = omega arith
nots_cost s n literals w (suc count) each =
    let rest = nots_cost s n literals (w + 1) count (λ v from to needs. each v (omega (arith, from)) (omega (arith, to)) needs) in
    cond_both (needs_not s w) (not_table s w ∷ not_tables s (w + 1) count) (not_tables s (w + 1) count)
    (λ (ts : List Table). sum_by table_cost ts ≤ digit_if (needs n literals w) + need_count n literals (w + 1) count)
    (λ here. let digit : digit_if (needs n literals w) ≡ 1 = ap digit_if (each w (omega arith) (omega arith) here) in
    omega (arith, sum_by-cons table_cost (not_table s w) (not_tables s (w + 1) count), not_few s w, rest, digit))
    (λ none. omega (arith, rest))

outputs_cost : (s : Signals) (lits : List ℕ) (os : List Name) → sum_by table_cost (output_tables s lits os) ≡ 0
unfolding output_tables
outputs_cost s [] os = refl
outputs_cost s (lit ∷ lits) [] = refl
outputs_cost s (lit ∷ lits) (o ∷ os) =
    let rest = outputs_cost s lits os in
    cond_both (is_driver s.names lit o) (output_tables s lits os) (unary_table (sink_name s lit) 49 o ∷ output_tables s lits os) (λ (ts : List Table). sum_by table_cost ts ≡ 0)
    (λ driver. rest)
    (λ other. omega (arith, sum_by-cons table_cost (unary_table (sink_name s lit) 49 o) (output_tables s lits os), copy_cost (sink_name s lit) o, rest))

-- ---- which literals are those of nodes

among_push : (x lit : ℕ) (xs : List ℕ) → among xs lit ≡ true → among (x ∷ xs) lit ≡ true
unfolding among
among_push x lit xs e = or_right (x == lit) (list_any (λ (z : ℕ). z == lit) xs) e where
  or_right : (a b : Bool) → b ≡ true → (a || b) ≡ true
  or_right true b h = refl
  or_right false b h = h

among_cases : (x lit : ℕ) (xs : List ℕ) → among (x ∷ xs) lit ≡ true → (x ≡ lit) ⊎ (among xs lit ≡ true)
unfolding among
among_cases x lit xs e = by (x == lit) (λ h. eqb-true x lit h) e where
  by : (b : Bool) → (b ≡ true → x ≡ lit) → (b || list_any (λ (z : ℕ). z == lit) xs) ≡ true → (x ≡ lit) ⊎ (list_any (λ (z : ℕ). z == lit) xs ≡ true)
  by true h e = inl (h refl)
  by false h e = inr e

among_here : (x lit : ℕ) (xs : List ℕ) → x ≡ lit → among (x ∷ xs) lit ≡ true
unfolding among
among_here x lit xs e = ap (λ (b : Bool). b || list_any (λ (z : ℕ). z == lit) xs) (eq-eqb x lit e)

among_nothing : (lit : ℕ) → among [] lit ≡ true → ⊥
unfolding among
among_nothing lit e = absurd cc

among_take : (k lit : ℕ) (xs : List ℕ) → among (take k xs) lit ≡ true → among xs lit ≡ true
among_take zero lit xs e = absurd (among_nothing lit e)
among_take (suc k) lit [] e = e
among_take (suc k) lit (x ∷ xs) e =
    ⊎_elim (λ here. among_here x lit xs here) (λ later. among_push x lit xs (among_take k lit xs later)) (among_cases x lit (take k xs) e)

among_drop : (k lit : ℕ) (xs : List ℕ) → among (drop k xs) lit ≡ true → among xs lit ≡ true
among_drop zero lit xs e = e
among_drop (suc k) lit [] e = e
among_drop (suc k) lit (x ∷ xs) e = among_push x lit xs (among_drop k lit xs e)

among_at : (literals : List ℕ) (p lit : ℕ) → p < length literals → slice_index_or literals p 0 ≡ lit → among literals lit ≡ true
among_at [] p lit low e = absurd (omega (arith, low))
among_at (x ∷ literals) zero lit low e = among_here x lit literals e
among_at (x ∷ literals) (suc p) lit low e = among_push x lit literals (among_at literals p lit (omega (arith, low)) e)

-- a literal of a sink that is no constant is that of a node
sink_among : (literals : List ℕ) (node lit : ℕ) (sinks : List Sig) → length literals ≡ node → All (IsSigBelow node) sinks → 2 ≤ lit →
    among (map (sig_literal literals) sinks) lit ≡ true → among literals lit ≡ true
sink_among literals node lit [] count below high e = absurd (among_nothing lit e)
sink_among literals node lit (s ∷ sinks) count below high e =
    ⊎_elim
    (λ here. by s (All-head (IsSigBelow node) s sinks below) here)
    (λ later. sink_among literals node lit sinks count (All-tail (IsSigBelow node) s sinks below) high later)
    (among_cases (sig_literal literals s) lit (map (sig_literal literals) sinks) e) where
      by : (s : Sig) → IsSigBelow node s → sig_literal literals s ≡ lit → among literals lit ≡ true
      by Zero below here = absurd (omega (arith, here, high))
      by One below here = absurd (omega (arith, here, high))
      by (Node p) below here = among_at literals p lit (omega (arith, below.1, count)) here

-- a marked literal that is no constant is that of a node
marked_among : (c : Circuit) (lit : ℕ) → CanWriteAiger c → 2 ≤ lit → bit_at (circuit_signals c).marks lit ≡ true → among (mapped c.net).literals lit ≡ true
marked_among c lit is high marked =
    let zeros = replicate (all_variables c * 2 + 2) false in
    let nexts = latches_nexts (1 + length c.inputs) c.latches (drop (length c.outputs) (sink_literals c)) (nexts_count c is) in
    let sink : among (sink_literals c) lit ≡ true =
    ⊎_elim
    (λ before. ⊎_elim
    (λ zero. absurd (none_marked (all_variables c * 2 + 2) lit zero))
    (λ output. among_take (length c.outputs) lit (sink_literals c) output)
    (marks_cases zeros (circuit_file c).outputs lit before))
    (λ next. among_drop (length c.outputs) lit (sink_literals c) (subst (λ (xs : List ℕ). among xs lit ≡ true) nexts next))
    (marks_cases (with_marks zeros (circuit_file c).outputs) (map next_of (circuit_file c).latches) lit marked) in
    sink_among (mapped c.net).literals (end_of c.net) lit c.net.sinks (circuit_shaped c is).count is.proper.net.sinks high sink

-- ---- which variables need a NOT

both_bits : (a b : Bool) → (a && not b) ≡ true → (a ≡ true) × (b ≡ false)
both_bits true false e = (refl, refl)
both_bits true true e = absurd cc
both_bits false b e = absurd cc

-- of a gate that isn't listed as its complement, but whose complement is marked, both literals are
flat_gate : (a b : Bool) → a ≡ true → (a && not b) ≡ false → b ≡ true
flat_gate true true e f = refl
flat_gate true false e f = absurd cc
flat_gate false b e f = absurd cc

needed : (low even odd : Bool) → odd ≡ true → (low ≡ false → even ≡ true) → needs_by low even odd ≡ true
needed true even odd e f = e
needed false true odd e f = e
needed false false odd e f = absurd (let h : false ≡ true = f refl in cc)

needs_are : (c : Circuit) (w : ℕ) → CanWriteAiger c → 1 ≤ w → w < 1 + all_variables c → needs_not (circuit_signals c) w ≡ true →
    needs c.net.sources (mapped c.net).literals w ≡ true
needs_are c w is some low e =
    let s = circuit_signals c in
    let parts = both_bits (bit_at s.marks (w * 2 + 1)) (bit_at s.turns w) e in
    needed (nat_le w c.net.sources) (among (mapped c.net).literals (w * 2)) (among (mapped c.net).literals (w * 2 + 1))
    (marked_among c (w * 2 + 1) is (omega (arith, some)) parts.0)
    (λ high.
    let past : c.net.sources + 1 ≤ w = high_of c w high in
    let place : c.net.sources + 1 + (w - (c.net.sources + 1)) ≡ w = omega (arith, past) in
    let turned : bit_at s.turns (c.net.sources + 1 + (w - (c.net.sources + 1))) ≡ is_turned s.marks ((c.net.sources + 1 + (w - (c.net.sources + 1))) * 2) =
    turns_at s.marks (replicate (all_variables c + 1) false) (c.net.sources + 1) (w - (c.net.sources + 1)) (mapped c.net).gates (circuit_shaped c is).gates
    (omega (arith, past, low)) (omega (arith, length-replicate (all_variables c + 1) false)) in
    let flat : is_turned s.marks (w * 2) ≡ false = sym (subst (λ (k : ℕ). bit_at s.turns k ≡ is_turned s.marks (k * 2)) place turned) ∙ parts.1 in
    marked_among c (w * 2) is (omega (arith, some)) (flat_gate (bit_at s.marks (w * 2 + 1)) (bit_at s.marks (w * 2)) parts.0 flat)) where
      high_of : (c : Circuit) (w : ℕ) → nat_le w c.net.sources ≡ false → c.net.sources + 1 ≤ w
      high_of c w high = ⊎_elim (λ lt. omega (arith, lt)) (λ ge. absurd (both_ways (nat_le w c.net.sources) high (le-leb w c.net.sources ge))) (cases_lt c.net.sources w)

-- ---- the document

evens_only : (k n w : ℕ) → among (even_from k n) (w * 2 + 1) ≡ false
unfolding among even_from
evens_only k zero w = refl
evens_only k (suc n) w = by (k * 2 == w * 2 + 1) (ne_eqb (k * 2) (w * 2 + 1) (λ e. omega (arith, e))) (evens_only (k + 1) n w) where
  by : (b : Bool) {r : Bool} → b ≡ false → r ≡ false → (b || r) ≡ false
  by false e f = f
  by true e f = absurd cc

constants_cost : sum_by table_cost (zero_table ∷ one_table ∷ []) ≡ 0
constants_cost = omega (arith, sum_by-cons table_cost zero_table (one_table ∷ []), sum_by-cons table_cost one_table [], zero_cost, one_cost)

pub circuit_cost : (c : Circuit) → CanWriteAiger c → cost (circuit_document c) ≤ length c.net.gates
unfolding cost tables_of
circuit_cost c is =
    let s = circuit_signals c in
    let constants = zero_table ∷ one_table ∷ [] in
    let none : need_count c.net.sources (start c.net.sources).literals 1 (all_variables c) ≡ 0 =
    start_count c.net.sources (start c.net.sources).literals 1 (all_variables c) (λ v. evens_only 0 (c.net.sources + 1) v) in
    let paid = mapped_pays c.net.sources (c.net.sources + 1) 0 (all_variables c) (start c.net.sources) c.net.gates (start_shaped c.net.sources) (circuit_ands c is) (omega (arith, none)) in
    omega (
      arith,
      sum_by-append table_cost (constants ++ gate_part c ++ not_part c) (output_part c),
      sum_by-append table_cost (constants ++ gate_part c) (not_part c),
      sum_by-append table_cost constants (gate_part c),
      constants_cost,
      gates_cost s (mapped c.net).gates,
      nots_cost s c.net.sources (mapped c.net).literals 1 (all_variables c) (λ v from to needs. needs_are c v is from to needs),
      outputs_cost s (take (length c.outputs) (sink_literals c)) c.outputs,
      paid,
    )
