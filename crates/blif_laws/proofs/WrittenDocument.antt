-- The writer's document of a circuit is well formed, equivalent to the circuit, and costs no more gates than it
-- has.
use Rattle.std.specs.Prelude.{◌≡◌, ℕ, zero, suc, ◌+◌, ◌-◌, ◌≤◌, ◌<◌, Bool, true, false, List, [], ◌∷◌, ◌++◌, length, map, slice_get, slice_index_or, sum_by, All, Option, Some, None, ◌⊎◌, refl}
use Rattle.std.specs.List.{list_any, flat_map, filter_map, cons_option}
use Rattle.std.specs.Option.{option_map}
use Rattle.std.proofs.Common.{arith, sym, ◌∙◌, ap, subst, inl, inr, ⊎_elim, append_assoc}
use Rattle.std.proofs.lemmas.Bool.{both_ways, false_from_ne_true}
use Rattle.std.proofs.lemmas.List.{length-drop, map-append}
use Rattle.std.proofs.lemmas.Option.{slice_get-get_or}
use Rattle.std.proofs.lemmas.List.Elements.{All-append, All-weaker}
use Rattle.std.proofs.lemmas.List.Sums.{sum_by-append}
use Rattle.net_theory.specs.declared.data.Trigger.{Trigger}
use Rattle.net_theory.specs.declared.data.Sig.{Sig}
use Rattle.net_theory.specs.declared.data.Sig.TheVariants.{Zero, One, Node}
use Rattle.net_theory.specs.Net.{IsSigBelow, end_of}
use Rattle.net_theory.specs.Document.{Name, IsName, has, are_distinct, Table, Latch, LatchLine, latch_of, latch_input, latch_output, table_inputs, table_output, source_names, driven_names, used_names}
use Rattle.net_theory.specs.NameLaws.{has_index, has_at, has_left, has_right, has_either, has_first, has_later, has_map_index, all_at, at_all, has_all, all_has, distinct_right, distinct_apart}
use Rattle.net_theory.specs.WellFormed.{IsLatch, IsLatchLine, IsTable, IsFreeOf, IsWellFormed}
use Rattle.net_theory.specs.Cost.{table_cost, cost}
use Rattle.net_theory.specs.Circuit.{Circuit, IsControlApart, IsProper, sources_of}
use Rattle.net_theory.specs.Naming.{control_of, second_of, taken_names, each_once, gate_names, first_spare, second_spare, node_name}
use Rattle.net_document.specs.OnceLaws.{has_all_once}
use Rattle.blif_core.specs.Written.{gate_tables, is_zero, is_one, next_states, one_name, sig_name, constant_tables, latch_lines, output_tables, written}
use Rattle.blif_laws.specs.Spelled.{IsSpelledTable, IsBlifSpelling}
use Rattle.blif_laws.specs.Layers.{AreLayered, layered_append, layered_distinct, layered_inputs, layered_acyclic}
use Rattle.blif_laws.proofs.CircuitNames.{output_found, taken_output, taken_source, taken_control, IsSpare, AreNamed, placed, node_at, node_source, node_gate, node_is}
use Rattle.blif_laws.proofs.WrittenParts.{AreToBeWritten, gates_outputs, gates_spelled, gates_cost, gates_layered}
use Rattle.blif_laws.proofs.WrittenParts.{one_of, constants, AreSpare, constants_layered, constants_outputs}
use Rattle.blif_laws.proofs.WrittenParts.{constants_spelled, constants_cost, zero_driven, one_driven, AreOutputs}
use Rattle.blif_laws.proofs.WrittenParts.{outputs_layered, outputs_spelled, outputs_cost, outputs_new, outputs_driven}
use Rattle.blif_laws.proofs.WrittenParts.{lines_latches, lines_at, some_zero, some_one, drop_at}

-- ---- the parts

abbrev pub gate_part : Circuit → List Table
gate_part c = gate_tables (node_name c) c.net.gates (gate_names c)

abbrev pub needs_zero : Circuit → Bool
needs_zero c = list_any is_zero (next_states c)

abbrev pub needs_one : Circuit → Bool
needs_one c = list_any is_one (next_states c)

abbrev pub constant_part : Circuit → List Table
constant_part c = constants (needs_zero c) (needs_one c) (first_spare c) (second_spare c)

abbrev pub names_written : Circuit → List Name
names_written c = each_once [] (placed c)

abbrev pub output_part : Circuit → List Table
output_part c = output_tables (node_name c) (names_written c) c.outputs c.net.sinks

abbrev pub fixed_part : Circuit → List Table
fixed_part c = gate_part c ++ constant_part c

abbrev pub all_tables : Circuit → List Table
all_tables c = fixed_part c ++ output_part c

abbrev pub all_lines : Circuit → List LatchLine
all_lines c = latch_lines (sig_name c) c.latches (next_states c)

constants_are : (c : Circuit) → constant_tables c ≡ constant_part c
unfolding constant_tables
constants_are c = refl

pub tables_are : (c : Circuit) → (written c).tables ≡ all_tables c
unfolding written
tables_are c = ap (λ (ts : List Table). (gate_part c ++ ts) ++ output_part c) (constants_are c)

-- ---- their properties

pub states_count : (c : Circuit) → IsProper c → length c.latches ≡ length (next_states c)
states_count c is = omega (arith, is.sink_count, length-drop (length c.outputs) c.net.sinks)

pub states_below : (c : Circuit) (i : ℕ) (s : Sig) → IsProper c → slice_get (next_states c) i ≡ Some s → IsSigBelow (end_of c.net) s
states_below c i s is at = all_at (IsSigBelow (end_of c.net)) c.net.sinks (length c.outputs + i) s is.net.sinks (drop_at (length c.outputs) c.net.sinks i s at)

pub to_be_written : (c : Circuit) → IsProper c → AreNamed c → AreToBeWritten (node_name c) (c.net.sources + 1) c.net.gates (gate_names c)
to_be_written c is named = record {
  below = λ p low high. node_is c p is named low (omega (arith, high));
  gates = is.net.gates.each;
  named = λ i n at. node_gate c i n at;
  names = named.gates;
}

gate_outputs : (c : Circuit) → IsProper c → AreNamed c → map table_output (gate_part c) ≡ gate_names c
gate_outputs c is named = gates_outputs (node_name c) (c.net.sources + 1) c.net.gates (gate_names c) (to_be_written c is named) named.count

pub are_outputs : (c : Circuit) → IsProper c → AreNamed c → AreOutputs (node_name c) (end_of c.net) c.outputs c.net.sinks
are_outputs c is named = record {
  names = λ n there. all_has IsName c.outputs n is.outputs there;
  below = λ i s at. all_at (IsSigBelow (end_of c.net)) c.net.sinks i s is.net.sinks at;
  nodes = λ p low high. node_is c p is named low high;
}

abbrev before_constants : Circuit → List Name
before_constants c = sources_of c ++ map table_output (gate_part c)

before_placed : (c : Circuit) → IsProper c → AreNamed c → before_constants c ≡ placed c
before_placed c is named = ap (λ (ns : List Name). sources_of c ++ ns) (gate_outputs c is named)

spare_fresh : (c : Circuit) (n : Name) → IsSpare c n → has (placed c) n ≡ false
spare_fresh c n spare =
    false_from_ne_true (has (placed c) n) (λ had. ⊎_elim
    (λ source. both_ways (has (taken_names c) n) spare.free (taken_source c n source))
    (λ gate. both_ways (has (gate_names c) n) spare.other gate)
    (has_either (sources_of c) (gate_names c) n had))

are_spare : (c : Circuit) → IsProper c → AreNamed c → AreSpare (before_constants c) (first_spare c) (second_spare c)
are_spare c is named = record {
  first_name = named.first.name;
  second_name = named.second.name;
  first_fresh = ap (λ (ns : List Name). has ns (first_spare c)) (before_placed c is named) ∙ spare_fresh c (first_spare c) named.first;
  second_fresh = ap (λ (ns : List Name). has ns (second_spare c)) (before_placed c is named) ∙ spare_fresh c (second_spare c) named.second;
  apart = named.spares;
}

node_had : (c : Circuit) (p : ℕ) → IsProper c → AreNamed c → 1 ≤ p → p < end_of c.net → has (placed c) (node_name c p) ≡ true
node_had c p is named low high = has_at (placed c) (p - 1) (node_name c p) (node_at c p is named low high)

-- ---- layers

abbrev before_outputs : Circuit → List Name
before_outputs c = sources_of c ++ map table_output (fixed_part c)

-- each name before the outputs is the name of a node or of a constant
before_cases : (c : Circuit) (n : Name) → IsProper c → AreNamed c → has (before_outputs c) n ≡ true → (has (placed c) n ≡ true) ⊎ (IsSpare c n)
before_cases c n is named e =
    ⊎_elim
    (λ source. inl (has_left (sources_of c) (gate_names c) n source))
    (λ table. ⊎_elim
    (λ gate. inl (has_right (sources_of c) (gate_names c) n (subst (λ (ns : List Name). has ns n ≡ true) (gate_outputs c is named) gate)))
    (λ constant. ⊎_elim
    (λ first. inr (subst (IsSpare c) (sym first) named.first))
    (λ second. inr (subst (IsSpare c) (sym second) named.second))
    (constants_outputs (needs_zero c) (needs_one c) (first_spare c) (second_spare c) n constant))
    (has_either (map table_output (gate_part c)) (map table_output (constant_part c)) n (subst (λ (ns : List Name). has ns n ≡ true) (map-append table_output (gate_part c) (constant_part c)) table)))
    (has_either (sources_of c) (map table_output (fixed_part c)) n e)

placed_before : (c : Circuit) (n : Name) → IsProper c → AreNamed c → has (placed c) n ≡ true → has (before_outputs c) n ≡ true
placed_before c n is named e =
    subst (λ (ns : List Name). has (sources_of c ++ ns) n ≡ true) (sym (map-append table_output (gate_part c) (constant_part c)))
    (subst (λ (ns : List Name). has ns n ≡ true) (append_assoc (sources_of c) (map table_output (gate_part c)) (map table_output (constant_part c)))
    (has_left (before_constants c) (map table_output (constant_part c)) n (subst (λ (ns : List Name). has ns n ≡ true) (sym (before_placed c is named)) e)))

known_output : (c : Circuit) (n : Name) → IsProper c → AreNamed c → has c.outputs n ≡ true → has (before_outputs c) n ≡ true → has (names_written c) n ≡ true
known_output c n is named out e =
    ⊎_elim
    (λ node. has_all_once (placed c) n ∙ node)
    (λ spare. absurd (both_ways (has (taken_names c) n) spare.free (taken_output c n out)))
    (before_cases c n is named e)

pub all_layered : (c : Circuit) → IsProper c → AreNamed c → AreLayered (sources_of c) (all_tables c)
all_layered c is named =
    layered_append (sources_of c) (fixed_part c) (output_part c)
    (layered_append (sources_of c) (gate_part c) (constant_part c)
    (gates_layered (node_name c) (sources_of c) (c.net.sources + 1) c.net.gates (gate_names c) (to_be_written c is named)
    (λ p low high. let at : p - 1 < length (sources_of c) = omega (arith, low, high, is.source_count) in
    has_at (sources_of c) (p - 1) (node_name c p) (slice_get-get_or (sources_of c) (p - 1) [] at ∙ ap Some (sym (source_at c p is low high))))
    (λ n gate. false_apart c n named gate)
    (distinct_right (sources_of c) (gate_names c) named.distinct))
    (constants_layered (before_constants c) (needs_zero c) (needs_one c) (first_spare c) (second_spare c) (are_spare c is named)))
    (outputs_layered (node_name c) (end_of c.net) (names_written c) (before_outputs c) c.outputs c.net.sinks (are_outputs c is named)
    (λ n out old. known_output c n is named out old)
    (λ p low high. placed_before c (node_name c p) is named (node_had c p is named low high))) where
      source_at : (c : Circuit) (p : ℕ) → IsProper c → 1 ≤ p → p < c.net.sources + 1 → node_name c p ≡ slice_index_or (sources_of c) (p - 1) []
      source_at c p is low high =
          let at : p - 1 < length (sources_of c) = omega (arith, low, high, is.source_count) in
          let same : p - 1 + 1 ≡ p = omega (arith, low) in
          ap (node_name c) (sym same) ∙ node_source c (p - 1) (slice_index_or (sources_of c) (p - 1) []) is (slice_get-get_or (sources_of c) (p - 1) [] at)

      false_apart : (c : Circuit) (n : Name) → AreNamed c → has (gate_names c) n ≡ true → has (sources_of c) n ≡ false
      false_apart c n named gate = false_from_ne_true (has (sources_of c) n) (λ source. both_ways (has (gate_names c) n) (distinct_apart (sources_of c) (gate_names c) n named.distinct source) gate)

-- ---- tables, latches and costs

pub all_spelled : (c : Circuit) → IsProper c → AreNamed c → All IsSpelledTable (all_tables c)
all_spelled c is named =
    All-append IsSpelledTable (fixed_part c) (output_part c)
    (All-append IsSpelledTable (gate_part c) (constant_part c)
    (gates_spelled (node_name c) (c.net.sources + 1) c.net.gates (gate_names c) (to_be_written c is named))
    (constants_spelled (needs_zero c) (needs_one c) (first_spare c) (second_spare c) named.first.name named.second.name))
    (outputs_spelled (node_name c) (end_of c.net) (names_written c) c.outputs c.net.sinks (are_outputs c is named))

pub all_cost : (c : Circuit) → IsProper c → AreNamed c → sum_by table_cost (all_tables c) ≤ length c.net.gates
all_cost c is named = omega (
  arith,
  sum_by-append table_cost (fixed_part c) (output_part c),
  sum_by-append table_cost (gate_part c) (constant_part c),
  gates_cost (node_name c) (c.net.sources + 1) c.net.gates (gate_names c) (to_be_written c is named),
  constants_cost (needs_zero c) (needs_one c) (first_spare c) (second_spare c),
  outputs_cost (node_name c) (end_of c.net) (names_written c) c.outputs c.net.sinks (are_outputs c is named),
)

one_spare : (c : Circuit) → AreNamed c → (z : Bool) → IsName (one_of z (first_spare c) (second_spare c))
one_spare c named true = named.second.name
one_spare c named false = named.first.name

sink_name : (c : Circuit) (s : Sig) → IsProper c → AreNamed c → IsSigBelow (end_of c.net) s → IsName (sig_name c s)
sink_name c Zero is named below = named.first.name
sink_name c One is named below = one_spare c named (needs_zero c)
sink_name c (Node p) is named below = node_is c p is named below.0 below.1

lines_spelled : (c : Circuit) → IsProper c → AreNamed c → All IsLatchLine (all_lines c)
lines_spelled c is named =
    at_all IsLatchLine (all_lines c) (λ i l at.
    let line = lines_at (sig_name c) c.latches (next_states c) i l at in
    record {
      input = subst IsName (sym line.input) (sink_name c line.sink is named (states_below c i line.sink is line.at));
      latch = all_at IsLatch c.latches i l.latch is.latches line.latch;
    })

pub written_spelled : (c : Circuit) → IsProper c → AreNamed c → IsBlifSpelling (written c)
unfolding written
written_spelled c is named = record {
  model = is.model;
  inputs = is.inputs;
  outputs = is.outputs;
  clocks = is.clocks;
  latches = lines_spelled c is named;
  tables = subst (All IsSpelledTable) (sym (tables_are c)) (all_spelled c is named);
}

-- ---- driven names

pub line_latches : (c : Circuit) → IsProper c → map latch_of (all_lines c) ≡ c.latches
line_latches c is = lines_latches (sig_name c) c.latches (next_states c) (omega (arith, states_count c is))

pub written_sources : (c : Circuit) → IsProper c → source_names (written c) ≡ sources_of c
unfolding written
written_sources c is = ap (λ (ls : List Latch). c.inputs ++ map latch_output ls) (line_latches c is)

abbrev all_driven : Circuit → List Name
all_driven c = sources_of c ++ map table_output (all_tables c)

written_driven : (c : Circuit) → IsProper c → driven_names (written c) ≡ all_driven c
written_driven c is = ap (λ (ns : List Name). ns ++ map table_output (written c).tables) (written_sources c is) ∙ ap (λ (ts : List Table). sources_of c ++ map table_output ts) (tables_are c)

before_driven : (c : Circuit) (n : Name) → has (before_outputs c) n ≡ true → has (all_driven c) n ≡ true
before_driven c n e =
    subst (λ (ns : List Name). has (sources_of c ++ ns) n ≡ true) (sym (map-append table_output (fixed_part c) (output_part c)))
    (subst (λ (ns : List Name). has ns n ≡ true) (append_assoc (sources_of c) (map table_output (fixed_part c)) (map table_output (output_part c)))
    (has_left (before_outputs c) (map table_output (output_part c)) n e))

output_driven : (c : Circuit) (n : Name) → IsProper c → AreNamed c → has c.outputs n ≡ true → has (all_driven c) n ≡ true
output_driven c n is named out =
    ⊎_elim
    (λ old. before_driven c n (placed_before c n is named (sym (has_all_once (placed c) n) ∙ old)))
    (λ new. has_right (sources_of c) (map table_output (all_tables c)) n
    (subst (λ (ns : List Name). has ns n ≡ true) (sym (map-append table_output (fixed_part c) (output_part c)))
    (has_right (map table_output (fixed_part c)) (map table_output (output_part c)) n new)))
    (outputs_driven (node_name c) (end_of c.net) (names_written c) c.outputs c.net.sinks n (are_outputs c is named) (omega (arith, is.sink_count)) out)

constant_driven : (c : Circuit) (n : Name) → has (map table_output (constant_part c)) n ≡ true → has (all_driven c) n ≡ true
constant_driven c n e =
    before_driven c n (has_right (sources_of c) (map table_output (fixed_part c)) n
    (subst (λ (ns : List Name). has ns n ≡ true) (sym (map-append table_output (gate_part c) (constant_part c)))
    (has_right (map table_output (gate_part c)) (map table_output (constant_part c)) n e)))

state_driven : (c : Circuit) (i : ℕ) (s : Sig) → IsProper c → AreNamed c → slice_get (next_states c) i ≡ Some s → IsSigBelow (end_of c.net) s → has (all_driven c) (sig_name c s) ≡ true
state_driven c i Zero is named at below = constant_driven c (first_spare c) (zero_driven (needs_zero c) (needs_one c) (first_spare c) (second_spare c) (some_zero (next_states c) i at))
state_driven c i One is named at below = constant_driven c (one_name c) (one_driven (needs_zero c) (needs_one c) (first_spare c) (second_spare c) (some_one (next_states c) i at))
state_driven c i (Node p) is named at below = before_driven c (node_name c p) (placed_before c (node_name c p) is named (node_had c p is named below.0 below.1))

line_driven : (c : Circuit) (n : Name) → IsProper c → AreNamed c → has (map latch_input (all_lines c)) n ≡ true → has (all_driven c) n ≡ true
line_driven c n is named e =
    let r = has_map_index latch_input (all_lines c) n e in
    let line = lines_at (sig_name c) c.latches (next_states c) r.0 r.1 r.2 in
    subst (λ (m : Name). has (all_driven c) m ≡ true) (sym line.input ∙ r.3) (state_driven c r.0 line.sink is named line.at (states_below c r.0 line.sink is line.at))

used_driven : (c : Circuit) (n : Name) → IsProper c → AreNamed c → has (flat_map table_inputs (all_tables c) ++ (c.outputs ++ map latch_input (all_lines c))) n ≡ true → has (all_driven c) n ≡ true
used_driven c n is named e =
    ⊎_elim
    (λ read. layered_inputs (sources_of c) (all_tables c) n (all_layered c is named) read)
    (λ sink. ⊎_elim (λ out. output_driven c n is named out) (λ state. line_driven c n is named state) (has_either c.outputs (map latch_input (all_lines c)) n sink))
    (has_either (flat_map table_inputs (all_tables c)) (c.outputs ++ map latch_input (all_lines c)) n e)

-- ---- controls

control_had : (ls : List Latch) (i : ℕ) (l : Latch) (x : Trigger × Name) → slice_get ls i ≡ Some l → l.control ≡ Some x → has (filter_map control_of ls) x.1 ≡ true
control_had [] i l x at e = absurd cc
control_had (m ∷ ls) zero l x at e =
    let same : m ≡ l = cc in
    let control : control_of m ≡ Some x.1 = ap (λ (y : Latch). control_of y) same ∙ ap (option_map second_of) e in
    subst (λ (o : Option Name). has (cons_option o (filter_map control_of ls)) x.1 ≡ true) (sym control) (has_first x.1 (filter_map control_of ls))
control_had (m ∷ ls) (suc i) l x at e = more (control_of m) (control_had ls i l x at e) where
  more : (o : Option Name) → has (filter_map control_of ls) x.1 ≡ true → has (cons_option o (filter_map control_of ls)) x.1 ≡ true
  more None h = h
  more (Some n) h = has_later n (filter_map control_of ls) x.1 h

-- no table drives a control
table_apart : (c : Circuit) (n : Name) → IsProper c → AreNamed c → has (taken_names c) n ≡ true →
    (has c.outputs n ≡ true → has (sources_of c) n ≡ true) → has (map table_output (all_tables c)) n ≡ false
table_apart c n is named taken source = false_from_ne_true (has (map table_output (all_tables c)) n) (λ e.
    ⊎_elim
    (λ fixed. ⊎_elim
    (λ gate. gate_never (subst (λ (ns : List Name). has ns n ≡ true) (gate_outputs c is named) gate))
    (λ constant. ⊎_elim
    (λ first. both_ways (has (taken_names c) n) (subst (λ (m : Name). has (taken_names c) m ≡ false) (sym first) named.first.free) taken)
    (λ second. both_ways (has (taken_names c) n) (subst (λ (m : Name). has (taken_names c) m ≡ false) (sym second) named.second.free) taken)
    (constants_outputs (needs_zero c) (needs_one c) (first_spare c) (second_spare c) n constant))
    (has_either (map table_output (gate_part c)) (map table_output (constant_part c)) n (subst (λ (ns : List Name). has ns n ≡ true) (map-append table_output (gate_part c) (constant_part c)) fixed)))
    (λ output.
    let r = outputs_new (node_name c) (end_of c.net) (names_written c) c.outputs c.net.sinks n (are_outputs c is named) output in
    both_ways (has (names_written c) n) r.1 (has_all_once (placed c) n ∙ has_left (sources_of c) (gate_names c) n (source r.0)))
    (has_either (map table_output (fixed_part c)) (map table_output (output_part c)) n (subst (λ (ns : List Name). has ns n ≡ true) (map-append table_output (fixed_part c) (output_part c)) e))) where
      gate_never : has (gate_names c) n ≡ true → ⊥
      gate_never gate =
          let at = has_index (gate_names c) n gate in
          ⊎_elim
          (λ sits.
          let r = output_found c.outputs c.net.sinks (c.net.sources + 1 + at.0) n sits in
          both_ways (has (gate_names c) n) (distinct_apart (sources_of c) (gate_names c) n named.distinct (source (has_at c.outputs r.0 n r.1))) gate)
          (λ free. both_ways (has (taken_names c) n) free taken)
          (named.each at.0 n at.1)

control_free : (c : Circuit) (i : ℕ) (l : Latch) (x : Option (Trigger × Name)) → IsProper c → AreNamed c →
    slice_get c.latches i ≡ Some l → l.control ≡ x → IsControlApart c.outputs (sources_of c) x →
    IsFreeOf (map table_output (all_tables c)) x
control_free c i l None is named at e apart = tt
control_free c i l (Some x) is named at e apart = table_apart c x.1 is named (taken_control c x.1 (control_had c.latches i l x at e)) apart

controls_free : (c : Circuit) → IsProper c → AreNamed c → All (λ (l : LatchLine). IsFreeOf (map table_output (all_tables c)) l.latch.control) (all_lines c)
controls_free c is named =
    at_all (λ (l : LatchLine). IsFreeOf (map table_output (all_tables c)) l.latch.control) (all_lines c) (λ i l at.
    let line = lines_at (sig_name c) c.latches (next_states c) i l at in
    control_free c i l.latch l.latch.control is named line.latch refl (all_at (λ (m : Latch). IsControlApart c.outputs (sources_of c) m.control) c.latches i l.latch is.controls line.latch))

-- ---- well formed

pub written_layered : (c : Circuit) → IsProper c → AreNamed c → AreLayered (source_names (written c)) (written c).tables
written_layered c is named =
    subst (λ (ns : List Name). AreLayered ns (written c).tables) (sym (written_sources c is)) (subst (AreLayered (sources_of c)) (sym (tables_are c)) (all_layered c is named))

written_used : (c : Circuit) → used_names (written c) ≡ flat_map table_inputs (all_tables c) ++ (c.outputs ++ map latch_input (all_lines c))
unfolding written
written_used c = ap (λ (ts : List Table). flat_map table_inputs ts ++ (c.outputs ++ map latch_input (all_lines c))) (tables_are c)

pub written_cost : (c : Circuit) → IsProper c → AreNamed c → cost (written c) ≤ length c.net.gates
unfolding cost
written_cost c is named = omega (arith, all_cost c is named, ap (λ (ts : List Table). sum_by table_cost ts) (tables_are c))

pub written_well : (c : Circuit) → IsProper c → AreNamed c → IsWellFormed (written c)
unfolding written
written_well c is named =
    let spelled = written_spelled c is named in
    let distinct : are_distinct (source_names (written c)) ≡ true = subst (λ (ns : List Name). are_distinct ns ≡ true) (sym (written_sources c is)) is.distinct in
    record {
      model = is.model;
      inputs = is.inputs;
      outputs = is.outputs;
      clocks = is.clocks;
      latches = spelled.latches;
      tables = All-weaker IsSpelledTable IsTable (λ t s. s.table) (written c).tables spelled.tables;
      controls = subst (λ (ts : List Table). All (λ (l : LatchLine). IsFreeOf (map table_output ts) l.latch.control) (all_lines c)) (sym (tables_are c)) (controls_free c is named);
      gates = omega (arith, written_cost c is named, is.gates);
      driven_once = layered_distinct (source_names (written c)) (written c).tables distinct (written_layered c is named);
      used_driven = has_all (λ n. has (driven_names (written c)) n ≡ true) (used_names (written c)) (λ n used.
          subst (λ (ns : List Name). has ns n ≡ true) (sym (written_driven c is)) (used_driven c n is named (subst (λ (ns : List Name). has ns n ≡ true) (written_used c) used)));
      acyclic = layered_acyclic (written c) distinct (written_layered c is named);
    }
