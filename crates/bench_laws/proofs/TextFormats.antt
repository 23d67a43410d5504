-- BENCH satisfies `IsFormat`.
use Rattle.std.proofs.Common.{◌≡◌, ℕ, zero, suc, ◌+◌, ◌<◌, true, List, [], ◌∷◌, length, map, Some, refl, ap, ◌∙◌, sym, subst, arith, inl, inr, ⊎_elim, length-append}
use Rattle.std.specs.Prelude.{All, slice_get, sum_by, ◌⊎◌}
use Rattle.std.specs.List.{flat_map}
use Rattle.std.proofs.lemmas.List.{length-map}
use Rattle.std.proofs.lemmas.List.Elements.{All-nil, All-cons, All-head, All-tail}
use Rattle.net_theory.specs.declared.data.Sig.{Sig}
use Rattle.net_theory.specs.declared.data.Gate.{Gate}
use Rattle.net_theory.specs.Net.{Net}
use Rattle.net_theory.specs.Document.{Name, has, Table, Latch, LatchLine, Document, latch_of, latch_input, table_output, source_names, sink_names, driven_names, used_names, table_inputs}
use Rattle.net_theory.specs.NameLaws.{has_first, has_none, has_left, has_right, has_either, has_flat_at, all_has, all_at, at_all}
use Rattle.net_theory.specs.WellFormed.{IsWellFormed}
use Rattle.net_theory.specs.Cost.{table_cost, cost}
use Rattle.net_theory.specs.Circuit.{Circuit}
use Rattle.net_theory.specs.Implements.{Implements}
use Rattle.net_theory.specs.ExchangeLaws.{with_net, exchanged_proper}
use Rattle.net_theory.specs.NetOf.{driver_of, graph_of}
use Rattle.net_theory.specs.GraphLaws.{driver_finds, kept_in, length-graph_of, fanins_of-graph, graph_closed, acyclic_order}
use Rattle.graph_core.specs.Visit.{has_ended}
use Rattle.graph_core.specs.VisitLaws.{MayFinishNext, IsTopologicalOrder, order_is}
use Rattle.net_core.specs.Names.{HasRoomForNames}
use Rattle.net_document.specs.Format.{IsCircuitOfText, CanOperate, IsFormat, up_to}
use Rattle.blif_core.specs.Blif as blif
use Rattle.bench_text.specs.SaidLaws.{IsPlainName, IsPlainLatch, IsGateTable}
use Rattle.bench_text.specs.ListingLaws.{text_fine, texts_list}
use Rattle.bench_core.specs.Bench.{bench_format, is_gate_word}
use Rattle.bench_core.specs.Writable.{IsPlainState, HasGateWord, IsBenchCircuit}
use Rattle.bench_laws.specs.Spelled.{IsGateWord, CanWriteBench}
use Rattle.bench_laws.proofs.Operators.{net_words}
use Rattle.bench_laws.proofs.CircuitTexts.{interface_sources, text_is}

-- ---- documents without sources

-- the first table in topological order reads no table
first_reads : (d : Document) (k : ℕ) (t : Table) → IsWellFormed d → IsGateTable t → slice_get d.tables k ≡ Some t →
    MayFinishNext (graph_of d.tables) (length (graph_of d.tables)) [] k → source_names d ≡ [] → ⊥
first_reads d k t well is at comes none = by t.inputs refl is.some where
  by : (ns : List Name) → t.inputs ≡ ns → 0 < length t.inputs → ⊥
  by [] e some = omega (arith, some, ap (length {A = Name}) e)
  by (n ∷ ns) e some =
      let there : has t.inputs n ≡ true = subst (λ (xs : List Name). has xs n ≡ true) (sym e) (has_first n ns) in
      let used : has (used_names d) n ≡ true = has_left (flat_map table_inputs d.tables) (sink_names d) n (has_flat_at table_inputs d.tables k t n at there) in
      let driven = all_has (λ (m : Name). has (driven_names d) m ≡ true) (used_names d) n well.used_driven used in
      let output : has (map table_output d.tables) n ≡ true =
      ⊎_elim (λ source. absurd (has_none n (subst (λ (xs : List Name). has xs n ≡ true) none source))) (λ table.
      table) (has_either (source_names d) (map table_output d.tables) n driven) in
      let found = driver_finds 0 d.tables n output in
      let reads = kept_in (driver_of d.tables) t.inputs n found.0 there found.1 in
      absurd (let r = comes.ready found.0 (subst (λ (xs : List ℕ). has_ended xs found.0 ≡ true) (sym (fanins_of-graph d.tables k t at)) reads) in cc)

low_table : (ts : List Table) (k : ℕ) → k < length ts → (t : Table) × (slice_get ts k ≡ Some t)
low_table [] k low = absurd (omega arith)
low_table (t ∷ ts) zero low = (t, refl)
low_table (t ∷ ts) (suc k) low = low_table ts k (omega arith)

first_of : (d : Document) (order : List ℕ) → IsWellFormed d → All IsGateTable d.tables → source_names d ≡ [] → IsTopologicalOrder (graph_of d.tables) order → 0 < length d.tables → ⊥
first_of d [] well are none is some = absurd (let w = is.whole 0 (omega (arith, some, length-graph_of d.tables)) in cc)
first_of d (k ∷ order) well are none is some =
    let comes = is.run.0 in
    let t = low_table d.tables k (omega (arith, comes.low, length-graph_of d.tables)) in
    first_reads d k t.0 well (all_at IsGateTable d.tables k t.0 are t.1) t.1 comes none

tables_none : (ts : List Table) → (0 < length ts → ⊥) → ts ≡ []
tables_none [] h = refl
tables_none (t ∷ ts) h = absurd (h (omega arith))

no_tables : (d : Document) → IsWellFormed d → All IsGateTable d.tables → source_names d ≡ [] → d.tables ≡ []
no_tables d well are none =
    let order = acyclic_order d well.acyclic in
    tables_none d.tables (λ some. first_of d order.0 well are none (order_is (graph_of d.tables) order.0 (graph_closed d) order.1) some)

list_none : {A : Type 0} (xs : List A) → length xs ≡ 0 → xs ≡ []
list_none [] e = refl
list_none (x ∷ xs) e = absurd (omega (arith, e))

names_none : (ns : List Name) → ((n : Name) → has ns n ≡ true → ⊥) → ns ≡ []
names_none [] h = refl
names_none (n ∷ ns) h = absurd (h n (has_first n ns))

sinks_none : (d : Document) → IsWellFormed d → d.tables ≡ [] → source_names d ≡ [] → sink_names d ≡ []
sinks_none d well empty none =
    names_none (sink_names d) (λ n there.
    let driven = all_has (λ (m : Name). has (driven_names d) m ≡ true) (used_names d) n well.used_driven (has_right (flat_map table_inputs d.tables) (sink_names d) n there) in
    ⊎_elim
    (λ source. has_none n (subst (λ (xs : List Name). has xs n ≡ true) none source))
    (λ table. has_none n (subst (λ (ts : List Table). has (map table_output ts) n ≡ true) empty table))
    (has_either (source_names d) (map table_output d.tables) n driven))

-- ---- the circuit of a text can be written

states_of : (ls : List LatchLine) → All IsPlainLatch ls → All IsPlainState (map latch_of ls)
states_of [] all = All-nil IsPlainState
states_of (l ∷ ls) all =
    let is = All-head IsPlainLatch l ls all in
    All-cons IsPlainState l.latch (map latch_of ls) (record { output = is.output; control = is.control; init = is.init }) (states_of ls (All-tail IsPlainLatch l ls all))

some_or_none : (k : ℕ) → (0 < k) ⊎ (k ≡ 0)
some_or_none zero = inr refl
some_or_none (suc k) = inl (omega arith)

cost_none : (d : Document) → d.tables ≡ [] → cost d ≡ 0
unfolding cost
cost_none d e = ap (λ (ts : List Table). sum_by table_cost ts) e

empty_circuit : (gates : ℕ) (bytes : List ℕ) (c : Circuit) (is : IsCircuitOfText (up_to gates bench_format) bytes c) → c.net.sources ≡ 0 → (c.net.gates ≡ []) × (c.net.sinks ≡ [])
empty_circuit gates bytes c is zero_sources =
    let d = is.listed.document in
    let fine = text_fine bytes is.listed is.said in
    let none : source_names d ≡ [] = list_none (source_names d) (ap (length {A = Name}) (interface_sources d c is.circuit.describes) ∙ sym is.circuit.proper.source_count ∙ zero_sources) in
    let empty = no_tables d is.well fine.tables none in
    let sinks : length (sink_names d) ≡ 0 = ap (length {A = Name}) (sinks_none d is.well empty none) in
    let count : length (sink_names d) ≡ length d.outputs + length d.latches =
    length-append d.outputs (map latch_input d.latches)
    ∙ ap (λ (k : ℕ). length d.outputs + k) (length-map d.latches latch_input) in
    let outs : length d.outputs ≡ length c.outputs = ap (length {A = Name}) is.circuit.describes.outputs in
    let latches : length d.latches ≡ length c.latches = sym (length-map d.latches latch_of) ∙ ap (length {A = Latch}) is.circuit.describes.latches in
    (list_none c.net.gates (sym is.circuit.gates ∙ cost_none d empty), list_none c.net.sinks (omega (arith, is.circuit.proper.sink_count, sinks, count, outs, latches)))

-- an operator of the format can be written for any operands
gate_words : (gs : List Gate) → All IsGateWord gs → All HasGateWord gs
gate_words [] all = All-nil HasGateWord
gate_words (g ∷ gs) all = All-cons HasGateWord g gs (λ p q a b other. All-head IsGateWord g gs all) (gate_words gs (All-tail IsGateWord g gs all))

text_words : (gates : ℕ) (bytes : List ℕ) (c : Circuit) → IsCircuitOfText (up_to gates bench_format) bytes c → All IsGateWord c.net.gates
text_words gates bytes c is = net_words is.listed.document c.net (text_fine bytes is.listed is.said).tables is.circuit.net

pub text_fits : (gates : ℕ) (bytes : List ℕ) (c : Circuit) → IsCircuitOfText (up_to gates bench_format) bytes c → IsBenchCircuit c
text_fits gates bytes c is =
    let d = is.listed.document in
    let fine = text_fine bytes is.listed is.said in
    record {
      proper = is.circuit.proper;
      model = sym is.circuit.model ∙ fine.model;
      inputs = subst (All IsPlainName) is.circuit.describes.inputs fine.inputs;
      outputs = subst (All IsPlainName) is.circuit.describes.outputs fine.outputs;
      clocks = sym is.circuit.describes.clocks ∙ fine.clocks;
      latches = subst (All IsPlainState) is.circuit.describes.latches (states_of d.latches fine.latches);
      operators = gate_words c.net.gates (text_words gates bytes c is);
      source = ⊎_elim (λ some. inl some) (λ none. inr (empty_circuit gates bytes c is none)) (some_or_none c.net.sources);
    }

kept_is : (gates : ℕ) (bytes : List ℕ) (c : Circuit) → IsCircuitOfText (up_to gates bench_format) bytes c → HasRoomForNames c → CanWriteBench c
kept_is gates bytes c is room = record { writable = record { fits = text_fits gates bytes c is; room = room }; operators = text_words gates bytes c is }

-- ---- other nets

other_words : (c : Circuit) (m : Net) → CanWriteBench c → CanOperate bench_format c.net m → All IsGateWord m.gates
other_words c m can operate = at_all IsGateWord m.gates (λ j h at.
    ⊎_elim (λ has_it. has_it) (λ old. subst (λ (op : ℕ). is_gate_word op ≡ true) old.same
    (all_at IsGateWord c.net.gates old.index old.gate can.operators old.at)) (operate.each j h at))

other_fits : (c : Circuit) (m : Net) → IsBenchCircuit c → Implements c.net m → All IsGateWord m.gates → IsBenchCircuit (with_net c m)
other_fits c m fits implements words = record {
  proper = exchanged_proper c m fits.proper implements;
  model = fits.model;
  inputs = fits.inputs;
  outputs = fits.outputs;
  clocks = fits.clocks;
  latches = fits.latches;
  operators = gate_words m.gates words;
  source = ⊎_elim (λ some. inl (omega (arith, some, implements.sources))) (λ none.
      inr (
        list_none m.gates (omega (arith, implements.fewer, ap (length {A = Gate}) none.0)),
        list_none m.sinks (omega (arith, implements.sink_count, ap (length {A = Sig}) none.1)),
      )) fits.source;
}

exchanged_is : (c : Circuit) (m : Net) → CanWriteBench c → Implements c.net m → CanOperate bench_format c.net m → CanWriteBench (with_net c m)
exchanged_is c m can implements operate =
    let words = other_words c m can operate in
    record { writable = record { fits = other_fits c m can.writable.fits implements words; room = can.writable.room }; operators = words }

pub bench_is_format : IsFormat blif.blif_format blif.CanWriteBlif → IsFormat bench_format CanWriteBench
bench_is_format format = record {
  lists = texts_list;
  proper = λ c can. can.writable.fits.proper;
  read_back = λ c can. text_is c format can.writable;
  kept = kept_is;
  exchanged = exchanged_is;
}
