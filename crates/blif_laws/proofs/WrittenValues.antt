-- The writer's document of a circuit has the circuit's values.
use Rattle.std.specs.Prelude.{◌≡◌, ℕ, zero, suc, ◌+◌, ◌-◌, ◌≤◌, ◌<◌, Bool, true, List, [], ◌∷◌, ◌++◌, length, map, slice_get, All, Some, refl}
use Rattle.std.proofs.Common.{arith, sym, ◌∙◌, ap, subst, ⊎_elim}
use Rattle.std.proofs.lemmas.Bool.{both_ways, cases_eq}
use Rattle.std.proofs.lemmas.List.{map-append}
use Rattle.std.proofs.lemmas.List.Elements.{All-nil, All-cons, All-head, All-tail}
use Rattle.std.proofs.lemmas.Option.{get_or_from_slice_get}
use Rattle.net_theory.specs.declared.data.Sig.{Sig}
use Rattle.net_theory.specs.declared.data.Sig.TheVariants.{Zero, One, Node}
use Rattle.net_theory.specs.declared.data.Gate.{Gate}
use Rattle.net_theory.specs.Net.{IsSigBelow, IsGateAt, end_of, sig_value, gate_value, values_of}
use Rattle.net_theory.specs.Document.{Name, has, latch_input}
use Rattle.net_theory.specs.NameLaws.{has_index, has_at, has_either, all_at}
use Rattle.net_theory.specs.Behaviour.{HoldsIn, IsValuationOf}
use Rattle.net_theory.specs.ValueLaws.{value-source, values_after-gate}
use Rattle.net_theory.specs.Circuit.{Circuit, IsProper, sources_of, by_node, values_by_name, Describes}
use Rattle.net_theory.specs.Naming.{taken_names, gate_names, first_spare, second_spare, node_name}
use Rattle.net_document.specs.OnceLaws.{has_all_once}
use Rattle.blif_core.specs.Written.{next_states, sig_name, written}
use Rattle.blif_laws.specs.Layers.{layered_map}
use Rattle.blif_laws.proofs.CircuitNames.{output_found, outputs_same, output_source, taken_output, AreNamed, placed, node_source, node_gate}
use Rattle.blif_laws.proofs.WrittenParts.{gates_hold, constants_zero, constants_one, named_value, outputs_hold, lines_values, sinks_split, some_zero, some_one}
use Rattle.blif_laws.proofs.WrittenDocument.{gate_part, needs_zero, needs_one, constant_part, names_written}
use Rattle.blif_laws.proofs.WrittenDocument.{output_part, fixed_part, all_tables, all_lines, tables_are, states_count}
use Rattle.blif_laws.proofs.WrittenDocument.{states_below, to_be_written, are_outputs, line_latches, written_sources}
use Rattle.blif_laws.proofs.WrittenDocument.{written_layered}

all_prefix : {X : Type 0} (P : X → Type 0) (xs ys : List X) → All P (xs ++ ys) → All P xs
all_prefix P [] ys all = All-nil P
all_prefix P (x ∷ xs) ys all = All-cons P x xs (All-head P x (xs ++ ys) all) (all_prefix P xs ys (All-tail P x (xs ++ ys) all))

all_after : {X : Type 0} (P : X → Type 0) (xs ys : List X) → All P (xs ++ ys) → All P ys
all_after P [] ys all = all
all_after P (x ∷ xs) ys all = all_after P xs ys (All-tail P x (xs ++ ys) all)

something_at : {A : Type 0} (xs : List A) (i : ℕ) → i < length xs → (x : A) × (slice_get xs i ≡ Some x)
something_at [] i low = absurd (omega (arith, low))
something_at (x ∷ xs) zero low = (x, refl)
something_at (x ∷ xs) (suc i) low = something_at xs i (omega (arith, low))

-- ---- valuations that agree on nodes

pub sig_same : (f g : ℕ → Bool) (s : Sig) (node : ℕ) → IsSigBelow node s → ((p : ℕ) → 1 ≤ p → p < node → f p ≡ g p) → sig_value f s ≡ sig_value g s
sig_same f g Zero node below same = refl
sig_same f g One node below same = refl
sig_same f g (Node p) node below same = same p below.0 below.1

gate_same : (f g : ℕ → Bool) (h : Gate) (node : ℕ) → IsGateAt node h → ((p : ℕ) → 1 ≤ p → p < node → f p ≡ g p) → gate_value f h ≡ gate_value g h
gate_same f g h node is same = rw (sig_same f g h.a node is.first same, sig_same f g h.b node is.second same) refl

-- ---- the values of nodes

abbrev values_in : Circuit → (Name → Bool) → ℕ → Bool
values_in c given = values_of (by_node (sources_of c) given) c.net.sources c.net.gates

-- a valuation of the document, by its tables
record IsMap (c : Circuit) (given v : Name → Bool) : Type 0 where
  sources : (i : ℕ) (n : Name) → slice_get (sources_of c) i ≡ Some n → v n ≡ given n
  tables : All (HoldsIn v) (all_tables c)

map_of : (c : Circuit) (given v : Name → Bool) → IsProper c → IsValuationOf (written c) given v → IsMap c given v
map_of c given v is maps = record {
  sources = λ i n at. all_at (λ m. v m ≡ given m) (sources_of c) i n (subst (λ (ns : List Name). All (λ m. v m ≡ given m) ns) (written_sources c is) maps.sources) at;
  tables = subst (All (HoldsIn v)) (tables_are c) maps.tables;
}

node_value : (c : Circuit) (given v : Name → Bool) (k p : ℕ) → IsProper c → AreNamed c → IsMap c given v →
    k ≤ length c.net.gates → 1 ≤ p → p < c.net.sources + 1 + k → v (node_name c p) ≡ values_in c given p
node_value c given v zero p is named maps low from to =
    let n = something_at (sources_of c) (p - 1) (omega (arith, from, to, is.source_count)) in
    let same : p - 1 + 1 ≡ p = omega (arith, from) in
    ap (λ (q : ℕ). v (node_name c q)) (sym same)
    ∙ ap v (node_source c (p - 1) n.0 is n.1)
    ∙ maps.sources (p - 1) n.0 n.1
    ∙ ap given (sym (get_or_from_slice_get (sources_of c) (p - 1) n.0 [] n.1))
    ∙ sym (value-source (by_node (sources_of c) given) c.net.sources p c.net.gates (omega (arith, to)))
node_value c given v (suc k) p is named maps low from to =
    ⊎_elim
    (λ here.
    let g = something_at c.net.gates k (omega (arith, low)) in
    let n = something_at (gate_names c) k (omega (arith, low, named.count)) in
    let gate = is.net.gates.each k g.0 g.1 in
    ap (λ (q : ℕ). v (node_name c q)) here
    ∙ ap v (node_gate c k n.0 n.1)
    ∙ gates_hold (node_name c) (c.net.sources + 1) c.net.gates (gate_names c) v k g.0 n.0 (to_be_written c is named)
    (all_prefix (HoldsIn v) (gate_part c) (constant_part c)
    (all_prefix (HoldsIn v) (fixed_part c) (output_part c) maps.tables)) g.1 n.1
    ∙ gate_same (λ q. v (node_name c q)) (values_in c given) g.0 (c.net.sources + 1 + k) gate (λ q one high. node_value c given v k q is named maps (omega (arith, low)) one high)
    ∙ sym (values_after-gate (by_node (sources_of c) given) (c.net.sources + 1) k c.net.gates g.0 g.1 gate)
    ∙ ap (values_in c given) (sym here))
    (λ other. node_value c given v k p is named maps (omega (arith, low)) from (omega (arith, to, other)))
    (cases_eq p (c.net.sources + 1 + k))

-- the value of a signal, by the names of nodes
sink_value : (c : Circuit) (given v : Name → Bool) (s : Sig) → IsProper c → AreNamed c → IsMap c given v → IsSigBelow (end_of c.net) s → named_value (node_name c) v s ≡ sig_value (values_in c given) s
sink_value c given v s is named maps below =
    sig_same (λ p. v (node_name c p)) (values_in c given) s (end_of c.net) below (λ p one high. node_value c given v (length c.net.gates) p is named maps (omega arith) one (omega (arith, high)))

-- ---- the values of sinks

-- an output with the name of a node is driven by that node
output_old : (c : Circuit) (v : Name → Bool) (i : ℕ) (o : Name) (s : Sig) → IsProper c → AreNamed c →
    slice_get c.outputs i ≡ Some o → slice_get c.net.sinks i ≡ Some s → has (names_written c) o ≡ true →
    v o ≡ named_value (node_name c) v s
output_old c v i o s is named at_o at_s old =
    ⊎_elim
    (λ source.
    let at = has_index (sources_of c) o source in
    ap v (sym (node_source c at.0 o is at.1)) ∙ ap (named_value (node_name c) v) (sym (output_source c i at.0 o s is at_o at.1 at_s)))
    (λ gate.
    let at = has_index (gate_names c) o gate in
    ⊎_elim
    (λ sits.
    let r = output_found c.outputs c.net.sinks (c.net.sources + 1 + at.0) o sits in
    ap v (sym (node_gate c at.0 o at.1)) ∙ ap (named_value (node_name c) v) (outputs_same c r.0 i o (Node (c.net.sources + 1 + at.0)) s is r.1 at_o r.2 at_s))
    (λ free. absurd (both_ways (has (taken_names c) o) free (taken_output c o (has_at c.outputs i o at_o))))
    (named.each at.0 o at.1))
    (has_either (sources_of c) (gate_names c) o (sym (has_all_once (placed c) o) ∙ old))

output_value : (c : Circuit) (given v : Name → Bool) (i : ℕ) (o : Name) (s : Sig) → IsProper c → AreNamed c →
    IsMap c given v → slice_get c.outputs i ≡ Some o → slice_get c.net.sinks i ≡ Some s →
    v o ≡ sig_value (values_in c given) s
output_value c given v i o s is named maps at_o at_s =
    outputs_hold (node_name c) (end_of c.net) (names_written c) c.outputs c.net.sinks v (are_outputs c is named)
    (all_after (HoldsIn v) (fixed_part c) (output_part c) maps.tables)
    (λ k j n a b at_k at_j sink_k sink_j. outputs_same c k j n a b is at_k at_j sink_k sink_j)
    (λ k n a at_k sink_k old. output_old c v k n a is named at_k sink_k old)
    i o s at_o at_s
    ∙ sink_value c given v s is named maps (all_at (IsSigBelow (end_of c.net)) c.net.sinks i s is.net.sinks at_s)

-- the tables of constants hold
constants_in : (c : Circuit) (v : Name → Bool) → All (HoldsIn v) (all_tables c) → All (HoldsIn v) (constant_part c)
constants_in c v hold = all_after (HoldsIn v) (gate_part c) (constant_part c) (all_prefix (HoldsIn v) (fixed_part c) (output_part c) hold)

state_named : (c : Circuit) (v : Name → Bool) (i : ℕ) (s : Sig) → All (HoldsIn v) (all_tables c) → slice_get (next_states c) i ≡ Some s → v (sig_name c s) ≡ named_value (node_name c) v s
state_named c v i Zero hold at = constants_zero (needs_zero c) (needs_one c) (first_spare c) (second_spare c) v (some_zero (next_states c) i at) (constants_in c v hold)
state_named c v i One hold at = constants_one (needs_zero c) (needs_one c) (first_spare c) (second_spare c) v (some_one (next_states c) i at) (constants_in c v hold)
state_named c v i (Node p) hold at = refl

state_value : (c : Circuit) (given v : Name → Bool) (i : ℕ) (s : Sig) → IsProper c → AreNamed c → IsMap c given v →
    slice_get (next_states c) i ≡ Some s → v (sig_name c s) ≡ sig_value (values_in c given) s
state_value c given v i s is named maps at =
    state_named c v i s maps.tables at ∙ sink_value c given v s is named maps (states_below c i s is at)

sinks_value : (c : Circuit) (given v : Name → Bool) → IsProper c → AreNamed c → IsMap c given v → map v (c.outputs ++ map latch_input (all_lines c)) ≡ values_by_name c given
sinks_value c given v is named maps =
    map-append v c.outputs (map latch_input (all_lines c))
    ∙ ap (λ (bs : List Bool). map v c.outputs ++
    bs) (lines_values (sig_name c) c.latches (next_states c) v (sig_value (values_in c given)) (states_count c is)
    (λ i s at. state_value c given v i s is named maps at))
    ∙ sinks_split c.outputs c.net.sinks v (sig_value (values_in c given)) (omega (arith, is.sink_count)) (λ i o s at_o at_s. output_value c given v i o s is named maps at_o at_s)

pub written_describes : (c : Circuit) → IsProper c → AreNamed c → Describes (written c) c
unfolding written
written_describes c is named = record {
  inputs = refl;
  outputs = refl;
  clocks = refl;
  latches = line_latches c is;
  one = λ given. layered_map (written c) given (written_layered c is named);
  sinks = λ given v maps. sinks_value c given v is named (map_of c given v is maps);
}
