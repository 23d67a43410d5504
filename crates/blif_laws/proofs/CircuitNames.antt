-- In the written text the names of a circuit's nodes are valid and distinct.
use Rattle.std.specs.Prelude.{◌≡◌, ℕ, zero, suc, ◌+◌, ◌-◌, ◌^◌, ◌≤◌, ◌<◌, true, false, nat_le, List, [], ◌∷◌, ◌++◌, length, map, slice_get, slice_index_or, Option, Some, ◌⊎◌, refl}
use Rattle.std.specs.List.{filter_map}
use Rattle.std.proofs.Common.{arith, sym, ◌∙◌, ap, subst, inl, inr, ⊎_elim, length-append}
use Rattle.std.proofs.lemmas.Bool.{both_ways, cond_both, cond-true, cond-false, cases_lt, eqb-true, le-leb, lt-leb, false_from_ne_true}
use Rattle.std.proofs.lemmas.Option.{slice_get_within, slice_get-get_or, get_or_from_slice_get}
use Rattle.net_theory.specs.declared.data.Sig.{Sig}
use Rattle.net_theory.specs.declared.data.Sig.TheVariants.{Zero, One, Node}
use Rattle.net_theory.specs.Net.{end_of}
use Rattle.net_theory.specs.Document.{Name, IsName, has, are_distinct, latch_output}
use Rattle.net_theory.specs.WellFormed.{IsLatch}
use Rattle.net_theory.specs.NameLaws.{has_index, has_at, has_left, has_right, has_either, has_first, has_map_index, all_has, all_at, distinct_apart, distinct_right, distinct_cons, append_distinct}
use Rattle.net_theory.specs.ValueLaws.{at_prefix}
use Rattle.net_theory.specs.Circuit.{Circuit, IsProper, sources_of}
use Rattle.net_theory.specs.Naming.{control_of, taken_names, taken_set, free_names, is_at, output_on, first_free}
use Rattle.net_theory.specs.Naming.{rest_free, enough, names_in, all_named, gate_names, first_spare, second_spare}
use Rattle.net_theory.specs.Naming.{node_name}
use Rattle.net_document.specs.OnceLaws.{has_all_once}
use Rattle.net_core.specs.Names.{HasRoomForNames}
use Rattle.blif_laws.proofs.FreeNames.{AreControlsFree, free_are, free_enough}
use Rattle.blif_laws.proofs.GivenNames.{AreSeated, Given, given_all}

-- ---- outputs of nodes

is_at_node : (s : Sig) (p : ℕ) → is_at s p ≡ true → s ≡ Node p
is_at_node Zero p e = absurd cc
is_at_node One p e = absurd cc
is_at_node (Node q) p e = ap Node (eqb-true q p e)

-- an output of a node is one of the outputs, and its sink is that node
pub output_found : (outs : List Name) (sinks : List Sig) (p : ℕ) (o : Name) → output_on outs sinks p ≡ Some o → (i : ℕ) × (slice_get outs i ≡ Some o) × (slice_get sinks i ≡ Some (Node p))
unfolding output_on
output_found [] sinks p o e = absurd cc
output_found (x ∷ os) [] p o e = absurd cc
output_found (x ∷ os) (s ∷ sinks) p o e =
    cond_both (is_at s p) (Some x) (output_on os sinks p) (λ (r : Option Name). r ≡ Some o → (i : ℕ) × (slice_get (x ∷ os) i ≡ Some o) × (slice_get (s ∷ sinks) i ≡ Some (Node p)))
    (λ here f. (0, f, ap Some (is_at_node s p here)))
    (λ other f. let r = output_found os sinks p o f in (suc r.0, r.1, r.2))
    e

index_at : {A : Type 0} (xs : List A) (i : ℕ) (x d : A) → slice_get xs i ≡ Some x → slice_index_or xs i d ≡ x
index_at xs i x d e = get_or_from_slice_get xs i x d e

-- outputs with the same name have the same sink
pub outputs_same : (c : Circuit) (i j : ℕ) (o : Name) (s t : Sig) → IsProper c → slice_get c.outputs i ≡ Some o →
    slice_get c.outputs j ≡ Some o → slice_get c.net.sinks i ≡ Some s → slice_get c.net.sinks j ≡ Some t → s ≡ t
outputs_same c i j o s t is at_i at_j sink_i sink_j =
    sym (index_at c.net.sinks i s Zero sink_i)
    ∙ is.equal_outputs i j (slice_get_within c.outputs i o at_i) (slice_get_within c.outputs j o at_j) (index_at c.outputs i o [] at_i ∙ sym (index_at c.outputs j o [] at_j))
    ∙ index_at c.net.sinks j t Zero sink_j

-- an output with a source's name is driven by that source
pub output_source : (c : Circuit) (i j : ℕ) (o : Name) (s : Sig) → IsProper c → slice_get c.outputs i ≡ Some o →
    slice_get (sources_of c) j ≡ Some o → slice_get c.net.sinks i ≡ Some s → s ≡ Node (j + 1)
output_source c i j o s is at_i at_j sink_i =
    sym (index_at c.net.sinks i s Zero sink_i)
    ∙ is.source_outputs i j (slice_get_within c.outputs i o at_i) (slice_get_within (sources_of c) j o at_j) (index_at c.outputs i o [] at_i ∙ sym (index_at (sources_of c) j o [] at_j))

node_same : (p q : ℕ) → Node p ≡ Node q → p ≡ q
node_same p q e = cc

-- ---- names to avoid

abbrev controls_of : Circuit → List Name
controls_of c = filter_map control_of c.latches

pub taken_output : (c : Circuit) (n : Name) → has c.outputs n ≡ true → has (taken_names c) n ≡ true
taken_output c n e =
    has_left (c.inputs ++ c.outputs ++ map latch_output c.latches ++ c.clocks) (controls_of c) n
    (has_left (c.inputs ++ c.outputs ++ map latch_output c.latches) c.clocks n
    (has_left (c.inputs ++ c.outputs) (map latch_output c.latches) n (has_right c.inputs c.outputs n e)))

pub taken_source : (c : Circuit) (n : Name) → has (sources_of c) n ≡ true → has (taken_names c) n ≡ true
taken_source c n e =
    has_left (c.inputs ++ c.outputs ++ map latch_output c.latches ++ c.clocks) (controls_of c) n
    (has_left (c.inputs ++ c.outputs ++ map latch_output c.latches) c.clocks n
    (⊎_elim
    (λ input. has_left (c.inputs ++ c.outputs) (map latch_output c.latches) n (has_left c.inputs c.outputs n input))
    (λ latch. has_right (c.inputs ++ c.outputs) (map latch_output c.latches) n latch)
    (has_either c.inputs (map latch_output c.latches) n e)))

pub taken_control : (c : Circuit) (n : Name) → has (controls_of c) n ≡ true → has (taken_names c) n ≡ true
taken_control c n e = has_right (c.inputs ++ c.outputs ++ map latch_output c.latches ++ c.clocks) (controls_of c) n e

seated : (c : Circuit) → IsProper c → AreSeated (output_on c.outputs c.net.sinks) (taken_set c)
seated c is = record {
  had = λ p o e. let r = output_found c.outputs c.net.sinks p o e in has_all_once (taken_names c) o ∙ taken_output c o (has_at c.outputs r.0 o r.1);
  once = λ p q o e f.
      let r = output_found c.outputs c.net.sinks p o e in
      let s = output_found c.outputs c.net.sinks q o f in
      node_same p q (outputs_same c r.0 s.0 o (Node p) (Node q) is r.1 s.1 r.2 s.2);
}

-- ---- gates and constants

abbrev free_of : Circuit → List Name
free_of c = free_names (taken_set c) 1 (enough (taken_set c) c.net)

room : (c : Circuit) → IsProper c → HasRoomForNames c → 1 + enough (taken_set c) c.net ≤ 2 ^ 64
room c is small = omega (arith, is.gates, small)

free_is : (c : Circuit) → IsProper c → HasRoomForNames c → AreControlsFree (taken_set c) (free_of c)
free_is c is small = free_are (taken_set c) 1 (enough (taken_set c) c.net) (room c is small)

free_two : (c : Circuit) → IsProper c → HasRoomForNames c → length c.net.gates + 2 ≤ length (free_of c)
free_two c is small = omega (arith, free_enough (taken_set c) 1 (enough (taken_set c) c.net) (room c is small))

given_is : (c : Circuit) → IsProper c → HasRoomForNames c → Given (output_on c.outputs c.net.sinks) (free_of c) (c.net.sources + 1) c.net.gates [] (all_named c)
unfolding names_in
given_is c is small =
    let free = free_is c is small in
    given_all (output_on c.outputs c.net.sinks) (taken_set c) (free_of c) (c.net.sources + 1) c.net.gates [] (seated c is)
    (record { apart = free.apart; distinct = free.distinct })
    (omega (arith, free_two c is small))

-- a name for a constant
pub record IsSpare (c : Circuit) (n : Name) : Type 0 where
  pub name : IsName n
  pub free : has (taken_names c) n ≡ false
  pub other : has (gate_names c) n ≡ false

pub record AreNamed (c : Circuit) : Type 0 where
  pub count : length (gate_names c) ≡ length c.net.gates
  pub gates : (n : Name) → has (gate_names c) n ≡ true → IsName n
  pub each : (i : ℕ) (n : Name) → slice_get (gate_names c) i ≡ Some n → (output_on c.outputs c.net.sinks (c.net.sources + 1 + i) ≡ Some n) ⊎ (has (taken_names c) n ≡ false)
  pub distinct : are_distinct (sources_of c ++ gate_names c) ≡ true
  pub first : IsSpare c (first_spare c)
  pub second : IsSpare c (second_spare c)
  pub spares : first_spare c ≡ second_spare c → ⊥

-- a list of two or more
record HasTwo (xs : List Name) : Type 0 where
  first : Name
  second : Name
  more : List Name
  is : xs ≡ first ∷ second ∷ more

two_in : (xs : List Name) → 2 ≤ length xs → HasTwo xs
two_in [] low = absurd (omega (arith, low))
two_in (x ∷ []) low = absurd (omega (arith, low))
two_in (x ∷ y ∷ xs) low = record { first = x; second = y; more = xs; is = refl }

not_taken : (c : Circuit) (n : Name) → has (taken_set c) n ≡ false → has (taken_names c) n ≡ false
not_taken c n e = sym (has_all_once (taken_names c) n) ∙ e

-- no gate has one of the remaining free names
left_spare : (c : Circuit) (n : Name) (is : IsProper c) (small : HasRoomForNames c) → has (all_named c).free n ≡ true → IsSpare c n
left_spare c n is small left =
    let free = free_is c is small in
    let given = given_is c is small in
    let there : has (free_of c) n ≡ true = subst (λ (xs : List Name). has xs n ≡ true) (sym given.split) (has_right given.used (all_named c).free n left) in
    record {
      name = free.names n there;
      free = not_taken c n (free.apart n there);
      other = subst (λ (xs : List Name). has xs n ≡ false) (sym given.names) (false_from_ne_true (has given.new n) (λ had.
          let at = has_index given.new n had in
          ⊎_elim
          (λ sits. both_ways (has (taken_set c) n) (free.apart n there) ((seated c is).had (c.net.sources + 1 + at.0) n sits))
          (λ used. both_ways (has (all_named c).free n) (distinct_apart given.used (all_named c).free n (subst (λ (xs : List Name). are_distinct xs ≡ true) given.split free.distinct) used.1) left)
          (given.each at.0 n at.1)));
    }

gate_each : (c : Circuit) (is : IsProper c) (small : HasRoomForNames c) (i : ℕ) (n : Name) →
    slice_get (gate_names c) i ≡ Some n → (output_on c.outputs c.net.sinks (c.net.sources + 1 + i) ≡ Some n) ⊎
    (has (taken_names c) n ≡ false)
gate_each c is small i n at =
    let free = free_is c is small in
    let given = given_is c is small in
    ⊎_elim
    (λ sits. inl sits)
    (λ used. inr (not_taken c n (free.apart n (subst (λ (xs : List Name). has xs n ≡ true) (sym given.split) (has_left given.used (all_named c).free n used.1)))))
    (given.each i n (subst (λ (xs : List Name). slice_get xs i ≡ Some n) given.names at))

gate_name : (c : Circuit) (is : IsProper c) (small : HasRoomForNames c) (i : ℕ) (n : Name) → slice_get (gate_names c) i ≡ Some n → IsName n
gate_name c is small i n at =
    let free = free_is c is small in
    let given = given_is c is small in
    ⊎_elim
    (λ sits. let r = output_found c.outputs c.net.sinks (c.net.sources + 1 + i) n sits in all_at IsName c.outputs r.0 n is.outputs r.1)
    (λ used. free.names n (subst (λ (xs : List Name). has xs n ≡ true) (sym given.split) (has_left given.used (all_named c).free n used.1)))
    (given.each i n (subst (λ (xs : List Name). slice_get xs i ≡ Some n) given.names at))

-- no gate has a source's name
gate_apart : (c : Circuit) (is : IsProper c) (small : HasRoomForNames c) (i : ℕ) (n : Name) → slice_get (gate_names c) i ≡ Some n → has (sources_of c) n ≡ true → ⊥
gate_apart c is small i n at source =
    ⊎_elim
    (λ sits.
    let r = output_found c.outputs c.net.sinks (c.net.sources + 1 + i) n sits in
    let s = has_index (sources_of c) n source in
    let same = node_same (c.net.sources + 1 + i) (s.0 + 1) (output_source c r.0 s.0 n (Node (c.net.sources + 1 + i)) is r.1 s.1 r.2) in
    omega (arith, same, slice_get_within (sources_of c) s.0 n s.1, is.source_count))
    (λ free. both_ways (has (taken_names c) n) free (taken_source c n source))
    (gate_each c is small i n at)

pub circuit_named : (c : Circuit) → IsProper c → HasRoomForNames c → AreNamed c
circuit_named c is small =
    let given = given_is c is small in
    let two = two_in (all_named c).free (omega (arith, free_two c is small, ap (length {A = List ℕ}) given.split, length-append given.used (all_named c).free, given.few)) in
    let first : has (all_named c).free two.first ≡ true = subst (λ (xs : List Name). has xs two.first ≡ true) (sym two.is) (has_first two.first (two.second ∷ two.more)) in
    let second : has (all_named c).free two.second ≡ true =
    subst (λ (xs : List Name). has xs two.second ≡ true) (sym two.is)
    (has_right (two.first ∷ []) (two.second ∷ two.more) two.second (has_first two.second two.more)) in
    let at_first : first_spare c ≡ two.first = ap first_free two.is in
    let at_second : second_spare c ≡ two.second = ap (λ (xs : List Name). first_free (rest_free xs)) two.is in
    let left : are_distinct (two.first ∷ two.second ∷ two.more) ≡ true =
    subst (λ (xs : List Name). are_distinct xs ≡ true) two.is
    (distinct_right given.used (all_named c).free (subst (λ (xs : List Name). are_distinct xs ≡ true) given.split
    (free_is c is small).distinct)) in
    record {
      count = ap (length {A = List ℕ}) given.names ∙ given.count;
      gates = λ n there. let at = has_index (gate_names c) n there in gate_name c is small at.0 n at.1;
      each = gate_each c is small;
      distinct = append_distinct (sources_of c) (gate_names c) is.distinct (subst (λ (xs : List Name). are_distinct xs ≡ true) (sym given.names) given.distinct)
          (λ n source. false_from_ne_true (has (gate_names c) n) (λ there. let at = has_index (gate_names c) n there in gate_apart c is small at.0 n at.1 source));
      first = subst (IsSpare c) (sym at_first) (left_spare c two.first is small first);
      second = subst (IsSpare c) (sym at_second) (left_spare c two.second is small second);
      spares = λ same. both_ways (has (two.second ∷ two.more) two.first) (distinct_cons two.first (two.second ∷ two.more) left).0
          (subst (λ (x : Name). has (two.second ∷ two.more) x ≡ true) (sym (sym at_first ∙ same ∙ at_second)) (has_first two.second two.more));
    }

-- ---- nodes

-- the names of all nodes, in order
abbrev pub placed : Circuit → List Name
placed c = sources_of c ++ gate_names c

at_after : {A : Type 0} (xs ys : List A) (k i : ℕ) (y : A) → k ≡ length xs + i → slice_get ys i ≡ Some y → slice_get (xs ++ ys) k ≡ Some y
at_after [] ys k i y e at = let same : i ≡ k = omega (arith, e) in subst (λ (j : ℕ). slice_get ys j ≡ Some y) same at
at_after (x ∷ xs) ys zero i y e at = absurd (omega (arith, e))
at_after (x ∷ xs) ys (suc k) i y e at = at_after xs ys k i y (omega (arith, e)) at

pub node_at : (c : Circuit) (p : ℕ) → IsProper c → AreNamed c → 1 ≤ p → p < end_of c.net → slice_get (placed c) (p - 1) ≡ Some (node_name c p)
unfolding node_name
node_at c p is named low high =
    ⊎_elim
    (λ gate.
    let at : p - c.net.sources - 1 < length (gate_names c) = omega (arith, low, high, gate, named.count) in
    at_after (sources_of c) (gate_names c) (p - 1) (p - c.net.sources - 1) _ (omega (arith, low, gate, is.source_count))
    (slice_get-get_or (gate_names c) (p - c.net.sources - 1) [] at
    ∙ ap Some (sym (cond-false (nat_le p c.net.sources) (slice_index_or (sources_of c) (p - 1) [])
    (slice_index_or (gate_names c) (p - c.net.sources - 1) []) (lt-leb p c.net.sources gate)))))
    (λ source.
    let at : p - 1 < length (sources_of c) = omega (arith, low, source, is.source_count) in
    at_prefix (sources_of c) (gate_names c) (p - 1) _
    (slice_get-get_or (sources_of c) (p - 1) [] at
    ∙ ap Some (sym (cond-true (nat_le p c.net.sources) (slice_index_or (sources_of c) (p - 1) [])
    (slice_index_or (gate_names c) (p - c.net.sources - 1) []) (le-leb p c.net.sources source)))))
    (cases_lt c.net.sources p)

pub node_source : (c : Circuit) (i : ℕ) (n : Name) → IsProper c → slice_get (sources_of c) i ≡ Some n → node_name c (i + 1) ≡ n
unfolding node_name
node_source c i n is at =
    let low : i + 1 ≤ c.net.sources = omega (arith, slice_get_within (sources_of c) i n at, is.source_count) in
    let same : i + 1 - 1 ≡ i = omega arith in
    cond-true (nat_le (i + 1) c.net.sources) _ _ (le-leb (i + 1) c.net.sources low)
    ∙ ap (λ (k : ℕ). slice_index_or (sources_of c) k []) same
    ∙ index_at (sources_of c) i n [] at

pub node_gate : (c : Circuit) (i : ℕ) (n : Name) → slice_get (gate_names c) i ≡ Some n → node_name c (c.net.sources + 1 + i) ≡ n
unfolding node_name
node_gate c i n at =
    let same : c.net.sources + 1 + i - c.net.sources - 1 ≡ i = omega arith in
    cond-false (nat_le (c.net.sources + 1 + i) c.net.sources) _ _ (lt-leb (c.net.sources + 1 + i) c.net.sources (omega arith))
    ∙ ap (λ (k : ℕ). slice_index_or (gate_names c) k []) same
    ∙ index_at (gate_names c) i n [] at

-- a source's name is valid
pub source_name : (c : Circuit) (n : Name) → IsProper c → has (sources_of c) n ≡ true → IsName n
source_name c n is e =
    ⊎_elim
    (λ input. all_has IsName c.inputs n is.inputs input)
    (λ latch. let r = has_map_index latch_output c.latches n latch in subst IsName r.3 (all_at IsLatch c.latches r.0 r.1 is.latches r.2).output)
    (has_either c.inputs (map latch_output c.latches) n e)

pub node_is : (c : Circuit) (p : ℕ) → IsProper c → AreNamed c → 1 ≤ p → p < end_of c.net → IsName (node_name c p)
node_is c p is named low high =
    ⊎_elim (λ source. source_name c (node_name c p) is source) (λ gate. named.gates (node_name c p) gate)
    (has_either (sources_of c) (gate_names c) (node_name c p) (has_at (placed c) (p - 1) (node_name c p) (node_at c p is named low high)))
