-- The net of a document computes the document's functions.
use Rattle.std.specs.Prelude.{◌≡◌, ℕ, zero, suc, ◌+◌, ◌<◌, Bool, true, false, ◌||◌, nat_eq, if◌then◌else◌, List, []}
use Rattle.std.specs.Prelude.{◌∷◌, ◌++◌, length, slice_get, slice_index_or, map, sum_by, Option, Some, None, unwrap_or}
use Rattle.std.specs.Prelude.{◌⊎◌, refl}
use Rattle.std.specs.List.{flat_map}
use Rattle.std.proofs.Common.{arith, sym, ◌∙◌, ap, subst, inl, inr, ⊎_elim, append_assoc, append-nil, ◌≢◌}
use Rattle.std.proofs.lemmas.Bool.{cond-true, cond-false, ne_eqb, or_from, both_ways, cases_Bool}
use Rattle.std.proofs.lemmas.List.{length-map}
use Rattle.std.proofs.lemmas.Option.{slice_get_within, get_or_from_slice_get}
use Rattle.std.proofs.lemmas.Simd.{map-map}
use Rattle.std.proofs.lemmas.List.Sums.{sum_by-cons}
use Rattle.net_theory.specs.declared.data.Sig.{Sig}
use Rattle.net_theory.specs.declared.data.Sig.TheVariants.{Zero, Node}
use Rattle.net_theory.specs.Net.{IsSigBelow, AreGates, sig_value, values_of}
use Rattle.net_theory.specs.ValueLaws.{ExtendsGates, grown_sig, grown_below, value-source}
use Rattle.net_theory.specs.Cover.{cover_value}
use Rattle.net_theory.specs.Document.{Name, is_same, has, are_distinct, Table, Document, source_names, sink_names, driven_names, used_names, table_inputs, table_output}
use Rattle.net_theory.specs.NameLaws.{same_name, name_same, same_itself, other_turned, has_neither, has_first}
use Rattle.net_theory.specs.NameLaws.{has_later, has_index, has_left, has_either, has_flat_at, has_map_at}
use Rattle.net_theory.specs.NameLaws.{distinct_cons, distinct_right, distinct_apart, distinct_index, all_at, all_has}
use Rattle.net_theory.specs.NameLaws.{map_at}
use Rattle.net_theory.specs.Behaviour.{HoldsIn, IsValuationOf}
use Rattle.net_theory.specs.BuiltLaws.{IsBuilt}
use Rattle.net_theory.specs.WideLaws.{AreSigsBelow}
use Rattle.net_theory.specs.Expansion.{Built}
use Rattle.net_theory.specs.ExpansionLaws.{expanded_is, bits_of}
use Rattle.net_theory.specs.Cost.{merged_table, cover_cost, table_cost}
use Rattle.net_theory.specs.MergedLaws.{IsMergedTable, merged_is, cover_cost-map}
use Rattle.graph_core.specs.Visit.{fanins_of, has_ended}
use Rattle.graph_core.specs.VisitLaws.{MayFinishNext, IsFinishOrder, ended_append, ended_left, ended_last, ended_cases}
use Rattle.net_theory.specs.NetOf.{driver_of, graph_of, Signals, with_signal, with_sources, signal_of, Growth}
use Rattle.net_theory.specs.NetOf.{table_built, grown_by, with_table, with_table_at, with_tables, sources_only}
use Rattle.net_theory.specs.NetOf.{source_count}
use Rattle.net_theory.specs.GraphLaws.{Drives, driver_finds, driver_found, fanins_of-graph, kept_in, length-graph_of}
use Rattle.net_theory.specs.WellFormed.{IsTable, IsWellFormed}
use Rattle.net_theory.specs.Circuit.{by_node}

-- ---- the values of the names of a net

abbrev pub net_bits : Document → Growth → (Name → Bool) → ℕ → Bool
net_bits d g given = values_of (by_node (source_names d) given) (source_count d) g.gates

abbrev pub name_value : Document → Growth → (Name → Bool) → Name → Bool
name_value d g given n = sig_value (net_bits d g given) (signal_of g.signals n)

abbrev pub HasSignal : Growth → Name → Type 0
HasSignal g n = (s : Sig) × (g.signals n ≡ Some s)

abbrev pub end_of_growth : Document → Growth → ℕ
end_of_growth d g = source_count d + 1 + length g.gates

-- the names of a table have signals, and the output's signal has the table's value
pub record TableStands (d : Document) (g : Growth) (t : Table) : Type 0 where
  pub output : HasSignal g t.output
  pub inputs : (n : Name) → has t.inputs n ≡ true → HasSignal g n
  pub value : (given : Name → Bool) → name_value d g given t.output ≡ cover_value t.cover (map (name_value d g given) t.inputs)

-- the cost of the tables whose indices are in a list
abbrev pub spent : ℕ → List Table → List ℕ → ℕ
spent k [] done = 0
spent k (t ∷ ts) done = (if has_ended done k then table_cost t else 0) + spent (k + 1) ts done

pub record IsGrowth (d : Document) (g : Growth) (done : List ℕ) : Type 0 where
  pub gates : AreGates (source_count d) g.gates
  pub below : (n : Name) (s : Sig) → g.signals n ≡ Some s → IsSigBelow (end_of_growth d g) s
  pub sources : (k : ℕ) (n : Name) → slice_get (source_names d) k ≡ Some n → g.signals n ≡ Some (Node (k + 1))
  pub origin : (n : Name) (s : Sig) → g.signals n ≡ Some s → (has (source_names d) n ≡ true) ⊎ ((k : ℕ) × (has_ended done k ≡ true) × Drives d.tables n k)
  pub stands : (k : ℕ) (t : Table) → has_ended done k ≡ true → slice_get d.tables k ≡ Some t → TableStands d g t
  pub only : (given v : Name → Bool) (n : Name) (s : Sig) → IsValuationOf d given v → g.signals n ≡ Some s → name_value d g given n ≡ v n
  pub count : length g.gates ≡ spent 0 d.tables done

-- ---- adding tables

pub record Extends (d : Document) (g h : Growth) : Type 0 where
  pub grown : ExtendsGates (source_count d) g.gates h.gates
  pub kept : (n : Name) (s : Sig) → g.signals n ≡ Some s → h.signals n ≡ Some s

pub signal_is : (signals : Signals) (n : Name) (s : Sig) → signals n ≡ Some s → signal_of signals n ≡ s
signal_is signals n s e = ap (λ (o : Option Sig). unwrap_or o Zero) e

extended_value : (d : Document) (g h : Growth) (given : Name → Bool) (n : Name) (s : Sig) → Extends d g h →
    IsSigBelow (end_of_growth d g) s → g.signals n ≡ Some s → name_value d h given n ≡ name_value d g given n
extended_value d g h given n s ext below e =
    ap (sig_value (net_bits d h given)) (signal_is h.signals n s (ext.kept n s e))
    ∙ grown_sig (source_count d) g.gates h.gates s (by_node (source_names d) given) ext.grown below
    ∙ ap (sig_value (net_bits d g given)) (sym (signal_is g.signals n s e))

pub map_same : (f g : Name → Bool) (ns : List Name) → ((n : Name) → has ns n ≡ true → f n ≡ g n) → map f ns ≡ map g ns
map_same f g [] same = refl
map_same f g (n ∷ ns) same =
    rw (same n (has_first n ns), map_same f g ns (λ m h. same m (has_later n ns m h))) refl

stands_extended : (d : Document) (g h : Growth) (t : Table) → Extends d g h → ((n : Name) (s : Sig) → g.signals n ≡ Some s → IsSigBelow (end_of_growth d g) s) → TableStands d g t → TableStands d h t
stands_extended d g h t ext below is =
    record {
      output = (is.output.0, ext.kept t.output is.output.0 is.output.1);
      inputs = λ n i. let s = is.inputs n i in (s.0, ext.kept n s.0 s.1);
      value = λ given.
          extended_value d g h given t.output is.output.0 ext (below t.output is.output.0 is.output.1) is.output.1
          ∙ is.value given
          ∙ ap (cover_value t.cover) (map_same (name_value d g given) (name_value d h given) t.inputs (λ n i. let s =
          is.inputs n i in sym (extended_value d g h given n s.0 ext (below n s.0 s.1) s.1)));
    }

-- ---- the sources

signal_here : (signals : Signals) (name : Name) (s : Sig) (n : Name) → is_same name n ≡ true → with_signal signals name s n ≡ Some s
signal_here signals name s n e = cond-true (is_same name n) (Some s) (signals n) e

signal_other : (signals : Signals) (name : Name) (s : Sig) (n : Name) → is_same name n ≡ false → with_signal signals name s n ≡ signals n
signal_other signals name s n e = cond-false (is_same name n) (Some s) (signals n) e

others_first : (signals : Signals) (node : ℕ) (ns : List Name) (n : Name) → has ns n ≡ false → with_sources signals node ns n ≡ signals n
unfolding with_sources
others_first signals node [] n e = refl
others_first signals node (m ∷ ns) n e =
    let parts = has_neither m ns n e in
    others_first (with_signal signals m (Node node)) (node + 1) ns n parts.1 ∙ signal_other signals m (Node node) n (other_turned n m parts.0)

sources_at : (signals : Signals) (node : ℕ) (ns : List Name) (k : ℕ) (n : Name) → are_distinct ns ≡ true → slice_get ns k ≡ Some n → with_sources signals node ns n ≡ Some (Node (node + k))
unfolding with_sources
sources_at signals node [] k n distinct e = absurd cc
sources_at signals node (m ∷ ns) zero n distinct e =
    let same : m ≡ n = cc in
    let none : has ns n ≡ false = subst (λ (x : Name). has ns x ≡ false) same (distinct_cons m ns distinct).0 in
    others_first (with_signal signals m (Node node)) (node + 1) ns n none
    ∙ signal_here signals m (Node node) n (name_same m n same)
    ∙ ap (λ k. Some (Node k)) (omega arith)
sources_at signals node (m ∷ ns) (suc k) n distinct e =
    sources_at (with_signal signals m (Node node)) (node + 1) ns k n (distinct_cons m ns distinct).1 e ∙ ap (λ k. Some (Node k)) (omega arith)

with_signal_cases : (signals : Signals) (name : Name) (t : Sig) (n : Name) (s : Sig) →
    with_signal signals name t n ≡ Some s → ((name ≡ n) × (t ≡ s)) ⊎ ((is_same name n ≡ false) × (signals n ≡ Some s))
with_signal_cases signals name t n s e =
    ⊎_elim
    (λ here. inl (same_name name n here, let is : Some t ≡ Some s = sym (signal_here signals name t n here) ∙ e in cc))
    (λ other. inr (other, sym (signal_other signals name t n other) ∙ e))
    (cases_Bool (is_same name n))

only_sources : (signals : Signals) (node : ℕ) (ns : List Name) (n : Name) (s : Sig) → with_sources signals node ns n ≡ Some s → (has ns n ≡ true) ⊎ (signals n ≡ Some s)
unfolding with_sources
only_sources signals node [] n s e = inr e
only_sources signals node (m ∷ ns) n s e =
    ⊎_elim
    (λ later. inl (has_later m ns n later))
    (λ before. ⊎_elim
    (λ here. inl (subst (λ (x : Name). has (m ∷ ns) x ≡ true) here.0 (has_first m ns)))
    (λ other. inr other.1)
    (with_signal_cases signals m (Node node) n s before))
    (only_sources (with_signal signals m (Node node)) (node + 1) ns n s e)

no_gates : (sources : ℕ) → AreGates sources []
no_gates sources = record { each = λ i g e. absurd cc }

spent_none : (k : ℕ) (ts : List Table) → spent k ts [] ≡ 0
spent_none k [] = refl
spent_none k (t ∷ ts) = omega (arith, spent_none (k + 1) ts)

-- the source at index `k` has its given bit
pub source_bit : (d : Document) (g : Growth) (given : Name → Bool) (k : ℕ) (n : Name) →
    slice_get (source_names d) k ≡ Some n → k < source_count d → sig_value (net_bits d g given) (Node (k + 1)) ≡ given n
source_bit d g given k n at low =
    value-source (by_node (source_names d) given) (source_count d) (k + 1) g.gates (omega arith)
    ∙ ap (λ j. given (slice_index_or (source_names d) j [])) (omega arith)
    ∙ ap given (get_or_from_slice_get (source_names d) k n [] at)

pub start_growth : (d : Document) → are_distinct (source_names d) ≡ true → IsGrowth d (sources_only d) []
start_growth d distinct =
    let signals : Signals = with_sources (λ n. None) 1 (source_names d) in
    let at : (k : ℕ) (n : Name) → slice_get (source_names d) k ≡ Some n → signals n ≡ Some (Node (k + 1)) =
    λ k n e. sources_at (λ m. None) 1 (source_names d) k n distinct e ∙ ap (λ j. Some (Node j)) (omega arith) in
    let is_source : (n : Name) (s : Sig) → signals n ≡ Some s → has (source_names d) n ≡ true = λ n s e. ⊎_elim (λ h. h) (λ none. absurd cc) (only_sources (λ m. None) 1 (source_names d) n s e) in
    let placed : (n : Name) (s : Sig) → signals n ≡ Some s → (k : ℕ) × (slice_get (source_names d) k ≡ Some n) × (k < source_count d) × (s ≡ Node (k + 1)) = λ n s e.
    let node = has_index (source_names d) n (is_source n s e) in
    let same : Some s ≡ Some (Node (node.0 + 1)) = sym e ∙ at node.0 n node.1 in
    (node.0, node.1, slice_get_within (source_names d) node.0 n node.1, cc) in
    record {
      gates = no_gates (source_count d);
      below = λ n s e. let p = placed n s e in rw p.3 (omega arith, omega (arith, p.2));
      sources = at;
      origin = λ n s e. inl (is_source n s e);
      stands = λ k t ended e. absurd cc;
      only = λ given v n s is e.
          let p = placed n s e in
          ap (sig_value (net_bits d (sources_only d) given)) (signal_is signals n s e ∙ p.3)
          ∙ source_bit d (sources_only d) given p.0 n p.1 p.2
          ∙ sym (all_has (λ m. v m ≡ given m) (source_names d) n is.sources (is_source n s e));
      count = sym (spent_none 0 d.tables);
    }

-- ---- costs

ended_other : (done : List ℕ) (j i : ℕ) → i ≢ j → has_ended (done ++ j ∷ []) i ≡ has_ended done i
ended_other done j i other =
    ended_append done (j ∷ []) i ∙ or_right_false (has_ended done i) (has_ended (j ∷ []) i) (or_from (nat_eq i j) false (ne_eqb i j other) refl) where
      or_right_false : (a b : Bool) → b ≡ false → (a || b) ≡ a
      or_right_false true b e = refl
      or_right_false false b e = e

spent_other : (i : ℕ) (ts : List Table) (done : List ℕ) (j : ℕ) → j < i → spent i ts (done ++ j ∷ []) ≡ spent i ts done
spent_other i [] done j low = refl
spent_other i (t ∷ ts) done j low =
    rw (ended_other done j i (omega arith), spent_other (i + 1) ts done j (omega arith)) refl

spent_push : (i : ℕ) (ts : List Table) (done : List ℕ) (k : ℕ) (t : Table) → slice_get ts k ≡ Some t →
    has_ended done (i + k) ≡ false → spent i ts (done ++ (i + k) ∷ []) ≡ spent i ts done + table_cost t
spent_push i [] done k t at fresh = absurd cc
spent_push i (u ∷ ts) done zero t at fresh =
    let same : u ≡ t = cc in
    let here : i + 0 ≡ i = omega arith in
    let now : has_ended (done ++ (i + 0) ∷ []) i ≡ true = subst (λ (x : ℕ). has_ended (done ++ x ∷ []) i ≡ true) (sym here) (ended_last done i) in
    let before : has_ended done i ≡ false = subst (λ (x : ℕ). has_ended done x ≡ false) here fresh in
    let rest : spent (i + 1) ts (done ++ (i + 0) ∷ []) ≡ spent (i + 1) ts done = spent_other (i + 1) ts done (i + 0) (omega arith) in
    rw (now, before, rest, same) (omega arith)
spent_push i (u ∷ ts) done (suc k) t at fresh =
    let next : (i + 1) + k ≡ i + suc k = omega arith in
    let rest : spent (i + 1) ts (done ++ (i + suc k) ∷ []) ≡ spent (i + 1) ts done + table_cost t =
    subst (λ (x : ℕ). spent (i + 1) ts (done ++ x ∷ []) ≡ spent (i + 1) ts done + table_cost t) next
    (spent_push (i + 1) ts done k t at (subst (λ (x : ℕ). has_ended done x ≡ false) (sym next) fresh)) in
    rw (ended_other done (i + suc k) i (omega arith), rest) (omega arith)

pub spent_all : (i : ℕ) (ts : List Table) (done : List ℕ) → ((k : ℕ) → k < length ts → has_ended done (i + k) ≡ true) → spent i ts done ≡ sum_by table_cost ts
spent_all i [] done all = refl
spent_all i (t ∷ ts) done all =
    let here : has_ended done i ≡ true = subst (λ (x : ℕ). has_ended done x ≡ true) (omega arith) (all 0 (omega arith)) in
    let rest : spent (i + 1) ts done ≡ sum_by table_cost ts =
    spent_all (i + 1) ts done (λ k low. let e : i + suc k ≡ (i + 1) + k = omega arith in
    subst (λ (x : ℕ). has_ended done x ≡ true) e (all (suc k) (omega arith))) in
    rw (here, rest) (sym (sum_by-cons table_cost t ts))

-- ---- one more table

known_below : (d : Document) (g : Growth) (ns : List Name) → ((n : Name) → has ns n ≡ true → HasSignal g n) →
    ((n : Name) (s : Sig) → g.signals n ≡ Some s → IsSigBelow (end_of_growth d g) s) →
    AreSigsBelow (end_of_growth d g) (map (signal_of g.signals) ns)
known_below d g [] known below = tt
known_below d g (n ∷ ns) known below =
    let s = known n (has_first n ns) in
    (subst (λ (x : Sig). IsSigBelow (end_of_growth d g) x) (sym (signal_is g.signals n s.0 s.1)) (below n s.0 s.1), known_below d g ns (λ m h. known m (has_later n ns m h)) below)

-- the inputs of the next table in topological order have signals
inputs_known : (d : Document) (g : Growth) (done : List ℕ) (k : ℕ) (t : Table) → IsWellFormed d → IsGrowth d g done →
    MayFinishNext (graph_of d.tables) (length (graph_of d.tables)) done k → slice_get d.tables k ≡ Some t →
    (n : Name) → has t.inputs n ≡ true → HasSignal g n
inputs_known d g done k t well is comes at n i =
    let used : has (used_names d) n ≡ true = has_left (flat_map table_inputs d.tables) (sink_names d) n (has_flat_at table_inputs d.tables k t n at i) in
    let driven : has (driven_names d) n ≡ true = all_has (λ m. has (driven_names d) m ≡ true) (used_names d) n well.used_driven used in
    ⊎_elim
    (λ source. let node = has_index (source_names d) n source in (Node (node.0 + 1), is.sources node.0 n node.1))
    (λ output.
    let driver = driver_finds 0 d.tables n output in
    let reads : has_ended (fanins_of (graph_of d.tables) k) driver.0 ≡ true =
    subst (λ (xs : List ℕ). has_ended xs driver.0 ≡ true) (sym (fanins_of-graph d.tables k t at))
    (kept_in (driver_of d.tables) t.inputs n driver.0 i driver.1) in
    let ended : has_ended done driver.0 ≡ true = comes.ready driver.0 reads in
    let found = driver_found 0 d.tables n driver.0 driver.1 in
    let same : driver.0 ≡ found.0 = omega (arith, found.1) in
    let stands : TableStands d g found.2.table = is.stands found.0 found.2.table (subst (λ (x : ℕ). has_ended done x ≡ true) same ended) found.2.at in
    subst (λ (x : Name). HasSignal g x) found.2.output stands.output)
    (has_either (source_names d) (map table_output d.tables) n driven)

-- and its output has none
output_fresh : (d : Document) (g : Growth) (done : List ℕ) (k : ℕ) (t : Table) (s : Sig) →
    are_distinct (driven_names d) ≡ true → IsGrowth d g done → has_ended done k ≡ false →
    slice_get d.tables k ≡ Some t → g.signals t.output ≡ Some s → ⊥
output_fresh d g done k t s distinct is fresh at e =
    ⊎_elim
    (λ source. both_ways (has (map table_output d.tables) t.output) (distinct_apart (source_names d) (map table_output d.tables) t.output distinct source) (has_map_at table_output d.tables k t at))
    (λ other.
    let outputs : are_distinct (map table_output d.tables) ≡ true = distinct_right (source_names d) (map table_output d.tables) distinct in
    let own : slice_get (map table_output d.tables) k ≡ Some t.output = map_at table_output d.tables k t at in
    let its : slice_get (map table_output d.tables) other.0 ≡ Some t.output = map_at table_output d.tables other.0 other.2.table other.2.at ∙ ap Some other.2.output in
    let same : other.0 ≡ k = distinct_index (map table_output d.tables) other.0 k t.output outputs its own in
    both_ways (has_ended done k) fresh (subst (λ (x : ℕ). has_ended done x ≡ true) same other.1))
    (is.origin t.output s e)

-- the step from g to h by the table t
record IsStep (d : Document) (g h : Growth) (t : Table) : Type 0 where
  extends : Extends d g h
  stands : TableStands d h t
  below : (n : Name) (s : Sig) → h.signals n ≡ Some s → IsSigBelow (end_of_growth d h) s
  names : (n : Name) (s : Sig) → h.signals n ≡ Some s → (t.output ≡ n) ⊎ (g.signals n ≡ Some s)
  value : (given : Name → Bool) → name_value d h given t.output ≡ cover_value t.cover (map (name_value d g given) t.inputs)
  count : length h.gates ≡ length g.gates + table_cost t

table_step : (d : Document) (g : Growth) (t : Table) → IsTable t → AreGates (source_count d) g.gates →
    ((n : Name) (s : Sig) → g.signals n ≡ Some s → IsSigBelow (end_of_growth d g) s) →
    ((n : Name) → has t.inputs n ≡ true → HasSignal g n) → ((s : Sig) → g.signals t.output ≡ Some s → ⊥) →
    IsStep d g (with_table (source_count d) g t) t
unfolding with_table table_cost
table_step d g t is gates below known fresh =
    let m : Table = merged_table t in
    let merges : IsMergedTable t m = merged_is t is.cover is.width in
    let sigs : List Sig = map (signal_of g.signals) m.inputs in
    let low : AreSigsBelow (end_of_growth d g) sigs = known_below d g m.inputs (λ n i. known n (merges.inputs n i)) below in
    let wide : m.cover.width ≡ length sigs = merges.width ∙ sym (length-map m.inputs (signal_of g.signals)) in
    let b : Built = table_built (source_count d) g m in
    let built : IsBuilt (source_count d) g.gates (cover_cost m.cover sigs) (λ given.
    cover_value m.cover (bits_of (source_count d) g.gates sigs given)) b =
    expanded_is (source_count d) g.gates m.cover sigs gates low merges.cover wide in
    let h : Growth = grown_by g t.output b in
    let own : h.signals t.output ≡ Some b.sig = signal_here g.signals t.output b.sig t.output (same_itself t.output) in
    let extends : Extends d g h = record {
      grown = built.grown;
      kept = λ n s e. ⊎_elim
          (λ here. absurd (fresh s (ap g.signals (same_name t.output n here) ∙ e)))
          (λ other. signal_other g.signals t.output b.sig n other ∙ e)
          (cases_Bool (is_same t.output n));
    } in
    let value : (given : Name → Bool) → name_value d h given t.output ≡ cover_value t.cover (map (name_value d g given) t.inputs) = λ given.
    ap (sig_value (net_bits d h given)) (signal_is h.signals t.output b.sig own)
    ∙ built.value (by_node (source_names d) given)
    ∙ ap (cover_value m.cover) (map-map (sig_value (net_bits d g given)) (signal_of g.signals) m.inputs)
    ∙ merges.value (name_value d g given) in
    record {
      extends = extends;
      stands = record {
        output = (b.sig, own);
        inputs = λ n i. let s = known n i in (s.0, extends.kept n s.0 s.1);
        value = λ given. value given ∙ ap (cover_value t.cover)
            (map_same (name_value d g given) (name_value d h given) t.inputs (λ n i. let s = known n i in
            sym (extended_value d g h given n s.0 extends (below n s.0 s.1) s.1)));
      };
      below = λ n s e. ⊎_elim
          (λ here. subst (λ (x : Sig). IsSigBelow (end_of_growth d h) x) here.1 built.below)
          (λ other. grown_below (source_count d) g.gates b.gates s built.grown (below n s other.1))
          (with_signal_cases g.signals t.output b.sig n s e);
      names = λ n s e. ⊎_elim (λ here. inl here.0) (λ other. inr other.1) (with_signal_cases g.signals t.output b.sig n s e);
      value = value;
      count = built.count ∙ ap (λ k. length g.gates + k) (cover_cost-map (signal_of g.signals) m.cover m.inputs);
    }

table_grown : (d : Document) (g : Growth) (done : List ℕ) (k : ℕ) (t : Table) → IsWellFormed d → IsGrowth d g done →
    MayFinishNext (graph_of d.tables) (length (graph_of d.tables)) done k → slice_get d.tables k ≡ Some t →
    IsGrowth d (with_table (source_count d) g t) (done ++ k ∷ [])
table_grown d g done k t well is comes at =
    let h : Growth = with_table (source_count d) g t in
    let known : (n : Name) → has t.inputs n ≡ true → HasSignal g n = inputs_known d g done k t well is comes at in
    let fresh : (s : Sig) → g.signals t.output ≡ Some s → ⊥ = λ s e. output_fresh d g done k t s well.driven_once is comes.fresh at e in
    let step : IsStep d g h t = table_step d g t (all_at IsTable d.tables k t well.tables at) is.gates is.below known fresh in
    let here : has_ended done (0 + k) ≡ false = subst (λ (x : ℕ). has_ended done x ≡ false) (omega arith) comes.fresh in
    let add : 0 + k ≡ k = omega arith in
    record {
      gates = step.extends.grown.gates;
      below = step.below;
      sources = λ j n e. step.extends.kept n (Node (j + 1)) (is.sources j n e);
      origin = λ n s e. ⊎_elim
          (λ own. inr (k, ended_last done k, record { table = t; at = at; output = own }))
          (λ before. ⊎_elim (λ source. inl source) (λ other. inr (other.0, ended_left done (k ∷ []) other.0 other.1, other.2)) (is.origin n s before))
          (step.names n s e);
      stands = λ j u ended e. ⊎_elim
          (λ before. stands_extended d g h u step.extends is.below (is.stands j u before e))
          (λ now. let same : Some t ≡ Some u = sym at ∙ ap (slice_get d.tables) (sym now) ∙ e in let one : t ≡ u = cc in subst (TableStands d h) one step.stands)
          (ended_cases done k j ended);
      only = λ given v n s maps e. ⊎_elim
          (λ own. subst (λ (x : Name). name_value d h given x ≡ v x) own
          (step.value given
          ∙ ap (cover_value t.cover) (map_same (name_value d g given) v t.inputs (λ x i. let r = known x i in is.only given v x r.0 maps r.1))
          ∙ sym (all_at (HoldsIn v) d.tables k t maps.tables at)))
          (λ before. extended_value d g h given n s step.extends (is.below n s before) before ∙ is.only given v n s maps before)
          (step.names n s e);
      count =
          step.count
          ∙ ap (λ x. x + table_cost t) is.count
          ∙ sym (subst (λ (x : ℕ). spent 0 d.tables (done ++ x ∷ []) ≡ spent 0 d.tables done + table_cost t) add (spent_push 0 d.tables done k t at here));
    }

-- ---- all tables

at_some : {A : Type 0} (xs : List A) (k : ℕ) → k < length xs → (x : A) × (slice_get xs k ≡ Some x)
at_some [] k low = absurd (omega arith)
at_some (x ∷ xs) zero low = (x, refl)
at_some (x ∷ xs) (suc k) low = at_some xs k (omega arith)

pub tables_grown : (d : Document) (g : Growth) (done order : List ℕ) → IsWellFormed d → IsGrowth d g done →
    IsFinishOrder (graph_of d.tables) (length (graph_of d.tables)) done order →
    IsGrowth d (with_tables (source_count d) d.tables g order) (done ++ order)
unfolding with_tables
tables_grown d g done [] well is run = subst (λ (xs : List ℕ). IsGrowth d g xs) (sym (append-nil done)) is
tables_grown d g done (k ∷ order) well is run =
    let low : k < length d.tables = omega (arith, run.0.low, length-graph_of d.tables) in
    let t = at_some d.tables k low in
    let one : IsGrowth d (with_table (source_count d) g t.0) (done ++ k ∷ []) = table_grown d g done k t.0 well is run.0 t.1 in
    let next : IsGrowth d (with_table_at (source_count d) g (slice_get d.tables k)) (done ++ k ∷ []) =
    subst (λ (o : Option Table). IsGrowth d (with_table_at (source_count d) g o) (done ++ k ∷ [])) (sym t.1) one in
    subst (λ (xs : List ℕ). IsGrowth d (with_tables (source_count d) d.tables (with_table_at (source_count d) g (slice_get d.tables k)) order) xs) (append_assoc done (k ∷ []) order)
    (tables_grown d (with_table_at (source_count d) g (slice_get d.tables k)) (done ++ k ∷ []) order well next run.1)
