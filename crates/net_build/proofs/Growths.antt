-- Appending gates to a net, table after table.
use Rattle.std.proofs.Common.{◌≡◌, ℕ, suc, ◌+◌, ◌≤◌, ◌<◌, ◌^◌, List, [], ◌∷◌, ◌++◌, length, map, Option, Some, None, refl, ap, ◌∙◌, sym, subst, arith, length-append}
use Rattle.std.specs.Prelude.{All, slice_get, unwrap_or, sum_by}
use Rattle.std.proofs.lemmas.Grind.{common_steps}
use Rattle.std.proofs.lemmas.List.{length-map, map-append}
use Rattle.std.proofs.lemmas.Bool.{cond_both}
use Rattle.std.proofs.lemmas.List.Elements.{All-nil, All-cons}
use Rattle.std.proofs.lemmas.List.Sums.{sum_by-cons}
use Rattle.net_theory.specs.declared.data.Sig.{Sig}
use Rattle.net_theory.specs.declared.data.Sig.TheVariants.{Zero, Node}
use Rattle.net_theory.specs.declared.data.Gate.{Gate}
use Rattle.net_theory.specs.Net.{Net, IsSigBelow, end_of}
use Rattle.net_theory.specs.Cover.{Cover}
use Rattle.net_theory.specs.Cost.{cover_cost, merged_table, table_cost, cost}
use Rattle.net_theory.specs.Document.{Name, Table, Document, table_output, latch_of, latch_output, latches_of, source_names}
use Rattle.net_theory.specs.NameLaws.{all_at, distinct_left}
use Rattle.net_theory.specs.WellFormed.{IsTable, IsWellFormed}
use Rattle.net_theory.specs.Expansion.{Built, expanded}
use Rattle.net_theory.specs.WideLaws.{AreSigsBelow}
use Rattle.net_theory.specs.ExpansionLaws.{expanded_is}
use Rattle.net_theory.specs.MergedLaws.{IsMergedTable, merged_is, cover_cost-map}
use Rattle.graph_core.specs.Visit.{has_ended}
use Rattle.graph_core.specs.VisitLaws.{IsTopologicalOrder}
use Rattle.net_theory.specs.GraphLaws.{length-graph_of}
use Rattle.net_theory.specs.NetOf.{Signals, Growth, with_signal, with_sources, signal_of, table_built, grown_by, with_table, with_table_at, with_tables, source_count, graph_of}
use Rattle.net_theory.specs.NetLaws.{IsGrowth, spent, start_growth, tables_grown}
use Rattle.net_core.specs.Growing.{built}
use Rattle.net_build.specs.Parts.{growth, AreSignalsBelow, FitsTable, IsPartlyBuilt}
use Rattle.net_theory.specs.Limits.{most_gates}

-- ---- signals of the net

below_by : (n : Net) (r : Option Sig) → ((s : Sig) → r ≡ Some s → IsSigBelow (end_of n) s) → IsSigBelow (end_of n) (unwrap_or r Zero)
below_by n None h = tt
below_by n (Some s) h = h s refl

pub signals_below : (n : Net) (signals : Signals) (names : List Name) → AreSignalsBelow n signals → All (IsSigBelow (end_of n)) (map (signal_of signals) names)
signals_below n signals [] is = All-nil (IsSigBelow (end_of n))
signals_below n signals (m ∷ ms) is =
    All-cons (IsSigBelow (end_of n)) (signal_of signals m) (map (signal_of signals) ms)
    (below_by n (signals m) (λ s e. is.each m s e))
    (signals_below n signals ms is)

pub cover_cost-signals : (c : Cover) (signals : Signals) (names : List Name) → cover_cost c (map (signal_of signals) names) ≡ cover_cost c names
cover_cost-signals c signals names = cover_cost-map (signal_of signals) c names

-- ---- one cover

pub cover_grown : (sources : ℕ) (old new : List Gate) (before after : Signals) (sig : Sig) (c : Cover)
    (names : List Name) (output : Name) (inputs : List Sig) → inputs ≡ map (signal_of before) names →
    built new sig ≡ expanded sources old c inputs → after ≡ with_signal before output sig →
    growth new after ≡ grown_by (growth old before) output
    (table_built sources (growth old before) (record { inputs = names; output = output; cover = c }))
cover_grown sources old new before after sig c names output inputs e b s =
    let all : built new sig ≡ expanded sources old c (map (signal_of before) names) = b ∙ ap (λ (is : List Sig). expanded sources old c is) e in
    let gates : new ≡ (expanded sources old c (map (signal_of before) names)).gates = ap (λ (x : Built). x.gates) all in
    let signals : after ≡ with_signal before output (expanded sources old c (map (signal_of before) names)).sig = s ∙ ap (λ (x : Built). with_signal before output x.sig) all in
    λ i. record { gates = gates i; signals = signals i }

pub ruleset covers = (common_steps, signals_below, cover_cost-signals, cover_grown)

-- ---- one table

pub ruleset tables = (common_steps)

-- ---- tables in an order

spent_below : (k : ℕ) (ts : List Table) (done : List ℕ) → spent k ts done ≤ sum_by table_cost ts
spent_below k [] done = omega arith
spent_below k (t ∷ ts) done =
    cond_both (has_ended done k) (table_cost t) 0 (λ (n : ℕ). n + spent (k + 1) ts done ≤ sum_by table_cost (t ∷ ts))
    (λ e. omega (arith, sum_by-cons table_cost t ts, spent_below (k + 1) ts done))
    (λ e. omega (arith, sum_by-cons table_cost t ts, spent_below (k + 1) ts done))

pub table_is : (d : Document) (k : ℕ) (t : Table) → IsWellFormed d → slice_get d.tables k ≡ Some t → IsTable t
table_is d k t well at = all_at IsTable d.tables k t well.tables at

pub begun_low : (d : Document) (n : Net) (signals : Signals) (k : ℕ) (left : List ℕ) → IsPartlyBuilt d n signals (k ∷ left) → k < length d.tables
begun_low d n signals k left is = omega (arith, is.run.0.low, length-graph_of d.tables)

pub begun_below : (d : Document) (n : Net) (signals : Signals) (left : List ℕ) → IsPartlyBuilt d n signals left → AreSignalsBelow n signals
begun_below d n signals left is = record { each = λ name s e. subst (λ (k : ℕ). IsSigBelow (k + 1 + length n.gates) s) (sym is.sources) (is.grown.below name s e) }

with_one : (sources : ℕ) (tables : List Table) (g : Growth) (k : ℕ) (t : Table) → slice_get tables k ≡ Some t → with_tables sources tables g (k ∷ []) ≡ with_table sources g t
unfolding with_tables
with_one sources tables g k t at = ap (with_table_at sources g) at

pub next_growth : (d : Document) (n : Net) (signals : Signals) (k : ℕ) (left : List ℕ)
    (b : IsPartlyBuilt d n signals (k ∷ left)) (t : Table) → IsWellFormed d → slice_get d.tables k ≡ Some t →
    IsGrowth d (with_table (source_count d) (growth n.gates signals) t) (b.done ++ k ∷ [])
next_growth d n signals k left b t well at =
    subst (λ (g : Growth). IsGrowth d g (b.done ++ k ∷ [])) (with_one (source_count d) d.tables (growth n.gates signals) k t at)
    (tables_grown d (growth n.gates signals) b.done (k ∷ []) well b.grown (b.run.0, tt))

sigs_below : (n : Net) (signals : Signals) (names : List Name) (node : ℕ) → node ≡ end_of n → AreSignalsBelow n signals → AreSigsBelow node (map (signal_of signals) names)
sigs_below n signals [] node e is = tt
sigs_below n signals (m ∷ ms) node e is = (subst (λ (p : ℕ). IsSigBelow p (signal_of signals m)) (sym e) (below_by n (signals m) (λ s f. is.each m s f)), sigs_below n signals ms node e is)

table_gates : (sources : ℕ) (g : Growth) (t : Table) → (with_table sources g t).gates ≡ (expanded sources g.gates (merged_table t).cover (map (signal_of g.signals) (merged_table t).inputs)).gates
unfolding with_table
table_gates sources g t = refl

pub table_fits : (d : Document) (n : Net) (signals : Signals) (k : ℕ) (left : List ℕ) (t : Table) → IsWellFormed d →
    source_count d + most_gates < 2 ^ 31 → IsPartlyBuilt d n signals (k ∷ left) → slice_get d.tables k ≡ Some t →
    FitsTable n t
unfolding cost
table_fits d n signals k left t well small b at =
    let is = table_is d k t well at in
    let m : IsMergedTable t (merged_table t) = merged_is t is.cover is.width in
    let below : AreSigsBelow (source_count d + 1 + length n.gates) (map (signal_of signals) (merged_table t).inputs) =
    sigs_below n signals (merged_table t).inputs (source_count d + 1 + length n.gates)
    (ap (λ (x : ℕ). x + 1 + length n.gates) (sym b.sources)) (begun_below d n signals (k ∷ left) b) in
    let wide : (merged_table t).cover.width ≡ length (map (signal_of signals) (merged_table t).inputs) = m.width ∙ sym (length-map (merged_table t).inputs (signal_of signals)) in
    let made = expanded_is (source_count d) n.gates (merged_table t).cover (map (signal_of signals) (merged_table t).inputs) b.grown.gates below m.cover wide in
    let next = next_growth d n signals k left b t well at in
    let gates : length (with_table (source_count d) (growth n.gates signals) t).gates ≡
    length n.gates + cover_cost (merged_table t).cover (merged_table t).inputs =
    ap (length {A = Gate}) (table_gates (source_count d) (growth n.gates signals) t) ∙ made.count
    ∙ ap (λ (x : ℕ). length n.gates + x) (cover_cost-signals (merged_table t).cover signals (merged_table t).inputs)
    in
    record {
      cover = m.cover;
      width = m.width;
      room = omega (arith, small, b.sources, gates, next.count, spent_below 0 d.tables (b.done ++ k ∷ []), well.gates);
    }

pub begun_next : (d : Document) (n m : Net) (before after : Signals) (k : ℕ) (left : List ℕ) (t : Table) →
    IsWellFormed d → IsPartlyBuilt d n before (k ∷ left) → slice_get d.tables k ≡ Some t →
    growth m.gates after ≡ with_table n.sources (growth n.gates before) t → m.sources ≡ n.sources → m.sinks ≡ n.sinks →
    IsPartlyBuilt d m after left
begun_next d n m before after k left t well b at e sources sinks =
    let same : growth m.gates after ≡ with_table (source_count d) (growth n.gates before) t = e ∙ ap (λ (x : ℕ). with_table x (growth n.gates before) t) b.sources in
    record {
      sources = sources ∙ b.sources;
      sinks = sinks ∙ b.sinks;
      done = b.done ++ k ∷ [];
      grown = subst (λ (g : Growth). IsGrowth d g (b.done ++ k ∷ [])) (sym same) (next_growth d n before k left b t well at);
      run = b.run.1;
    }

pub same_next : (d : Document) (n m : Net) (before after : Signals) (k : ℕ) (left : List ℕ) (t : Table) →
    slice_get d.tables k ≡ Some t → n.sources ≡ source_count d →
    growth m.gates after ≡ with_table n.sources (growth n.gates before) t →
    with_tables (source_count d) d.tables (growth m.gates after) left ≡
    with_tables (source_count d) d.tables (growth n.gates before) (k ∷ left)
unfolding with_tables
same_next d n m before after k left t at sources e =
    ap (λ (g : Growth). with_tables (source_count d) d.tables g left)
    (e ∙ ap (λ (x : ℕ). with_table x (growth n.gates before) t) sources ∙ ap (with_table_at (source_count d) (growth n.gates before)) (sym at))

pub ruleset runs = (common_steps, table_is, begun_low, begun_below, table_fits, begun_next, same_next)

-- ---- the sources

pub with_sources-append : (signals : Signals) (node : ℕ) (xs ys : List Name) → with_sources signals node (xs ++ ys) ≡ with_sources (with_sources signals node xs) (node + length xs) ys
unfolding with_sources
with_sources-append signals node [] ys = let e : node ≡ node + 0 = omega arith in ap (λ (p : ℕ). with_sources signals p ys) e
with_sources-append signals node (x ∷ xs) ys =
    let e : (node + 1) + length xs ≡ node + suc (length xs) = omega arith in
    with_sources-append (with_signal signals x (Node node)) (node + 1) xs ys
    ∙ ap (λ (p : ℕ). with_sources (with_sources (with_signal signals x (Node node)) (node + 1) xs) p ys) e

pub source_count_is : (d : Document) → source_count d ≡ length d.inputs + length d.latches
source_count_is d = length-append d.inputs (map latch_output (latches_of d)) ∙ ap (λ (x : ℕ). length d.inputs + x) (length-map (latches_of d) latch_output ∙ length-map d.latches latch_of)

pub ruleset sources = (common_steps, with_sources-append, source_count_is)

-- ---- the net

pub begun_first : (d : Document) (signals : Signals) (order : List ℕ) → IsWellFormed d →
    IsTopologicalOrder (graph_of d.tables) order → signals ≡ with_sources (λ n. None) 1 (source_names d) →
    IsPartlyBuilt d (record { sources = source_count d; gates = []; sinks = [] }) signals order
begun_first d signals order well is e =
    record {
      sources = refl;
      sinks = refl;
      done = [];
      grown = subst (λ (s : Signals). IsGrowth d (growth [] s) []) (sym e) (start_growth d (distinct_left (source_names d) (map table_output d.tables) well.driven_once));
      run = is.run;
    }

pub ruleset nets = (common_steps, begun_first, begun_below, signals_below, source_count_is)

pub sinks_append : (signals : Signals) (xs ys : List Name) → map (signal_of signals) xs ++ map (signal_of signals) ys ≡ map (signal_of signals) (xs ++ ys)
sinks_append signals xs ys = sym (map-append (signal_of signals) xs ys)

pub ruleset sinks = (common_steps, sinks_append)
