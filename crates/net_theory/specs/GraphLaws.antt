-- The graph of a document has its tables' fanins as edges, and a document without combinational loops has a
-- topological order.
use Rattle.std.specs.Prelude.{◌≡◌, ℕ, zero, suc, ◌+◌, ◌<◌, true, nat_eq, List, [], ◌∷◌, length, slice_get, slice_index_or, map, Option, Some, None, ◌⊎◌, refl}
use Rattle.std.specs.List.{filter_map, cons_option}
use Rattle.std.proofs.Common.{arith, sym, ◌∙◌, ap, subst, inl, inr, ⊎_elim}
use Rattle.std.proofs.lemmas.Bool.{cond_both, cond-true, cond-false, eqb-true, eq-eqb, or_cases, or_left, or_right, both_ways, cases_Bool}
use Rattle.std.proofs.lemmas.Option.{slice_get_within}
use Rattle.std.proofs.lemmas.List.{length-map}
use Rattle.net_theory.specs.Document.{Name, is_same, has, are_distinct, Table, Document, table_output}
use Rattle.net_theory.specs.NameLaws.{same_name, same_itself, has_cases, has_none, has_first, has_later, has_map_at, distinct_cons, map_at}
use Rattle.net_theory.specs.Dependence.{ReadsTable, DependsOn, at_once, by_way_of, IsAcyclic}
use Rattle.graph_core.specs.Visit.{Graph, fanins_of, has_ended, order_of}
use Rattle.graph_core.specs.VisitLaws as visit
use Rattle.graph_core.specs.VisitLaws.{IsClosedGraph, HasPath, order_is, order_apart, no_order}
use Rattle.net_theory.specs.NetOf.{driver_from, driver_of, graph_of}

-- ---- drivers

-- table k is the first that drives the name
pub record Drives (ts : List Table) (name : Name) (k : ℕ) : Type 0 where
  pub table : Table
  pub at : slice_get ts k ≡ Some table
  pub output : table.output ≡ name

pub driver_found : (number : ℕ) (ts : List Table) (name : Name) (j : ℕ) → driver_from number ts name ≡ Some j → (k : ℕ) × (j ≡ number + k) × Drives ts name k
unfolding driver_from
driver_found number [] name j e = absurd cc
driver_found number (t ∷ ts) name j e =
    cond_both (is_same t.output name) (Some number) (driver_from (number + 1) ts name) (λ (r : Option ℕ). r ≡ Some j → (k : ℕ) × (j ≡ number + k) × Drives (t ∷ ts) name k)
    (λ here h. let same : number ≡ j = cc in (0, omega arith, record { table = t; at = refl; output = same_name t.output name here }))
    (λ other h. let r = driver_found (number + 1) ts name j h in (suc r.0, omega (arith, r.1), record { table = r.2.table; at = r.2.at; output = r.2.output }))
    e

-- a name that some table drives has a driver
pub driver_finds : (number : ℕ) (ts : List Table) (name : Name) → has (map table_output ts) name ≡ true → (j : ℕ) × (driver_from number ts name ≡ Some j)
unfolding driver_from
driver_finds number [] name e = absurd (has_none name e)
driver_finds number (t ∷ ts) name e =
    ⊎_elim
    (λ here. (number, cond-true (is_same t.output name) _ _ here))
    (λ other. let r = driver_finds (number + 1) ts name
    (⊎_elim (λ is. absurd (both_ways (is_same t.output name) other
    (subst (λ (x : Name). is_same t.output x ≡ true) (sym is) (same_itself t.output)))) (λ later. later)
    (has_cases t.output (map table_output ts) name e)) in (r.0, cond-false (is_same t.output name) _ _ other ∙ r.1))
    (cases_Bool (is_same t.output name))

-- where no two tables drive one name, a table is the driver of its output
pub driver_at : (number : ℕ) (ts : List Table) (k : ℕ) (t : Table) → are_distinct (map table_output ts) ≡ true → slice_get ts k ≡ Some t → driver_from number ts t.output ≡ Some (number + k)
unfolding driver_from
driver_at number [] k t distinct e = absurd cc
driver_at number (u ∷ ts) zero t distinct e =
    let same : u ≡ t = cc in
    let here : is_same u.output t.output ≡ true = subst (λ (x : Table). is_same u.output x.output ≡ true) same (same_itself u.output) in
    cond-true (is_same u.output t.output) _ _ here ∙ ap Some (omega arith)
driver_at number (u ∷ ts) (suc k) t distinct e =
    let parts = distinct_cons u.output (map table_output ts) distinct in
    ⊎_elim
    (λ here. absurd (both_ways (has (map table_output ts) u.output) parts.0
    (subst (λ (x : Name). has (map table_output ts) x ≡ true) (sym (same_name u.output t.output here))
    (has_map_at table_output ts k t e))))
    (λ other. cond-false (is_same u.output t.output) _ _ other ∙ driver_at (number + 1) ts k t parts.1 e ∙ ap Some (omega arith))
    (cases_Bool (is_same u.output t.output))

-- ---- what filter_map keeps

kept_by : (f : Name → Option ℕ) (n : Name) (ns : List Name) (j : ℕ) (r : Option ℕ) → f n ≡ r →
    has_ended (cons_option r (filter_map f ns)) j ≡ true → (f n ≡ Some j) ⊎ (has_ended (filter_map f ns) j ≡ true)
kept_by f n ns j None e h = inr h
kept_by f n ns j (Some i) e h =
    ⊎_elim (λ here. inl (e ∙ ap Some (sym (eqb-true j i here)))) (λ later. inr later) (or_cases (nat_eq j i) (has_ended (filter_map f ns) j) h)

pub kept_from : (f : Name → Option ℕ) (ns : List Name) (j : ℕ) → has_ended (filter_map f ns) j ≡ true → (n : Name) × (has ns n ≡ true) × (f n ≡ Some j)
kept_from f [] j e = absurd cc
kept_from f (n ∷ ns) j e =
    ⊎_elim
    (λ here. (n, has_first n ns, here))
    (λ later. let r = kept_from f ns j later in (r.0, has_later n ns r.0 r.1, r.2))
    (kept_by f n ns j (f n) refl e)

keep_first : (j : ℕ) (r : Option ℕ) (js : List ℕ) → r ≡ Some j → has_ended (cons_option r js) j ≡ true
keep_first j r js e = rw e (or_left (nat_eq j j) (has_ended js j) (eq-eqb j j refl))

keep_later : (j : ℕ) (r : Option ℕ) (js : List ℕ) → has_ended js j ≡ true → has_ended (cons_option r js) j ≡ true
keep_later j None js e = e
keep_later j (Some i) js e = or_right (nat_eq j i) (has_ended js j) e

pub kept_in : (f : Name → Option ℕ) (ns : List Name) (n : Name) (j : ℕ) → has ns n ≡ true → f n ≡ Some j → has_ended (filter_map f ns) j ≡ true
kept_in f [] n j h e = absurd (has_none n h)
kept_in f (m ∷ ns) n j h e =
    ⊎_elim
    (λ here. keep_first j (f m) (filter_map f ns) (ap f (sym here) ∙ e))
    (λ later. keep_later j (f m) (filter_map f ns) (kept_in f ns n j later e))
    (has_cases m ns n h)

-- ---- the graph

pub length-graph_of : (ts : List Table) → length (graph_of ts) ≡ length ts
unfolding graph_of
length-graph_of ts = length-map ts (λ (t : Table). filter_map (driver_of ts) t.inputs)

at_index : {A : Type 0} (xs : List A) (i : ℕ) (x d : A) → slice_get xs i ≡ Some x → slice_index_or xs i d ≡ x
at_index [] i x d e = absurd cc
at_index (y ∷ xs) zero x d e = cc
at_index (y ∷ xs) (suc i) x d e = at_index xs i x d e

pub fanins_of-graph : (ts : List Table) (i : ℕ) (t : Table) → slice_get ts i ≡ Some t → fanins_of (graph_of ts) i ≡ filter_map (driver_of ts) t.inputs
unfolding graph_of
fanins_of-graph ts i t e =
    at_index (map (λ (u : Table). filter_map (driver_of ts) u.inputs) ts) i (filter_map (driver_of ts) t.inputs) [] (map_at (λ (u : Table). filter_map (driver_of ts) u.inputs) ts i t e)

none_past : (g : Graph) (i j : ℕ) → has_ended (fanins_of g i) j ≡ true → i < length g
none_past [] i j e = absurd cc
none_past (r ∷ g) zero j e = omega arith
none_past (r ∷ g) (suc i) j e = omega (arith, none_past g i j e)

some_at : {A : Type 0} (xs : List A) (i : ℕ) → i < length xs → (x : A) × (slice_get xs i ≡ Some x)
some_at [] i low = absurd (omega arith)
some_at (x ∷ xs) zero low = (x, refl)
some_at (x ∷ xs) (suc i) low = some_at xs i (omega arith)

-- a fanin in the graph is one in the document
pub reads_from : (d : Document) (i j : ℕ) → has_ended (fanins_of (graph_of d.tables) i) j ≡ true → ReadsTable d i j
reads_from d i j e =
    let low : i < length d.tables = omega (arith, none_past (graph_of d.tables) i j e, length-graph_of d.tables) in
    let t = some_at d.tables i low in
    let kept = kept_from (driver_of d.tables) t.0.inputs j (subst (λ (xs : List ℕ). has_ended xs j ≡ true) (fanins_of-graph d.tables i t.0 t.1) e) in
    let found = driver_found 0 d.tables kept.0 j kept.2 in
    let same : j ≡ found.0 = omega (arith, found.1) in
    record {
      reader = t.0;
      is_reader = t.1;
      driver = found.2.table;
      is_driver = subst (λ k. slice_get d.tables k ≡ Some found.2.table) (sym same) found.2.at;
      read = subst (λ (x : Name). has t.0.inputs x ≡ true) (sym found.2.output) kept.1;
    }

-- and conversely, where no two tables drive one name
pub reads_in : (d : Document) (i j : ℕ) → are_distinct (map table_output d.tables) ≡ true → ReadsTable d i j → has_ended (fanins_of (graph_of d.tables) i) j ≡ true
reads_in d i j distinct r =
    subst (λ (xs : List ℕ). has_ended xs j ≡ true) (sym (fanins_of-graph d.tables i r.reader r.is_reader))
    (kept_in (driver_of d.tables) r.reader.inputs r.driver.output j r.read (driver_at 0 d.tables j r.driver distinct r.is_driver ∙ ap Some (omega arith)))

pub graph_closed : (d : Document) → IsClosedGraph (graph_of d.tables) (length (graph_of d.tables))
graph_closed d i j e =
    let r = reads_from d i j e in
    omega (arith, slice_get_within d.tables j r.driver r.is_driver, length-graph_of d.tables)

-- ---- dependence

pub leads_depends : (d : Document) (i j : ℕ) → HasPath (graph_of d.tables) i j → DependsOn d i j
leads_depends d _ _ (visit.at_once i j r) = at_once i j (reads_from d i j r)
leads_depends d _ _ (visit.by_way_of i j k r more) = by_way_of i j k (reads_from d i j r) (leads_depends d j k more)

pub depends_leads : (d : Document) (i j : ℕ) → are_distinct (map table_output d.tables) ≡ true → DependsOn d i j → HasPath (graph_of d.tables) i j
depends_leads d _ _ distinct (at_once i j r) = visit.at_once i j (reads_in d i j distinct r)
depends_leads d _ _ distinct (by_way_of i j k r more) = visit.by_way_of i j k (reads_in d i j distinct r) (depends_leads d j k distinct more)

-- If there is a topological order, no table depends on itself.
pub order_acyclic : (d : Document) (order : List ℕ) → are_distinct (map table_output d.tables) ≡ true → order_of (graph_of d.tables) ≡ Some order → IsAcyclic d
order_acyclic d order distinct e i depends =
    order_apart (graph_of d.tables) order i (order_is (graph_of d.tables) order (graph_closed d) e) (depends_leads d i i distinct depends)

-- If there is none, some table depends on itself.
pub no_order_cyclic : (d : Document) → order_of (graph_of d.tables) ≡ None → (i : ℕ) × DependsOn d i i
no_order_cyclic d e =
    let r = no_order (graph_of d.tables) (graph_closed d) e in
    (r.0, leads_depends d r.0 r.0 r.1)

order_by : (d : Document) → IsAcyclic d → (r : Option (List ℕ)) → order_of (graph_of d.tables) ≡ r → (order : List ℕ) × (order_of (graph_of d.tables) ≡ Some order)
order_by d acyclic None e = let r = no_order_cyclic d e in absurd (acyclic r.0 r.1)
order_by d acyclic (Some order) e = (order, e)

-- If no table depends on itself, there is a topological order.
pub acyclic_order : (d : Document) → IsAcyclic d → (order : List ℕ) × (order_of (graph_of d.tables) ≡ Some order)
acyclic_order d acyclic = order_by d acyclic (order_of (graph_of d.tables)) refl
