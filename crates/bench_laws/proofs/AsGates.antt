-- Replacing the tables of a document by tables of the same functions keeps its behaviour.
use Rattle.std.proofs.Common.{◌≡◌, ℕ, Bool, true, List, [], ◌∷◌, ◌++◌, map, Some, refl, ap, ◌∙◌, sym, subst, arith, inl, inr, ⊎_elim}
use Rattle.std.specs.Prelude.{All, slice_get, sum_by, ◌⊎◌}
use Rattle.std.specs.List.{flat_map}
use Rattle.std.proofs.lemmas.Bool.{both_ways}
use Rattle.std.proofs.lemmas.List.Sums.{sum_by-cons}
use Rattle.std.proofs.lemmas.List.Elements.{All-head, All-tail}
use Rattle.net_theory.specs.Cover.{cover_value}
use Rattle.net_theory.specs.Document.{Name, has, are_distinct, Table, Document, LatchLine, table_output, table_inputs, source_names, sink_names, driven_names, used_names}
use Rattle.net_theory.specs.NameLaws.{has_left, has_right, has_either, has_map_at, all_at, at_all, all_has, has_all, map_at, at_map, distinct_apart}
use Rattle.net_theory.specs.WellFormed.{IsTable, IsFreeOf, IsWellFormed}
use Rattle.net_theory.specs.Cost.{table_cost, cost}
use Rattle.net_theory.specs.Dependence.{ReadsTable, DependsOn, at_once, by_way_of}
use Rattle.net_theory.specs.Behaviour.{HoldsIn, IsValuationOf}
use Rattle.net_theory.specs.Circuit.{Circuit, Describes}

-- the document with every table replaced
abbrev pub with_tables : Document → (Table → Table) → Document
with_tables d f = record { model = d.model; inputs = d.inputs; outputs = d.outputs; clocks = d.clocks; latches = d.latches; tables = map f d.tables }

-- u can replace t: it has the same output, function and cost, and its inputs are inputs of t or the source
pub record DoesLike (source : Name) (t u : Table) : Type 0 where
  pub table : IsTable u
  pub output : u.output ≡ t.output
  pub inputs : (n : Name) → has u.inputs n ≡ true → (has t.inputs n ≡ true) ⊎ (n ≡ source)
  pub value : (v : Name → Bool) → cover_value u.cover (map v u.inputs) ≡ cover_value t.cover (map v t.inputs)
  pub cost : table_cost u ≡ table_cost t

abbrev pub DoLike : Name → (Table → Table) → Document → Type 0
DoLike source f d = All (λ (t : Table). DoesLike source t (f t)) d.tables

like_at : (source : Name) (f : Table → Table) (d : Document) → DoLike source f d → (k : ℕ) (t : Table) → slice_get d.tables k ≡ Some t → DoesLike source t (f t)
like_at source f d are k t e = all_at (λ (x : Table). DoesLike source x (f x)) d.tables k t are e

outputs_same : (source : Name) (f : Table → Table) (ts : List Table) → All (λ (t : Table). DoesLike source t (f t)) ts → map table_output (map f ts) ≡ map table_output ts
outputs_same source f [] are = refl
outputs_same source f (t ∷ ts) are =
    let head = All-head (λ (x : Table). DoesLike source x (f x)) t ts are in
    let tail = outputs_same source f ts (All-tail (λ (x : Table). DoesLike source x (f x)) t ts are) in
    λ i. head.output i ∷ tail i

costs_same : (source : Name) (f : Table → Table) (ts : List Table) → All (λ (t : Table). DoesLike source t (f t)) ts → sum_by table_cost (map f ts) ≡ sum_by table_cost ts
costs_same source f [] are = refl
costs_same source f (t ∷ ts) are = omega (
  arith,
  sum_by-cons table_cost (f t) (map f ts),
  sum_by-cons table_cost t ts,
  (All-head (λ (x : Table). DoesLike source x (f x)) t ts are).cost,
  costs_same source f ts (All-tail (λ (x : Table). DoesLike source x (f x)) t ts are),
)

pub cost_same : (source : Name) (f : Table → Table) (d : Document) → DoLike source f d → cost (with_tables d f) ≡ cost d
unfolding cost
cost_same source f d are = costs_same source f d.tables are

driven_same : (source : Name) (f : Table → Table) (d : Document) → DoLike source f d → driven_names (with_tables d f) ≡ driven_names d
driven_same source f d are = ap (λ (ns : List Name). source_names d ++ ns) (outputs_same source f d.tables are)

-- ---- reading and depending

-- no table drives a source
no_output : (d : Document) (n : Name) (k : ℕ) (t : Table) → are_distinct (driven_names d) ≡ true → has (source_names d) n ≡ true → slice_get d.tables k ≡ Some t → t.output ≡ n → ⊥
no_output d n k t distinct source at same =
    both_ways (has (map table_output d.tables) n)
    (distinct_apart (source_names d) (map table_output d.tables) n distinct source)
    (subst (λ (m : Name). has (map table_output d.tables) m ≡ true) same (has_map_at table_output d.tables k t at))

reads_like : (source : Name) (f : Table → Table) (d : Document) (i j : ℕ) → DoLike source f d →
    are_distinct (driven_names d) ≡ true → has (source_names d) source ≡ true → ReadsTable (with_tables d f) i j →
    ReadsTable d i j
reads_like source f d i j are distinct is r =
    let a = at_map f d.tables i r.reader r.is_reader in
    let b = at_map f d.tables j r.driver r.is_driver in
    let like_a = like_at source f d are i a.0 a.1 in
    let like_b = like_at source f d are j b.0 b.1 in
    let output : r.driver.output ≡ b.0.output = ap table_output (sym b.2) ∙ like_b.output in
    let read : has (f a.0).inputs b.0.output ≡ true = subst (λ (n : Name). has (f a.0).inputs n ≡ true) output (subst (λ (t : Table). has t.inputs r.driver.output ≡ true) (sym a.2) r.read) in
    record {
      reader = a.0;
      is_reader = a.1;
      driver = b.0;
      is_driver = b.1;
      read = ⊎_elim (λ there. there) (λ same. absurd (no_output d source j b.0 distinct is b.1 same)) (like_a.inputs b.0.output read);
    }

depends_like : (source : Name) (f : Table → Table) (d : Document) (i j : ℕ) → DoLike source f d →
    are_distinct (driven_names d) ≡ true → has (source_names d) source ≡ true → DependsOn (with_tables d f) i j →
    DependsOn d i j
depends_like source f d _ _ are distinct is (at_once i j r) = at_once i j (reads_like source f d i j are distinct is r)
depends_like source f d _ _ are distinct is (by_way_of i j k r on) = by_way_of i j k (reads_like source f d i j are distinct is r) (depends_like source f d j k are distinct is on)

-- ---- well-formedness

used_like : (source : Name) (f : Table → Table) (d : Document) (n : Name) → DoLike source f d → has (used_names (with_tables d f)) n ≡ true → (has (used_names d) n ≡ true) ⊎ (n ≡ source)
used_like source f d n are there =
    ⊎_elim
    (λ by_tables. lift (each d.tables are by_tables))
    (λ by_sinks. inl (has_right (flat_map table_inputs d.tables) (sink_names d) n by_sinks))
    (has_either (flat_map table_inputs (map f d.tables)) (sink_names d) n there) where
      lift : (has (flat_map table_inputs d.tables) n ≡ true) ⊎ (n ≡ source) → (has (used_names d) n ≡ true) ⊎ (n ≡ source)
      lift (inl h) = inl (has_left (flat_map table_inputs d.tables) (sink_names d) n h)
      lift (inr h) = inr h

      each : (ts : List Table) → All (λ (t : Table). DoesLike source t (f t)) ts → has (flat_map table_inputs (map f ts)) n ≡ true → (has (flat_map table_inputs ts) n ≡ true) ⊎ (n ≡ source)
      each [] all h = inl h
      each (t ∷ ts) all h =
          ⊎_elim
          (λ here. ⊎_elim (λ a. inl (has_left t.inputs (flat_map table_inputs ts) n a)) (λ b. inr b) ((All-head (λ (x : Table). DoesLike source x (f x)) t ts all).inputs n here))
          (λ later. ⊎_elim (λ a. inl (has_right t.inputs (flat_map table_inputs ts) n a)) (λ b. inr b) (each ts (All-tail (λ (x : Table). DoesLike source x (f x)) t ts all) later))
          (has_either (f t).inputs (flat_map table_inputs (map f ts)) n h)

pub well_like : (source : Name) (f : Table → Table) (d : Document) → DoLike source f d → has (source_names d) source ≡ true → IsWellFormed d → IsWellFormed (with_tables d f)
well_like source f d are is well =
    let outputs = outputs_same source f d.tables are in
    let driven = driven_same source f d are in
    record {
      model = well.model;
      inputs = well.inputs;
      outputs = well.outputs;
      clocks = well.clocks;
      latches = well.latches;
      tables = at_all IsTable (map f d.tables) (λ k u e. let a = at_map f d.tables k u e in subst IsTable a.2 (like_at source f d are k a.0 a.1).table);
      controls = subst (λ (ns : List Name). All (λ (l : LatchLine). IsFreeOf ns l.latch.control) d.latches) (sym outputs) well.controls;
      gates = omega (arith, well.gates, cost_same source f d are);
      driven_once = subst (λ (ns : List Name). are_distinct ns ≡ true) (sym driven) well.driven_once;
      used_driven = has_all (λ n. has (driven_names (with_tables d f)) n ≡ true) (used_names (with_tables d f)) (λ n there.
          subst (λ (ns : List Name). has ns n ≡ true) (sym driven)
          (⊎_elim
          (λ used. all_has (λ (m : Name). has (driven_names d) m ≡ true) (used_names d) n well.used_driven used)
          (λ same. subst (λ (m : Name). has (driven_names d) m ≡ true) (sym same) (has_left (source_names d) (map table_output d.tables) source is))
          (used_like source f d n are there)));
      acyclic = λ i on. well.acyclic i (depends_like source f d i i are well.driven_once is on);
    }

-- ---- behaviour

holds_like : (source : Name) (v : Name → Bool) (t u : Table) → DoesLike source t u → HoldsIn v t → HoldsIn v u
holds_like source v t u is holds = ap v is.output ∙ holds ∙ sym (is.value v)

holds_back : (source : Name) (v : Name → Bool) (t u : Table) → DoesLike source t u → HoldsIn v u → HoldsIn v t
holds_back source v t u is holds = ap v (sym is.output) ∙ holds ∙ is.value v

map_like : (source : Name) (f : Table → Table) (d : Document) (given v : Name → Bool) → DoLike source f d → IsValuationOf d given v → IsValuationOf (with_tables d f) given v
map_like source f d given v are is = record {
  sources = is.sources;
  tables = at_all (HoldsIn v) (map f d.tables) (λ k u e. let a = at_map f d.tables k u e in
      subst (HoldsIn v) a.2 (holds_like source v a.0 (f a.0) (like_at source f d are k a.0 a.1)
      (all_at (HoldsIn v) d.tables k a.0 is.tables a.1)));
}

map_back : (source : Name) (f : Table → Table) (d : Document) (given v : Name → Bool) → DoLike source f d → IsValuationOf (with_tables d f) given v → IsValuationOf d given v
map_back source f d given v are is = record {
  sources = is.sources;
  tables = at_all (HoldsIn v) d.tables (λ k t e. holds_back source v t (f t) (like_at source f d are k t e) (all_at (HoldsIn v) (map f d.tables) k (f t) is.tables (map_at f d.tables k t e)));
}

pub describes_like : (source : Name) (f : Table → Table) (d : Document) (c : Circuit) → DoLike source f d → Describes d c → Describes (with_tables d f) c
describes_like source f d c are is = record {
  inputs = is.inputs;
  outputs = is.outputs;
  clocks = is.clocks;
  latches = is.latches;
  one = λ given. record {
    some = (((is.one given).some).0, map_like source f d given (((is.one given).some).0) are (((is.one given).some).1));
    one = λ v w a b.
        subst (λ (ns : List Name). All (λ (n : Name). v n ≡ w n) ns) (sym (driven_same source f d are))
        ((is.one given).one v w (map_back source f d given v are a) (map_back source f d given w are b));
  };
  sinks = λ given v maps. is.sinks given v (map_back source f d given v are maps);
}
