-- The least document of one whose tables are kept is well formed, has the same values and the same cost.
use Rattle.std.specs.Prelude.{◌≡◌, ℕ, zero, suc, Bool, true, false, ◌==◌, ◌&&◌, if◌then◌else◌, List, [], ◌∷◌, ◌++◌}
use Rattle.std.specs.Prelude.{length, map, slice_get, sum_by, All, Some, refl}
use Rattle.std.specs.List.{flat_map}
use Rattle.std.proofs.Common.{arith, sym, ◌∙◌, ap, subst}
use Rattle.std.proofs.lemmas.Bool.{cond-false, ne_eqb}
use Rattle.std.proofs.lemmas.List.{length-map}
use Rattle.std.proofs.lemmas.List.Elements.{All-nil, All-cons, All-head, All-tail}
use Rattle.std.proofs.lemmas.List.Sums.{sum_by-cons}
use Rattle.net_theory.specs.Cover.{Cover, cover_value}
use Rattle.net_theory.specs.Document.{Name, is_same, has, are_distinct, Table, LatchLine, Document, table_output}
use Rattle.net_theory.specs.Document.{table_inputs, source_names, driven_names, used_names, sink_names}
use Rattle.net_theory.specs.Dependence.{ReadsTable, DependsOn, at_once, by_way_of}
use Rattle.net_theory.specs.Behaviour.{HoldsIn, IsValuationOf, HasOneValuation}
use Rattle.net_theory.specs.WellFormed.{IsTable, IsFreeOf, IsWellFormed}
use Rattle.net_theory.specs.Expansion.{unary_word}
use Rattle.net_theory.specs.Cost.{unary_cover, unary_cost, cover_cost, merged_table, table_cost, cost}
use Rattle.net_theory.specs.Circuit.{Circuit, Describes}
use Rattle.blif_laws.specs.Spelled.{IsSpelledTable, IsBlifSpelling}
use Rattle.blif_covers.specs.Least.{least_cover, least_table, least}
use Rattle.blif_covers.proofs.SameCovers.{IsSameCover, IsKept}

-- ---- names

outputs_same : (ts : List Table) → map table_output (map least_table ts) ≡ map table_output ts
outputs_same [] = refl
outputs_same (t ∷ ts) = ap (λ (ns : List Name). t.output ∷ ns) (outputs_same ts)

inputs_same : (ts : List Table) → flat_map table_inputs (map least_table ts) ≡ flat_map table_inputs ts
inputs_same [] = refl
inputs_same (t ∷ ts) = ap (λ (ns : List Name). t.inputs ++ ns) (inputs_same ts)

driven_same : (d : Document) → driven_names (least d) ≡ driven_names d
driven_same d = ap (λ (ns : List Name). source_names d ++ ns) (outputs_same d.tables)

used_same : (d : Document) → used_names (least d) ≡ used_names d
used_same d = ap (λ (ns : List Name). ns ++ sink_names d) (inputs_same d.tables)

-- ---- tables

pub table_same : (t : Table) → IsTable t → IsKept t → IsTable (least_table t)
table_same t is kept = record {
  inputs = is.inputs;
  output = is.output;
  width = kept.width ∙ is.width;
  cover = kept.cover is.cover;
  narrow = is.narrow;
  few = omega (arith, is.few, kept.few);
}

tables_same : (ts : List Table) → All IsTable ts → All IsKept ts → All IsTable (map least_table ts)
tables_same [] are kept = All-nil IsTable
tables_same (t ∷ ts) are kept =
    All-cons IsTable (least_table t) (map least_table ts)
    (table_same t (All-head IsTable t ts are) (All-head IsKept t ts kept))
    (tables_same ts (All-tail IsTable t ts are) (All-tail IsKept t ts kept))

spelled_same : (ts : List Table) → All IsTable ts → All IsKept ts → All IsSpelledTable (map least_table ts)
spelled_same [] are kept = All-nil IsSpelledTable
spelled_same (t ∷ ts) are kept =
    let first = All-head IsKept t ts kept in
    All-cons IsSpelledTable (least_table t) (map least_table ts)
    (record { table = table_same t (All-head IsTable t ts are) first; on = first.on; cubes = first.parity })
    (spelled_same ts (All-tail IsTable t ts are) (All-tail IsKept t ts kept))

-- ---- costs

-- only covers of two inputs change
other_width : (c : Cover) → (c.width == 2) ≡ false → least_cover c ≡ c
unfolding least_cover
other_width c other = cond-false (c.width == 2 && length c.cubes == 3) _ _ (ap (λ b. b && length c.cubes == 3) other)

abbrev table_with : List Name → Name → Cover → Table
table_with inputs output cover = record { inputs = inputs; output = output; cover = cover }

-- a table of two inputs, of which the names may be the same
abbrev merged_by : Bool → Name → Name → Name → Cover → Table
merged_by same a b output c = if same then table_with (a ∷ []) output
    (unary_cover (cover_value c (false ∷ false ∷ [])) (cover_value c (true ∷ true ∷ [])))
    else table_with (a ∷ b ∷ []) output c

pair_cost : (same : Bool) (a b output : Name) (c e : Cover) →
    ((x y : Bool) → cover_value e (x ∷ y ∷ []) ≡ cover_value c (x ∷ y ∷ [])) →
    cover_cost (merged_by same a b output e).cover (merged_by same a b output e).inputs ≡
    cover_cost (merged_by same a b output c).cover (merged_by same a b output c).inputs
pair_cost true a b output c e each = rw (each false false, each true true) refl
pair_cost false a b output c e each =
    rw (each false false, each false true, each true false, each true true) refl

cost_by : (inputs : List Name) (output : Name) (c : Cover) → c.width ≡ length inputs → IsSameCover c (least_cover c) →
    table_cost (table_with inputs output (least_cover c)) ≡ table_cost (table_with inputs output c)
unfolding table_cost merged_table
cost_by [] output c width kept = refl
cost_by (a ∷ []) output c width kept =
    ap (λ (e : Cover). unary_cost (unary_word e)) (other_width c (ap (λ (k : ℕ). k == 2) width))
cost_by (a ∷ b ∷ []) output c width kept =
    pair_cost (is_same a b) a b output c (least_cover c) (λ x y. kept.value (x ∷ y ∷ []) (sym width))
cost_by (a ∷ b ∷ d ∷ inputs) output c width kept =
    ap (λ (e : Cover). cover_cost e (a ∷ b ∷ d ∷ inputs))
    (other_width c (ne_eqb c.width 2 (λ (e : c.width ≡ 2). omega (arith, e, width))))

costs_same : (ts : List Table) → All IsTable ts → All IsKept ts →
    sum_by table_cost (map least_table ts) ≡ sum_by table_cost ts
costs_same [] are kept = refl
costs_same (t ∷ ts) are kept =
    omega (
      arith,
      sum_by-cons table_cost t ts,
      sum_by-cons table_cost (least_table t) (map least_table ts),
      cost_by t.inputs t.output t.cover (All-head IsTable t ts are).width (All-head IsKept t ts kept),
      costs_same ts (All-tail IsTable t ts are) (All-tail IsKept t ts kept),
    )

pub cost_same : (d : Document) → IsWellFormed d → All IsKept d.tables → cost (least d) ≡ cost d
unfolding cost
cost_same d well kept = costs_same d.tables well.tables kept

-- ---- dependence

-- a table of the least document, and the table that it was
was_at : (ts : List Table) (i : ℕ) (t : Table) → slice_get (map least_table ts) i ≡ Some t →
    (u : Table) × (slice_get ts i ≡ Some u) × (least_table u ≡ t)
was_at [] i t at = absurd cc
was_at (u ∷ ts) zero t at = (u, refl, some_same (least_table u) t at) where
  some_same : (x y : Table) → Some x ≡ Some y → x ≡ y
  some_same x y e = cc
was_at (u ∷ ts) (suc i) t at = was_at ts i t at

reads_same : (d : Document) (i j : ℕ) → ReadsTable (least d) i j → ReadsTable d i j
reads_same d i j reads =
    let reader = was_at d.tables i reads.reader reads.is_reader in
    let driver = was_at d.tables j reads.driver reads.is_driver in
    record {
      reader = reader.0;
      is_reader = reader.1;
      driver = driver.0;
      is_driver = driver.1;
      read = subst (λ (t : Table). has t.inputs driver.0.output ≡ true) (sym reader.2)
          (subst (λ (t : Table). has reads.reader.inputs t.output ≡ true) (sym driver.2) reads.read);
    }

depends_same : (d : Document) (i j : ℕ) → DependsOn (least d) i j → DependsOn d i j
depends_same d _ _ (at_once i j reads) = at_once i j (reads_same d i j reads)
depends_same d _ _ (by_way_of i j k reads more) = by_way_of i j k (reads_same d i j reads) (depends_same d j k more)

-- ---- the document

pub well_same : (d : Document) → IsWellFormed d → All IsKept d.tables → IsWellFormed (least d)
well_same d well kept = record {
  model = well.model;
  inputs = well.inputs;
  outputs = well.outputs;
  clocks = well.clocks;
  latches = well.latches;
  tables = tables_same d.tables well.tables kept;
  controls = subst (λ (ns : List Name). All (λ (l : LatchLine). IsFreeOf ns l.latch.control) d.latches)
      (sym (outputs_same d.tables)) well.controls;
  gates = omega (arith, well.gates, cost_same d well kept);
  driven_once = subst (λ (ns : List Name). are_distinct ns ≡ true) (sym (driven_same d)) well.driven_once;
  used_driven = subst (λ (ns : List Name). All (λ n. has ns n ≡ true) (used_names (least d))) (sym (driven_same d))
      (subst (λ (ns : List Name). All (λ n. has (driven_names d) n ≡ true) ns) (sym (used_same d)) well.used_driven);
  acyclic = λ i depends. well.acyclic i (depends_same d i i depends);
}

pub spelling_same : (d : Document) → IsWellFormed d → All IsKept d.tables → IsBlifSpelling (least d)
spelling_same d well kept = record {
  model = well.model;
  inputs = well.inputs;
  outputs = well.outputs;
  clocks = well.clocks;
  latches = well.latches;
  tables = spelled_same d.tables well.tables kept;
}

-- ---- values

value_same : (v : Name → Bool) (t : Table) → IsTable t → IsKept t →
    cover_value (least_cover t.cover) (map v t.inputs) ≡ cover_value t.cover (map v t.inputs)
value_same v t is kept = kept.value (map v t.inputs) (length-map t.inputs v ∙ sym is.width)

holds_was : (v : Name → Bool) (ts : List Table) → All IsTable ts → All IsKept ts →
    All (HoldsIn v) (map least_table ts) → All (HoldsIn v) ts
holds_was v [] are kept all = All-nil (HoldsIn v)
holds_was v (t ∷ ts) are kept all =
    All-cons (HoldsIn v) t ts
    (All-head (HoldsIn v) (least_table t) (map least_table ts) all
    ∙ value_same v t (All-head IsTable t ts are) (All-head IsKept t ts kept))
    (holds_was v ts (All-tail IsTable t ts are) (All-tail IsKept t ts kept)
    (All-tail (HoldsIn v) (least_table t) (map least_table ts) all))

holds_again : (v : Name → Bool) (ts : List Table) → All IsTable ts → All IsKept ts → All (HoldsIn v) ts →
    All (HoldsIn v) (map least_table ts)
holds_again v [] are kept all = All-nil (HoldsIn v)
holds_again v (t ∷ ts) are kept all =
    All-cons (HoldsIn v) (least_table t) (map least_table ts)
    (All-head (HoldsIn v) t ts all
    ∙ sym (value_same v t (All-head IsTable t ts are) (All-head IsKept t ts kept)))
    (holds_again v ts (All-tail IsTable t ts are) (All-tail IsKept t ts kept) (All-tail (HoldsIn v) t ts all))

valuation_was : (d : Document) (given v : Name → Bool) → IsWellFormed d → All IsKept d.tables →
    IsValuationOf (least d) given v → IsValuationOf d given v
valuation_was d given v well kept is = record {
  sources = is.sources;
  tables = holds_was v d.tables well.tables kept is.tables;
}

valuation_again : (d : Document) (given v : Name → Bool) → IsWellFormed d → All IsKept d.tables →
    IsValuationOf d given v → IsValuationOf (least d) given v
valuation_again d given v well kept is = record {
  sources = is.sources;
  tables = holds_again v d.tables well.tables kept is.tables;
}

one_same : (d : Document) (given : Name → Bool) → IsWellFormed d → All IsKept d.tables → HasOneValuation d given →
    HasOneValuation (least d) given
one_same d given well kept has_one = record {
  some = (has_one.some.0, valuation_again d given has_one.some.0 well kept has_one.some.1);
  one = λ v w is_v is_w. subst (λ (ns : List Name). All (λ n. v n ≡ w n) ns) (sym (driven_same d))
      (has_one.one v w (valuation_was d given v well kept is_v) (valuation_was d given w well kept is_w));
}

pub describes_same : (d : Document) (c : Circuit) → IsWellFormed d → All IsKept d.tables → Describes d c →
    Describes (least d) c
describes_same d c well kept describes = record {
  inputs = describes.inputs;
  outputs = describes.outputs;
  clocks = describes.clocks;
  latches = describes.latches;
  one = λ given. one_same d given well kept (describes.one given);
  sinks = λ given v is. describes.sinks given v (valuation_was d given v well kept is);
}
