-- Netlists that correspond by names.
use Rattle.std.specs.Prelude.{◌≡◌, ℕ, if◌then◌else◌, Bool, true, List, [], ◌∷◌, map, slice_get, Option, Some, None}
use Rattle.std.specs.List.{filter_map}
use Rattle.net_theory.specs.Document.{Name, is_same, has, LatchLine, Document, latches_of, latch_output}
use Rattle.net_theory.specs.Behaviour.{IsValuationOf, HasOneValuation}

-- ---- names in any order

-- The two lists have the same names, in any order; an output may be listed twice.
abbrev pub HaveSameNames : List Name → List Name → Type 0
HaveSameNames ns ms = (n : Name) → has ns n ≡ has ms n

abbrev pub latch_names : Document → List Name
latch_names d = map latch_output (latches_of d)

-- Neither netlist lacks an input, an output or a latch of the other, by its name.
pub record ShareNames (d e : Document) : Type 0 where
  pub inputs : HaveSameNames d.inputs e.inputs
  pub outputs : HaveSameNames d.outputs e.outputs
  pub latches : HaveSameNames (latch_names d) (latch_names e)

-- ---- the second in the order of the first

-- the first latch with this output, and its input
unfoldable pub line_named : List LatchLine → Name → Option LatchLine
line_named [] n = None
line_named (l ∷ ls) n = if is_same l.latch.output n then Some l else line_named ls n

-- the netlist with these inputs and outputs, and its latches in the order of these names
abbrev pub ordered : List Name → List Name → List Name → Document → Document
ordered inputs outputs names e = record {
  model = e.model;
  inputs = inputs;
  outputs = outputs;
  clocks = e.clocks;
  latches = filter_map (line_named e.latches) names;
  tables = e.tables;
}

-- Example: of `.inputs b a` in the order of `.inputs a b` the inputs are `a b`, and each table is the same.
abbrev pub matched : Document → Document → Document
matched d e = ordered d.inputs d.outputs (latch_names d) e

-- ---- equivalence by names

-- The latches agree in control and initial value, and their next states under two valuations.
pub record AgreeOn (v w : Name → Bool) (l m : LatchLine) : Type 0 where
  pub same : l.latch ≡ m.latch
  pub next : v l.input ≡ w m.input

-- Neither lacks a name of the other, their clocks are the same, and under every assignment of bits to names each has
-- exactly one valuation, in which outputs of one name have one value and latches of one name agree.
pub record IsEquivalentByNames (d e : Document) : Type 0 where
  pub names : ShareNames d e
  pub clocks : d.clocks ≡ e.clocks
  pub first_has_one : (given : Name → Bool) → HasOneValuation d given
  pub second_has_one : (given : Name → Bool) → HasOneValuation e given
  pub outputs : (given v w : Name → Bool) → IsValuationOf d given v → IsValuationOf e given w → (n : Name) →
      has d.outputs n ≡ true → v n ≡ w n
  pub latches : (given v w : Name → Bool) → IsValuationOf d given v → IsValuationOf e given w → (i j : ℕ) (l m : LatchLine) →
      slice_get d.latches i ≡ Some l → slice_get e.latches j ≡ Some m → l.latch.output ≡ m.latch.output → AgreeOn v w l m
