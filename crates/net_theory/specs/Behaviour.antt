-- The behaviour of a netlist: its outputs and next states under every assignment; equivalence of netlists.
use Rattle.std.specs.Prelude.{◌≡◌, Bool, map, All}
use Rattle.net_theory.specs.Cover.{cover_value}
use Rattle.net_theory.specs.Document.{Name, Table, Document, source_names, sink_names, driven_names, latches_of}

-- `v` is a valuation: it gives each name a bit. A table holds in `v` if its output has the cover's value at
-- the bits of its inputs.
abbrev pub HoldsIn : (Name → Bool) → Table → Type 0
HoldsIn v t = v t.output ≡ cover_value t.cover (map v t.inputs)

-- the valuation agrees with `given` on the inputs and the latches' outputs, and each table holds in it
pub record IsValuationOf (d : Document) (given v : Name → Bool) : Type 0 where
  pub sources : All (λ n. v n ≡ given n) (source_names d)
  pub tables : All (HoldsIn v) d.tables

-- Such a valuation exists for `given`, and any two of them agree on all driven names.
pub record HasOneValuation (d : Document) (given : Name → Bool) : Type 0 where
  pub some : (v : Name → Bool) × IsValuationOf d given v
  pub one : (v w : Name → Bool) → IsValuationOf d given v → IsValuationOf d given w → All (λ n. v n ≡ w n) (driven_names d)

-- Equivalence of two netlists: the same interface and the same behaviour. Their inputs, outputs and clocks
-- are the same names in the same order, and their latches agree in order, output, control and initial
-- value. Under every assignment of the inputs and the latches' outputs, each has exactly one valuation (on
-- driven names), and the two agree on the outputs and the latches' inputs.
pub record IsEquivalent (d e : Document) : Type 0 where
  pub inputs : d.inputs ≡ e.inputs
  pub outputs : d.outputs ≡ e.outputs
  pub clocks : d.clocks ≡ e.clocks
  pub latches : latches_of d ≡ latches_of e
  pub first_has_one : (given : Name → Bool) → HasOneValuation d given
  pub second_has_one : (given : Name → Bool) → HasOneValuation e given
  pub sinks : (given v w : Name → Bool) → IsValuationOf d given v → IsValuationOf e given w →
      map v (sink_names d) ≡ map w (sink_names e)
