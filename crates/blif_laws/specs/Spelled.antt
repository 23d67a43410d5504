-- Documents with a BLIF text.
use Rattle.std.specs.Prelude.{◌≡◌, true, false, [], All}
use Rattle.net_theory.specs.Document.{IsName, Table, Document}
use Rattle.net_theory.specs.WellFormed.{IsTable, IsLatchLine}

-- A table given by cubes. Without cubes no line tells whether `on` is true: it is read as true.
pub record IsSpelledTable (t : Table) : Type 0 where
  pub table : IsTable t
  pub on : t.cover.cubes ≡ [] → t.cover.on ≡ true
  pub cubes : t.cover.parity ≡ false

-- names, latches and tables are within their limits, and tables are given by cubes
pub record IsBlifSpelling (d : Document) : Type 0 where
  pub model : IsName d.model
  pub inputs : All IsName d.inputs
  pub outputs : All IsName d.outputs
  pub clocks : All IsName d.clocks
  pub latches : All IsLatchLine d.latches
  pub tables : All IsSpelledTable d.tables
