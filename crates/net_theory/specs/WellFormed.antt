-- Well-formed documents: those that the readers accept.
use Rattle.std.specs.Prelude.{◌≡◌, ℕ, ◌≤◌, true, false, List, length, map, All, Option, Some, None}
use Rattle.net_theory.specs.declared.data.Trigger.{Trigger}
use Rattle.net_theory.specs.Cover.{IsCover}
use Rattle.net_theory.specs.Document.{Name, IsName, has, are_distinct, Table, Latch, LatchLine, Document, driven_names}
use Rattle.net_theory.specs.Document.{used_names, table_output}
use Rattle.net_theory.specs.Dependence.{IsAcyclic}
use Rattle.net_theory.specs.Cost.{cost}
use Rattle.net_theory.specs.Limits.{most_gates, most_table_inputs, most_cubes}

abbrev pub IsControl : Option (Trigger × Name) → Type 0
IsControl None = Unit {0}
IsControl (Some c) = IsName c.1

abbrev pub IsInit : Option ℕ → Type 0
IsInit None = Unit {0}
IsInit (Some init) = init ≤ 3

pub record IsLatch (l : Latch) : Type 0 where
  pub output : IsName l.output
  pub control : IsControl l.control
  pub init : IsInit l.init

pub record IsLatchLine (l : LatchLine) : Type 0 where
  pub input : IsName l.input
  pub latch : IsLatch l.latch

-- a table whose cubes have one byte for each input, with at most 256 inputs and 4,096 cubes
pub record IsTable (t : Table) : Type 0 where
  pub inputs : All IsName t.inputs
  pub output : IsName t.output
  pub width : t.cover.width ≡ length t.inputs
  pub cover : IsCover t.cover
  pub narrow : length t.inputs ≤ most_table_inputs
  pub few : length t.cover.cubes ≤ most_cubes

-- the control isn't among the names
abbrev pub IsFreeOf : List Name → Option (Trigger × Name) → Type 0
IsFreeOf names None = Unit {0}
IsFreeOf names (Some c) = has names c.1 ≡ false

-- Names, tables and latches are within their limits, no table drives a control, the tables decompose into
-- at most 1,000,000 gates, no name is driven twice, each used name is driven, and there is no combinational
-- loop.
pub record IsWellFormed (d : Document) : Type 0 where
  pub model : IsName d.model
  pub inputs : All IsName d.inputs
  pub outputs : All IsName d.outputs
  pub clocks : All IsName d.clocks
  pub latches : All IsLatchLine d.latches
  pub tables : All IsTable d.tables
  pub controls : All (λ (l : LatchLine). IsFreeOf (map table_output d.tables) l.latch.control) d.latches
  pub gates : cost d ≤ most_gates
  pub driven_once : are_distinct (driven_names d) ≡ true
  pub used_driven : All (λ n. has (driven_names d) n ≡ true) (used_names d)
  pub acyclic : IsAcyclic d
