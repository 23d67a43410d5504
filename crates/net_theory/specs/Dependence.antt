-- Dependence among tables, and combinational loops.
use Rattle.std.specs.Prelude.{◌≡◌, ℕ, ◌<◌, slice_get, Some, true}
use Rattle.net_theory.specs.Document.{Name, Table, Document, has}

-- Table i reads table j: the output of j is among the inputs of i. Tables are numbered from 0, in the
-- order of the text.
pub record ReadsTable (d : Document) (i j : ℕ) : Type 0 where
  pub reader : Table
  pub is_reader : slice_get d.tables i ≡ Some reader
  pub driver : Table
  pub is_driver : slice_get d.tables j ≡ Some driver
  pub read : has reader.inputs driver.output ≡ true

-- Table i depends on table j where j is in its transitive fanin: it reads j, or a table that
-- depends on j.
pub data DependsOn (d : Document) : ℕ → ℕ → Type 0 where
  at_once : (i j : ℕ) → ReadsTable d i j → DependsOn d i j
  by_way_of : (i j k : ℕ) → ReadsTable d i j → DependsOn d j k → DependsOn d i k

-- No combinational loop: no table depends on itself. (A latch breaks a loop, since its output is a source.)
abbrev pub IsAcyclic : Document → Type 0
IsAcyclic d = (i : ℕ) → DependsOn d i i → ⊥

-- `name` is the output of the first table, in the order of the text, that depends on itself
-- Example: of `.names a n2 n1` and `.names n1 n2` that is n1.
pub record IsFirstCyclic (d : Document) (name : Name) : Type 0 where
  pub node : ℕ
  pub table : Table
  pub at : slice_get d.tables node ≡ Some table
  pub output : table.output ≡ name
  pub cyclic : DependsOn d node node
  pub first : (i : ℕ) → i < node → DependsOn d i i → ⊥
