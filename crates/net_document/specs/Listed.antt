-- A document with the order in which its text drives and reads names.
use Rattle.std.specs.Prelude.{◌≡◌, ℕ, ◌++◌, List, All, map, count_by}
use Rattle.net_theory.specs.Document.{Name, IsName, is_same, Document, LatchLine, table_output, driven_names}
use Rattle.net_theory.specs.Document.{used_names}
use Rattle.net_theory.specs.WellFormed.{IsLatchLine, IsTable, IsFreeOf}

-- A document, with the names that it drives and the names that its tables and latches read, both in the order of
-- the text. The document itself doesn't have this order, since it lists inputs, latches and tables separately.
pub record Listed : Type 0 where
  pub document : Document
  pub driven : List Name
  pub used : List Name

-- how often a name occurs in a list
unfoldable pub times : Name → List Name → ℕ
times n names = count_by (is_same n) names

-- Names, latches and tables are within their limits, and the lists have each name as often as the document drives
-- or uses it.
pub record IsWellListed (l : Listed) : Type 0 where
  pub model : IsName l.document.model
  pub inputs : All IsName l.document.inputs
  pub outputs : All IsName l.document.outputs
  pub clocks : All IsName l.document.clocks
  pub latches : All IsLatchLine l.document.latches
  pub tables : All IsTable l.document.tables
  pub driven : (n : Name) → times n l.driven ≡ times n (driven_names l.document)
  pub used : (n : Name) → times n (l.used ++ l.document.outputs) ≡ times n (used_names l.document)

-- no table drives a latch's control
abbrev pub AreControlsFree : Document → Type 0
AreControlsFree d = All (λ (l : LatchLine). IsFreeOf (map table_output d.tables) l.latch.control) d.latches
