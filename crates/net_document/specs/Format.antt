-- Netlist formats as values: how a text is parsed, and how a circuit is written.
use Rattle.std.specs.Prelude.{◌≡◌, ℕ, ◌≤◌, ◌⊎◌, Bool, List, length, Result, Ok, Err, None}
use Rattle.net_theory.specs.Net.{Net}
use Rattle.net_theory.specs.Document.{Document}
use Rattle.net_theory.specs.WellFormed.{IsWellFormed}
use Rattle.net_theory.specs.Cost.{cost}
use Rattle.net_theory.specs.Circuit.{Circuit, IsProper, Describes, IsCircuitOf}
use Rattle.net_theory.specs.Implements.{Implements}
use Rattle.net_theory.specs.Operators.{HasOperatorsWithin}
use Rattle.net_theory.specs.ExchangeLaws.{with_net}
use Rattle.net_core.specs.Names.{HasRoomForNames}
use Rattle.net_core.specs.declared.error.NetError.{NetError}
use Rattle.net_core.specs.declared.error.NetError.TheVariants.{Memory}
use Rattle.net_document.specs.Listed.{Listed, IsWellListed}
use Rattle.net_document.specs.Refusals.{fault_of, IsRefusedListing}

-- `listed` parses a text, or gives the first error of its lines; `most` are the most gates of a netlist that is read;
-- `written` is the document that the writer makes of a circuit; `text` is the circuit's text; `operators` are the
-- operators that gates may have.
pub record Format : Type 0 where
  pub listed : List ℕ → Result Listed NetError
  pub written : Circuit → Document
  pub text : Circuit → List ℕ
  pub operators : ℕ → Bool
  pub most : ℕ

-- the format with another limit of gates
abbrev pub up_to : ℕ → Format → Format
up_to gates f = record f { most = gates }

-- ---- texts that are read

-- the text is a netlist: it lists a well-formed document within the limit of gates
pub record IsNetlist (f : Format) (bytes : List ℕ) : Type 0 where
  pub listed : Listed
  pub said : f.listed bytes ≡ Ok listed
  pub within : cost listed.document ≤ f.most
  pub well : IsWellFormed listed.document

-- The text lists a well-formed document without faults, and `c` is its circuit: equivalent to the document, with
-- the document's net and as many gates as the document costs.
pub record IsCircuitOfText (f : Format) (bytes : List ℕ) (c : Circuit) : Type 0 where
  pub listed : Listed
  pub said : f.listed bytes ≡ Ok listed
  pub good : fault_of f.most listed ≡ None
  pub well : IsWellFormed listed.document
  pub circuit : IsCircuitOf listed.document c

-- ---- texts that are refused

-- the first error of the lines, or, if they have none, the fault of the document
abbrev pub IsReported : Format → List ℕ → NetError → Type 0
IsReported f bytes e = (f.listed bytes ≡ Err e) ⊎ ((l : Listed) × (f.listed bytes ≡ Ok l) × IsRefusedListing f.most l e)

-- The error with which a text may be refused. Out of memory is possible for any text.
abbrev pub IsRefusedText : Format → List ℕ → NetError → Type 0
IsRefusedText f bytes Memory = Unit {0}
IsRefusedText f bytes e = IsReported f bytes e

-- a fault of a text: an error other than out of memory
abbrev pub HasNetFault : Format → List ℕ → NetError → Type 0
HasNetFault f bytes e = IsRefusedText f bytes e × (e ≡ Memory → ⊥)

-- ---- texts that are written

-- The bytes list the document `d`, in any order of the driven and used names.
pub record IsReadBack (f : Format) (bytes : List ℕ) (d : Document) : Type 0 where
  pub listed : Listed
  pub said : f.listed bytes ≡ Ok listed
  pub document : listed.document ≡ d
  pub is : IsWellListed listed

-- The bytes are a text of `c`: they list the document that the writer makes of `c`. The document is well formed
-- and without faults, has the model name of `c`, is equivalent to `c`, and costs at most as many gates as `c`
-- has. So it is read again where the limit of gates is no less than these.
pub record IsTextOf (f : Format) (bytes : List ℕ) (c : Circuit) : Type 0 where
  pub listed : Listed
  pub said : f.listed bytes ≡ Ok listed
  pub document : listed.document ≡ f.written c
  pub good : fault_of (length c.net.gates) listed ≡ None
  pub well : IsWellFormed listed.document
  pub model : listed.document.model ≡ c.model
  pub describes : Describes listed.document c
  pub cheap : cost listed.document ≤ length c.net.gates

-- ---- the guarantees of a format

-- Every listed name, latch and table is within its limits, and the lists of driven and used names match the
-- document.
abbrev pub ListsWell : Format → Type 0
ListsWell f = (bytes : List ℕ) (l : Listed) → f.listed bytes ≡ Ok l → IsWellListed l

-- each gate of m has an operator of the format, or that of a gate of n
abbrev pub CanOperate : Format → Net → Net → Type 0
CanOperate f n m = HasOperatorsWithin f.operators n m

-- Texts are parsed within the limits. A circuit that can be written is proper, and its text is read back. The
-- circuit of every text can be written, whatever the limit of gates (it has fewer than 2^63 names, as every circuit
-- that fits into memory), and it still can after its net is replaced by one that implements it with operators of
-- the format.
pub record IsFormat (f : Format) (CanWrite : Circuit → Type 0) : Type 0 where
  pub lists : ListsWell f
  pub proper : (c : Circuit) → CanWrite c → IsProper c
  pub read_back : (c : Circuit) → CanWrite c → IsTextOf f (f.text c) c
  pub kept : (gates : ℕ) (bytes : List ℕ) (c : Circuit) → IsCircuitOfText (up_to gates f) bytes c → HasRoomForNames c → CanWrite c
  pub exchanged : (c : Circuit) (m : Net) → CanWrite c → Implements c.net m → CanOperate f c.net m →
      CanWrite (with_net c m)
