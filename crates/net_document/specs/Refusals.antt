-- The errors that are found after a document is parsed, in the order in which they are tested and reported.
use Rattle.std.specs.Prelude.{◌≡◌, ℕ, ◌++◌, ◌∷◌, [], List, nat_lt, if◌then◌else◌, Option, Some, None}
use Rattle.net_theory.specs.Document.{Name, has}
use Rattle.net_theory.specs.Cost.{cost}
use Rattle.net_theory.specs.Dependence.{IsFirstCyclic}
use Rattle.net_core.specs.declared.error.NetError.{NetError}
use Rattle.net_core.specs.declared.error.NetError.TheVariants.{Memory, TooManyGates, DrivenTwice, Undriven, Cycle}
use Rattle.net_document.specs.Listed.{Listed}

-- the first name that occurs earlier in the list
-- Example: of a, b, c, b, a it is b.
unfoldable pub repeated : List Name → List Name → Option Name
repeated before [] = None
repeated before (n ∷ ns) = if has before n then Some n else repeated (before ++ n ∷ []) ns

-- the first name of a list that isn't driven
unfoldable pub missing : List Name → List Name → Option Name
missing driven [] = None
missing driven (n ∷ ns) = if has driven n then missing driven ns else Some n

abbrev pub undriven_in : Option Name → Option NetError
undriven_in None = None
undriven_in (Some n) = Some (Undriven n)

abbrev pub twice_or : Option Name → Option NetError → Option NetError
twice_or None next = next
twice_or (Some n) next = Some (DrivenTwice n)

-- The first of these errors: more gates than `most`; the first name that is driven a second time; the first
-- undriven name that a table or a latch reads; the first undriven output.
unfoldable pub fault_of : ℕ → Listed → Option NetError
fault_of most l = if nat_lt most (cost l.document) then Some (TooManyGates (cost l.document))
    else twice_or (repeated [] l.driven) (undriven_in (missing l.driven (l.used ++ l.document.outputs)))

-- The document may be refused with this error, where it may have `most` gates. A combinational loop is reported only
-- if there is no other fault. Out of memory is always possible.
abbrev pub IsRefusedListing : ℕ → Listed → NetError → Type 0
IsRefusedListing most l Memory = Unit {0}
IsRefusedListing most l (Cycle name) = (fault_of most l ≡ None) × IsFirstCyclic l.document name
IsRefusedListing most l e = fault_of most l ≡ Some e

-- the error is the fault or out of memory
abbrev pub IsReportOf : NetError → Option NetError → Type 0
IsReportOf Memory fault = Unit {0}
IsReportOf e fault = fault ≡ Some e
