-- Two netlists, each a text of its own in a format of its own: the answers and the refusals.
use Rattle.std.specs.Prelude.{◌≡◌, ℕ, ◌≤◌, Bool, true, false, List, Option, Ok}
use Rattle.net_theory.specs.Document.{Document}
use Rattle.net_theory.specs.Cost.{cost}
use Rattle.net_theory.specs.WellFormed.{IsWellFormed}
use Rattle.net_document.specs.Listed.{Listed}
use Rattle.net_document.specs.Format.{Format, IsNetlist, HasNetFault}
use Rattle.aiger_sections.specs.Plain.{sections_in, are_same}
use Rattle.format_names.specs.declared.formats.NetFormat.{NetFormat}
use Rattle.format_names.specs.declared.formats.NetFormat.TheVariants.{Blif, Bench, Aiger}
use Rattle.format_names.specs.declared.formats.FormatPair.{FormatPair}
use Rattle.net_formats.specs.Formats.{format_of}
use Rattle.equiv_run.specs.declared.answer.EquivOutcome.{EquivOutcome}
use Rattle.equiv_run.specs.declared.answer.CompareError.{CompareError}
use Rattle.equiv_run.specs.declared.answer.CompareError.TheVariants.{NoSecond, First, Second, DifferentInterface}
use Rattle.equiv_run.specs.declared.answer.CompareError.TheVariants.{Memory}
use Rattle.equiv_run.specs.Pairs.{ShareInterface}
use Rattle.equiv_run.specs.Two.{has_no_sink}
use Rattle.equiv_values.specs.Named.{IsNamedAnswer}

-- The text is a netlist in the format, within its limit of gates, and this is its document.
pub record Lists (f : Format) (bytes : List ℕ) (d : Document) : Type 0 where
  pub listed : Listed
  pub said : f.listed bytes ≡ Ok listed
  pub is : listed.document ≡ d
  pub within : cost d ≤ f.most
  pub well : IsWellFormed d

-- the formats of the two texts
abbrev pub first_format : FormatPair → Format
first_format p = format_of p.first

abbrev pub second_format : FormatPair → Format
second_format p = format_of p.second

-- The texts are two netlists, each in its format, with these documents.
pub record AreNetlists (p : FormatPair) (first second : List ℕ) (one other : Document) : Type 0 where
  pub first_is : Lists (first_format p) first one
  pub second_is : Lists (second_format p) second other

-- whether two AIGER texts have as many outputs, bad states and constraints; beside another format all are outputs
abbrev pub share_sections : NetFormat → NetFormat → List ℕ → List ℕ → Bool
share_sections Aiger Aiger first second = are_same (sections_in first) (sections_in second)
share_sections Aiger Blif first second = true
share_sections Aiger Bench first second = true
share_sections Blif other first second = true
share_sections Bench other first second = true

abbrev pub ShareSections : FormatPair → List ℕ → List ℕ → Type 0
ShareSections p first second = share_sections p.first p.second first second ≡ true

-- The texts are two netlists of one interface, `text` is the answer for their documents, and `told` what is told of a
-- difference by names.
pub record IsFormatsAnswer (p : FormatPair) (budget : ℕ) (first second text : List ℕ) (told : Option (List ℕ)) (outcome : EquivOutcome) : Type 0 where
  pub one : Document
  pub other : Document
  pub are : AreNetlists p first second one other
  pub interface : ShareInterface one other
  pub sections : ShareSections p first second
  pub reported : IsNamedAnswer budget one other text told outcome

-- The answer says whether the netlist of the text has neither an output nor a latch.
abbrev pub SaysNoSink : Format → List ℕ → Bool → Type 0
SaysNoSink f bytes no_sink = (d : Document) → Lists f bytes d → no_sink ≡ has_no_sink d

-- a fault of the second text, while the first has none
pub record HasLaterFault (f : Format) (first second : List ℕ) (P : List ℕ → Type 0) : Type 0 where
  pub first_is : IsNetlist f first
  pub fault : P second

-- two netlists of different interfaces, or different sections
pub record DifferInInterface (p : FormatPair) (first second : List ℕ) : Type 0 where
  pub one : Document
  pub other : Document
  pub are : AreNetlists p first second one other
  pub differ : ShareInterface one other → ShareSections p first second → ⊥

-- Why the texts can't be compared. Out of memory isn't such a reason, and none of them lacks a second one.
abbrev pub HasFormatsFault : FormatPair → List ℕ → List ℕ → CompareError → Type 0
HasFormatsFault p first second NoSecond = ⊥
HasFormatsFault p first second (First e) = HasNetFault (first_format p) first e
HasFormatsFault p first second (Second e) = HasLaterFault (first_format p) first second
    (λ bytes. HasNetFault (second_format p) bytes e)
HasFormatsFault p first second DifferentInterface = DifferInInterface p first second
HasFormatsFault p first second Memory = ⊥

-- Running out of memory is always allowed.
abbrev pub IsFormatsRefused : FormatPair → List ℕ → List ℕ → CompareError → Type 0
IsFormatsRefused p first second NoSecond = ⊥
IsFormatsRefused p first second (First e) = HasFormatsFault p first second (First e)
IsFormatsRefused p first second (Second e) = HasFormatsFault p first second (Second e)
IsFormatsRefused p first second DifferentInterface = HasFormatsFault p first second DifferentInterface
IsFormatsRefused p first second Memory = Unit {0}

-- Why the first netlist is refused, and the second.
abbrev pub IsFirstRefused : Format → List ℕ → CompareError → Type 0
IsFirstRefused f bytes (First e) = HasNetFault f bytes e
IsFirstRefused f bytes Memory = Unit {0}
IsFirstRefused f bytes NoSecond = ⊥
IsFirstRefused f bytes (Second e) = ⊥
IsFirstRefused f bytes DifferentInterface = ⊥

abbrev pub IsSecondRefused : Format → List ℕ → CompareError → Type 0
IsSecondRefused f bytes (Second e) = HasNetFault f bytes e
IsSecondRefused f bytes Memory = Unit {0}
IsSecondRefused f bytes NoSecond = ⊥
IsSecondRefused f bytes (First e) = ⊥
IsSecondRefused f bytes DifferentInterface = ⊥

-- Why two netlists are refused for their sections.
abbrev pub AreSectionsRefused : FormatPair → List ℕ → List ℕ → CompareError → Type 0
AreSectionsRefused p first second DifferentInterface = share_sections p.first p.second first second ≡ false
AreSectionsRefused p first second Memory = Unit {0}
AreSectionsRefused p first second NoSecond = ⊥
AreSectionsRefused p first second (First e) = ⊥
AreSectionsRefused p first second (Second e) = ⊥
