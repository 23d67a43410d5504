-- Two netlists, each in a text of its own: the answers and the refusals.
use Rattle.std.specs.Prelude.{◌≡◌, ℕ, ◌&&◌, ◌==◌, Bool, true, List, [], ◌∷◌, length}
use Rattle.text_core.specs.Lines.{Line, lines_of}
use Rattle.net_theory.specs.Document.{Name, Latch, Document, latches_of}
use Rattle.net_document.specs.Contents.{is_nothing, content_of}
use Rattle.net_document.specs.Format.{IsNetlist, HasNetFault}
use Rattle.blif_core.specs.Blif.{blif_format}
use Rattle.equiv_run.specs.declared.answer.EquivOutcome.{EquivOutcome}
use Rattle.equiv_run.specs.declared.answer.CompareError.{CompareError}
use Rattle.equiv_run.specs.declared.answer.CompareError.TheVariants.{NoSecond, First, Second, DifferentInterface}
use Rattle.equiv_run.specs.declared.answer.CompareError.TheVariants.{Memory}
use Rattle.equiv_run.specs.Pairs.{Lists, ShareInterface, IsDocumentAnswer}

-- ---- texts that say nothing

-- Each line is blank or a comment.
unfoldable pub say_nothing : List Line → Bool
say_nothing [] = true
say_nothing (l ∷ ls) = is_nothing (content_of l) && say_nothing ls

-- A text without a directive, which a command that failed leaves behind.
abbrev pub is_bare : List ℕ → Bool
is_bare bytes = say_nothing (lines_of bytes)

-- ---- answers and refusals

-- The texts are two netlists of one interface, and the text is the answer for them.
pub record IsTwoAnswer (budget : ℕ) (first second text : List ℕ) (outcome : EquivOutcome) : Type 0 where
  pub one : Document
  pub other : Document
  pub first_is : Lists first one
  pub second_is : Lists second other
  pub interface : ShareInterface one other
  pub reported : IsDocumentAnswer budget one other text outcome

-- neither outputs nor latches
abbrev pub lacks_sinks : List Name → List Latch → Bool
lacks_sinks outputs latches = (length outputs == 0) && (length latches == 0)

abbrev pub has_no_sink : Document → Bool
has_no_sink d = lacks_sinks d.outputs (latches_of d)

-- The answer says whether the netlist of the text has neither an output nor a latch.
abbrev pub SaysNoSink : List ℕ → Bool → Type 0
SaysNoSink bytes no_sink = (d : Document) → Lists bytes d → no_sink ≡ has_no_sink d

-- a fault of the second text, while the first has none
pub record HasLaterFault (first second : List ℕ) (P : List ℕ → Type 0) : Type 0 where
  pub first_is : IsNetlist blif_format first
  pub fault : P second

-- two netlists of different interfaces
pub record DifferInInterface (first second : List ℕ) : Type 0 where
  pub one : Document
  pub other : Document
  pub first_is : Lists first one
  pub second_is : Lists second other
  pub differ : ShareInterface one other → ⊥

-- Why the texts can't be compared. Out of memory isn't such a reason, and none of them lacks a second one.
abbrev pub HasTwoFault : List ℕ → List ℕ → CompareError → Type 0
HasTwoFault first second NoSecond = ⊥
HasTwoFault first second (First e) = HasNetFault blif_format first e
HasTwoFault first second (Second e) = HasLaterFault first second (λ bytes. HasNetFault blif_format bytes e)
HasTwoFault first second DifferentInterface = DifferInInterface first second
HasTwoFault first second Memory = ⊥

-- Running out of memory is always allowed.
abbrev pub IsTwoRefused : List ℕ → List ℕ → CompareError → Type 0
IsTwoRefused first second NoSecond = ⊥
IsTwoRefused first second (First e) = HasTwoFault first second (First e)
IsTwoRefused first second (Second e) = HasTwoFault first second (Second e)
IsTwoRefused first second DifferentInterface = HasTwoFault first second DifferentInterface
IsTwoRefused first second Memory = Unit {0}
