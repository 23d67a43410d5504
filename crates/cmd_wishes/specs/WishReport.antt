-- The task of `improve` by wishes.
use Rattle.std.specs.Prelude.{◌≡◌, ℕ, ◌≤◌, List, [], ◌++◌, length, Bool, true, false, Some, codes}
use Rattle.net_theory.specs.Limits.{most_of_netlist}
use Rattle.net_core.specs.declared.error.NetError.{NetError}
use Rattle.net_document.specs.Format.{Format, HasNetFault}
use Rattle.aiger_binary.specs.Ascii.{is_binary}
use Rattle.aiger_sections.specs.Plain.{plain_in, sections_in}
use Rattle.format_names.specs.declared.formats.NetFormat.{NetFormat}
use Rattle.format_names.specs.declared.formats.NetFormat.TheVariants.{Blif, Bench, Aiger}
use Rattle.net_formats.specs.Formats.{format_of}
use Rattle.settings.specs.declared.improve.ImproveSettings.{ImproveSettings}
use Rattle.wish_names.specs.declared.wishes.Wishes.{Wishes}
use Rattle.wish_names.specs.declared.wishes.FormAsked.{FormAsked}
use Rattle.wish_names.specs.declared.wishes.FormAsked.TheVariants as forms
use Rattle.equiv_run.specs.Two.{is_bare}
use Rattle.improve_wishes.specs.Covers.{blif_in}
use Rattle.improve_wishes.specs.Wished.{IsWished, IsCannotExpress, IsTooLarge}
use Rattle.frame_core.specs.declared.status.Status.TheVariants.{Refused}
use Rattle.frame_core.specs.Reported.{Reply}
use Rattle.frame_core.specs.Task.{Task, at_once}
use Rattle.cmd_improve.specs.ImproveReport.{Improvement, improve_reply}
use Rattle.cmd_improve.specs.NamedReport.{NamedFault, Empty, Faulty, IsEmpty, named_refusal}

-- ---- the form of AIGER

-- the binary form: that of the text that was read, or as is wished
abbrev pub wants_binary_form : FormAsked → List ℕ → Bool
wants_binary_form forms.Given bytes = is_binary bytes
wants_binary_form forms.Ascii bytes = false
wants_binary_form forms.Binary bytes = true

-- The plain text of an answer. Of BLIF and BENCH it is the answer itself.
abbrev pub plain_text : NetFormat → List ℕ → List ℕ
plain_text Blif text = text
plain_text Bench text = text
plain_text Aiger text = plain_in text

-- Where the ASCII form is wished for, the answer has it, and so it does to an ASCII file where no form is wished for.
abbrev pub IsInForm : NetFormat → FormAsked → List ℕ → List ℕ → Type 0
IsInForm Aiger form bytes text = wants_binary_form form bytes ≡ false → is_binary text ≡ false
IsInForm format form bytes text = Unit {0}

-- An AIGER file has as many outputs, bad states and constraints as the one that was read.
abbrev pub KeepsSections : NetFormat → List ℕ → List ℕ → Type 0
KeepsSections Aiger bytes text = sections_in text ≡ sections_in bytes
KeepsSections format bytes text = Unit {0}

-- ---- answers

-- the format that is written: BLIF has the covers that are wished for
abbrev pub wished_format : NetFormat → Wishes → Format
wished_format Blif w = blif_in w.covers
wished_format Bench w = format_of Bench
wished_format Aiger w = format_of Aiger

-- the wishes that the format can have: AIGER has gates of its own, and its words are refused with `--only` (`wish_words`)
abbrev pub wishes_for : NetFormat → Wishes → Wishes
wishes_for Blif w = w
wishes_for Bench w = w
wishes_for Aiger w = record w { only = false }

-- an improved netlist; a gate that the basis can't express, by its name; too many gates over the basis
pub data WishAnswer : Type 0 where
  Improved : (improvement : Improvement) → WishAnswer
  CannotExpress : (name : List ℕ) → WishAnswer
  TooLarge : WishAnswer

-- Example: `error: CannotExpress g4`
unfoldable pub cannot_line : List ℕ → List ℕ
cannot_line name = codes "error: CannotExpress " ++ name ++ codes "\n"

unfoldable pub too_large_line : List ℕ
too_large_line = codes "error: TooManyOverBasis\n"

-- no text, and a line that says why
abbrev pub without_text : List ℕ → Reply
without_text line = record { text = []; report = Some line; status = Refused }

abbrev pub wish_reply : WishAnswer → Reply
wish_reply (Improved i) = improve_reply i
wish_reply (CannotExpress name) = without_text (cannot_line name)
wish_reply TooLarge = without_text too_large_line

-- The text is improved by the wishes, in the same format; or the basis can't express one of its gates, or it could have
-- too many over the basis.
abbrev pub IsAnswer : NetFormat → ImproveSettings → Wishes → List ℕ → WishAnswer → Type 0
IsAnswer format settings w bytes (Improved i) =
    IsWished (wished_format format w) settings (wishes_for format w) bytes (plain_text format i.text) i.report ×
    KeepsSections format bytes i.text ×
    IsInForm format w.form bytes i.text
IsAnswer format settings w bytes (CannotExpress name) =
    IsCannotExpress (wished_format format w) settings (wishes_for format w) bytes name
IsAnswer format settings w bytes TooLarge = IsTooLarge (wished_format format w) settings (wishes_for format w) bytes

-- The text isn't empty, and is a netlist, which has this answer.
pub record IsWishAnswer (format : NetFormat) (settings : ImproveSettings) (w : Wishes) (bytes : List ℕ)
    (answer : WishAnswer) : Type 0 where
  pub within : length bytes ≤ most_of_netlist
  pub said : is_bare bytes ≡ false
  pub is : IsAnswer format settings w bytes answer

-- ---- faults

-- The text isn't a netlist of the format, and this is its first fault.
pub record IsFaulty (format : NetFormat) (bytes : List ℕ) (error : NetError) : Type 0 where
  pub within : length bytes ≤ most_of_netlist
  pub said : is_bare bytes ≡ false
  pub fault : HasNetFault (format_of format) bytes error

-- An empty text is reported before any other fault.
abbrev pub HasWishFault : NetFormat → List ℕ → NamedFault → Type 0
HasWishFault format bytes Empty = IsEmpty bytes
HasWishFault format bytes (Faulty error) = IsFaulty format bytes error

abbrev pub wished_task : NetFormat → ImproveSettings → Wishes → Task
wished_task format settings w = at_once most_of_netlist WishAnswer (IsWishAnswer format settings w) wish_reply
    NamedFault (HasWishFault format) named_refusal
