-- The reply to a text that was improved by wishes.
use Rattle.std.specs.Prelude.{◌≡◌, ℕ, List}
use Rattle.format_names.specs.declared.formats.NetFormat.{NetFormat}
use Rattle.wish_names.specs.declared.wishes.FormAsked.{FormAsked}
use Rattle.improve_wishes.specs.declared.texts.WishedText.{WishedText}
use Rattle.improve_wishes.specs.declared.texts.WishedText.TheVariants.{Text, Cannot, TooMany}
use Rattle.frame_core.specs.Reported.{Reply}
use Rattle.cmd_improve.specs.ImproveReport.{improve_reply}
use Rattle.cmd_wishes.specs.WishReport.{plain_text, KeepsSections, IsInForm, cannot_line, too_large_line, without_text}

-- The answer stands for the text, in the sections of the bytes that were read, and in the form that is wanted.
pub record StandsFor (format : NetFormat) (form : FormAsked) (bytes text report : List ℕ) (reply : Reply) : Type 0 where
  pub answer : List ℕ
  pub stands : plain_text format answer ≡ text
  pub sections : KeepsSections format bytes answer
  pub in_form : IsInForm format form bytes answer
  pub is : reply ≡ improve_reply (record { text = answer; report = report })

abbrev pub IsReplyOf : NetFormat → FormAsked → List ℕ → WishedText → Reply → Type 0
IsReplyOf format form bytes (Text i) reply = StandsFor format form bytes i.text.items i.report.items reply
IsReplyOf format form bytes (Cannot name) reply = reply ≡ without_text (cannot_line name.items)
IsReplyOf format form bytes TooMany reply = reply ≡ without_text too_large_line
