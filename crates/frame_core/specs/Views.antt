-- The program's values, as contracts see them.
use Rattle.std.specs.Prelude.{◌≡◌, ℕ, List, [], ◌∷◌, ◌++◌, map, decimal, Option, Some, None, Result, Ok, Err, Vec}
use Rattle.std.specs.Global.{Global}
use Rattle.std.specs.Option.{option_map}
use Rattle.frame_core.specs.declared.status.Status.{Status}
use Rattle.frame_core.specs.declared.status.Status.TheVariants as statuses
use Rattle.frame_core.specs.declared.replies.Report.{Report}
use Rattle.frame_core.specs.declared.replies.Reply.{Reply}
use Rattle.frame_core.specs.declared.replies.ErrorLine.{ErrorLine}
use Rattle.frame_core.specs.declared.replies.Field.{Field}
use Rattle.frame_core.specs.declared.replies.Field.TheVariants.{Nothing, Known, Count, Name}
use Rattle.frame_core.specs.declared.replies.Refusal.{Refusal}
use Rattle.frame_core.specs.declared.replies.Stop.{Stop}
use Rattle.frame_core.specs.declared.replies.Stop.TheVariants.{NoMemory, NoAnswer}
use Rattle.frame_core.specs.declared.replies.RunEnd.{RunEnd}
use Rattle.frame_core.specs.declared.replies.RunEnd.TheVariants as ended
use Rattle.frame_core.specs.Reported as reported
use Rattle.frame_core.specs.Reported.{Word, Number, parted, read_fault, write_fault, too_long, memory}
use Rattle.frame_core.specs.Task.{Task, HasReply, Refuses}
use Rattle.frame_core.specs.Run.{Outcome, status_of, line_of}

-- the fields that aren't `Nothing`
unfoldable pub shown : List Field → List reported.Field
shown [] = []
shown (Nothing ∷ fs) = shown fs
shown (Known word ∷ fs) = Word word.now ∷ shown fs
shown (Count number ∷ fs) = Number number ∷ shown fs
shown (Name name ∷ fs) = Word name.items ∷ shown fs

abbrev pub line_value : ErrorLine → List reported.Field
line_value line = shown line.fields

-- a field's part of the line
abbrev pub part_text : Field → List ℕ
part_text Nothing = []
part_text (Known word) = 32 ∷ word.now
part_text (Count number) = 32 ∷ decimal number
part_text (Name name) = 32 ∷ name.items

unfoldable pub parts_text : List Field → List ℕ
parts_text [] = []
parts_text (f ∷ fs) = part_text f ++ parts_text fs

-- the bytes of each text
abbrev pub texts_of : List (Vec ℕ Global) → List (List ℕ)
texts_of texts = map (λ (text : Vec ℕ Global). text.items) texts

abbrev pub report_text : Report → List ℕ
report_text report = parted report.first.items (texts_of report.parts.items) report.last.items

abbrev pub reply_value : Reply → reported.Reply
reply_value reply = record { text = reply.text.items; report = option_map report_text reply.report; status = reply.status }

abbrev pub refusal_value : Refusal → reported.Refusal
refusal_value refusal = record { status = refusal.status; named = line_value refusal.line }

-- the status of a run that ended so, and the content of its error line
abbrev pub status_in : RunEnd → Status
status_in ended.ReadFault = statuses.ReadFault
status_in ended.TooLong = statuses.Limit
status_in ended.Memory = statuses.Memory
status_in (ended.Answered status) = status
status_in ended.Truncated = statuses.WriteFault
status_in ended.OutOfMemoryMidway = statuses.Memory
status_in ended.ReportTruncated = statuses.WriteFault
status_in (ended.NoAnswer refusal) = refusal.status

abbrev pub line_in : RunEnd → Option (List reported.Field)
line_in ended.ReadFault = Some read_fault
line_in ended.TooLong = Some too_long
line_in ended.Memory = Some memory
line_in (ended.Answered status) = None
line_in ended.Truncated = Some write_fault
line_in ended.OutOfMemoryMidway = Some memory
line_in ended.ReportTruncated = Some write_fault
line_in (ended.NoAnswer refusal) = Some (line_value refusal.line)

-- The program's record of how a run ended has the status and the error line of `outcome`.
pub record Ends (e : RunEnd) (outcome : Outcome) : Type 0 where
  pub status_is : status_in e ≡ status_of outcome
  pub line_is : line_in e ≡ line_of outcome

-- The result of a command for these bytes is correct; memory may run out at any time.
abbrev pub Judges : Task → List ℕ → Result Reply Stop → Type 0
Judges task bytes (Ok reply) = HasReply task bytes (reply_value reply)
Judges task bytes (Err NoMemory) = Unit {0}
Judges task bytes (Err (NoAnswer refusal)) = Refuses task bytes (refusal_value refusal)
