-- Writing a part is a task.
use Rattle.std.specs.Prelude.{◌≡◌, ℕ, ◌≤◌, ◌⊎◌, List, [], length, Option, Some, None, Result, Ok}
use Rattle.std.proofs.Common.{refl, ap, sym, ◌∙◌, subst, inl, inr}
use Rattle.text_core.specs.Lines.{lines_of}
use Rattle.tt_core.specs.Words.{Words}
use Rattle.tt_core.specs.Tables.{Read, tables_of}
use Rattle.tt_core.specs.ReadBack.{tables_again}
use Rattle.tt_core.specs.declared.error.SpecError.{SpecError}
use Rattle.cert_theory.specs.declared.data.LogEnd.{LogEnd}
use Rattle.cert_theory.specs.declared.data.LogEnd.TheVariants.{Refuted, Open}
use Rattle.size_loop.specs.declared.trying.SubproblemOutcome.{SubproblemOutcome}
use Rattle.size_loop.specs.declared.trying.SubproblemOutcome.TheVariants.{Found, Logged}
use Rattle.synth_core.specs.SettingsHeader.{header_of}
use Rattle.synth_core.specs.Tables.{tables_alone}
use Rattle.frame_core.specs.Reported.{memory_refusal}
use Rattle.frame_core.specs.Task.{IsTask, IsAnswerStatus, IsRefusalStatus}
use Rattle.frame_core.specs.TaskLaws.{at_once_task}
use Rattle.cmd_lines.specs.TableLines.{most_of_tables}
use Rattle.cmd_synth.specs.SynthReport.{AreTables, synth_refusal}
use Rattle.cmd_synth.specs.SynthLaws.{statuses_of, no_fault, one_error}
use Rattle.cmd_part.specs.declared.part.PartOfSearch.{PartOfSearch}
use Rattle.cmd_part.specs.PartReport.{ended_status, part_status, part_reply, part_at, HasPart, PartFault}
use Rattle.cmd_part.specs.PartReport.{NotTables, NoSuchPart, HasFault, part_refusal, part_task}

ended_answers : (ended : LogEnd) → IsAnswerStatus (ended_status ended)
ended_answers Refuted = inl refl
ended_answers Open = inr (inl refl)

answer_statuses : (outcome : SubproblemOutcome) → IsAnswerStatus (part_status outcome)
answer_statuses (Found c) = inl refl
answer_statuses (Logged p) = ended_answers p.ended

refusal_statuses : (part : PartOfSearch) (bytes : List ℕ) (fault : PartFault) → HasFault part bytes fault →
    IsRefusalStatus (part_refusal fault).status ⊎ (part_refusal fault ≡ memory_refusal)
refusal_statuses part bytes (NotTables error) has = statuses_of error
refusal_statuses part bytes NoSuchPart has = inl (inl refl)

same_words : (read : Result Read SpecError) (a b : Read) → read ≡ Ok a → read ≡ Ok b → a.words ≡ b.words
same_words read a b x y = cc

-- bytes spell tables in one way
one_tables : (bytes : List ℕ) (w u : Words) → AreTables bytes w → AreTables bytes u → w ≡ u
one_tables bytes w u one two =
    same_words (tables_of (lines_of bytes)) _ _ (tables_again w (lines_of bytes) [] one.are one.spelled) (tables_again u (lines_of bytes) [] two.are two.spelled)

none_some : {T : Type 0} (o : Option T) (a : T) → o ≡ None → o ≡ Some a → ⊥
none_some o a x y = let e : None ≡ Some a = sym x ∙ y in cc

never_both : (part : PartOfSearch) (bytes : List ℕ) (outcome : SubproblemOutcome) (fault : PartFault) →
    HasPart part bytes outcome → HasFault part bytes fault → ⊥
never_both part bytes outcome (NotTables error) has fault = no_fault has.tables (lines_of bytes) error has.are.are has.are.spelled fault.fault
never_both part bytes outcome NoSuchPart has fault =
    none_some (part_at (header_of has.tables part.settings) part.size part.before) has.is_part.subproblem
    (subst (λ (w : Words). part_at (header_of w part.settings) part.size part.before ≡ None)
    (one_tables bytes fault.tables has.tables fault.are has.are) fault.none)
    has.is_part.part_is

one_fault : (part : PartOfSearch) (bytes : List ℕ) (a b : PartFault) → HasFault part bytes a → HasFault part bytes b →
    part_refusal a ≡ part_refusal b
one_fault part bytes (NotTables a) (NotTables b) x y = ap synth_refusal (one_error (tables_alone (lines_of bytes)) a b x.fault y.fault)
one_fault part bytes (NotTables a) NoSuchPart x y = no_fault y.tables (lines_of bytes) a y.are.are y.are.spelled x.fault
one_fault part bytes NoSuchPart (NotTables b) x y = no_fault x.tables (lines_of bytes) b x.are.are x.are.spelled y.fault
one_fault part bytes NoSuchPart NoSuchPart x y = refl

fault_within : (part : PartOfSearch) (bytes : List ℕ) (fault : PartFault) → HasFault part bytes fault → length bytes ≤ most_of_tables
fault_within part bytes (NotTables error) has = has.within
fault_within part bytes NoSuchPart has = has.are.within

pub part_is_task : (part : PartOfSearch) → IsTask (part_task part)
part_is_task part =
    at_once_task most_of_tables SubproblemOutcome (HasPart part) part_reply PartFault (HasFault part) part_refusal
    answer_statuses
    (refusal_statuses part)
    (never_both part)
    (one_fault part)
    (λ bytes outcome has. has.are.within)
    (fault_within part)
