-- The task of `improve` by wishes is well formed.
use Rattle.std.specs.Prelude.{◌≡◌, ℕ, ◌≤◌, ◌⊎◌, List, length, Bool, true, false}
use Rattle.std.proofs.Common.{sym, ◌∙◌, ap, refl, inl, inr}
use Rattle.net_theory.specs.Limits.{most_of_netlist}
use Rattle.net_document.specs.Format.{IsNetlist}
use Rattle.net_document.specs.FormatLaws.{fault_one, fault_never, text_netlist}
use Rattle.format_names.specs.declared.formats.NetFormat.{NetFormat}
use Rattle.format_names.specs.declared.formats.NetFormat.TheVariants.{Blif, Bench, Aiger}
use Rattle.net_formats.specs.Formats.{format_of}
use Rattle.net_formats.specs.FormatLaws.{lists_well}
use Rattle.settings.specs.declared.improve.ImproveSettings.{ImproveSettings}
use Rattle.wish_names.specs.declared.wishes.Wishes.{Wishes}
use Rattle.wish_names.specs.declared.wishes.CoversAsked.{CoversAsked}
use Rattle.wish_names.specs.declared.wishes.CoversAsked.TheVariants.{Rows, Least}
use Rattle.equiv_run.specs.Two.{is_bare}
use Rattle.improve_wishes.specs.Covers.{blif_in}
use Rattle.frame_core.specs.Reported.{memory_refusal}
use Rattle.frame_core.specs.Task.{IsAnswerStatus, IsRefusalStatus, IsTask}
use Rattle.frame_core.specs.TaskLaws.{at_once_task}
use Rattle.cmd_lines.specs.NetLineLaws.{status_kind}
use Rattle.cmd_improve.specs.ImproveReport.{improve_refusal}
use Rattle.cmd_improve.specs.NamedReport.{NamedFault, Empty, Faulty, empty_refusal, named_refusal}
use Rattle.cmd_wishes.specs.WishReport.{WishAnswer, Improved, CannotExpress, TooLarge, wish_reply, wished_format}
use Rattle.cmd_wishes.specs.WishReport.{IsAnswer, IsWishAnswer, HasWishFault, wished_task}

answer_status : (answer : WishAnswer) → IsAnswerStatus (wish_reply answer).status
answer_status (Improved i) = inl refl
answer_status (CannotExpress name) = inr (inr refl)
answer_status TooLarge = inr (inr refl)

statuses : (format : NetFormat) (bytes : List ℕ) (fault : NamedFault) → HasWishFault format bytes fault →
    IsRefusalStatus (named_refusal fault).status ⊎ (named_refusal fault ≡ memory_refusal)
unfolding empty_refusal
statuses format bytes Empty meets = inl (inl refl)
statuses format bytes (Faulty e) meets = inl (status_kind e meets.fault.1)

both : {A : Type 0} (b : Bool) → b ≡ true → b ≡ false → A
both b is isnt = let e : true ≡ false = sym is ∙ isnt in cc

-- a netlist of the format that is written; BLIF is read in the same way, whichever covers are written
blif_netlist : (covers : CoversAsked) (bytes : List ℕ) → IsNetlist (blif_in covers) bytes →
    IsNetlist (format_of Blif) bytes
blif_netlist Rows bytes is = is
blif_netlist Least bytes is = record { listed = is.listed; said = is.said; within = is.within; well = is.well }

read_netlist : (format : NetFormat) (w : Wishes) (bytes : List ℕ) → IsNetlist (wished_format format w) bytes →
    IsNetlist (format_of format) bytes
read_netlist Blif w bytes is = blif_netlist w.covers bytes is
read_netlist Bench w bytes is = is
read_netlist Aiger w bytes is = is

written_netlist : (format : NetFormat) (settings : ImproveSettings) (w : Wishes) (bytes : List ℕ)
    (answer : WishAnswer) → IsAnswer format settings w bytes answer → IsNetlist (wished_format format w) bytes
written_netlist format settings w bytes (Improved i) is =
    record { listed = is.0.read; said = is.0.said; within = is.0.within; well = is.0.well }
written_netlist format settings w bytes (CannotExpress name) is =
    text_netlist (wished_format format w) bytes is.circuit is.of_text
written_netlist format settings w bytes TooLarge is =
    text_netlist (wished_format format w) bytes is.circuit is.of_text

apart : (format : NetFormat) (settings : ImproveSettings) (w : Wishes) (bytes : List ℕ) (answer : WishAnswer)
    (fault : NamedFault) → IsWishAnswer format settings w bytes answer → HasWishFault format bytes fault → ⊥
apart format settings w bytes answer Empty is meets = both (is_bare bytes) meets.bare is.said
apart format settings w bytes answer (Faulty e) is meets =
    fault_never (format_of format) bytes e (lists_well format)
    (read_netlist format w bytes (written_netlist format settings w bytes answer is.is)) meets.fault

one : (format : NetFormat) (bytes : List ℕ) (a b : NamedFault) → HasWishFault format bytes a →
    HasWishFault format bytes b → named_refusal a ≡ named_refusal b
one format bytes Empty Empty x y = refl
one format bytes Empty (Faulty e) x y = both (is_bare bytes) x.bare y.said
one format bytes (Faulty e) Empty x y = both (is_bare bytes) y.bare x.said
one format bytes (Faulty e) (Faulty f) x y = ap improve_refusal (fault_one (format_of format) bytes e f x.fault y.fault)

few : (format : NetFormat) (bytes : List ℕ) (fault : NamedFault) → HasWishFault format bytes fault →
    length bytes ≤ most_of_netlist
few format bytes Empty meets = meets.within
few format bytes (Faulty e) meets = meets.within

pub wished_is_task : (format : NetFormat) (settings : ImproveSettings) (w : Wishes) →
    IsTask (wished_task format settings w)
wished_is_task format settings w =
    at_once_task most_of_netlist WishAnswer (IsWishAnswer format settings w) wish_reply NamedFault (HasWishFault format)
    named_refusal
    (λ answer. answer_status answer)
    (λ bytes fault meets. statuses format bytes fault meets)
    (λ bytes answer fault has meets. apart format settings w bytes answer fault has meets)
    (λ bytes a b x y. one format bytes a b x y)
    (λ bytes answer has. has.within)
    (λ bytes fault meets. few format bytes fault meets)
