-- The task of `improve` for AIGER is well formed.
use Rattle.std.specs.Prelude.{◌≡◌, ℕ, ◌≤◌, ◌⊎◌, List, length, Bool, true, false}
use Rattle.std.proofs.Common.{sym, ◌∙◌, ap, refl, inl}
use Rattle.net_theory.specs.Limits.{most_of_netlist}
use Rattle.net_document.specs.Format.{IsNetlist}
use Rattle.net_document.specs.FormatLaws.{fault_one, fault_never}
use Rattle.format_names.specs.declared.formats.NetFormat.TheVariants.{Aiger}
use Rattle.net_formats.specs.FormatLaws.{lists_well}
use Rattle.aiger_sections.specs.Plain.{plain_in}
use Rattle.aiger_forms.specs.Forms.{aiger_forms}
use Rattle.settings.specs.declared.improve.ImproveSettings.{ImproveSettings}
use Rattle.equiv_run.specs.Two.{is_bare}
use Rattle.improve_windows.specs.Improving.{IsReported}
use Rattle.frame_core.specs.Reported.{memory_refusal}
use Rattle.frame_core.specs.Task.{IsRefusalStatus, IsTask}
use Rattle.frame_core.specs.TaskLaws.{at_once_task}
use Rattle.cmd_lines.specs.NetLineLaws.{status_kind}
use Rattle.cmd_improve.specs.ImproveReport.{Improvement, improve_reply, improve_refusal}
use Rattle.cmd_improve.specs.NamedReport.{NamedFault, Empty, Faulty, empty_refusal, named_refusal}
use Rattle.cmd_formats.specs.AigerReport.{IsAigerImprovement, HasAigerFault, aiger_task}

statuses : (bytes : List ℕ) (fault : NamedFault) → HasAigerFault bytes fault →
    IsRefusalStatus (named_refusal fault).status ⊎ (named_refusal fault ≡ memory_refusal)
unfolding empty_refusal
statuses bytes Empty meets = inl (inl refl)
statuses bytes (Faulty e) meets = inl (status_kind e meets.fault.1)

both : {A : Type 0} (b : Bool) → b ≡ true → b ≡ false → A
both b is isnt = let e : true ≡ false = sym is ∙ isnt in cc

reported_netlist : (settings : ImproveSettings) (bytes text report : List ℕ) →
    IsReported aiger_forms settings bytes text report → IsNetlist aiger_forms bytes
reported_netlist settings bytes text report is = record { listed = is.improved.read; said = is.improved.said; within = is.improved.within; well = is.improved.well }

apart : (settings : ImproveSettings) (bytes : List ℕ) (i : Improvement) (fault : NamedFault) →
    IsAigerImprovement settings bytes i → HasAigerFault bytes fault → ⊥
apart settings bytes i Empty is meets = both (is_bare bytes) meets.bare is.said
apart settings bytes i (Faulty e) is meets =
    fault_never aiger_forms bytes e (lists_well Aiger) (reported_netlist settings bytes (plain_in i.text) i.report is.reported) meets.fault

one : (bytes : List ℕ) (a b : NamedFault) → HasAigerFault bytes a → HasAigerFault bytes b → named_refusal a ≡ named_refusal b
one bytes Empty Empty x y = refl
one bytes Empty (Faulty e) x y = both (is_bare bytes) x.bare y.said
one bytes (Faulty e) Empty x y = both (is_bare bytes) y.bare x.said
one bytes (Faulty e) (Faulty f) x y = ap improve_refusal (fault_one aiger_forms bytes e f x.fault y.fault)

few : (bytes : List ℕ) (fault : NamedFault) → HasAigerFault bytes fault → length bytes ≤ most_of_netlist
few bytes Empty meets = meets.within
few bytes (Faulty e) meets = meets.within

pub aiger_is_task : (settings : ImproveSettings) → IsTask (aiger_task settings)
aiger_is_task settings =
    at_once_task most_of_netlist Improvement (IsAigerImprovement settings) improve_reply NamedFault HasAigerFault named_refusal
    (λ i. inl refl)
    (λ bytes fault meets. statuses bytes fault meets)
    (λ bytes i fault has meets. apart settings bytes i fault has meets)
    (λ bytes a b x y. one bytes a b x y)
    (λ bytes i has. has.within)
    (λ bytes fault meets. few bytes fault meets)
