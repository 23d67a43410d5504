-- The task of `improve` is well formed, and its runs keep the promise.
use Rattle.std.specs.Prelude.{◌≡◌, ℕ, ◌≤◌, ◌⊎◌, List, length}
use Rattle.std.proofs.Common.{arith, ap, refl, inl, inr}
use Rattle.net_core.specs.declared.error.NetError.{NetError}
use Rattle.net_core.specs.declared.error.NetError.TheVariants as nets
use Rattle.net_document.specs.Format.{IsNetlist, ListsWell}
use Rattle.net_document.specs.FormatLaws.{fault_one, fault_never}
use Rattle.blif_text.specs.ListingLaws as tables
use Rattle.bench_text.specs.ListingLaws as gates
use Rattle.settings.specs.declared.improve.ImproveSettings.{ImproveSettings}
use Rattle.improve_windows.specs.Improving.{IsReported}
use Rattle.command_line.specs.declared.command.Command.TheVariants.{Improve}
use Rattle.command_line.specs.declared.command.Format.TheVariants.{Blif, Bench}
use Rattle.command_line.specs.CommandLine.{AsksFor}
use Rattle.cmd_improve.specs.ImproveReport.{FormatAsked, format_of, Improvement, improve_reply, improve_refusal, IsImprovement, HasNetlistFault, improve_task}
use Rattle.net_theory.specs.Limits.{most_of_netlist}
use Rattle.cmd_lines.specs.NetLines.{net_status, named_net}
use Rattle.frame_core.specs.Reported.{memory_refusal}
use Rattle.frame_core.specs.Task.{IsRefusalStatus, IsAnswerable, IsTask}
use Rattle.frame_core.specs.Run.{Run}
use Rattle.frame_core.specs.Promise.{CommandPromise}
use Rattle.cmd_improve.specs.ImprovePromise.{ImprovePromise}
use Rattle.frame_core.specs.TaskLaws.{at_once_task}
use Rattle.frame_core.specs.ReadOffLaws.{done_replies, refused_never, never_undecided}
use Rattle.cmd_lines.specs.NetLineLaws.{not_refused}

lists_well : (format : FormatAsked) → ListsWell (format_of format)
lists_well Blif = tables.texts_list
lists_well Bench = gates.texts_list

-- ---- `improve` is a command

IsStatus : NetError → Type 0
IsStatus e = IsRefusalStatus (net_status e) ⊎ (improve_refusal e ≡ memory_refusal)

statuses : (e : NetError) → IsStatus e
unfolding IsStatus named_net
statuses (nets.Syntax line) = inl (inl refl)
statuses (nets.NotSupported line name) = inl (inl refl)
statuses (nets.MixedCover line) = inl (inl refl)
statuses (nets.TooWide line) = inl (inr (inl refl))
statuses (nets.TooManyGates count) = inl (inr (inl refl))
statuses (nets.DrivenTwice name) = inl (inl refl)
statuses (nets.Undriven name) = inl (inl refl)
statuses (nets.Cycle name) = inl (inl refl)
statuses (nets.LineTooLong line) = inl (inr (inl refl))
statuses (nets.TooManyRows line) = inl (inr (inl refl))
statuses (nets.NameTooLong line) = inl (inr (inl refl))
statuses nets.Memory = inr refl

statuses_of : (e : NetError) → IsRefusalStatus (net_status e) ⊎ (improve_refusal e ≡ memory_refusal)
unfolding IsStatus
statuses_of e = statuses e

-- an input that was improved is a netlist
reported_netlist : (format : FormatAsked) (settings : ImproveSettings) (bytes text report : List ℕ) → IsReported (format_of format) settings bytes text report → IsNetlist (format_of format) bytes
reported_netlist format settings bytes text report is = record { listed = is.improved.read; said = is.improved.said; within = is.improved.within; well = is.improved.well }

pub improve_is_task : (format : FormatAsked) (settings : ImproveSettings) → IsTask (improve_task format settings)
improve_is_task format settings =
    at_once_task most_of_netlist Improvement (IsImprovement format settings) improve_reply NetError (HasNetlistFault format) improve_refusal
    (λ i. inl refl)
    (λ bytes fault meets. statuses_of fault)
    (λ bytes i error has fault. fault_never (format_of format) bytes error (lists_well format) (reported_netlist format settings bytes i.text i.report has.reported) fault.fault)
    (λ bytes a b x y. ap improve_refusal (fault_one (format_of format) bytes a b x.fault y.fault))
    (λ bytes i has. has.within)
    (λ bytes error fault. fault.within)

-- ---- its promise

-- a netlist has no fault
answerable : (format : FormatAsked) (settings : ImproveSettings) (input : List ℕ) → length input ≤ most_of_netlist →
    IsNetlist (format_of format) input → IsAnswerable (improve_task format settings) input
answerable format settings input within netlist = record {
  within = λ long. omega arith;
  sound = λ error fault. fault_never (format_of format) input error (lists_well format) netlist fault.fault;
}

-- The promise of `improve`.
pub improve_promised : (r : Run) → ((format : FormatAsked) (settings : ImproveSettings) →
    AsksFor r.words (Improve format settings) → CommandPromise (improve_task format settings) r) → ImprovePromise r
improve_promised r keeps = record {
  complete = λ format settings input run within netlist steady. (keeps format settings run.asks).complete input run.reported (answerable format settings input within netlist) steady;
  answered = λ format settings input run within netlist held. (keeps format settings run.asks).answered input run.reported (answerable format settings input within netlist) held;
  done_only = λ format settings input run is. done_replies (improve_task format settings) r input (keeps format settings run.asks) run.reported is;
  decided = λ format settings asks is. never_undecided (improve_task format settings) r (λ i. refl) (keeps format settings asks) is;
  never_refused = λ format settings asks is. refused_never (improve_task format settings) r (λ i e. cc) not_refused (keeps format settings asks) is;
  refused = λ format settings input error run fault held. (keeps format settings run.asks).refused input error run.reported fault held;
}
