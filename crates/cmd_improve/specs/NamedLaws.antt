-- The task of `improve` for the netlist of a file that is named is well formed.
use Rattle.std.specs.Prelude.{◌≡◌, ℕ, ◌≤◌, ◌⊎◌, List, length, Bool, true, false}
use Rattle.std.proofs.Common.{sym, ◌∙◌, refl, inl}
use Rattle.net_theory.specs.Limits.{most_of_netlist}
use Rattle.equiv_run.specs.Two.{is_bare}
use Rattle.settings.specs.declared.improve.ImproveSettings.{ImproveSettings}
use Rattle.frame_core.specs.Reported.{memory_refusal}
use Rattle.frame_core.specs.Task.{IsRefusalStatus, IsTask}
use Rattle.frame_core.specs.TaskLaws.{at_once_task}
use Rattle.cmd_improve.specs.ImproveReport.{FormatAsked, Improvement, improve_reply}
use Rattle.cmd_improve.specs.ImproveLaws.{improve_is_task}
use Rattle.cmd_improve.specs.NamedReport.{NamedFault, Empty, Faulty, IsNamedImprovement, HasNamedFault, empty_refusal, named_refusal, named_task}

statuses : (format : FormatAsked) (settings : ImproveSettings) (bytes : List ℕ) (fault : NamedFault) →
    HasNamedFault format bytes fault →
    IsRefusalStatus (named_refusal fault).status ⊎ (named_refusal fault ≡ memory_refusal)
unfolding empty_refusal
statuses format settings bytes Empty meets = inl (inl refl)
statuses format settings bytes (Faulty e) meets = (improve_is_task format settings).refusals bytes e meets.fault

both : {A : Type 0} (b : Bool) → b ≡ true → b ≡ false → A
both b is isnt = let e : true ≡ false = sym is ∙ isnt in cc

apart : (format : FormatAsked) (settings : ImproveSettings) (bytes : List ℕ) (i : Improvement) (fault : NamedFault) →
    IsNamedImprovement format settings bytes i → HasNamedFault format bytes fault → ⊥
apart format settings bytes i Empty is meets = both (is_bare bytes) meets.bare is.said
apart format settings bytes i (Faulty e) is meets = (improve_is_task format settings).apart bytes i e is.improvement meets.fault

one : (format : FormatAsked) (settings : ImproveSettings) (bytes : List ℕ) (a b : NamedFault) →
    HasNamedFault format bytes a → HasNamedFault format bytes b → named_refusal a ≡ named_refusal b
one format settings bytes Empty Empty x y = refl
one format settings bytes Empty (Faulty e) x y = both (is_bare bytes) x.bare y.said
one format settings bytes (Faulty e) Empty x y = both (is_bare bytes) y.bare x.said
one format settings bytes (Faulty e) (Faulty f) x y = (improve_is_task format settings).one bytes e f x.fault y.fault

few : (format : FormatAsked) (bytes : List ℕ) (fault : NamedFault) → HasNamedFault format bytes fault →
    length bytes ≤ most_of_netlist
few format bytes Empty meets = meets.within
few format bytes (Faulty e) meets = meets.fault.within

pub named_is_task : (format : FormatAsked) (settings : ImproveSettings) → IsTask (named_task format settings)
named_is_task format settings =
    at_once_task most_of_netlist Improvement (IsNamedImprovement format settings) improve_reply NamedFault (HasNamedFault format) named_refusal
    (λ i. inl refl)
    (λ bytes fault meets. statuses format settings bytes fault meets)
    (λ bytes i fault has meets. apart format settings bytes i fault has meets)
    (λ bytes a b x y. one format settings bytes a b x y)
    (λ bytes i has. has.improvement.within)
    (λ bytes fault meets. few format bytes fault meets)
