-- The task of `equiv` is well formed, and its runs keep the promise.
use Rattle.std.specs.Prelude.{◌≡◌, ℕ, ◌≤◌, ◌⊎◌, List, length, take, drop, Option, Some, None, Result, Ok}
use Rattle.std.proofs.Common.{arith, sym, ◌∙◌, ap, subst, refl, inl, inr}
use Rattle.std.proofs.Math.Logic.{⊎_elim}
use Rattle.net_core.specs.declared.error.NetError.{NetError}
use Rattle.equiv_run.specs.declared.answer.EquivOutcome.{EquivOutcome}
use Rattle.equiv_run.specs.declared.answer.EquivOutcome.TheVariants as standings
use Rattle.equiv_run.specs.declared.answer.CompareError.{CompareError}
use Rattle.equiv_run.specs.declared.answer.CompareError.TheVariants.{NoSecond, First, Second, DifferentInterface, Memory}
use Rattle.net_theory.specs.Document.{Document}
use Rattle.net_document.specs.Listed.{Listed}
use Rattle.net_document.specs.Format.{IsNetlist, HasNetFault}
use Rattle.blif_core.specs.Blif.{blif_format}
use Rattle.equiv_run.specs.Split.{split_of}
use Rattle.equiv_run.specs.Pairs.{Lists, AreTwo, ShareInterface, HasPairFault}
use Rattle.net_theory.specs.Limits.{most_of_two}
use Rattle.equiv_run.specs.PairLaws.{answer_never, fault_one, netlist_listed}
use Rattle.command_line.specs.declared.command.Command.TheVariants.{Equiv}
use Rattle.command_line.specs.CommandLine.{AsksFor}
use Rattle.frame_core.specs.declared.status.Status.TheVariants as statuses
use Rattle.frame_core.specs.Task.{IsAnswerStatus, IsRefusalStatus, IsAnswerable, IsTask}
use Rattle.frame_core.specs.Run.{Run}
use Rattle.frame_core.specs.Promise.{OutputHeld, ReportsError, Replies, Faults, CommandPromise}
use Rattle.frame_core.specs.TaskLaws.{at_once_task}
use Rattle.frame_core.specs.OutcomeLaws.{of_input}
use Rattle.frame_core.specs.ReadOffLaws.{gets}
use Rattle.cmd_equiv.specs.EquivReport.{standing_status, pair_status, Comparison, equiv_reply, equiv_refusal, IsComparison, HasComparedFault, equiv_task}
use Rattle.cmd_equiv.specs.EquivPromise.{AreComparable, ReportsStanding, ReportsInterface, EquivPromise}
use Rattle.cmd_lines.specs.NetLineLaws.{not_refused, status_kind}
use Rattle.net_document.specs.FormatLaws.{fault_never}
use Rattle.blif_text.specs.ListingLaws.{texts_list}

-- ---- `equiv` is a command

answer_statuses : (s : EquivOutcome) → IsAnswerStatus (standing_status s)
answer_statuses standings.Equal = inl refl
answer_statuses standings.Undecided = inr (inl refl)
answer_statuses standings.Differ = inr (inr refl)

refusal_statuses : (bytes : List ℕ) (e : CompareError) → HasPairFault bytes e → IsRefusalStatus (pair_status e)
refusal_statuses bytes NoSecond fault = inl refl
refusal_statuses bytes (First e) fault = status_kind e fault.fault.1
refusal_statuses bytes (Second e) fault = status_kind e fault.fault.1
refusal_statuses bytes DifferentInterface fault = inr (inr refl)
refusal_statuses bytes Memory fault = absurd fault

pub equiv_is_task : (budget : ℕ) → IsTask (equiv_task budget)
equiv_is_task budget =
    at_once_task most_of_two Comparison (IsComparison budget) equiv_reply CompareError HasComparedFault equiv_refusal
    (λ c. answer_statuses c.outcome)
    (λ bytes error meets. inl (refusal_statuses bytes error meets.fault))
    (λ bytes c error has fault. answer_never budget bytes c.text c.outcome error has.answer fault.fault)
    (λ bytes a b x y. ap equiv_refusal (fault_one bytes a b x.fault y.fault))
    (λ bytes c has. has.within)
    (λ bytes error fault. fault.within)

-- ---- its promise

-- a text is split at one position, and is the spelling of one document
place_one : (r : Option ℕ) (p q : ℕ) → r ≡ Some p → r ≡ Some q → p ≡ q
place_one r p q x y = cc

listed_one : (r : Result Listed NetError) (k l : Listed) → r ≡ Ok k → r ≡ Ok l → k ≡ l
listed_one r k l x y = cc

document_one : (bytes : List ℕ) (d e : Document) → Lists bytes d → Lists bytes e → d ≡ e
document_one bytes d e x y = sym x.is ∙ ap (λ (l : Listed). l.document) (listed_one (blif_format.listed bytes) x.listed y.listed x.said y.said) ∙ y.is

is_netlist : (bytes : List ℕ) (d : Document) → Lists bytes d → IsNetlist blif_format bytes
is_netlist bytes d lists = netlist_listed bytes d lists

same_interface : (bytes : List ℕ) (d e d' e' : Document) → AreTwo bytes d e → AreTwo bytes d' e' → ShareInterface d e → ShareInterface d' e'
same_interface bytes d e d' e' x y share =
    let place : x.place ≡ y.place = place_one (split_of bytes) x.place y.place x.parted y.parted in
    let first : d ≡ d' = document_one (take y.place bytes) d d' (subst (λ (p : ℕ). Lists (take p bytes) d) place x.first) y.first in
    let second : e ≡ e' = document_one (drop y.place bytes) e e' (subst (λ (p : ℕ). Lists (drop p bytes) e) place x.second) y.second in
    subst (λ (z : Document). ShareInterface d' z) second (subst (λ (z : Document). ShareInterface z e) first share)

-- an input that can be compared has no fault
no_place : (r : Option ℕ) (p : ℕ) → r ≡ None → r ≡ Some p → ⊥
no_place r p x y = let e : None ≡ Some p = sym x ∙ y in cc

two_never : (bytes : List ℕ) (d e : Document) (error : CompareError) → AreTwo bytes d e → ShareInterface d e → HasPairFault bytes error → ⊥
two_never bytes d e NoSecond two share fault = no_place (split_of bytes) two.place fault two.parted
two_never bytes d e (First x) two share fault =
    fault_never blif_format (take two.place bytes) x texts_list (is_netlist (take two.place bytes) d two.first)
    (subst (λ (p : ℕ). HasNetFault blif_format (take p bytes) x) (place_one (split_of bytes) fault.place two.place fault.parted two.parted) fault.fault)
two_never bytes d e (Second x) two share fault =
    fault_never blif_format (drop two.place bytes) x texts_list (is_netlist (drop two.place bytes) e two.second)
    (subst (λ (p : ℕ). HasNetFault blif_format (drop p bytes) x) (place_one (split_of bytes) fault.place two.place fault.parted two.parted) fault.fault)
two_never bytes d e DifferentInterface two share fault = fault.other (same_interface bytes d e fault.first fault.second two fault.two share)
two_never bytes d e Memory two share fault = absurd fault

answerable : (budget : ℕ) (input : List ℕ) → length input ≤ most_of_two → AreComparable input → IsAnswerable (equiv_task budget) input
answerable budget input within are = record {
  within = λ long. omega arith;
  sound = λ error fault. two_never input are.first are.second error are.two are.interface fault.fault;
}

complete : (budget : ℕ) (r : Run) (input : List ℕ) → CommandPromise (equiv_task budget) r →
    r.source.bytes ≡ Some input → length input ≤ most_of_two → AreComparable input → OutputHeld r →
    Replies (equiv_task budget) r input
complete budget r input promise reported within are held =
    gets (equiv_task budget) r input (λ answer. refl) promise reported (answerable budget input within are) held

-- a reply with the status of `outcome` reports `outcome`
stood : (budget : ℕ) (r : Run) (input : List ℕ) (outcome : EquivOutcome) (got : Replies (equiv_task budget) r input) → got.answer.outcome ≡ outcome → ReportsStanding budget outcome r input
stood budget r input outcome got is = subst (λ (s : EquivOutcome). ReportsStanding budget s r input) is (record {
  text = got.answer.text;
  reported = got.has.answer;
  stands = got.stands;
})

equal_is : (s : EquivOutcome) → standing_status s ≡ statuses.Done → s ≡ standings.Equal
equal_is standings.Equal is = refl
equal_is standings.Undecided is = absurd cc
equal_is standings.Differ is = absurd cc

undecided_is : (s : EquivOutcome) → standing_status s ≡ statuses.Undecided → s ≡ standings.Undecided
undecided_is standings.Equal is = absurd cc
undecided_is standings.Undecided is = refl
undecided_is standings.Differ is = absurd cc

differ_is : (s : EquivOutcome) → standing_status s ≡ statuses.Refused → s ≡ standings.Differ
differ_is standings.Equal is = absurd cc
differ_is standings.Undecided is = absurd cc
differ_is standings.Differ is = refl

equal_only : (budget : ℕ) (r : Run) (input : List ℕ) → CommandPromise (equiv_task budget) r → r.source.bytes ≡ Some input → r.status ≡ statuses.Done → ReportsStanding budget standings.Equal r input
equal_only budget r input promise reported is =
    let got : Replies (equiv_task budget) r input = of_input (equiv_task budget) r (Replies (equiv_task budget) r) input (promise.done_only is) reported in
    stood budget r input standings.Equal got (equal_is got.answer.outcome (sym got.stands.status_is ∙ is))

undecided_only : (budget : ℕ) (r : Run) (input : List ℕ) → CommandPromise (equiv_task budget) r →
    r.source.bytes ≡ Some input → r.status ≡ statuses.Undecided → ReportsStanding budget standings.Undecided r input
undecided_only budget r input promise reported is =
    let got : Replies (equiv_task budget) r input = of_input (equiv_task budget) r (Replies (equiv_task budget) r) input (promise.undecided_only is) reported in
    stood budget r input standings.Undecided got (undecided_is got.answer.outcome (sym got.stands.status_is ∙ is))

-- the only fault with the status `Refused`
interface_reported : (r : Run) (input : List ℕ) (e : CompareError) → HasComparedFault input e → ReportsError r (equiv_refusal e) → pair_status e ≡ statuses.Refused → ReportsInterface r input
interface_reported r input NoSecond meets reported is = absurd cc
interface_reported r input (First e) meets reported is = absurd (not_refused e is)
interface_reported r input (Second e) meets reported is = absurd (not_refused e is)
interface_reported r input DifferentInterface meets reported is = record { other = meets.fault; reported = reported }
interface_reported r input Memory meets reported is = absurd cc

differ_only : (budget : ℕ) (r : Run) (input : List ℕ) → CommandPromise (equiv_task budget) r →
    r.source.bytes ≡ Some input → r.status ≡ statuses.Refused → ReportsStanding budget standings.Differ r input ⊎
    ReportsInterface r input
differ_only budget r input promise reported is =
    ⊎_elim
    (λ (got : Replies (equiv_task budget) r input). inl (stood budget r input standings.Differ got (differ_is got.answer.outcome (sym got.stands.status_is ∙ is))))
    (λ (none : Faults (equiv_task budget) r input). inr (interface_reported r input none.fault none.meets none.reported (sym none.reported.status_is ∙ is)))
    (of_input (equiv_task budget) r (λ bytes. Replies (equiv_task budget) r bytes ⊎ Faults (equiv_task budget) r bytes) input (promise.refused_only is) reported)

-- The promise of `equiv`.
pub equiv_promised : (r : Run) → ((budget : ℕ) → AsksFor r.words (Equiv budget) → CommandPromise (equiv_task budget) r) → EquivPromise r
equiv_promised r keeps = record {
  complete = λ budget input run within are held. complete budget r input (keeps budget run.asks) run.reported within are held;
  equal_only = λ budget input run is. equal_only budget r input (keeps budget run.asks) run.reported is;
  undecided_only = λ budget input run is. undecided_only budget r input (keeps budget run.asks) run.reported is;
  differ_only = λ budget input run is. differ_only budget r input (keeps budget run.asks) run.reported is;
  refused = λ budget input error run fault held. (keeps budget run.asks).refused input error run.reported fault held;
}
