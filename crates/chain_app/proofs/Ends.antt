-- What the ending of a run says to its caller.
use Rattle.std.specs.Prelude.{◌≡◌, List, ℕ, Option, Some, None, Ok, Err}
use Rattle.std.proofs.Common.{sym, ◌∙◌, ap, subst}
use Rattle.command_line.specs.declared.command.Command.{Command}
use Rattle.command_line.specs.declared.command.Command.TheVariants.{Agree, Recheck, RecheckDepth, Synth, LeastDepth, Improve, Equiv, Gen}
use Rattle.command_line.specs.declared.command.WordsError.{WordsError}
use Rattle.command_line.specs.CommandLine.{command_of, or_usage, read, AsksFor}
use Rattle.frame_core.specs.declared.status.Status.TheVariants.{Usage}
use Rattle.frame_core.specs.Run.{Run, Outcome, IsRun, HasInput}
use Rattle.frame_core.specs.Task.{IsAnswerable, IsAnswerStatus}
use Rattle.chain_app.specs.Ending.{Ending, Idle, Ran, IsIdle, IsEnding}
use Rattle.frame_core.specs.Promise.{AllSteady, CommandPromise}
use Rattle.chain_app.specs.Tasks.{task_of}
use Rattle.chain_app.specs.RunPromise.{RunPromise}
use Rattle.chain_app.specs.KeepsPromises.{KeepsPromises}
use Rattle.frame_core.specs.KeepingLaws.{promised}
use Rattle.frame_core.specs.OutcomeLaws.{not_usage}
use Rattle.chain_app.proofs.Commands.{is_task}
use Rattle.cmd_agree.specs.AgreeLaws.{agree_promised}
use Rattle.cmd_recheck.specs.RecheckLaws.{recheck_promised}
use Rattle.cmd_recheck.specs.RecheckDepthLaws.{depth_promised}
use Rattle.cmd_synth.specs.SynthLaws.{synth_promised}
use Rattle.cmd_synth.specs.LeastDepthLaws.{least_depth_promised}
use Rattle.cmd_improve.specs.ImproveLaws.{improve_promised}
use Rattle.cmd_equiv.specs.EquivLaws.{equiv_promised}
use Rattle.cmd_gen.specs.GenLaws.{gen_promised}

-- words ask for one command
one_command : (words : List (List ℕ)) (a b : Command) → AsksFor words a → AsksFor words b → a ≡ b
one_command words a b is_a is_b = some_same a b (sym is_a ∙ is_b)
  where
    some_same : (x y : Command) → Some x ≡ Some y → x ≡ y
    some_same x y e = cc

-- the parser returns the command that the words ask for, and an error if they ask for none
usage_none : (o : Option Command) (c : Command) → Ok c ≡ or_usage o → o ≡ Some c
usage_none None c e = absurd cc
usage_none (Some d) c e = let same : c ≡ d = cc in ap (λ (x : Command). Some x) (sym same)

pub asked : (words : List (List ℕ)) (c : Command) → Ok c ≡ read words → AsksFor words c
asked words c e = usage_none (command_of words) c e

none_asked : (o : Option Command) (e : WordsError) (c : Command) → Err e ≡ or_usage o → o ≡ Some c → ⊥
none_asked o e c is other =
    let bad : Err e ≡ or_usage (Some c) = is ∙ ap or_usage other in
    cc

pub not_asked : (words : List (List ℕ)) (e : WordsError) → Err e ≡ read words → (c : Command) → AsksFor words c → ⊥
not_asked words e is c asks = none_asked (command_of words) e c is asks

keeps : (r : Run) (e : Ending) (command : Command) → IsEnding r e → AsksFor r.words command → CommandPromise (task_of command) r
keeps r Idle command ends asks = absurd (ends.no_line command asks)
keeps r (Ran found o) command ends asks =
    subst (λ (c : Command). CommandPromise (task_of c) r) (one_command r.words found command ends.0 asks) (promised (task_of found) r o (is_task found) ends.1)

ran : (r : Run) (e : Ending) (command : Command) → IsEnding r e → AsksFor r.words command → (o : Outcome) × IsRun (task_of command) r o
ran r Idle command ends asks = absurd (ends.no_line command asks)
ran r (Ran found o) command ends asks = (o, subst (λ (c : Command). IsRun (task_of c) r o) (one_command r.words found command ends.0 asks) ends.1)

idle : (r : Run) (e : Ending) → IsEnding r e → ((command : Command) → AsksFor r.words command → ⊥) → IsIdle r
idle r Idle ends none = ends
idle r (Ran command o) ends none = absurd (none command ends.0)

idle_only : (r : Run) (e : Ending) → IsEnding r e → r.status ≡ Usage → (command : Command) → AsksFor r.words command → ⊥
idle_only r Idle ends is command asks = ends.no_line command asks
idle_only r (Ran found o) ends is command asks = not_usage (task_of found) r o (is_task found) ends.1 is

every : (r : Run) (e : Ending) → IsEnding r e → RunPromise r
every r e ends = record {
  usage = λ none. idle r e ends none;
  usage_only = λ is command asks. idle_only r e ends is command asks;
  keeps = λ command asks. keeps r e command ends asks;
}

-- A run with an ending keeps all promises.
pub kept : (r : Run) (e : Ending) → IsEnding r e → KeepsPromises r
kept r e ends = record {
  ending = (e, ends);
  every = every r e ends;
  agree = agree_promised r (λ asks. keeps r e Agree ends asks);
  recheck = recheck_promised r (λ asks. keeps r e Recheck ends asks);
  recheck_depth = depth_promised r (λ asks. keeps r e RecheckDepth ends asks);
  synth = synth_promised r (λ asked asks. keeps r e (Synth asked) ends asks);
  least_depth = least_depth_promised r (λ asked asks. keeps r e (LeastDepth asked) ends asks);
  improve = improve_promised r (λ format asked asks. keeps r e (Improve format asked) ends asks);
  equiv = equiv_promised r (λ budget asks. keeps r e (Equiv budget) ends asks);
  gen = gen_promised r (λ blocks action asks. keeps r e (Gen blocks action) ends asks) (λ blocks action asks. ran r e (Gen blocks action) ends asks);
}

-- If no call failed at all, an input without a fault gets the status of an answer.
pub must_answer : (r : Run) (command : Command) (input : List ℕ) → KeepsPromises r → AsksFor r.words command →
    HasInput (task_of command).reads r.source.bytes input → IsAnswerable (task_of command) input → AllSteady r →
    IsAnswerStatus r.status
must_answer r command input promises asks has can steady =
    let got = (promises.every.keeps command asks).complete input has can steady in
    subst IsAnswerStatus (sym got.stands.status_is) ((is_task command).replies got.answer)
