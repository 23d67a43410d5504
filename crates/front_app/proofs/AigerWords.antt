-- What words ask of `improve` over AIGER, and what its run keeps.
use Rattle.std.specs.Prelude.{◌≡◌, ℕ, List, Bool, true, false, Option, Some, None, Ok, Err, refl}
use Rattle.std.proofs.Common.{sym, ◌∙◌, ap, subst}
use Rattle.std.proofs.lemmas.Grind.{common_steps}
use Rattle.settings.specs.declared.improve.ImproveSettings.{ImproveSettings}
use Rattle.command_line.specs.declared.command.Command.{Command}
use Rattle.command_line.specs.declared.command.Command.TheVariants.{Agree, Recheck, RecheckDepth, Synth, LeastDepth, Improve, Equiv, Gen}
use Rattle.command_line.specs.declared.command.Format.TheVariants.{Blif, Bench}
use Rattle.command_line.specs.declared.command.WordsError.{WordsError}
use Rattle.command_line.specs.CommandLine.{command_of, or_usage, read, AsksFor, IsAskable}
use Rattle.frame_core.specs.declared.status.Status.{Status}
use Rattle.frame_core.specs.declared.status.Status.TheVariants.{Usage}
use Rattle.frame_core.specs.Outside.{PortState, Writes}
use Rattle.frame_core.specs.Reported.{error_line, usage}
use Rattle.frame_core.specs.Run.{Run, run_of}
use Rattle.frame_core.specs.Promise.{CommandPromise}
use Rattle.cmd_formats.specs.AigerReport.{has_and_gates, aiger_task}
use Rattle.front_app.specs.Aiger.{KeepsAiger, settings_in, IsAigerOf}

-- words ask for one command
some_same : {T : Type 0} (x y : T) → Some x ≡ Some y → x ≡ y
some_same x y e = cc

one : (words : List (List ℕ)) (a b : Command) → AsksFor words a → AsksFor words b → a ≡ b
one words a b is_a is_b = some_same a b (sym is_a ∙ is_b)

usage_none : (o : Option Command) (c : Command) → Ok c ≡ or_usage o → o ≡ Some c
usage_none None c e = absurd cc
usage_none (Some d) c e = let same : c ≡ d = cc in ap (λ (x : Command). Some x) (sym same)

none_asked : (o : Option Command) (e : WordsError) (c : Command) → Err e ≡ or_usage o → o ≡ Some c → ⊥
none_asked o e c is other =
    let bad : Err e ≡ or_usage (Some c) = is ∙ ap or_usage other in
    cc

-- ---- the words

-- a command with settings is `improve` of BLIF
improve_is : (c : Command) (s : ImproveSettings) → Some s ≡ settings_in c → c ≡ Improve Blif s
improve_is Agree s e = absurd cc
improve_is Recheck s e = absurd cc
improve_is RecheckDepth s e = absurd cc
improve_is (Synth a) s e = absurd cc
improve_is (LeastDepth a) s e = absurd cc
improve_is (Improve Blif a) s e = let same : s ≡ a = cc in ap (Improve Blif) (sym same)
improve_is (Improve Bench a) s e = absurd cc
improve_is (Equiv n) s e = absurd cc
improve_is (Gen n d) s e = absurd cc

no_settings : (c : Command) (s : ImproveSettings) → None ≡ settings_in c → c ≡ Improve Blif s → ⊥
no_settings c s none is = let bad : None ≡ Some s = none ∙ ap settings_in is in cc

pub unread : (words : List (List ℕ)) (e : WordsError) → Err e ≡ read words → IsAigerOf words None
unread words e is = λ s asks. none_asked (command_of words) e (Improve Blif s) is asks.asks

pub other_asked : (words : List (List ℕ)) (c : Command) (found : Option ImproveSettings) → Ok c ≡ read words →
    found ≡ settings_in c → found ≡ None → IsAigerOf words None
other_asked words c found is settings none = λ s asks.
    no_settings c s (sym none ∙ settings) (one words c (Improve Blif s) (usage_none (command_of words) c is) asks.asks)

both : (b : Bool) → b ≡ true → b ≡ false → ⊥
both b is isnt = let e : true ≡ false = sym is ∙ isnt in cc

settings_same : (s t : ImproveSettings) → Improve Blif s ≡ Improve Blif t → s ≡ t
settings_same s t e = cc

asked_for : (words : List (List ℕ)) (c : Command) (found : Option ImproveSettings) (s : ImproveSettings) → Ok c ≡ read words →
    found ≡ settings_in c → found ≡ Some s → AsksFor words (Improve Blif s)
asked_for words c found s is settings some =
    subst (AsksFor words) (improve_is c s (sym some ∙ settings)) (usage_none (command_of words) c is)

pub unfit : (words : List (List ℕ)) (c : Command) (found : Option ImproveSettings) (s : ImproveSettings) (has : Bool) →
    Ok c ≡ read words → found ≡ settings_in c → found ≡ Some s → has ≡ has_and_gates s.basis → has ≡ false →
    IsAigerOf words None
unfit words c found s has is settings some test isnt = λ t asks.
    let asked = asked_for words c found s is settings some in
    let same : t ≡ s = settings_same t s (one words (Improve Blif t) (Improve Blif s) asks.asks asked) in
    both (has_and_gates s.basis) (subst (λ (x : ImproveSettings). has_and_gates x.basis ≡ true) same asks.basis) (sym test ∙ isnt)

pub fit : (words : List (List ℕ)) (c : Command) (found : Option ImproveSettings) (s : ImproveSettings) (has : Bool) →
    Ok c ≡ read words → IsAskable c → found ≡ settings_in c → found ≡ Some s → has ≡ has_and_gates s.basis → has ≡ true →
    IsAigerOf words (Some s)
fit words c found s has is can settings some test holds = (
  record { asks = asked_for words c found s is settings some; basis = sym test ∙ holds },
  (subst IsAskable (improve_is c s (sym some ∙ settings)) can).range,
)

pub ruleset asking = (common_steps, unread, other_asked, unfit, fit)

-- ---- the run

pub reported : (words : List (List ℕ)) (source out note note' : PortState) (status : Status) → IsAigerOf words None →
    Writes note note' (error_line usage) → status ≡ Usage →
    KeepsAiger (run_of words (source, source) (out, out) (note, note') status)
reported words source out note note' status nothing writes status_is = record {
  improves = λ settings asks. absurd (nothing settings asks);
  others = λ other. record { on_source = refl; on_out = refl; on_note = writes; status_is = status_is };
}

pub improved : (r : Run) (settings : ImproveSettings) → IsAigerOf r.words (Some settings) →
    CommandPromise (aiger_task settings) r → KeepsAiger r
improved r settings is promise = record {
  improves = λ other asks.
      let same : settings ≡ other = settings_same settings other (one r.words (Improve Blif settings) (Improve Blif other) is.0.asks asks.asks) in
      subst (λ (s : ImproveSettings). CommandPromise (aiger_task s) r) same promise;
  others = λ none. absurd (none settings is.0);
}

pub ruleset running = (common_steps, reported)
