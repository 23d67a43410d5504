-- The result of `improve` for the text of a file that is named.
use Rattle.std.specs.Prelude.{◌≡◌, ℕ, ◌≤◌, List, length, true, false, codes, Result, Ok, Err}
use Rattle.std.proofs.lemmas.Grind.{common_steps}
use Rattle.net_theory.specs.Limits.{most_of_netlist}
use Rattle.equiv_run.specs.Two.{is_bare}
use Rattle.settings.specs.declared.improve.ImproveSettings.{ImproveSettings}
use Rattle.frame_core.specs.declared.replies.Reply as given
use Rattle.frame_core.specs.declared.replies.Stop.{Stop}
use Rattle.frame_core.specs.declared.replies.Stop.TheVariants.{NoMemory, NoAnswer}
use Rattle.frame_core.specs.Reported.{Reply, Refusal}
use Rattle.frame_core.specs.Task.{HasReply, Refuses}
use Rattle.frame_core.specs.Views.{reply_value, refusal_value, Judges}
use Rattle.cmd_improve.specs.ImproveReport.{FormatAsked, improve_task}
use Rattle.cmd_improve.specs.NamedReport.{Empty, Faulty, empty_refusal, named_task}

has_said : (format : FormatAsked) (settings : ImproveSettings) (bytes : List ℕ) (reply : Reply) →
    is_bare bytes ≡ false → HasReply (improve_task format settings) bytes reply →
    HasReply (named_task format settings) bytes reply
has_said format settings bytes reply said has = record {
  answer = has.answer;
  has = record { said = said; improvement = has.has };
  is = has.is;
}

refuses_said : (format : FormatAsked) (settings : ImproveSettings) (bytes : List ℕ) (refusal : Refusal) →
    is_bare bytes ≡ false → Refuses (improve_task format settings) bytes refusal →
    Refuses (named_task format settings) bytes refusal
refuses_said format settings bytes refusal said refuses = record {
  fault = Faulty refuses.fault;
  meets = record { said = said; fault = refuses.meets };
  is = refuses.is;
}

-- a text with a directive has the result of `improve`
pub judged : (format : FormatAsked) (settings : ImproveSettings) (bytes : List ℕ) (result : Result given.Reply Stop) →
    is_bare bytes ≡ false → Judges (improve_task format settings) bytes result →
    Judges (named_task format settings) bytes result
judged format settings bytes (Ok reply) said judges = has_said format settings bytes (reply_value reply) said judges
judged format settings bytes (Err NoMemory) said judges = tt
judged format settings bytes (Err (NoAnswer refusal)) said judges = refuses_said format settings bytes (refusal_value refusal) said judges

pub refuses_bare : (format : FormatAsked) (settings : ImproveSettings) (bytes : List ℕ) (refusal : Refusal) →
    length bytes ≤ most_of_netlist → is_bare bytes ≡ true → refusal ≡ empty_refusal (codes "Empty") →
    Refuses (named_task format settings) bytes refusal
refuses_bare format settings bytes refusal within bare is = record {
  fault = Empty;
  meets = record { within = within; bare = bare };
  is = is;
}

pub ruleset naming = (common_steps, refuses_bare)
