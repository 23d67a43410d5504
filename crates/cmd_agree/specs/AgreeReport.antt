-- The task of `agree`: the reply for each answer, and the refusal for each error.
use Rattle.std.specs.Prelude.{ℕ, List, ◌++◌, None, codes, decimal}
use Rattle.chain_core.specs.declared.error.ChainError.{ChainError}
use Rattle.chain_core.specs.declared.error.ChainError.TheVariants as chains
use Rattle.cmd_agree.specs.declared.agree.AgreeAnswer.{AgreeAnswer}
use Rattle.cmd_agree.specs.declared.agree.AgreeAnswer.TheVariants.{Agrees, Differs}
use Rattle.cmd_agree.specs.declared.agree.AgreeError.{AgreeError}
use Rattle.cmd_agree.specs.declared.agree.AgreeError.TheVariants as errors
use Rattle.frame_core.specs.declared.status.Status.{Status}
use Rattle.frame_core.specs.declared.status.Status.TheVariants.{Done, Malformed, Limit, Memory, Refused}
use Rattle.cmd_agree.specs.Agree.{HasAnswer, HasFault}
use Rattle.cmd_lines.specs.TableLines.{most_of_tables, spec_status, named_spec}
use Rattle.frame_core.specs.Reported.{Reply, Field, Refusal, at, memory}
use Rattle.frame_core.specs.Task.{Task, at_once}

-- A chain that differs has the status `Refused`.
abbrev pub answer_status : AgreeAnswer → Status
answer_status Agrees = Done
answer_status (Differs output row) = Refused

abbrev pub chain_status : ChainError → Status
chain_status (chains.BadStep line) = Malformed
chain_status (chains.ForwardPlace line) = Malformed
chain_status (chains.BadOut line) = Malformed
chain_status (chains.TooManySteps line) = Limit
chain_status (chains.BadCount line) = Malformed
chain_status chains.Memory = Memory

abbrev pub error_status : AgreeError → Status
error_status (errors.Tables error) = spec_status error
error_status (errors.Chained error) = chain_status error
error_status (errors.BadEnd line) = Malformed
error_status errors.Memory = Memory

-- the output: `agrees`, or `differs H T` (output, row)
unfoldable pub answer_text : AgreeAnswer → List ℕ
answer_text Agrees = codes "agrees\n"
answer_text (Differs output row) = codes "differs " ++ decimal output ++ codes " " ++ decimal row ++ codes "\n"

unfoldable pub named_chain : ChainError → List Field
named_chain (chains.BadStep line) = at (codes "BadStep") line
named_chain (chains.ForwardPlace line) = at (codes "ForwardPlace") line
named_chain (chains.BadOut line) = at (codes "BadOut") line
named_chain (chains.TooManySteps line) = at (codes "TooManySteps") line
named_chain (chains.BadCount line) = at (codes "BadCount") line
named_chain chains.Memory = memory

unfoldable pub named_error : AgreeError → List Field
named_error (errors.Tables error) = named_spec error
named_error (errors.Chained error) = named_chain error
named_error (errors.BadEnd line) = at (codes "BadEnd") line
named_error errors.Memory = memory

-- an answer as a reply, and an error as a refusal
abbrev pub agree_reply : AgreeAnswer → Reply
agree_reply answer = record { text = answer_text answer; report = None; status = answer_status answer }

abbrev pub agree_refusal : AgreeError → Refusal
agree_refusal error = record { status = error_status error; named = named_error error }

abbrev pub agree_task : Task
agree_task = at_once most_of_tables AgreeAnswer HasAnswer agree_reply AgreeError HasFault agree_refusal
