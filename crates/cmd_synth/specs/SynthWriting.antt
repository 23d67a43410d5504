-- A certificate that is written piece by piece.
use Rattle.std.specs.Prelude.{◌≡◌, ℕ, ◌+◌, ◌≤◌, List, None}
use Rattle.port_io.specs.Bytes.{Appends}
use Rattle.port_io.specs.Faults.{Rose}
use Rattle.size_loop.specs.State.{State}
use Rattle.settings.specs.declared.synth.SynthSettings.{SynthSettings}
use Rattle.synth_core.specs.Pieces.{IsInProgress}
use Rattle.frame_core.specs.declared.replies.RunEnd.{RunEnd}
use Rattle.frame_core.specs.declared.replies.RunEnd.TheVariants as ended
use Rattle.frame_core.specs.declared.status.Status.{Status}
use Rattle.frame_core.specs.Outside.{PortState, IsFaultless}
use Rattle.frame_core.specs.Reported.{Reply}
use Rattle.frame_core.specs.Task.{HasReply}
use Rattle.frame_core.specs.Run.{IsTruncatedOutput}
use Rattle.cmd_synth.specs.SynthReport.{synth_task}
use Rattle.cmd_synth.specs.declared.synth.Next.{Next}
use Rattle.cmd_synth.specs.declared.synth.Next.TheVariants.{On, End}

-- What was written to the output since `first` is the part of the certificate that the search `s` has found, and
-- no call failed.
pub record IsOut (settings : SynthSettings) (bytes : List ℕ) (first now : PortState) (s : State) : Type 0 where
  pub text : List ℕ
  pub in_progress : IsInProgress bytes settings s text
  pub on_out : Appends first.bytes now.bytes text
  pub faultless : IsFaultless first now

-- A whole reply was written, and no call failed.
pub record IsWhole (settings : SynthSettings) (bytes : List ℕ) (status : Status) (first now : PortState) : Type 0 where
  pub reply : Reply
  pub reports : HasReply (synth_task settings) bytes reply
  pub no_report : reply.report ≡ None
  pub status_is : status ≡ reply.status
  pub on_out : Appends first.bytes now.bytes reply.text
  pub faultless : IsFaultless first now

-- A whole certificate was written, or the output failed, or memory ran out.
abbrev pub HasEndedAs : SynthSettings → List ℕ → RunEnd → PortState → PortState → Type 0
HasEndedAs settings bytes (ended.Answered status) first now = IsWhole settings bytes status first now
HasEndedAs settings bytes ended.Truncated first now = IsTruncatedOutput (synth_task settings) bytes first now × Rose first.faults now.faults
HasEndedAs settings bytes ended.OutOfMemoryMidway first now = IsTruncatedOutput (synth_task settings) bytes first now × IsFaultless first now
HasEndedAs settings bytes e first now = ⊥

-- After one more piece the search goes on, or the certificate has ended.
abbrev pub IsAfterPiece : SynthSettings → List ℕ → PortState → PortState → Next → Type 0
IsAfterPiece settings bytes first now (On s) = IsOut settings bytes first now s
IsAfterPiece settings bytes first now (End e) = HasEndedAs settings bytes e first now

abbrev pub StaysWithinMax : State → Next → Type 0
StaysWithinMax s (On next) = (s.next ≤ s.header.max) × (next.next ≡ s.next + 1) × (next.header ≡ s.header)
StaysWithinMax s (End e) = Unit {0}
