-- A certificate that is written in pieces.
use Rattle.std.specs.Prelude.{◌≡◌, ℕ, ◌≤◌, List, ◌++◌, length, Vec}
use Rattle.std.proofs.Common.{sym, ◌∙◌, subst, refl}
use Rattle.std.specs.Global.{Global}
use Rattle.std.proofs.lemmas.Grind.{common_steps}
use Rattle.port_io.specs.Bytes.{Appends, AppendsPrefix}
use Rattle.port_io.specs.Faults.{Rose}
use Rattle.port_io.specs.TextLaws.{appends_two, prefix_two, prefix_whole}
use Rattle.cert_theory.specs.declared.data.Header.{Header}
use Rattle.cert_theory.specs.declared.data.Verdict.{Verdict}
use Rattle.cert_theory.specs.Prefix.{IsBegun}
use Rattle.size_loop.specs.State.{State}
use Rattle.settings.specs.declared.synth.SynthSettings.{SynthSettings}
use Rattle.synth_core.specs.Certifying.{IsCertificate}
use Rattle.synth_core.specs.declared.pieces.Piece.{Piece}
use Rattle.synth_core.specs.declared.pieces.Piece.TheVariants as pieces
use Rattle.synth_core.specs.Pieces.{IsInProgress, IsNextPiece}
use Rattle.frame_core.specs.declared.replies.RunEnd.{RunEnd}
use Rattle.frame_core.specs.declared.replies.RunEnd.TheVariants as ended
use Rattle.frame_core.specs.declared.status.Status.{Status}
use Rattle.frame_core.specs.Outside.{PortState, IsFaultless}
use Rattle.frame_core.specs.Task.{HasReply}
use Rattle.frame_core.specs.Run.{IsTruncatedOutput}
use Rattle.frame_core.specs.Performing.{Answers}
use Rattle.frame_core.specs.PerformingLaws.{left_of, begun_left_of, answered, pieces_sent, pieces_truncated, pieces_out_of_memory}
use Rattle.cmd_lines.specs.TableLines.{most_of_tables}
use Rattle.cmd_synth.specs.SynthReport.{verdict_status, BeginsCertificate, synth_reply, synth_task}
use Rattle.cmd_synth.specs.SynthWriting.{IsOut, HasEndedAs}
use Rattle.cmd_synth.specs.CertifiedLaws.{certified}

-- ---- what was written

-- a call that failed after calls that didn't
rose_since : (first now new : PortState) → IsFaultless first now → Rose now.faults new.faults → Rose first.faults new.faults
rose_since first now new faultless rose = subst (λ (n : ℕ). Rose n new.faults) faultless rose

-- the text that a search has written is the beginning of a certificate
begins : (settings : SynthSettings) (bytes text : List ℕ) (s : State) → length bytes ≤ most_of_tables → IsInProgress bytes settings s text → BeginsCertificate settings bytes text
begins settings bytes text s within under = record {
  tables = s.header.spec;
  are = record { within = within; are = under.begun.header.tables; spelled = under.tables };
  sections = under.sections;
  begun = subst (λ (h : Header). IsBegun h under.sections text) under.header_is under.begun;
}

-- nothing was written yet
pub out_first : (settings : SynthSettings) (bytes text : List ℕ) (s : State) (first now : PortState) →
    IsInProgress bytes settings s text → Appends first.bytes now.bytes text → IsFaultless first now →
    IsOut settings bytes first now s
out_first settings bytes text s first now under whole faultless = record { text = text; in_progress = under; on_out = whole; faultless = faultless }

-- one more section
pub out_more : (settings : SynthSettings) (bytes piece : List ℕ) (s next : State) (first now new : PortState) →
    (out : IsOut settings bytes first now s) → IsInProgress bytes settings next (out.text ++ piece) →
    Appends now.bytes new.bytes piece → IsFaultless now new → IsOut settings bytes first new next
out_more settings bytes piece s next first now new out under whole faultless = record {
  text = out.text ++ piece;
  in_progress = under;
  on_out = appends_two first.bytes now.bytes new.bytes out.text piece out.on_out whole;
  faultless = faultless ∙ out.faultless;
}

-- the contract of one step of the search
abbrev pub Steps : State → Piece → Type 0
Steps s piece = (bytes : List ℕ) (settings : SynthSettings) (before : List ℕ) → IsInProgress bytes settings s before → IsNextPiece bytes settings before piece

pub under_next : (settings : SynthSettings) (bytes before : List ℕ) (s next : State) (piece : Piece)
    (text : Vec ℕ Global) → Steps s piece → piece ≡ pieces.Section next text → IsInProgress bytes settings s before →
    IsInProgress bytes settings next (before ++ text.items)
under_next settings bytes before s next piece text steps is under = subst (λ (p : Piece). IsNextPiece bytes settings before p) is (steps bytes settings before under)

pub certified_by : (settings : SynthSettings) (bytes before : List ℕ) (s : State) (verdict : Verdict) (piece : Piece)
    (text : Vec ℕ Global) → Steps s piece → piece ≡ pieces.Trailer text verdict →
    IsInProgress bytes settings s before → IsCertificate bytes settings (before ++ text.items) verdict
certified_by settings bytes before s verdict piece text steps is under = subst (λ (p : Piece). IsNextPiece bytes settings before p) is (steps bytes settings before under)

-- ---- what is left

out_of_memory_left : (settings : SynthSettings) (bytes : List ℕ) (s : State) (first now : PortState) →
    length bytes ≤ most_of_tables → IsOut settings bytes first now s → IsTruncatedOutput (synth_task settings) bytes first now
out_of_memory_left settings bytes s first now within out =
    begun_left_of (synth_task settings) bytes out.text first now (begins settings bytes out.text s within out.in_progress) (prefix_whole first.bytes now.bytes out.text out.on_out)

-- memory ran out
pub out_of_memory_out : (settings : SynthSettings) (bytes : List ℕ) (s : State) (first now : PortState) →
    length bytes ≤ most_of_tables → IsOut settings bytes first now s →
    HasEndedAs settings bytes ended.OutOfMemoryMidway first now
out_of_memory_out settings bytes s first now within out = (out_of_memory_left settings bytes s first now within out, out.faultless)

-- the output failed in the header
pub header_truncated : (settings : SynthSettings) (bytes text : List ℕ) (s : State) (first new : PortState) →
    length bytes ≤ most_of_tables → IsInProgress bytes settings s text → AppendsPrefix first.bytes new.bytes text →
    Rose first.faults new.faults → HasEndedAs settings bytes ended.Truncated first new
header_truncated settings bytes text s first new within under prefix rose =
    (begun_left_of (synth_task settings) bytes text first new (begins settings bytes text s within under) prefix, rose)

-- in a section
pub section_truncated : (settings : SynthSettings) (bytes piece : List ℕ) (s next : State)
    (first now new : PortState) → length bytes ≤ most_of_tables → (out : IsOut settings bytes first now s) →
    IsInProgress bytes settings next (out.text ++ piece) → AppendsPrefix now.bytes new.bytes piece →
    Rose now.faults new.faults → HasEndedAs settings bytes ended.Truncated first new
section_truncated settings bytes piece s next first now new within out under prefix rose = (
  begun_left_of (synth_task settings) bytes (out.text ++ piece) first new (begins settings bytes (out.text ++
      piece) next within under) (prefix_two first.bytes now.bytes new.bytes out.text piece out.on_out prefix),
  rose_since first now new out.faultless rose,
)

its_reply : (settings : SynthSettings) (bytes text : List ℕ) (verdict : Verdict) → length bytes ≤ most_of_tables →
    IsCertificate bytes settings text verdict → HasReply (synth_task settings) bytes
    (synth_reply (record { text = text; verdict = verdict }))
its_reply settings bytes text verdict within certificate = record {
  answer = record { text = text; verdict = verdict };
  has = certified settings bytes (record { text = text; verdict = verdict }) within certificate;
  is = refl;
}

-- in the trailer
pub trailer_truncated : (settings : SynthSettings) (bytes piece : List ℕ) (s : State) (verdict : Verdict)
    (first now new : PortState) → length bytes ≤ most_of_tables → (out : IsOut settings bytes first now s) →
    IsCertificate bytes settings (out.text ++ piece) verdict → AppendsPrefix now.bytes new.bytes piece →
    Rose now.faults new.faults → HasEndedAs settings bytes ended.Truncated first new
trailer_truncated settings bytes piece s verdict first now new within out certificate prefix rose = (
  left_of (synth_task settings) bytes (synth_reply (record { text = out.text ++ piece; verdict = verdict })) first new
      (its_reply settings bytes (out.text ++ piece) verdict within certificate)
      (prefix_two first.bytes now.bytes new.bytes out.text piece out.on_out prefix),
  rose_since first now new out.faultless rose,
)

-- all was written
pub all_out : (settings : SynthSettings) (bytes piece : List ℕ) (s : State) (verdict : Verdict) (status : Status)
    (first now new : PortState) → length bytes ≤ most_of_tables → (out : IsOut settings bytes first now s) →
    IsCertificate bytes settings (out.text ++ piece) verdict → status ≡ verdict_status verdict →
    Appends now.bytes new.bytes piece → IsFaultless now new → HasEndedAs settings bytes (ended.Answered status) first new
all_out settings bytes piece s verdict status first now new within out certificate is whole faultless = record {
  reply = synth_reply (record { text = out.text ++ piece; verdict = verdict });
  reports = its_reply settings bytes (out.text ++ piece) verdict within certificate;
  no_report = refl;
  status_is = is;
  on_out = appends_two first.bytes now.bytes new.bytes out.text piece out.on_out whole;
  faultless = faultless ∙ out.faultless;
}

-- ---- as an answer

pub went_out : (settings : SynthSettings) (bytes : List ℕ) (e : RunEnd) (out note : PortState × PortState) →
    HasEndedAs settings bytes e out.0 out.1 → note.1 ≡ note.0 → Answers (synth_task settings) bytes e out note
went_out settings bytes ended.ReadFault out note goes same = absurd goes
went_out settings bytes ended.TooLong out note goes same = absurd goes
went_out settings bytes ended.Memory out note goes same = absurd goes
went_out settings bytes (ended.Answered status) out note goes same =
    subst (λ (s : Status). Answers (synth_task settings) bytes (ended.Answered s) out note) (sym goes.status_is)
    (pieces_sent (synth_task settings) bytes goes.reply out note goes.reports goes.no_report goes.on_out goes.faultless same)
went_out settings bytes ended.Truncated out note goes same = pieces_truncated (synth_task settings) bytes out note goes.0 goes.1 same
went_out settings bytes ended.OutOfMemoryMidway out note goes same = pieces_out_of_memory (synth_task settings) bytes out note refl goes.0 goes.1 same
went_out settings bytes ended.ReportTruncated out note goes same = absurd goes
went_out settings bytes (ended.NoAnswer refusal) out note goes same = absurd goes

pub ruleset writing = (common_steps, under_next, certified_by, out_first, out_more, out_of_memory_out, header_truncated, section_truncated, trailer_truncated, all_out)

pub ruleset answering = (common_steps, went_out, answered)
