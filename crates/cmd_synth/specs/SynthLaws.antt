-- The task of `synth` is well formed, and its runs keep the promise.
use Rattle.std.specs.Prelude.{◌≡◌, ℕ, ◌<◌, ◌≤◌, ◌⊎◌, List, [], length, Some, Result, Ok, Err}
use Rattle.std.proofs.Common.{arith, ap, refl, inl, inr}
use Rattle.std.proofs.Math.Logic.{⊎_elim}
use Rattle.text_core.specs.Lines.{Line, lines_of}
use Rattle.tt_core.specs.Words.{Words, IsSpec, specification}
use Rattle.tt_core.specs.Spelling.{SpellsTables}
use Rattle.tt_core.specs.declared.error.SpecError.{SpecError}
use Rattle.tt_core.specs.declared.error.SpecError.TheVariants as tables
use Rattle.tt_core.specs.ReadBack.{tables_again}
use Rattle.cert_theory.specs.declared.data.Verdict.{Verdict}
use Rattle.cert_theory.specs.declared.data.Verdict.TheVariants as verdicts
use Rattle.settings.specs.declared.synth.SynthSettings.{SynthSettings}
use Rattle.synth_core.specs.Certifying.{IsCertificate}
use Rattle.synth_core.specs.Tables.{words_alone, tables_alone}
use Rattle.command_line.specs.CommandLine.{AsksFor}
use Rattle.frame_core.specs.declared.status.Status.TheVariants.{Done, Undecided, WriteFault, Memory, Refused}
use Rattle.cmd_lines.specs.TableLines.{most_of_tables, spec_status, named_spec}
use Rattle.cmd_synth.specs.SynthReport.{verdict_status, Certified, synth_reply, synth_refusal, AreTables, IsCertified, HasTablesFault, BeginsCertificate, synth_task}
use Rattle.frame_core.specs.Reported.{memory_refusal}
use Rattle.port_io.specs.Bytes.{Appends}
use Rattle.frame_core.specs.Task.{IsAnswerStatus, IsRefusalStatus, IsTask, IsAnswerPrefix, IsBegunPrefix, MayBeLeft}
use Rattle.command_line.specs.declared.command.Command.TheVariants.{Synth}
use Rattle.frame_core.specs.Run.{Run}
use Rattle.frame_core.specs.Promise.{OutputHeld, ReportsError, Replies, OfInput, ReplyTruncated, ReportTruncated, ReplyOutOfMemory, CommandPromise}
use Rattle.cmd_synth.specs.SynthPromise.{LeavesPrefix, SynthPromise}
use Rattle.frame_core.specs.TaskLaws.{in_pieces_task}
use Rattle.frame_core.specs.OutcomeLaws.{of_input}
use Rattle.frame_core.specs.ReadOffLaws.{gets, no_report, answer_replies, refused_never}
use Rattle.cmd_lines.specs.TableLineLaws.{not_refused}

-- ---- `synth` is a command

pub answer_statuses : (v : Verdict) → IsAnswerStatus (verdict_status v)
answer_statuses (verdicts.Minimum r) = inl refl
answer_statuses (verdicts.NoChain x) = inl refl
answer_statuses (verdicts.Bounded low r) = inr (inl refl)
answer_statuses (verdicts.Open low) = inr (inl refl)

IsStatus : SpecError → Type 0
IsStatus e = IsRefusalStatus (spec_status e) ⊎ (synth_refusal e ≡ memory_refusal)

statuses : (e : SpecError) → IsStatus e
unfolding IsStatus named_spec
statuses (tables.BadHeader line) = inl (inl refl)
statuses (tables.BadRow line) = inl (inl refl)
statuses (tables.WrongLength line) = inl (inl refl)
statuses tables.TooManyInputs = inl (inr (inl refl))
statuses tables.TooManyOutputs = inl (inr (inl refl))
statuses tables.NoOutput = inl (inl refl)
statuses tables.Memory = inr refl

pub statuses_of : (e : SpecError) → IsRefusalStatus (spec_status e) ⊎ (synth_refusal e ≡ memory_refusal)
unfolding IsStatus
statuses_of e = statuses e

ok_or_fault : {A : Type 0} (read : Result Words SpecError) (w : Words) (e : SpecError) → read ≡ Ok w → read ≡ Err e → A
ok_or_fault read w e good bad = absurd cc

-- tables with nothing after them have no fault
pub no_fault : {A : Type 0} (w : Words) (ls : List Line) (e : SpecError) → IsSpec w → SpellsTables (specification w) ls [] → tables_alone ls ≡ Err e → A
no_fault w ls e spec spelled bad = ok_or_fault (tables_alone ls) w e (ap words_alone (tables_again w ls [] spec spelled)) bad

pub one_error : (read : Result Words SpecError) (d e : SpecError) → read ≡ Err d → read ≡ Err e → d ≡ e
one_error read d e is other = cc

-- the input of a certificate is the spelling of its tables
its_tables : (settings : SynthSettings) (bytes text : List ℕ) (verdict : Verdict) (c : IsCertificate bytes settings text verdict) → IsSpec c.certificate.header.spec
its_tables settings bytes text verdict c = c.is_certificate.valid.header.tables

not_beyond : (bytes : List ℕ) → length bytes ≤ most_of_tables → most_of_tables < length bytes → ⊥
not_beyond bytes within long = omega arith

pub synth_is_task : (settings : SynthSettings) → IsTask (synth_task settings)
synth_is_task settings =
    in_pieces_task (Some most_of_tables) Certified (IsCertified settings) synth_reply SpecError HasTablesFault synth_refusal (BeginsCertificate settings)
    (λ c. answer_statuses c.verdict)
    (λ bytes fault meets. statuses_of fault)
    (λ bytes c error has fault. no_fault has.certificate.certificate.header.spec (lines_of bytes) error (its_tables settings bytes c.text c.verdict has.certificate) has.certificate.tables fault.fault)
    (λ bytes a b x y. ap synth_refusal (one_error (tables_alone (lines_of bytes)) a b x.fault y.fault))
    (λ bytes c has long. not_beyond bytes has.within long)
    (λ bytes error fault long. not_beyond bytes fault.within long)
    (λ bytes text error begins fault. no_fault begins.tables (lines_of bytes) error begins.are.are begins.are.spelled fault.fault)
    (λ bytes text begins long. not_beyond bytes begins.are.within long)

-- ---- its promise

complete : (r : Run) (settings : SynthSettings) (input : List ℕ) (w : Words) → CommandPromise (synth_task settings) r →
    r.source.bytes ≡ Some input → AreTables input w → OutputHeld r → Replies (synth_task settings) r input
complete r settings input w promise reported tables held =
    let within = tables.within in
    gets (synth_task settings) r input (λ c. refl) promise reported (record {
      within = λ long. omega arith;
      sound = λ error fault. no_fault w (lines_of input) error tables.are tables.spelled fault.fault;
    }) held

answer_only : (r : Run) (settings : SynthSettings) (input : List ℕ) → CommandPromise (synth_task settings) r →
    r.source.bytes ≡ Some input → (r.status ≡ Done) ⊎ (r.status ≡ Undecided) → Replies (synth_task settings) r input
answer_only r settings input promise reported is = answer_replies (synth_task settings) r input promise reported is

pub not_refused_by : (v : Verdict) → verdict_status v ≡ Refused → ⊥
not_refused_by (verdicts.Minimum r) is = cc
not_refused_by (verdicts.NoChain x) is = cc
not_refused_by (verdicts.Bounded low r) is = cc
not_refused_by (verdicts.Open low) is = cc

never_refused : (r : Run) (settings : SynthSettings) → CommandPromise (synth_task settings) r → r.status ≡ Refused → ⊥
never_refused r settings promise is = refused_never (synth_task settings) r (λ c. not_refused_by c.verdict) not_refused promise is

-- the truncated certificates that are allowed on the output
prefix_left : (r : Run) (settings : SynthSettings) (input prefix : List ℕ) → MayBeLeft (synth_task settings) input prefix → Appends r.out.bytes r.out'.bytes prefix → LeavesPrefix r settings input
prefix_left r settings input prefix stands on_out =
    ⊎_elim
    (λ (of : IsAnswerPrefix (synth_task settings) input prefix). let c = of.has.certificate in
    let left : LeavesPrefix r settings input = record {
      tables = c.certificate.header.spec;
      are = record { within = of.has.within; are = c.is_certificate.valid.header.tables; spelled = c.tables };
      text = of.answer.text;
      is_prefix = inl (c.certificate, c.is_certificate, c.header_is);
      written = prefix;
      begins = of.is_prefix;
      on_out = on_out;
    } in left)
    (λ (of : IsBegunPrefix (synth_task settings) input prefix).
    let left : LeavesPrefix r settings input = record {
      tables = of.begins.tables;
      are = of.begins.are;
      text = of.text;
      is_prefix = inr (of.begins.sections, of.begins.begun);
      written = prefix;
      begins = of.is_prefix;
      on_out = on_out;
    } in left)
    stands

truncated : (r : Run) (settings : SynthSettings) (input : List ℕ) → CommandPromise (synth_task settings) r → r.source.bytes ≡ Some input → r.status ≡ WriteFault → LeavesPrefix r settings input
truncated r settings input promise reported is =
    ⊎_elim
    (λ (left : ReplyTruncated (synth_task settings) r input). prefix_left r settings input left.prefix left.leaves left.on_out)
    (λ (none : ReportTruncated (synth_task settings) r input). no_report (synth_task settings) r input (λ c. refl) none)
    (of_input (synth_task settings) r (λ bytes. ReplyTruncated (synth_task settings) r bytes ⊎ ReportTruncated (synth_task settings) r bytes) input (promise.write_fault_only is) reported)

out_of_memory : (r : Run) (settings : SynthSettings) (input : List ℕ) → CommandPromise (synth_task settings) r →
    r.source.bytes ≡ Some input → r.status ≡ Memory → (r.out' ≡ r.out) ⊎ LeavesPrefix r settings input
out_of_memory r settings input promise reported is =
    ⊎_elim
    (λ (error : ReportsError r memory_refusal). inl error.on_out)
    (λ (of : OfInput (synth_task settings) r (ReplyOutOfMemory (synth_task settings) r)).
    let left = of_input (synth_task settings) r (ReplyOutOfMemory (synth_task settings) r) input of reported in
    inr (prefix_left r settings input left.prefix left.leaves left.on_out))
    (promise.memory_only is)

-- The promise of `synth`.
pub synth_promised : (r : Run) → ((settings : SynthSettings) → AsksFor r.words (Synth settings) → CommandPromise (synth_task settings) r) → SynthPromise r
synth_promised r keeps = record {
  complete = λ settings input w run tables held. complete r settings input w (keeps settings run.asks) run.reported tables held;
  answer_only = λ settings input run is. answer_only r settings input (keeps settings run.asks) run.reported is;
  never_refused = λ settings asks is. never_refused r settings (keeps settings asks) is;
  refused = λ settings input error run fault held. (keeps settings run.asks).refused input error run.reported fault held;
  truncated = λ settings input run is. truncated r settings input (keeps settings run.asks) run.reported is;
  out_of_memory = λ settings input run is. out_of_memory r settings input (keeps settings run.asks) run.reported is;
}
