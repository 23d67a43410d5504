-- The task of `synth`: its reply, and the refusal for each fault.
use Rattle.std.specs.Prelude.{◌≡◌, ℕ, ◌≤◌, List, [], length, Some, None, Ok, Err}
use Rattle.text_core.specs.Lines.{lines_of}
use Rattle.tt_core.specs.Words.{Words, IsSpec, specification}
use Rattle.tt_core.specs.Spelling.{SpellsTables}
use Rattle.tt_core.specs.declared.error.SpecError.{SpecError}
use Rattle.op_basis.specs.Basis.{members}
use Rattle.cert_theory.specs.declared.data.Verdict.{Verdict}
use Rattle.cert_theory.specs.declared.data.Verdict.TheVariants as verdicts
use Rattle.cert_theory.specs.Certificate.{Section}
use Rattle.cert_theory.specs.Prefix.{IsBegun}
use Rattle.cert_theory.specs.Meaning.{Means}
use Rattle.cert_theory.specs.Judging.{certificate_of}
use Rattle.settings.specs.declared.synth.SynthSettings.{SynthSettings}
use Rattle.synth_core.specs.SettingsHeader.{header_of}
use Rattle.synth_core.specs.Certifying.{IsCertificate}
use Rattle.synth_core.specs.Tables.{tables_alone}
use Rattle.frame_core.specs.declared.status.Status.{Status}
use Rattle.frame_core.specs.declared.status.Status.TheVariants.{Done, Undecided}
use Rattle.cmd_lines.specs.TableLines.{most_of_tables}
use Rattle.cmd_lines.specs.TableLines.{spec_status, named_spec}
use Rattle.depth_theory.specs.Verdicts.{most_of_certificate, GivesVerdict}
use Rattle.frame_core.specs.Reported.{Reply, Refusal}
use Rattle.frame_core.specs.Task.{Task, in_pieces}

-- If the fewest steps are known, or no chain is within the limit, the status is `Done`; if a budget was reached
-- before, it is `Undecided`.
abbrev pub verdict_status : Verdict → Status
verdict_status (verdicts.Minimum r) = Done
verdict_status (verdicts.NoChain x) = Done
verdict_status (verdicts.Bounded low r) = Undecided
verdict_status (verdicts.Open low) = Undecided

-- a certificate's text, and the verdict at its end
pub record Certified : Type 0 where
  pub text : List ℕ
  pub verdict : Verdict

-- the reply of a certificate, and the refusal of a fault of the tables
abbrev pub synth_reply : Certified → Reply
synth_reply c = record { text = c.text; report = None; status = verdict_status c.verdict }

abbrev pub synth_refusal : SpecError → Refusal
synth_refusal error = record { status = spec_status error; named = named_spec error }

-- The bytes, no more than are read, are the spelling of tables, with nothing after them.
pub record AreTables (bytes : List ℕ) (tables : Words) : Type 0 where
  pub within : length bytes ≤ most_of_tables
  pub are : IsSpec tables
  pub spelled : SpellsTables (specification tables) (lines_of bytes) []

-- The text is a valid certificate for the tables in the bytes and for the settings. What its verdict says about
-- chains is true, whatever the method. Judging the text gives the same verdict, and so does `recheck` if the
-- text is within its limit.
pub record IsCertified (settings : SynthSettings) (bytes : List ℕ) (c : Certified) : Type 0 where
  pub within : length bytes ≤ most_of_tables
  pub certificate : IsCertificate bytes settings c.text c.verdict
  pub means : (tables : Words)
      → AreTables bytes tables
      → Means (specification tables) (members settings.basis) c.verdict
  pub judged : certificate_of (lines_of c.text) ≡ Ok c.verdict
  pub rechecked : length c.text ≤ most_of_certificate → GivesVerdict c.text c.verdict

-- The bytes aren't just tables, and this is their first fault.
pub record HasTablesFault (bytes : List ℕ) (error : SpecError) : Type 0 where
  pub within : length bytes ≤ most_of_tables
  pub fault : tables_alone (lines_of bytes) ≡ Err error

-- The text is the header of a certificate for the tables in the bytes and for the settings, and whole sections
-- after it: those of the sizes 0, 1, 2 and so on.
pub record BeginsCertificate (settings : SynthSettings) (bytes text : List ℕ) : Type 0 where
  pub tables : Words
  pub are : AreTables bytes tables
  pub sections : List Section
  pub begun : IsBegun (header_of tables settings) sections text

-- Its text is written section by section.
abbrev pub synth_task : SynthSettings → Task
synth_task settings = in_pieces (Some most_of_tables) Certified
    (IsCertified settings) synth_reply SpecError HasTablesFault synth_refusal (BeginsCertificate settings)
