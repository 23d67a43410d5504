-- The task of `synth --size R --part P`: the text of one part of a certificate, or the chain where the part's formula is
-- satisfiable; and the refusals.
use Rattle.std.specs.Prelude.{◌≡◌, ℕ, List, Option, Some, None, codes, slice_get}
use Rattle.tt_core.specs.Words.{Words}
use Rattle.tt_core.specs.declared.error.SpecError.{SpecError}
use Rattle.chain_core.specs.Spelling.{chain_text}
use Rattle.enc_theory.specs.declared.subproblem.Subproblem.{Subproblem}
use Rattle.cert_theory.specs.declared.data.Header.{Header}
use Rattle.cert_theory.specs.declared.data.LogEnd.{LogEnd}
use Rattle.cert_theory.specs.declared.data.LogEnd.TheVariants.{Refuted, Open}
use Rattle.cert_theory.specs.Certificate.{SubproblemLog, subproblems_of}
use Rattle.cert_theory.specs.Spelling.{subproblem_lines, text_of}
use Rattle.size_loop.specs.declared.trying.SubproblemOutcome.{SubproblemOutcome}
use Rattle.size_loop.specs.declared.trying.SubproblemOutcome.TheVariants.{Found, Logged}
use Rattle.size_loop.specs.Outcomes.{IsTried}
use Rattle.synth_core.specs.SettingsHeader.{header_of}
use Rattle.frame_core.specs.declared.status.Status.{Status}
use Rattle.frame_core.specs.declared.status.Status.TheVariants.{Done, Undecided, Malformed}
use Rattle.frame_core.specs.Reported.{Reply, Field, Refusal, plain}
use Rattle.frame_core.specs.Task.{Task, at_once}
use Rattle.cmd_lines.specs.TableLines.{most_of_tables}
use Rattle.cmd_synth.specs.SynthReport.{AreTables, HasTablesFault, synth_refusal}
use Rattle.cmd_part.specs.declared.part.PartOfSearch.{PartOfSearch}

-- the subproblem of a size before which this many others stand
abbrev pub part_at : Header → ℕ → ℕ → Option Subproblem
part_at h size before = slice_get (subproblems_of h size) before

-- The result of this subproblem: a chain of the size that fits it; or a log over its formula, which refutes it, or
-- leaves it open and reaches the budget.
pub record IsPart (h : Header) (size before : ℕ) (outcome : SubproblemOutcome) : Type 0 where
  pub subproblem : Subproblem
  pub part_is : part_at h size before ≡ Some subproblem
  pub tried : IsTried h size subproblem outcome

-- The result, or there is no such subproblem.
abbrev pub IsPartIn : Header → ℕ → ℕ → Option SubproblemOutcome → Type 0
IsPartIn h size before None = part_at h size before ≡ None
IsPartIn h size before (Some outcome) = IsPart h size before outcome

-- ---- the reply

-- the text of a log, as it stands in a section
abbrev pub log_text : SubproblemLog → List ℕ
log_text p = text_of (subproblem_lines p)

abbrev pub part_text : SubproblemOutcome → List ℕ
part_text (Found c) = chain_text c
part_text (Logged p) = log_text p

-- A log that is left open is undecided.
abbrev pub ended_status : LogEnd → Status
ended_status Refuted = Done
ended_status Open = Undecided

abbrev pub part_status : SubproblemOutcome → Status
part_status (Found c) = Done
part_status (Logged p) = ended_status p.ended

abbrev pub part_reply : SubproblemOutcome → Reply
part_reply outcome = record { text = part_text outcome; report = None; status = part_status outcome }

-- ---- the task

-- The bytes, no more than are read, are the spelling of tables, and this is the result of the part of their search.
pub record HasPart (part : PartOfSearch) (bytes : List ℕ) (outcome : SubproblemOutcome) : Type 0 where
  pub tables : Words
  pub are : AreTables bytes tables
  pub is_part : IsPart (header_of tables part.settings) part.size part.before outcome

-- They are the spelling of tables, whose search has no such part.
pub record HasNoPart (part : PartOfSearch) (bytes : List ℕ) : Type 0 where
  pub tables : Words
  pub are : AreTables bytes tables
  pub none : part_at (header_of tables part.settings) part.size part.before ≡ None

-- Why there is no answer: the bytes aren't just tables, or the size has no such part.
pub data PartFault : Type 0 where
  NotTables : (error : SpecError) → PartFault
  NoSuchPart : PartFault

abbrev pub HasFault : PartOfSearch → List ℕ → PartFault → Type 0
HasFault part bytes (NotTables error) = HasTablesFault bytes error
HasFault part bytes NoSuchPart = HasNoPart part bytes

unfoldable pub no_such_part : List Field
no_such_part = plain (codes "NoSuchPart")

-- other bytes than tables are refused as by `synth`
abbrev pub part_refusal : PartFault → Refusal
part_refusal (NotTables error) = synth_refusal error
part_refusal NoSuchPart = record { status = Malformed; named = no_such_part }

abbrev pub part_task : PartOfSearch → Task
part_task part = at_once most_of_tables SubproblemOutcome (HasPart part) part_reply PartFault (HasFault part) part_refusal
