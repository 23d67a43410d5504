-- The result of a part, as a reply.
use Rattle.std.specs.Prelude.{◌≡◌, ℕ, ◌≤◌, List, [], length, Option, Some, None, Result, Err}
use Rattle.std.proofs.Common.{refl, subst}
use Rattle.std.proofs.lemmas.Grind.{common_steps}
use Rattle.text_core.specs.Lines.{lines_of}
use Rattle.tt_core.specs.Words.{Words, IsSpec, specification}
use Rattle.tt_core.specs.Spelling.{SpellsTables}
use Rattle.tt_core.specs.Gives.{Fails}
use Rattle.tt_core.specs.declared.error.SpecError.{SpecError}
use Rattle.tt_core.specs.declared.error.SpecError.TheVariants as tables
use Rattle.cert_theory.specs.declared.data.Header.{Header}
use Rattle.size_loop.specs.declared.trying.SubproblemOutcome.{SubproblemOutcome}
use Rattle.synth_core.specs.SettingsHeader.{header_of}
use Rattle.synth_core.specs.Tables.{tables_alone}
use Rattle.frame_core.specs.Reported.{Reply, Refusal}
use Rattle.frame_core.specs.Task.{HasReply, Refuses}
use Rattle.cmd_lines.specs.TableLines.{most_of_tables}
use Rattle.cmd_synth.specs.SynthReport.{AreTables, synth_refusal}
use Rattle.cmd_part.specs.declared.part.PartOfSearch.{PartOfSearch}
use Rattle.cmd_part.specs.JoinLaws.{one_text}
use Rattle.cmd_part.specs.PartReport.{IsPart, IsPartIn, part_at, HasPart, NotTables, NoSuchPart, part_reply, part_refusal, part_task}

-- ---- tables

pub are_tables : (bytes : List ℕ) (w : Words) → length bytes ≤ most_of_tables → IsSpec w →
    SpellsTables (specification w) (lines_of bytes) [] → AreTables bytes w
are_tables bytes w within are spelled = record { within = within; are = are; spelled = spelled }

reported_fault : (e : SpecError) (read : Result Words SpecError) → Fails e read → (e ≡ tables.Memory → ⊥) → read ≡ Err e
reported_fault (tables.BadHeader line) read fails other = fails
reported_fault (tables.BadRow line) read fails other = fails
reported_fault (tables.WrongLength line) read fails other = fails
reported_fault tables.TooManyInputs read fails other = fails
reported_fault tables.TooManyOutputs read fails other = fails
reported_fault tables.NoOutput read fails other = fails
reported_fault tables.Memory read fails other = absurd (other refl)

pub no_tables : (part : PartOfSearch) (bytes : List ℕ) (e : SpecError) (refusal : Refusal) →
    length bytes ≤ most_of_tables → (e ≡ tables.Memory → ⊥) → Fails e (tables_alone (lines_of bytes)) →
    refusal ≡ synth_refusal e → Refuses (part_task part) bytes refusal
no_tables part bytes e refusal within other fails is = record {
  fault = NotTables e;
  meets = record { within = within; fault = reported_fault e (tables_alone (lines_of bytes)) fails other };
  is = is;
}

-- ---- the part

pub found_part : (part : PartOfSearch) (bytes : List ℕ) (w : Words) (h : Header) (found : Option SubproblemOutcome)
    (outcome : SubproblemOutcome) → AreTables bytes w → h ≡ header_of w part.settings →
    IsPartIn h part.size part.before found → found ≡ Some outcome → HasPart part bytes outcome
found_part part bytes w h found outcome are same is some = record {
  tables = w;
  are = are;
  is_part = subst (λ (x : Header). IsPart x part.size part.before outcome) same (subst (IsPartIn h part.size part.before) some is);
}

pub no_part : (part : PartOfSearch) (bytes : List ℕ) (w : Words) (h : Header) (found : Option SubproblemOutcome)
    (refusal : Refusal) → AreTables bytes w → h ≡ header_of w part.settings →
    IsPartIn h part.size part.before found → found ≡ None → refusal ≡ part_refusal NoSuchPart →
    Refuses (part_task part) bytes refusal
no_part part bytes w h found refusal are same in_size not is = record {
  fault = NoSuchPart;
  meets = record {
    tables = w;
    are = are;
    none = subst (λ (x : Header). part_at x part.size part.before ≡ None) same (subst (IsPartIn h part.size part.before) not in_size);
  };
  is = is;
}

-- the reply of what was found
pub replied : (part : PartOfSearch) (bytes : List ℕ) (outcome : SubproblemOutcome) (reply : Reply) →
    HasPart part bytes outcome → reply ≡ part_reply outcome → HasReply (part_task part) bytes reply
replied part bytes outcome reply has is = record { answer = outcome; has = has; is = is }

pub ruleset replying = (common_steps, are_tables, no_tables, found_part, no_part, replied)

pub ruleset writing = (common_steps, one_text)
