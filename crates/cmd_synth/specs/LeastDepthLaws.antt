-- The task of `synth --least-depth yes` is well formed, and its runs keep the promise.
use Rattle.std.specs.Prelude.{◌≡◌, ℕ, ◌⊎◌, List, length, Option, Some, None, Err}
use Rattle.std.proofs.Common.{arith, sym, ◌∙◌, ap, subst, refl, inl, inr}
use Rattle.text_core.specs.Lines.{lines_of}
use Rattle.tt_core.specs.Words.{Words, specification}
use Rattle.tt_core.specs.declared.error.SpecError.{SpecError}
use Rattle.op_basis.specs.Basis.{members}
use Rattle.chain_theory.specs.Chain.{Chain}
use Rattle.cert_theory.specs.declared.data.Header.{Header}
use Rattle.cert_theory.specs.declared.data.Verdict.{Verdict}
use Rattle.cert_theory.specs.declared.data.Verdict.TheVariants as sizes
use Rattle.cert_theory.specs.Certificate.{IsTrailer, first_open}
use Rattle.depth_theory.specs.declared.data.DepthVerdict.{DepthVerdict}
use Rattle.depth_theory.specs.declared.data.DepthVerdict.TheVariants.{Levels, Bounded}
use Rattle.depth_theory.specs.DepthMeaning as depths
use Rattle.depth_theory.specs.DepthMeanings.{depth_means}
use Rattle.depth_file.specs.BudgetReached.{IsLeftOpen}
use Rattle.depth_file.specs.BudgetLaws.{log_reaches_budget}
use Rattle.synth_core.specs.SettingsHeader.{header_of}
use Rattle.settings.specs.declared.synth.SynthSettings.{SynthSettings}
use Rattle.synth_core.specs.Tables.{tables_alone}
use Rattle.synth_core.specs.declared.least_depth.DepthFound.{DepthFound}
use Rattle.synth_core.specs.declared.least_depth.DepthFound.TheVariants.{Least, Other}
use Rattle.synth_core.specs.DepthCertifying.{IsLeast, IsOther, IsCertificate}
use Rattle.command_line.specs.CommandLine.{AsksFor}
use Rattle.command_line.specs.declared.command.Command.TheVariants.{LeastDepth}
use Rattle.frame_core.specs.declared.status.Status.TheVariants.{Done, Undecided, Refused}
use Rattle.frame_core.specs.Task.{IsAnswerStatus, IsTask}
use Rattle.frame_core.specs.Run.{Run}
use Rattle.frame_core.specs.Promise.{OutputHeld, Stands, Replies, CommandPromise}
use Rattle.frame_core.specs.TaskLaws.{at_once_task}
use Rattle.frame_core.specs.ReadOffLaws.{gets, answer_replies, refused_never}
use Rattle.cmd_lines.specs.TableLines.{most_of_tables}
use Rattle.cmd_synth.specs.SynthReport.{verdict_status, synth_refusal, AreTables, HasTablesFault}
use Rattle.cmd_synth.specs.LeastDepthReport.{found_status, Certified, least_depth_reply, IsCertified, least_depth_task}
use Rattle.cmd_synth.specs.LeastDepthPromise.{FindsLeast, FindsNone, FindsBounds, LeavesSteps, LeastDepthPromise}
use Rattle.cmd_synth.specs.CertifiedLaws.{tables_are}
use Rattle.cmd_lines.specs.TableLineLaws.{not_refused}
use Rattle.cmd_synth.specs.SynthLaws.{answer_statuses, statuses_of, no_fault, one_error, not_refused_by}

-- ---- what a certificate guarantees

means_as : (w x : Words) (a b steps : ℕ) (u v : DepthVerdict) → w ≡ x → a ≡ b → u ≡ v → depths.Means (specification w) (members a) steps u → depths.Means (specification x) (members b) steps v
means_as w x a b steps u v same_words same_basis same_verdict means =
    subst (λ (y : DepthVerdict). depths.Means (specification x) (members b) steps y) same_verdict
    (subst (λ (n : ℕ). depths.Means (specification x) (members n) steps u) same_basis
    (subst (λ (y : Words). depths.Means (specification y) (members a) steps u) same_words means))

pub least_levels : (settings : SynthSettings) (bytes text : List ℕ) (v : DepthVerdict) →
    (c : IsLeast bytes settings text v) → (w : Words) → AreTables bytes w →
    depths.Means (specification w) (members settings.basis) (length c.is_text.is_depth.chain.steps) v
least_levels settings bytes text v c w are =
    let is = c.is_text.is_depth in
    let h = c.certificate.certificate.header in
    means_as h.spec w h.basis settings.basis (length is.chain.steps) c.certificate.verdict v
    (tables_are h.spec w bytes is.valid.header.tables are.are c.tables are.spelled)
    (ap (λ (x : Header). x.basis) c.header_is)
    c.verdict_is
    (depth_means c.certificate is)

-- the log of a fence with the lower number of levels reaches the budget
own_header : (settings : SynthSettings) (bytes text : List ℕ) (v : DepthVerdict) →
    (c : IsLeast bytes settings text v) → (w : Words) → AreTables bytes w →
    c.certificate.certificate.header ≡ header_of w settings
own_header settings bytes text v c w are =
    c.header_is ∙ ap (λ (x : Words). header_of x settings) (tables_are c.certificate.certificate.header.spec w bytes c.is_text.is_depth.valid.header.tables are.are c.tables are.spelled)

left_open : (settings : SynthSettings) (bytes text : List ℕ) (low d : ℕ) →
    (c : IsLeast bytes settings text (Bounded low d)) → (w : Words) → AreTables bytes w →
    IsLeftOpen text (header_of w settings) (length c.is_text.is_depth.chain.steps) low
left_open settings bytes text low d c w are =
    subst (λ (h : Header). IsLeftOpen text h (length c.is_text.is_depth.chain.steps) low) (own_header settings bytes text (Bounded low d) c w are)
    (log_reaches_budget text c.certificate low d c.is_text c.verdict_is)

-- ---- `synth --least-depth yes` is a command

found_statuses : (f : DepthFound) → IsAnswerStatus (found_status f)
found_statuses (Least (Levels d)) = inl refl
found_statuses (Least (Bounded low d)) = inr (inl refl)
found_statuses (Other v) = answer_statuses v

-- tables with a certificate have no fault
sound : {A : Type 0} (settings : SynthSettings) (bytes text : List ℕ) (f : DepthFound) (e : SpecError) → IsCertificate bytes settings text f → tables_alone (lines_of bytes) ≡ Err e → A
sound settings bytes text (Least v) e c bad = no_fault c.certificate.certificate.header.spec (lines_of bytes) e c.is_text.is_depth.valid.header.tables c.tables bad
sound settings bytes text (Other v) e c bad = no_fault c.certificate.certificate.header.spec (lines_of bytes) e c.certificate.is_certificate.valid.header.tables c.certificate.tables bad

pub least_depth_is_task : (settings : SynthSettings) → IsTask (least_depth_task settings)
least_depth_is_task settings =
    at_once_task most_of_tables Certified (IsCertified settings) least_depth_reply SpecError HasTablesFault synth_refusal
    (λ c. found_statuses c.found)
    (λ bytes fault meets. statuses_of fault)
    (λ bytes c error has fault. sound settings bytes c.text c.found error has.certificate fault.fault)
    (λ bytes a b x y. ap synth_refusal (one_error (tables_alone (lines_of bytes)) a b x.fault y.fault))
    (λ bytes c has. has.within)
    (λ bytes error fault. fault.within)

-- ---- its promise

complete : (r : Run) (settings : SynthSettings) (input : List ℕ) (w : Words) →
    CommandPromise (least_depth_task settings) r → r.source.bytes ≡ Some input → AreTables input w → OutputHeld r →
    Replies (least_depth_task settings) r input
complete r settings input w promise reported are held =
    let within = are.within in
    gets (least_depth_task settings) r input (λ c. refl) promise reported (record {
      within = λ long. omega arith;
      sound = λ error fault. no_fault w (lines_of input) error are.are are.spelled fault.fault;
    }) held

answer_only : (r : Run) (settings : SynthSettings) (input : List ℕ) → CommandPromise (least_depth_task settings) r →
    r.source.bytes ≡ Some input → (r.status ≡ Done) ⊎ (r.status ≡ Undecided) →
    Replies (least_depth_task settings) r input
answer_only r settings input promise reported is = answer_replies (least_depth_task settings) r input promise reported is

not_refused_found : (f : DepthFound) → found_status f ≡ Refused → ⊥
not_refused_found (Least (Levels d)) is = cc
not_refused_found (Least (Bounded low d)) is = cc
not_refused_found (Other v) is = not_refused_by v is

never_refused : (r : Run) (settings : SynthSettings) → CommandPromise (least_depth_task settings) r → r.status ≡ Refused → ⊥
never_refused r settings promise is = refused_never (least_depth_task settings) r (λ c. not_refused_found c.found) not_refused promise is

-- ---- what its statuses mean

-- in a verdict that no chain of at most `x` steps implements the tables, `x` is the `max` of the settings
none_to : (h : Header) (count x : ℕ) (low : Option ℕ) (c : Option Chain) → IsTrailer h count low c (sizes.NoChain x) → x ≡ h.max
none_to h count x None None trailer = let e = trailer.1 in cc
none_to h count x (Some l) None trailer = let e = trailer.1 in absurd cc
none_to h count x None (Some c) trailer = let e = trailer.1 in absurd cc
none_to h count x (Some l) (Some c) trailer = let e = trailer.1 in absurd cc

none_to_max : (settings : SynthSettings) (bytes text : List ℕ) (x : ℕ) → IsOther bytes settings text (sizes.NoChain x) → x ≡ settings.max
none_to_max settings bytes text x other =
    let c = other.certificate in
    let b = c.certificate in
    none_to b.header (length b.sections) x (first_open b.sections) b.chain
    (subst (λ (v : Verdict). IsTrailer b.header (length b.sections) (first_open b.sections) b.chain v) c.verdict_is c.is_certificate.valid.trailer)
    ∙ ap (λ (h : Header). h.max) c.header_is

-- a certificate was written
abbrev StandsCertified : Run → SynthSettings → List ℕ → List ℕ → DepthFound → Type 0
StandsCertified r settings input text f = IsCertified settings input (record { text = text; found = f }) × Stands r (least_depth_reply (record { text = text; found = f }))

finds_none : (r : Run) (settings : SynthSettings) (input text : List ℕ) (w : Words) (x : ℕ) → AreTables input w →
    x ≡ settings.max → StandsCertified r settings input text (Other (sizes.NoChain x)) → FindsNone settings w r input
finds_none r settings input text w x are same leaves =
    let here : StandsCertified r settings input text (Other (sizes.NoChain settings.max)) = subst (λ (y : ℕ). StandsCertified r settings input text (Other (sizes.NoChain y))) same leaves in
    record { text = text; certified = here.0; stands = here.1; none = here.0.means w are }

reports_least : (r : Run) (settings : SynthSettings) (input text : List ℕ) (w : Words) (f : DepthFound) →
    AreTables input w → StandsCertified r settings input text f → found_status f ≡ Done →
    FindsLeast settings w r input ⊎ FindsNone settings w r input
reports_least r settings input text w (Least (Levels d)) are leaves is =
    let means = leaves.0.means w are in
    inl (record { text = text; levels = d; certified = leaves.0; stands = leaves.1; steps = means.0; least = means.1 })
reports_least r settings input text w (Least (Bounded low d)) are leaves is = absurd cc
reports_least r settings input text w (Other (sizes.Minimum n)) are leaves is = let none = leaves.0.certificate.no_minimum in absurd cc
reports_least r settings input text w (Other (sizes.NoChain x)) are leaves is = inr (finds_none r settings input text w x are (none_to_max settings input text x leaves.0.certificate) leaves)
reports_least r settings input text w (Other (sizes.Bounded low n)) are leaves is = absurd cc
reports_least r settings input text w (Other (sizes.Open low)) are leaves is = absurd cc

leaves_steps : (r : Run) (settings : SynthSettings) (input text : List ℕ) (w : Words) (v : Verdict) →
    AreTables input w → StandsCertified r settings input text (Other v) → verdict_status v ≡ Undecided →
    LeavesSteps settings w r input
leaves_steps r settings input text w v are leaves is = record { text = text; verdict = v; certified = leaves.0; stands = leaves.1; is_open = is; means = leaves.0.means w are }

reports_bounds : (r : Run) (settings : SynthSettings) (input text : List ℕ) (w : Words) (f : DepthFound) →
    AreTables input w → StandsCertified r settings input text f → found_status f ≡ Undecided →
    FindsBounds settings w r input ⊎ LeavesSteps settings w r input
reports_bounds r settings input text w (Least (Levels d)) are leaves is = absurd cc
reports_bounds r settings input text w (Least (Bounded low d)) are leaves is =
    let c = leaves.0.certificate in
    inl (record {
      text = text;
      low = low;
      levels = d;
      certified = leaves.0;
      stands = leaves.1;
      steps = length c.is_text.is_depth.chain.steps;
      bounded = least_levels settings input text (Bounded low d) c w are;
      spent = left_open settings input text low d c w are;
    })
reports_bounds r settings input text w (Other v) are leaves is = inr (leaves_steps r settings input text w v are leaves is)

least : (r : Run) (settings : SynthSettings) (input : List ℕ) (w : Words) → AreTables input w → r.status ≡ Done →
    Replies (least_depth_task settings) r input → FindsLeast settings w r input ⊎ FindsNone settings w r input
least r settings input w are is got = reports_least r settings input got.answer.text w got.answer.found are (got.has, got.stands) (sym got.stands.status_is ∙ is)

bounded : (r : Run) (settings : SynthSettings) (input : List ℕ) (w : Words) → AreTables input w →
    r.status ≡ Undecided → Replies (least_depth_task settings) r input → FindsBounds settings w r input ⊎
    LeavesSteps settings w r input
bounded r settings input w are is got = reports_bounds r settings input got.answer.text w got.answer.found are (got.has, got.stands) (sym got.stands.status_is ∙ is)

-- The promise of `synth --least-depth yes`.
pub least_depth_promised : (r : Run) → ((settings : SynthSettings) → AsksFor r.words (LeastDepth settings) → CommandPromise (least_depth_task settings) r) → LeastDepthPromise r
least_depth_promised r keeps = record {
  complete = λ settings input w run are held. complete r settings input w (keeps settings run.asks) run.reported are held;
  answer_only = λ settings input run is. answer_only r settings input (keeps settings run.asks) run.reported is;
  never_refused = λ settings asks is. never_refused r settings (keeps settings asks) is;
  least = λ settings input w run are is. least r settings input w are is (answer_only r settings input (keeps settings run.asks) run.reported (inl is));
  bounded = λ settings input w run are is. bounded r settings input w are is (answer_only r settings input (keeps settings run.asks) run.reported (inr is));
  refused = λ settings input error run fault held. (keeps settings run.asks).refused input error run.reported fault held;
}
