-- A line has a fault as in the definition, ends the log, or is one more line of it.
use Rattle.std.proofs.Common.{◌≡◌, ◌==◌, ◌∙◌, ap, sym, subst, refl, Bool, Ok}
use Rattle.cert_theory.specs.SubproblemLines.{closed}
use Rattle.cert_theory.specs.Gives.{SubproblemFails}
use Rattle.cert_file.proofs.LogLines.{done_fails, done_goes, logged_fails, logged_goes, one_less, fed_err}
use Rattle.cert_file.proofs.subproblem.SubproblemReader.feed.Goals as goal

pub returns-in_err-closed : goal.returns-in_err-closed
returns-in_err-closed c = λ f conflicts log reading.
    let reader = c.args.self in
    let e = c.in_err-closed.field-0.0 in
    let fails : SubproblemFails e (closed reader.checker.refuted (reader.missing == 0) reader.ended) =
    subst (λ (b : Bool). SubproblemFails e (closed b (reader.missing == 0) reader.ended)) c.refuted-empty.ensures.value c.in_err-closed.ensures in
    fed_err c.from_residual.result e f conflicts reader.ended log _ c.from_residual.ensures.1
    (done_fails f conflicts log reader _ e reading (sym c.is_done.ensures ∙ c.if-is_done.true) fails)

pub returns-then-is_done : goal.returns-then-is_done
returns-then-is_done c = λ f conflicts log reading.
    let reader = c.args.self in
    let closes : closed reader.checker.refuted (reader.missing == 0) reader.ended ≡ Ok tt =
    ap (λ (b : Bool). closed b (reader.missing == 0) reader.ended) (sym c.refuted-empty.ensures.value) ∙ c.in_ok-closed.ensures in
    done_goes f conflicts log reader _ reading (sym c.is_done.ensures ∙ c.if-is_done.true) closes

pub returns-in-Err : goal.returns-in-Err
returns-in-Err c = λ f conflicts log reading.
    logged_fails f conflicts c.args.self.ended log _ c.in-Err.fault (sym c.is_done.ensures ∙ c.if-is_done.false) (c.in-Err.ensures f log reading.accepted)

pub returns-in-Ok : goal.returns-in-Ok
returns-in-Ok c = λ f conflicts log reading.
    let taken = c.in-Ok.ensures f log reading.accepted in
    record {
      line = taken.line;
      read = logged_goes f conflicts c.args.self.ended log _ taken.line (sym c.is_done.ensures ∙ c.if-is_done.false) taken.read;
      reading = record {
        accepted = taken.accepted;
        missing = one_less conflicts _ c.in-Ok.added _ c.args.self.missing _ reading.missing taken.count c.saturating_sub.ensures;
      };
      same_end = refl;
    }
