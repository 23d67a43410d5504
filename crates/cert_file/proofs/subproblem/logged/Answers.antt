-- A line has a fault as in the definition, or is accepted.
use Rattle.std.proofs.Common.{◌∙◌, ap, Result, Ok, Err, cond, Bool, arith}
use Rattle.sat_theory.specs.Line.{Line}
use Rattle.cert_theory.specs.declared.data.SubproblemError.{SubproblemError}
use Rattle.cert_theory.specs.declared.data.SubproblemError.TheVariants.{NotNew}
use Rattle.lrat_text.specs.Values.{line_value}
use Rattle.cert_file.proofs.LogLines.{unspelled, refused_line, held_line, added_is, logged_err}
use Rattle.cert_file.proofs.subproblem.logged.Goals as goal

pub returns-in_err-spelled : goal.returns-in_err-spelled
returns-in_err-spelled c = λ f log accepted.
    logged_err c.from_residual.result c.in_err-spelled.field-0.0 f c.args.end log _ c.args.checker.now c.from_residual.ensures.1
    (unspelled f c.args.end log _ c.in_err-spelled.field-0.0 c.in_err-spelled.ensures.exact)

pub returns-in-Err : goal.returns-in-Err
returns-in-Err c = λ f log accepted.
    refused_line f c.args.end log _ (line_value c.in_ok-spelled.spelled) c.args.checker.now c.in-Err.fault _ c.in_ok-spelled.ensures.exact accepted c.in-Err.ensures.exact c.refusal.ensures

pub returns-then-not-allowed : goal.returns-then-not-allowed
returns-then-not-allowed c = λ f log accepted.
    held_line f c.args.end log _ (line_value c.in_ok-spelled.spelled) c.args.checker.now c.may_add-allowed.result c.in_ok-spelled.ensures.exact accepted c.in-Ok.ensures.exact c.may_add-allowed.ensures
    ∙ ap (λ (b : Bool). let r : Result Line SubproblemError = cond b (Ok (line_value c.in_ok-spelled.spelled)) (Err NotNew) in r) c.if-not-allowed.true

pub returns : goal.returns
returns c = λ f log accepted. record {
  line = line_value c.in_ok-spelled.spelled;
  read =
      held_line f c.args.end log _ (line_value c.in_ok-spelled.spelled) c.args.checker.now c.may_add-allowed.result
      c.in_ok-spelled.ensures.exact accepted c.in-Ok.ensures.exact c.may_add-allowed.ensures
      ∙ ap (λ (b : Bool). let r : Result Line SubproblemError = cond b (Ok (line_value c.in_ok-spelled.spelled)) (Err NotNew) in r) c.if-not-allowed.false;
  accepted = c.in-Ok.ensures.accepted f log accepted c.in_ok-spelled.ensures.is_line;
  count = let sum = added_is log (line_value c.in_ok-spelled.spelled) in let one = c.added_by-added.ensures in omega (arith, sum, one);
}
