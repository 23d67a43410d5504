-- If something is due, a line is missing; otherwise the stage's claim is returned.
use Rattle.std.proofs.Common.{◌≡◌, ℕ, ◌+◌, ◌∙◌, [], length, Some, ap, sym, subst, arith, length-append}
use Rattle.cert_file.specs.Stages.{IsStage, claim_in}
use Rattle.cert_file.specs.Claims.{KeepsClaim, HasEnded}
use Rattle.cert_file.specs.declared.claim.Claim.{Claim}
use Rattle.cert_file.specs.declared.stage.Stage.{Stage}
use Rattle.cert_file.specs.declared.stage.Stage.TheVariants.{Start, Inputs, Tables, Methods, Conflicts, Sizes, Between, Due, Begun, Within, Steps, Outs, Found, End, Done}
use Rattle.cert_file.proofs.Taking.{closed_at, ended_as}
use Rattle.cert_file.proofs.stepping.claim_of.Goals as goal

claim_done : (stage : Stage) (t : Claim) → Some t ≡ claim_in stage → stage ≡ Done t
claim_done Start t e = absurd cc
claim_done Inputs t e = absurd cc
claim_done (Tables n on care) t e = absurd cc
claim_done (Methods spec basis) t e = absurd cc
claim_done (Conflicts spec basis method) t e = absurd cc
claim_done (Sizes spec basis method conflicts) t e = absurd cc
claim_done (Between n) t e = absurd cc
claim_done (Due r) t e = absurd cc
claim_done (Begun r) t e = absurd cc
claim_done (Within r reader) t e = absurd cc
claim_done (Steps r) t e = absurd cc
claim_done (Outs r) t e = absurd cc
claim_done (Found h low c) t e = absurd cc
claim_done (End claim) t e = absurd cc
claim_done (Done claim) t e = let f : claim ≡ t = cc in ap (λ (x : Claim). Done x) f

pub returns-in_default-clause-answer : goal.returns-in_default-clause-answer
returns-in_default-clause-answer c = λ answer stands. ended_as c.args.stage c.args.number answer c.requires stands ∙ ap (closed_at c.args.number) (sym c.in_default.ensures)

pub returns-clause-answer : goal.returns-clause-answer
returns-clause-answer c = λ answer stands. ended_as c.args.stage c.args.number answer c.requires stands ∙ ap (closed_at c.args.number) (sym c.in-Some.ensures)

pub returns-clause-keeps_claim : goal.returns-clause-keeps_claim
returns-clause-keeps_claim c = λ all place keeps_claim.
    let t = c.in-Some.claim in
    let here : KeepsClaim (Done t) c.args.number [] all = subst (λ (s : Stage). KeepsClaim s c.args.number [] all) (claim_done c.args.stage t c.in-Some.ensures) keeps_claim in
    let count : length all ≡ length place.prefix + 0 = ap length place.all_is ∙ length-append place.prefix [] in
    let number : c.args.number ≡ length all + 1 = omega (arith, count, place.number_is) in
    record { asks = here.0; ended = subst (λ (n : ℕ). HasEnded t.header t.chain t.verdict 2 n all) number here.1 }

pub returns-clause-known : goal.returns-clause-known
returns-clause-known c = subst (λ (s : Stage). IsStage s c.args.number) (claim_done c.args.stage c.in-Some.claim c.in-Some.ensures) c.requires
