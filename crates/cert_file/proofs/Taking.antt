-- One line after the other.
use Rattle.std.proofs.Common.{◌≡◌, ℕ, suc, ◌+◌, ◌<◌, ◌==◌, cond, Bool, false, List, [], ◌∷◌, length, Option, Some, None, Result, Ok, Err, sym, ap, ◌∙◌, arith}
use Rattle.std.proofs.lemmas.Bool.Decides.{nat_tests}
use Rattle.std.proofs.lemmas.List.{length-map}
use Rattle.text_core.specs.Lines.{Line}
use Rattle.tt_core.specs.Tables.{rows_of}
use Rattle.tt_core.specs.declared.error.SpecError.TheVariants.{NoOutput}
use Rattle.chain_theory.specs.Chain as chain
use Rattle.chain_theory.specs.declared.data.Out.{Out}
use Rattle.chain_core.specs.declared.frame.Frame.{Frame}
use Rattle.chain_core.specs.declared.error.ChainError.{ChainError}
use Rattle.chain_core.specs.declared.error.ChainError.TheVariants.{BadStep, BadOut}
use Rattle.chain_core.specs.Block.{steps_from, outs_from}
use Rattle.chain_core.specs.Steps.{step_of, steps_of}
use Rattle.cert_theory.specs.declared.data.Header.{Header}
use Rattle.cert_file.specs.declared.claim.Claim.{Claim}
use Rattle.cert_theory.specs.declared.data.CertificateError.TheVariants.{Syntax}
use Rattle.cert_theory.specs.Judging.{with_block, with_tables, after_tables, after_basis, after_method, after_conflicts, sections_of, after_chain, end_of, certificate_of}
use Rattle.cert_file.specs.Stages.{Answer, IsStage, AnswersLines, claim_in, steps_then, outs_then}
use Rattle.cert_file.specs.declared.stage.Stage.{Stage}
use Rattle.cert_file.specs.declared.stage.Stage.TheVariants.{Start, Inputs, Tables, Methods, Conflicts, Sizes, Between, Due, Begun, Within, Steps, Outs, Found, End, Done}

not_yet : (m n : ℕ) → m < n → (m == n) ≡ false
not_yet m n less = grind (arith, nat_tests)

steps_short : (f : Frame) (steps : List chain.Step) → length steps < f.steps → steps_from f steps [] ≡ Err (BadStep (f.first_line + 1 + length steps))
unfolding steps_from
steps_short f steps due = ap (λ (b : Bool). let r : Result (List chain.Step × List Line) ChainError =
    cond b (Ok (steps, [])) (Err (BadStep (f.first_line + 1 + length steps))) in r) (not_yet (length steps) f.steps due)

outs_short : (f : Frame) (os : List Out) → length os < f.outputs → outs_from f os [] ≡ Err (BadOut (f.first_line + 1 + f.steps + length os))
unfolding outs_from
outs_short f os due = ap (λ (b : Bool). let r : Result (List Out × List Line) ChainError =
    cond b (Ok (os, [])) (Err (BadOut (f.first_line + 1 + f.steps + length os))) in
    r) (not_yet (length os) f.outputs due)

block_short : (h : Header) (f : Frame) (low : Option ℕ) (number place : ℕ) → number ≡ place → with_block h f low (Err (BadStep place)) ≡ Err (Syntax number)
unfolding with_block
block_short h f low number place same = ap (λ (n : ℕ). let r : Answer = Err (Syntax n) in r) (sym same)

block_short_outs : (h : Header) (f : Frame) (low : Option ℕ) (number place : ℕ) → number ≡ place → with_block h f low (Err (BadOut place)) ≡ Err (Syntax number)
unfolding with_block
block_short_outs h f low number place same = ap (λ (n : ℕ). let r : Answer = Err (Syntax n) in r) (sym same)

some_rows : (k : ℕ) → (suc k == 0) ≡ false
some_rows k = grind (arith, nat_tests)

rows_short : (n number : ℕ) (on care : List ℕ) → number ≡ 3 + length on → with_tables (rows_of (record { n = n; on = on; care = care }) []) ≡ Err (Syntax number)
unfolding with_tables rows_of after_tables
rows_short n number [] care same = let three : 3 ≡ number = omega arith in ap (λ (k : ℕ). let r : Answer = Err (Syntax k) in r) three
rows_short n number (x ∷ on) care same =
    ap (λ (b : Bool). with_tables (cond b (Err NoOutput) (Ok (record { words = record { n = n; on = x ∷ on; care = care }; rest = [] })))) (some_rows (length on))
    ∙ ap (λ (k : ℕ). let r : Answer = Err (Syntax k) in r) (sym same)

-- the result at the end
abbrev pub closed_at : ℕ → Option Claim → Answer
closed_at number None = Err (Syntax number)
closed_at number (Some claim) = Ok claim.verdict

pub ended_as : (stage : Stage) (number : ℕ) (answer : Answer) → IsStage stage number → AnswersLines stage number [] answer → answer ≡ closed_at number (claim_in stage)
unfolding certificate_of with_tables after_basis after_method after_conflicts sections_of after_chain end_of
ended_as Start number answer is stands = stands ∙ ap (λ (k : ℕ). let r : Answer = Err (Syntax k) in r) (sym is)
ended_as Inputs number answer is stands = stands ∙ ap (λ (k : ℕ). let r : Answer = Err (Syntax k) in r) (sym is)
ended_as (Tables n on care) number answer is stands = stands ∙ rows_short n number on.items care.items is.0
ended_as (Methods spec basis) number answer is stands = stands
ended_as (Conflicts spec basis method) number answer is stands = stands
ended_as (Sizes spec basis method conflicts) number answer is stands = stands
ended_as (Between n) number answer is stands = stands
ended_as (Due r) number answer is stands = stands
ended_as (Begun r) number answer is stands = stands.answer_is
ended_as (Within r reader) number answer is stands = stands.answer_is
ended_as (Steps r) number answer is stands =
    let count = length-map r.steps.items step_of in
    stands ∙ ap (λ (read : Result (List chain.Step × List Line) ChainError). with_block r.header r.frame r.low (steps_then r.frame read)) (steps_short r.frame (steps_of r.steps.items) (omega (arith, count, is.due)))
    ∙ block_short r.header r.frame r.low number (r.frame.first_line + 1 + length (steps_of r.steps.items)) (omega (arith, count, is.number_is))
ended_as (Outs r) number answer is stands =
    stands ∙ ap (λ (read : Result (List Out × List Line) ChainError). with_block r.header r.frame r.low (outs_then r.frame (steps_of r.steps.items) read)) (outs_short r.frame r.outs.items is.due)
    ∙ block_short_outs r.header r.frame r.low number (r.frame.first_line + 1 + r.frame.steps + length r.outs.items) is.number_is
ended_as (Found h low c) number answer is stands = stands
ended_as (End claim) number answer is stands = stands
ended_as (Done claim) number answer is stands = stands
