-- Lines of a chain.
use Rattle.std.proofs.Common.{◌≡◌, ℕ, ◌<◌, ◌==◌, Bool, false, cond, List, [], ◌∷◌, ◌++◌, length, Option, Result, Ok, refl, sym, ap, ◌∙◌, arith}
use Rattle.std.proofs.lemmas.Bool.Decides.{nat_tests}
use Rattle.std.proofs.lemmas.List.{length-map, map-append}
use Rattle.text_core.specs.Lines.{Line}
use Rattle.chain_theory.specs.Chain.{Step}
use Rattle.chain_theory.specs.declared.data.Out.{Out}
use Rattle.chain_core.specs.declared.frame.Frame.{Frame}
use Rattle.chain_core.specs.declared.step.Step.{Step as ReadStep}
use Rattle.chain_core.specs.Steps.{step_of, steps_of}
use Rattle.chain_core.specs.declared.error.ChainError.{ChainError}
use Rattle.chain_core.specs.Block.{◌>>=◌, steps_from, step_at, outs_from, out_at, body_from}
use Rattle.chain_core.specs.Reading as reading
use Rattle.chain_core.specs.BlockLaws.{steps_done}
use Rattle.cert_theory.specs.declared.data.Header.{Header}
use Rattle.cert_theory.specs.declared.data.CertificateError.{CertificateError}
use Rattle.cert_theory.specs.Judging.{with_block, frame_of}
use Rattle.cert_theory.specs.Gives.{Fails}
use Rattle.cert_file.specs.Stages.{outs_then, steps_then}
use Rattle.cert_file.specs.Refusals.{IsRefusal}
use Rattle.cert_file.proofs.Refusing.{block_fails, fails_on}

not_yet : (m n : ℕ) → m < n → (m == n) ≡ false
not_yet m n less = grind (arith, nat_tests)

-- ---- the first line

pub body_is : (f : Frame) (ls : List Line) → body_from f ls ≡ steps_then f (steps_from f [] ls)
unfolding body_from
body_is f ls = refl

-- the frame of the chain's grammar
pub frame_is : (h : Header) (number steps n outputs : ℕ) → n ≡ h.spec.n → outputs ≡ length h.spec.on → frame_of h number steps ≡ record { first_line = number; n = n; outputs = outputs; steps = steps }
frame_is h number steps n outputs inputs_is outputs_is = λ i. record { first_line = number; n = sym inputs_is i; outputs = sym outputs_is i; steps = steps }

-- ---- steps

step_is : (f : Frame) (steps : List Step) (l : Line) (ls : List Line) → length steps < f.steps → steps_from f steps (l ∷ ls) ≡ (step_at f (length steps) l >>= λ s. steps_from f (steps ++ s ∷ []) ls)
unfolding steps_from
step_is f steps l ls due = ap (λ (b : Bool). cond b (Ok (steps, l ∷ ls)) (step_at f (length steps) l >>= λ s. steps_from f (steps ++ s ∷ []) ls)) (not_yet (length steps) f.steps due)

pub step_fails : (h : Header) (f : Frame) (low : Option ℕ) (steps : List Step) (done : ℕ) (l : Line) (ls : List Line)
    (error : ChainError) (e : CertificateError) → done ≡ length steps → length steps < f.steps →
    reading.Fails error (step_at f done l) → IsRefusal error e →
    Fails e (with_block h f low (steps_then f (steps_from f steps (l ∷ ls))))
step_fails h f low steps done l ls error e same due fails is =
    block_fails h f low (steps_then f (steps_from f steps (l ∷ ls))) error e
    (fails_on error (step_at f done l) (steps_then f (steps_from f steps (l ∷ ls)))
    (λ d claim. ap (steps_then f) (step_is f steps l ls due
    ∙ ap (λ (r : Result Step ChainError). r >>= λ s. steps_from f (steps ++ s ∷ []) ls)
    (ap (λ (n : ℕ). step_at f n l) (sym same) ∙ claim))) fails) is

step_reads : (f : Frame) (steps : List Step) (done : ℕ) (l : Line) (ls : List Line) (s : Step) →
    done ≡ length steps → length steps < f.steps → step_at f done l ≡ Ok s →
    steps_then f (steps_from f steps (l ∷ ls)) ≡ steps_then f (steps_from f (steps ++ s ∷ []) ls)
step_reads f steps done l ls s same due read =
    ap (λ (r : Result (List Step × List Line) ChainError). steps_then f r) (step_is f steps l ls due
    ∙ ap (λ (r : Result Step ChainError). r >>= λ s. steps_from f (steps ++ s ∷ []) ls)
    (ap (λ (n : ℕ). step_at f n l) (sym same) ∙ read))

-- the step stands after those so far
pub step_added : (f : Frame) (steps more : List ReadStep) (done : ℕ) (l : Line) (ls : List Line) (s : ReadStep) →
    done ≡ length steps → length steps < f.steps → step_at f done l ≡ Ok (step_of s) → more ≡ steps ++ s ∷ [] →
    steps_then f (steps_from f (steps_of steps) (l ∷ ls)) ≡ steps_then f (steps_from f (steps_of more) ls)
step_added f steps more done l ls s place due read added =
    let count : length (steps_of steps) ≡ length steps = length-map steps step_of in
    step_reads f (steps_of steps) done l ls (step_of s) (omega (arith, count, place)) (omega (arith, count, due)) read
    ∙ ap (λ (ss : List Step). steps_then f (steps_from f ss ls)) (sym (ap steps_of added ∙ map-append step_of steps (s ∷ [])))

-- all steps were read
steps_out : (f : Frame) (steps : List Step) (ls : List Line) → length steps ≡ f.steps → steps_then f (steps_from f steps ls) ≡ outs_then f steps (outs_from f [] ls)
steps_out f steps ls all = ap (λ (r : Result (List Step × List Line) ChainError). steps_then f r) (steps_done f steps ls all)

-- and no output yet
pub steps_full : (f : Frame) (steps : List ReadStep) (os : List Out) (ls : List Line) → length steps ≡ f.steps → os ≡ [] →
    steps_then f (steps_from f (steps_of steps) ls) ≡ outs_then f (steps_of steps) (outs_from f os ls)
steps_full f steps os ls all none =
    let count : length (steps_of steps) ≡ length steps = length-map steps step_of in
    steps_out f (steps_of steps) ls (omega (arith, count, all))
    ∙ ap (λ (xs : List Out). outs_then f (steps_of steps) (outs_from f xs ls)) (sym none)

-- ---- outs

out_is : (f : Frame) (os : List Out) (l : Line) (ls : List Line) → length os < f.outputs → outs_from f os (l ∷ ls) ≡ (out_at f (length os) l >>= λ o. outs_from f (os ++ o ∷ []) ls)
unfolding outs_from
out_is f os l ls due = ap (λ (b : Bool). cond b (Ok (os, l ∷ ls)) (out_at f (length os) l >>= λ o. outs_from f (os ++ o ∷ []) ls)) (not_yet (length os) f.outputs due)

pub out_fails : (h : Header) (f : Frame) (low : Option ℕ) (steps : List Step) (os : List Out) (done : ℕ) (l : Line)
    (ls : List Line) (error : ChainError) (e : CertificateError) → done ≡ length os → length os < f.outputs →
    reading.Fails error (out_at f done l) → IsRefusal error e →
    Fails e (with_block h f low (outs_then f steps (outs_from f os (l ∷ ls))))
out_fails h f low steps os done l ls error e same due fails is =
    block_fails h f low (outs_then f steps (outs_from f os (l ∷ ls))) error e
    (fails_on error (out_at f done l) (outs_then f steps (outs_from f os (l ∷ ls)))
    (λ d claim. ap (outs_then f steps) (out_is f os l ls due
    ∙ ap (λ (r : Result Out ChainError). r >>= λ o. outs_from f (os ++ o ∷ []) ls)
    (ap (λ (n : ℕ). out_at f n l) (sym same) ∙ claim))) fails) is

out_reads : (f : Frame) (steps : List Step) (os : List Out) (done : ℕ) (l : Line) (ls : List Line) (o : Out) →
    done ≡ length os → length os < f.outputs → out_at f done l ≡ Ok o → outs_then f steps (outs_from f os (l ∷ ls)) ≡
    outs_then f steps (outs_from f (os ++ o ∷ []) ls)
out_reads f steps os done l ls o same due read =
    ap (λ (r : Result (List Out × List Line) ChainError). outs_then f steps r) (out_is f os l ls due
    ∙ ap (λ (r : Result Out ChainError). r >>= λ o. outs_from f (os ++ o ∷ []) ls)
    (ap (λ (n : ℕ). out_at f n l) (sym same) ∙ read))

-- the output stands after those so far
pub out_added : (f : Frame) (steps : List Step) (os more : List Out) (done : ℕ) (l : Line) (ls : List Line) (o : Out) →
    done ≡ length os → length os < f.outputs → out_at f done l ≡ Ok o → more ≡ os ++ o ∷ [] →
    outs_then f steps (outs_from f os (l ∷ ls)) ≡ outs_then f steps (outs_from f more ls)
out_added f steps os more done l ls o place due read added =
    out_reads f steps os done l ls o place due read
    ∙ ap (λ (xs : List Out). outs_then f steps (outs_from f xs ls)) (sym added)
