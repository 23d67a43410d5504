-- The first line of a chain, and its end.
use Rattle.std.proofs.Common.{◌≡◌, ℕ, ◌+◌, List, [], length, Option, Result, Ok, ap, ◌∙◌}
use Rattle.text_core.specs.Lines.{Line}
use Rattle.chain_theory.specs.Chain.{Step}
use Rattle.chain_theory.specs.declared.data.Out.{Out}
use Rattle.chain_core.specs.declared.frame.Frame.{Frame}
use Rattle.chain_core.specs.declared.error.ChainError.{ChainError}
use Rattle.chain_core.specs.Block.{steps_from, outs_from, body_from}
use Rattle.chain_core.specs.BlockLaws.{outs_done}
use Rattle.cert_theory.specs.declared.data.Header.{Header}
use Rattle.cert_theory.specs.declared.data.CertificateError.{CertificateError}
use Rattle.cert_theory.specs.Gives.{◌>>=◌, Fails}
use Rattle.cert_theory.specs.Judging.{with_block, steps_at, frame_of, chain_at, chain_judged, after_chain}
use Rattle.cert_theory.specs.GivesLaws.{fails_bind, fails_is}
use Rattle.cert_file.specs.Stages.{outs_then, steps_then}
use Rattle.cert_file.proofs.Blocks.{body_is}

pub chain_goes : (h : Header) (number size : ℕ) (low : Option ℕ) (l : Line) (ls : List Line) (steps : ℕ) →
    steps_at h number size l ≡ Ok steps → chain_at h number size low l ls ≡ with_block h (frame_of h number steps) low
    (steps_then (frame_of h number steps) (steps_from (frame_of h number steps) [] ls))
chain_goes h number size low l ls steps read =
    ap (λ (r : Result ℕ CertificateError). r >>= λ steps. with_block h (frame_of h number steps) low (body_from (frame_of h number steps) ls)) read
    ∙ ap (with_block h (frame_of h number steps) low) (body_is (frame_of h number steps) ls)

-- all outputs were read: the chain is checked
outs_end : (h : Header) (f : Frame) (low : Option ℕ) (steps : List Step) (os : List Out) (ls : List Line) →
    length os ≡ f.outputs → with_block h f low (outs_then f steps (outs_from f os ls)) ≡
    (chain_judged h (record { n = f.n; steps = steps; outs = os }) >>= λ good.
    after_chain (f.first_line + 1 + f.steps + f.outputs) f.steps low ls)
unfolding with_block
outs_end h f low steps os ls all = ap (λ (r : Result (List Out × List Line) ChainError). with_block h f low (outs_then f steps r)) (outs_done f os ls all)

pub end_fails : (h : Header) (f : Frame) (low : Option ℕ) (steps : List Step) (os : List Out) (ls : List Line)
    (e : CertificateError) → length os ≡ f.outputs →
    Fails e (chain_judged h (record { n = f.n; steps = steps; outs = os })) →
    Fails e (with_block h f low (outs_then f steps (outs_from f os ls)))
end_fails h f low steps os ls e all fails = fails_is e _ _ (outs_end h f low steps os ls all) (fails_bind e (chain_judged h (record { n = f.n; steps = steps; outs = os })) _ fails)

pub end_goes : (h : Header) (f : Frame) (low : Option ℕ) (steps : List Step) (os : List Out) (ls : List Line) →
    length os ≡ f.outputs → chain_judged h (record { n = f.n; steps = steps; outs = os }) ≡ Ok tt →
    with_block h f low (outs_then f steps (outs_from f os ls)) ≡
    after_chain (f.first_line + 1 + f.steps + f.outputs) f.steps low ls
end_goes h f low steps os ls all good = outs_end h f low steps os ls all
    ∙ ap (λ (r : Result (Unit {0}) CertificateError). r >>= λ good.
    after_chain (f.first_line + 1 + f.steps + f.outputs) f.steps low ls) good
