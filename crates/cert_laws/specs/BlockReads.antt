-- The grammar of a chain, in pieces.
use Rattle.std.proofs.Common.{◌≡◌, ℕ, List, ◌∷◌, Result, Ok, sym, ap, ◌∙◌}
use Rattle.text_core.specs.Lines.{Line}
use Rattle.chain_core.specs.declared.frame.Frame.{Frame}
use Rattle.chain_core.specs.declared.error.ChainError.{ChainError}
use Rattle.chain_core.specs.Block.{◌>>=◌, Read, count_at, body_from, chain_of}

pub chain_read : (f : Frame) (l : Line) (ls : List Line) (x : Read) → count_at f.first_line l ≡ Ok f.steps → body_from f ls ≡ Ok x → chain_of f.first_line f.n f.outputs (l ∷ ls) ≡ Ok x
unfolding chain_of
chain_read f l ls x counted read =
    ap (λ (r : Result ℕ ChainError). r >>= λ steps. body_from (record { first_line = f.first_line; n = f.n; outputs = f.outputs; steps = steps }) ls) counted ∙ read

-- the lines after the first line of a chain
pub body_again : (first n m r : ℕ) (l : Line) (ls : List Line) (x : Read) → count_at first l ≡ Ok r →
    chain_of first n m (l ∷ ls) ≡ Ok x → body_from (record { first_line = first; n = n; outputs = m; steps = r }) ls ≡
    Ok x
unfolding chain_of
body_again first n m r l ls x counted e =
    sym (ap (λ (q : Result ℕ ChainError). q >>= λ steps. body_from (record { first_line = first; n = n; outputs = m; steps = steps }) ls) counted) ∙ e
