-- What a stage keeps of the text, after one more line.
use Rattle.std.proofs.Common.{◌≡◌, ℕ, ◌+◌, List, [], ◌∷◌, length, Result, Ok, sym, ap, ◌∙◌, subst, arith}
use Rattle.text_core.specs.Lines.{Line}
use Rattle.chain_theory.specs.Chain.{Chain, Step}
use Rattle.chain_theory.specs.declared.data.Out.{Out}
use Rattle.chain_core.specs.Block.{◌>>=◌, Read, count_at, steps_from, outs_from, body_from, chain_of}
use Rattle.chain_core.specs.BlockLaws.{outs_done}
use Rattle.chain_core.specs.declared.frame.Frame.{Frame}
use Rattle.chain_core.specs.declared.error.ChainError.{ChainError}
use Rattle.cert_theory.specs.declared.data.Header.{Header}
use Rattle.cert_file.specs.Stages.{IsFrame, steps_then, outs_then}
use Rattle.line_reader.specs.Splits.{IsPlace}
use Rattle.cert_file.specs.Claims.{IsBlock, IsHeld, chain_read}
use Rattle.cert_file.proofs.Blocks.{body_is}

-- ---- the chain

pub block_begins : (f : Frame) (all : List Line) (l : Line) (ls : List Line) → IsPlace f.first_line (l ∷ ls) all →
    count_at f.first_line l ≡ Ok f.steps → IsBlock f all (steps_then f (steps_from f [] ls))
unfolding chain_of
block_begins f all l ls place count = record {
  prefix = place.prefix;
  lines = l ∷ ls;
  all_is = place.all_is;
  place = place.number_is;
  read_is = ap (λ (r : Result ℕ ChainError). r >>= λ n. body_from (record { first_line = f.first_line; n = f.n; outputs = f.outputs; steps = n }) ls) count ∙ body_is f ls;
}

pub block_goes : (f : Frame) (all : List Line) (read next : Result Read ChainError) → read ≡ next → IsBlock f all read → IsBlock f all next
block_goes f all read next same is = subst (λ (r : Result Read ChainError). IsBlock f all r) same is

-- all outputs were read
pub block_held : (h : Header) (f : Frame) (all ls : List Line) (steps : List Step) (os : List Out) (number : ℕ)
    (c : Chain) → IsFrame h f → length steps ≡ f.steps → length os ≡ f.outputs →
    number ≡ f.first_line + 1 + f.steps + f.outputs → c ≡ record { n = f.n; steps = steps; outs = os } →
    IsBlock f all (outs_then f steps (outs_from f os ls)) → IsHeld h c 0 number all
block_held h f all ls steps os number c frame count all_outs place is block =
    let own : Chain = record { n = f.n; steps = steps; outs = os } in
    let first : f.first_line ≡ length block.prefix + 1 = block.place in
    subst (λ (x : Chain). IsHeld h x 0 number all) (sym is)
    (record {
      prefix = block.prefix;
      lines = block.lines;
      all_is = block.all_is;
      read_is = (λ i. chain_read (chain_of (sym first i) f.n (all_outs i) block.lines))
          ∙ ap chain_read (block.read_is ∙ ap (λ (r : Result (List Out × List Line) ChainError). outs_then f steps r)
          (outs_done f os ls all_outs));
      inputs = frame.n;
      outputs = all_outs ∙ frame.outputs;
      number_is = omega (arith, place, first, count, all_outs);
    })
