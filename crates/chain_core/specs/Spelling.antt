-- The spelling of a chain block. Example: the XOR chain is
--
--     chain 1
--     x3 x1 x2 0110
--     out x3
use Rattle.std.specs.Prelude.{◌≡◌, ℕ, ◌+◌, ◌≤◌, true, List, [], ◌∷◌, ◌++◌, length, map, codes, decimal}
use Rattle.std.specs.List.{flat_map, join_with_byte}
use Rattle.text_core.specs.Lines.{Line, line_bytes}
use Rattle.chain_theory.specs.declared.data.Out.{Out}
use Rattle.chain_theory.specs.declared.data.Out.TheVariants.{Zero, One, Place}
use Rattle.chain_theory.specs.Chain.{Step, Chain, IsChain}
use Rattle.op_basis.specs.Word.{word_text}
use Rattle.chain_core.specs.Block.{Read}
use Rattle.chain_theory.specs.Limits.{most_steps}

-- a line that ends with an LF
abbrev pub line : List ℕ → Line
line text = record { text = text; ended = true }

abbrev pub place_text : ℕ → List ℕ
place_text place = codes "x" ++ decimal place

-- the text of the step at a place: four items with blanks between them
unfoldable pub step_text : ℕ → Step → List ℕ
step_text place s = join_with_byte 32 (place_text place ∷ place_text s.j ∷ place_text s.k ∷ word_text s.op ∷ [])

-- the lines of steps, the first of them at the given place
unfoldable pub step_lines : ℕ → List Step → List Line
step_lines place [] = []
step_lines place (s ∷ ss) = line (step_text place s) ∷ step_lines (place + 1) ss

abbrev pub named_text : Out → List ℕ
named_text Zero = codes "0"
named_text One = codes "1"
named_text (Place p) = place_text p

unfoldable pub out_text : Out → List ℕ
out_text o = codes "out " ++ named_text o

abbrev pub out_line : Out → Line
out_line o = line (out_text o)

unfoldable pub count_text : ℕ → List ℕ
count_text r = codes "chain " ++ decimal r

-- the lines of a chain's block
abbrev pub chain_lines : Chain → List Line
chain_lines c = line (count_text (length c.steps)) ∷ (step_lines (c.n + 1) c.steps ++ map out_line c.outs)

-- a chain's block
abbrev pub chain_text : Chain → List ℕ
chain_text c = flat_map line_bytes (chain_lines c)

-- The bytes spell a chain of n inputs, m outputs and at most 16 steps: they are exactly its block
-- followed by the lines after it.
pub record SpellsChain (n m : ℕ) (bytes : List ℕ) (x : Read) : Type 0 where
  pub chain : IsChain x.chain
  pub inputs : x.chain.n ≡ n
  pub outputs : length x.chain.outs ≡ m
  pub steps : length x.chain.steps ≤ most_steps
  pub text : bytes ≡ chain_text x.chain ++ flat_map line_bytes x.rest
