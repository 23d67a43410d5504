-- The spelling of a question, line by line.
use Rattle.std.specs.Prelude.{◌≡◌, ℕ, ◌≤◌, true, List, [], ◌∷◌, ◌++◌, length, codes}
use Rattle.text_core.specs.Lines.{Line, lines_of}
use Rattle.tt_core.specs.Words.{Words, IsSpec, specification}
use Rattle.tt_core.specs.Spelling.{SpellsTables}
use Rattle.chain_theory.specs.Chain.{IsChain}
use Rattle.chain_core.specs.Spelling.{chain_lines}
use Rattle.cmd_agree.specs.Agree.{AgreeInput}

-- `end`, and an LF
abbrev pub end_line : Line
end_line = record { text = codes "end"; ended = true }

-- The lines are the tables, then the chain's block and the line `end`, with nothing after it. The chain has the
-- inputs and outputs of the tables, and at most 16 steps. Example:
--
--     inputs 2
--     0110
--     chain 1
--     x3 x1 x2 0110
--     out x3
--     end
pub record AsksQuestion (bytes : List ℕ) (question : AgreeInput) : Type 0 where
  pub words : Words
  pub are : IsSpec words
  pub specify : question.tables ≡ specification words
  pub following : List Line
  pub tables : SpellsTables question.tables (lines_of bytes) following
  pub chain : IsChain question.chain
  pub inputs : question.chain.n ≡ question.tables.inputs
  pub outputs : length question.chain.outs ≡ question.tables.outputs
  pub steps : length question.chain.steps ≤ 16
  pub lines : following ≡ chain_lines question.chain ++ end_line ∷ []
