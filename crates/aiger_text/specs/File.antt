-- The content of an AIGER file (the AIGER 1.9 report), in either form, apart from comments. A literal is a number: that
-- of a variable twice, and one more for its complement; 0 and 1 are the constants.
use Rattle.std.specs.Prelude.{ℕ, List}
use Rattle.aiger_text.specs.declared.file.AigLatch.{AigLatch}
use Rattle.aiger_text.specs.declared.file.AigGate.{AigGate}
use Rattle.aiger_text.specs.declared.file.Symbol.{Symbol}

-- Each list is in the order of the file. Inputs, latches and gates have the literals of variables up to `variables`,
-- and outputs and fanins have any literals up to there.
pub record AigFile : Type 0 where
  pub variables : ℕ
  pub inputs : List ℕ
  pub latches : List AigLatch
  pub outputs : List ℕ
  pub gates : List AigGate
  pub symbols : List Symbol
