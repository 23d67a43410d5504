-- Files that are parsed and that can be written: literals are those of the file's variables, symbols name its positions,
-- and each input, latch and gate can have a variable of its own.
use Rattle.std.specs.Prelude.{◌≡◌, ◌+◌, ◌≤◌, ◌<◌, ℕ, true, false, length, All}
use Rattle.net_theory.specs.Document.{IsName}
use Rattle.aiger_text.specs.declared.file.Counts.{Counts}
use Rattle.aiger_text.specs.declared.file.AigLatch.{AigLatch}
use Rattle.aiger_text.specs.declared.file.AigGate.{AigGate}
use Rattle.aiger_text.specs.declared.file.Symbol.{Symbol}
use Rattle.aiger_text.specs.File.{AigFile}
use Rattle.aiger_text.specs.Limits.{most_variables, most_sources, most_outputs}
use Rattle.aiger_text.specs.Statements.{most_literal, is_variable, count_of, is_reserved}

abbrev pub counts_of : AigFile → Counts
counts_of f = record {
  variables = f.variables;
  inputs = length f.inputs;
  latches = length f.latches;
  outputs = length f.outputs;
  gates = length f.gates;
}

-- a literal of a file with these counts
abbrev pub IsLiteral : Counts → ℕ → Type 0
IsLiteral c lit = lit ≤ most_literal c

-- the literal of a variable
pub record IsVariable (c : Counts) (lit : ℕ) : Type 0 where
  pub variable : is_variable lit ≡ true
  pub within : IsLiteral c lit

pub record IsLatchAt (c : Counts) (l : AigLatch) : Type 0 where
  pub literal : IsVariable c l.literal
  pub next : IsLiteral c l.next

pub record IsGateAt (c : Counts) (g : AigGate) : Type 0 where
  pub literal : IsVariable c g.literal
  pub first : IsLiteral c g.first
  pub second : IsLiteral c g.second

-- a name that isn't reserved, for a position that is there
pub record IsSymbolAt (c : Counts) (s : Symbol) : Type 0 where
  pub name : IsName s.name
  pub free : is_reserved s.name ≡ false
  pub low : s.position < count_of c s.kind

-- the counts are within their limits
pub record AreCounts (c : Counts) : Type 0 where
  pub variables : c.variables ≤ most_variables
  pub sources : c.inputs + c.latches ≤ most_sources
  pub outputs : c.outputs ≤ most_outputs
  pub room : c.inputs + c.latches + c.gates ≤ c.variables

pub record IsAig (f : AigFile) : Type 0 where
  pub counts : AreCounts (counts_of f)
  pub inputs : All (IsVariable (counts_of f)) f.inputs
  pub latches : All (IsLatchAt (counts_of f)) f.latches
  pub outputs : All (IsLiteral (counts_of f)) f.outputs
  pub gates : All (IsGateAt (counts_of f)) f.gates
  pub symbols : All (IsSymbolAt (counts_of f)) f.symbols
