-- What a stage keeps for the end: the header, and the chain, as soon as they have been read. `all` are all
-- lines of the text.
use Rattle.std.specs.Prelude.{◌≡◌, ℕ, ◌+◌, List, ◌++◌, length, Option, Some, None, Result, Ok, Err}
use Rattle.text_core.specs.Lines.{Line}
use Rattle.chain_theory.specs.Chain.{Chain}
use Rattle.tt_core.specs.Tables.{tables_of, rows_of}
use Rattle.chain_core.specs.Block as block
use Rattle.chain_core.specs.declared.frame.Frame.{Frame}
use Rattle.chain_core.specs.declared.error.ChainError.{ChainError}
use Rattle.cert_theory.specs.declared.data.Header.{Header}
use Rattle.cert_theory.specs.declared.data.Verdict.{Verdict}
use Rattle.cert_theory.specs.Certificate.{Certificate, found, not_found}
use Rattle.cert_file.specs.HeaderLines.{with_max, with_conflicts, with_method, header_by, header_in}
use Rattle.cert_file.specs.Stages.{steps_left, outs_left}
use Rattle.cert_file.specs.declared.claim.Claim.{Claim}
use Rattle.cert_file.specs.declared.stage.Stage.{Stage}
use Rattle.cert_file.specs.declared.stage.Stage.TheVariants as stages

abbrev pub chain_read : Result block.Read ChainError → Option Chain
chain_read (Ok read) = Some read.chain
chain_read (Err e) = None

-- A chain begins at the line that the frame names; `read` is the result of its grammar there.
pub record IsBlock (f : Frame) (all : List Line) (read : Result block.Read ChainError) : Type 0 where
  pub prefix : List Line
  pub lines : List Line
  pub all_is : all ≡ prefix ++ lines
  pub place : f.first_line ≡ length prefix + 1
  pub read_is : block.chain_of f.first_line f.n f.outputs lines ≡ read

-- This chain was read; after it, `following` are the lines from `number` on.
pub record IsHeld (h : Header) (c : Chain) (following number : ℕ) (all : List Line) : Type 0 where
  pub prefix : List Line
  pub lines : List Line
  pub all_is : all ≡ prefix ++ lines
  pub read_is : chain_read (block.chain_of (length prefix + 1) c.n (length c.outs) lines) ≡ Some c
  pub inputs : c.n ≡ h.spec.n
  pub outputs : length c.outs ≡ length h.spec.on
  pub number_is : number ≡ length prefix + 2 + length c.steps + length c.outs + following

-- The verdict is one with a chain, which was read, or one without.
abbrev pub HasEnded : Header → Option Chain → Verdict → ℕ → ℕ → List Line → Type 0
HasEnded h (Some c) v following number all = IsHeld h c following number all × ((low : Option ℕ) × (v ≡ found (length c.steps) low))
HasEnded h None v following number all = (low : Option ℕ) × (v ≡ not_found h.max low)

-- the header, where these lines come next
abbrev pub KeepsHeader : Stage → List Line → Option Header → Type 0
KeepsHeader stages.Start lines kept = kept ≡ header_in lines
KeepsHeader stages.Inputs lines kept = kept ≡ header_by (tables_of lines)
KeepsHeader (stages.Tables n on care) lines kept = kept ≡ header_by (rows_of (record { n = n; on = on.items; care = care.items }) lines)
KeepsHeader (stages.Methods spec basis) lines kept = kept ≡ with_method spec basis lines
KeepsHeader (stages.Conflicts spec basis method) lines kept = kept ≡ with_conflicts spec basis method lines
KeepsHeader (stages.Sizes spec basis method conflicts) lines kept = kept ≡ with_max spec basis method conflicts lines
KeepsHeader (stages.Between n) lines kept = kept ≡ Some n.header
KeepsHeader (stages.Due r) lines kept = kept ≡ Some r.header
KeepsHeader (stages.Begun r) lines kept = kept ≡ Some r.header
KeepsHeader (stages.Within r reader) lines kept = kept ≡ Some r.header
KeepsHeader (stages.Steps r) lines kept = kept ≡ Some r.header
KeepsHeader (stages.Outs r) lines kept = kept ≡ Some r.header
KeepsHeader (stages.Found h low c) lines kept = kept ≡ Some h
KeepsHeader (stages.End claim) lines kept = kept ≡ Some claim.header
KeepsHeader (stages.Done claim) lines kept = kept ≡ Some claim.header

-- what was read of the chain
abbrev pub Holds : Stage → ℕ → List Line → List Line → Type 0
Holds (stages.Steps r) number lines all = IsBlock r.frame all (steps_left r lines)
Holds (stages.Outs r) number lines all = IsBlock r.frame all (outs_left r lines)
Holds (stages.Found h low c) number lines all = IsHeld h c 0 number all
Holds (stages.End claim) number lines all = HasEnded claim.header claim.chain claim.verdict 1 number all
Holds (stages.Done claim) number lines all = HasEnded claim.header claim.chain claim.verdict 2 number all
Holds stage number lines all = Unit {0}

abbrev pub KeepsClaim : Stage → ℕ → List Line → List Line → Type 0
KeepsClaim stage number lines all = KeepsHeader stage lines (header_in all) × Holds stage number lines all

-- What was read of all lines, at the end.
pub record HasClaim (t : Claim) (all : List Line) : Type 0 where
  pub asks : header_in all ≡ Some t.header
  pub ended : HasEnded t.header t.chain t.verdict 2 (length all + 1) all

-- What is returned for a certificate: its header, its chain and its verdict.
pub record IsClaim (b : Certificate) (t : Claim) : Type 0 where
  pub header : t.header ≡ b.header
  pub chain : t.chain ≡ b.chain
  pub verdict : t.verdict ≡ b.verdict
