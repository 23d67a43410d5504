-- What a stage says about the lines read so far: the result of the text, as a function of the lines to come.
use Rattle.std.specs.Prelude.{◌≡◌, ℕ, ◌+◌, ◌≤◌, ◌<◌, List, [], ◌∷◌, length, drop, All, Option, Some, None, Result, Ok, Err}
use Rattle.text_core.specs.Lines.{Line}
use Rattle.sat_theory.specs.Line as theory
use Rattle.chain_theory.specs.Chain as chain
use Rattle.chain_theory.specs.declared.data.Out.{Out}
use Rattle.tt_core.specs.Words.{IsSpec}
use Rattle.tt_core.specs.Tables.{tables_of, rows_of}
use Rattle.chain_core.specs.Block as block
use Rattle.chain_core.specs.Block.{◌>>=◌}
use Rattle.chain_core.specs.Steps.{steps_of}
use Rattle.chain_core.specs.declared.frame.Frame.{Frame}
use Rattle.chain_core.specs.declared.error.ChainError.{ChainError}
use Rattle.chain_theory.specs.Limits.{most_steps}
use Rattle.cert_theory.specs.declared.data.Header.{Header}
use Rattle.cert_theory.specs.declared.data.Verdict.{Verdict}
use Rattle.cert_theory.specs.declared.data.CertificateError.{CertificateError}
use Rattle.cert_theory.specs.Gives.{Fails}
use Rattle.cert_theory.specs.Judging.{with_block, before, Between, Begun, Within, with_tables, after_basis}
use Rattle.cert_theory.specs.Judging.{after_method, after_conflicts, sections_of, after_chain, end_of, nothing_after}
use Rattle.cert_theory.specs.Judging.{certificate_of}
use Rattle.enc_theory.specs.declared.subproblem.Subproblem.{Subproblem}
use Rattle.cert_theory.specs.declared.data.LogEnd.{LogEnd}
use Rattle.cert_theory.specs.Certificate.{subproblems_of, formula_of, due_after}
use Rattle.cert_file.specs.declared.subproblem.SubproblemReader.{SubproblemReader}
use Rattle.cert_file.specs.Logged.{IsReading}
use Rattle.cert_file.specs.declared.claim.Claim.{Claim}
use Rattle.cert_file.specs.declared.stage.ChainLines.{ChainLines}
use Rattle.cert_file.specs.declared.stage.Running.{Running}
use Rattle.cert_file.specs.declared.stage.Stage.{Stage}
use Rattle.cert_file.specs.declared.stage.Stage.TheVariants as stages

abbrev pub Answer : Type 0
Answer = Result Verdict CertificateError

-- what is known of a header that was read
pub record IsKnown (h : Header) : Type 0 where
  pub output : 0 < length h.spec.on
  pub basis : 0 < h.basis
  pub max : h.max ≤ most_steps

-- a size whose section is being read: its subproblems, and the index of the current one
pub record IsRunning (r : Running) : Type 0 where
  pub known : IsKnown r.header
  pub size : r.size ≤ r.header.max
  pub subproblems : r.subproblems.items ≡ subproblems_of r.header r.size
  pub at : r.at < length r.subproblems.items

-- after the first line of a chain
pub record IsFrame (h : Header) (f : Frame) : Type 0 where
  pub known : IsKnown h
  pub n : f.n ≡ h.spec.n
  pub outputs : f.outputs ≡ length h.spec.on
  pub steps : f.steps ≤ most_steps

-- the steps so far were read, and at least one more is due
pub record AreRead (r : ChainLines) (number : ℕ) : Type 0 where
  pub frame : IsFrame r.header r.frame
  pub due : length r.steps.items < r.frame.steps
  pub steps_are : chain.AreSteps r.frame.n (steps_of r.steps.items)
  pub none : r.outs.items ≡ []
  pub number_is : number ≡ r.frame.first_line + 1 + length r.steps.items

-- all steps and the outputs so far were read, and at least one more output is due
pub record AreNamed (r : ChainLines) (number : ℕ) : Type 0 where
  pub frame : IsFrame r.header r.frame
  pub due : length r.outs.items < r.frame.outputs
  pub count : length r.steps.items ≡ r.frame.steps
  pub steps_are : chain.AreSteps r.frame.n (steps_of r.steps.items)
  pub named : All (chain.NamesPlace (r.frame.n + r.frame.steps)) r.outs.items
  pub number_is : number ≡ r.frame.first_line + 1 + r.frame.steps + length r.outs.items

-- the invariant of a stage, where the next line has this number
abbrev pub IsStage : Stage → ℕ → Type 0
IsStage stages.Start number = number ≡ 1
IsStage stages.Inputs number = number ≡ 2
IsStage (stages.Tables n on care) number = (number ≡ 3 + length on.items) × IsSpec (record { n = n; on = on.items; care = care.items })
IsStage (stages.Methods spec basis) number = (0 < basis) × (0 < length spec.on)
IsStage (stages.Conflicts spec basis method) number = (0 < basis) × (0 < length spec.on)
IsStage (stages.Sizes spec basis method conflicts) number = (0 < basis) × (0 < length spec.on)
IsStage (stages.Between n) number = IsKnown n.header
IsStage (stages.Due r) number = IsRunning r
IsStage (stages.Begun r) number = IsRunning r
IsStage (stages.Within r reader) number = IsRunning r
IsStage (stages.Steps r) number = AreRead r number
IsStage (stages.Outs r) number = AreNamed r number
IsStage (stages.Found h low c) number = IsKnown h
IsStage (stages.End claim) number = IsKnown claim.header
IsStage (stages.Done claim) number = IsKnown claim.header

-- what the text claims; None if a line is due
abbrev pub claim_in : Stage → Option Claim
claim_in (stages.Done claim) = Some claim
claim_in stage = None

-- the subproblems after the current one
abbrev pub later_of : Running → List Subproblem
later_of r = drop (r.at + 1) r.subproblems.items

-- those of them that are due after a log that ends so
abbrev pub left_of : Running → LogEnd → List Subproblem
left_of r ended = due_after r.header.method ended (later_of r)

-- the current subproblem
abbrev pub IsSubproblem : Running → Subproblem → Type 0
IsSubproblem r subproblem = drop r.at r.subproblems.items ≡ subproblem ∷ later_of r

-- After the name of a subproblem.
pub record IsBegun (r : Running) (number : ℕ) (lines : List Line) (answer : Answer) : Type 0 where
  pub subproblem : Subproblem
  pub is_subproblem : IsSubproblem r subproblem
  pub answer_is : answer ≡ sections_of r.header number (record { size = r.size; low = r.low; place = Begun subproblem (later_of r) }) lines

-- Within a log: the reader has read its lines so far.
pub record IsLogging (r : Running) (reader : SubproblemReader) (number : ℕ) (lines : List Line) (answer : Answer) : Type 0 where
  pub subproblem : Subproblem
  pub is_subproblem : IsSubproblem r subproblem
  pub log : List theory.Line
  pub reading : IsReading (formula_of r.header r.size subproblem) r.header.conflicts log reader
  pub answer_is : answer ≡ sections_of r.header number (record { size = r.size; low = r.low; place = Within subproblem (left_of r reader.ended) reader.ended log }) lines

-- the chain's grammar, after these outputs
abbrev pub outs_then : Frame → List chain.Step → Result (List Out × List Line) ChainError → Result block.Read ChainError
outs_then f steps read = read >>= λ os. Ok (record { chain = record { n = f.n; steps = steps; outs = os.0 }; rest = os.1 })

-- the chain's grammar, after these steps
abbrev pub steps_then : Frame → Result (List chain.Step × List Line) ChainError → Result block.Read ChainError
steps_then f read = read >>= λ s. outs_then f s.0 (block.outs_from f [] s.1)

-- the chain that is being read, as its grammar has it from these lines on: they begin with a step
abbrev pub steps_left : ChainLines → List Line → Result block.Read ChainError
steps_left r lines = steps_then r.frame (block.steps_from r.frame (steps_of r.steps.items) lines)

-- or they begin with an output
abbrev pub outs_left : ChainLines → List Line → Result block.Read ChainError
outs_left r lines = outs_then r.frame (steps_of r.steps.items) (block.outs_from r.frame r.outs.items lines)

-- The result of a text, where these lines come next.
abbrev pub AnswersLines : Stage → ℕ → List Line → Answer → Type 0
AnswersLines stages.Start number lines answer = answer ≡ certificate_of lines
AnswersLines stages.Inputs number lines answer = answer ≡ with_tables (tables_of lines)
AnswersLines (stages.Tables n on care) number lines answer = answer ≡ with_tables (rows_of (record { n = n; on = on.items; care = care.items }) lines)
AnswersLines (stages.Methods spec basis) number lines answer = answer ≡ after_basis spec basis number lines
AnswersLines (stages.Conflicts spec basis method) number lines answer = answer ≡ after_method spec basis method number lines
AnswersLines (stages.Sizes spec basis method conflicts) number lines answer = answer ≡ after_conflicts spec basis method conflicts number lines
AnswersLines (stages.Between n) number lines answer = answer ≡ sections_of n.header number (record { size = n.size; low = n.low; place = Between }) lines
AnswersLines (stages.Due r) number lines answer = answer ≡ sections_of r.header number (before r.size r.low (drop r.at r.subproblems.items)) lines
AnswersLines (stages.Begun r) number lines answer = IsBegun r number lines answer
AnswersLines (stages.Within r reader) number lines answer = IsLogging r reader number lines answer
AnswersLines (stages.Steps r) number lines answer = answer ≡ with_block r.header r.frame r.low (steps_left r lines)
AnswersLines (stages.Outs r) number lines answer = answer ≡ with_block r.header r.frame r.low (outs_left r lines)
AnswersLines (stages.Found h low c) number lines answer = answer ≡ after_chain number (length c.steps) low lines
AnswersLines (stages.End claim) number lines answer = answer ≡ end_of number claim.verdict lines
AnswersLines (stages.Done claim) number lines answer = answer ≡ nothing_after number claim.verdict lines

-- after one more line: the next stage determines the result, or the line is at fault, whatever comes next
abbrev pub Judged : Result Stage CertificateError → ℕ → List Line → Answer → Type 0
Judged (Ok stage) number lines answer = AnswersLines stage number lines answer
Judged (Err e) number lines answer = Fails e answer
