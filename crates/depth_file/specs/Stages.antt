-- What a stage says about the lines that were read: the answer that they have together with any lines that follow.
use Rattle.std.specs.Prelude.{◌≡◌, ℕ, ◌+◌, ◌≤◌, ◌<◌, List, ◌∷◌, length, map, drop, Option, Some, None, Result, Ok, Err}
use Rattle.text_core.specs.Lines.{Line}
use Rattle.sat_theory.specs.Line as theory
use Rattle.enc_theory.specs.declared.subproblem.Subproblem.TheVariants.{Levels}
use Rattle.settings.specs.declared.methods.Method.TheVariants.{Fence}
use Rattle.cert_theory.specs.Certificate.{formula_of}
use Rattle.cert_file.specs.declared.subproblem.SubproblemReader.{SubproblemReader}
use Rattle.cert_file.specs.Logged.{IsReading}
use Rattle.cert_file.specs.Reader.{seen, IsReader}
use Rattle.depth_theory.specs.declared.data.DepthVerdict.{DepthVerdict}
use Rattle.depth_theory.specs.declared.data.DepthError.{DepthError}
use Rattle.depth_theory.specs.Flatter.{flatter}
use Rattle.depth_theory.specs.DepthGives.{Fails}
use Rattle.depth_theory.specs.DepthJudging.{Answer, Place, Due, Begun, Within, after_chain, flat_from, end_of, nothing_after}
use Rattle.depth_file.specs.Prefixes.{IsInPrefix}
use Rattle.depth_file.specs.declared.stage.FenceCursor.{FenceCursor}
use Rattle.depth_file.specs.declared.stage.LeveledChain.{LeveledChain}
use Rattle.depth_file.specs.declared.stage.Stage.{Stage}
use Rattle.depth_file.specs.declared.stage.Stage.TheVariants as stages
use Rattle.chain_theory.specs.Limits.{most_steps}

-- a chain of a certificate by the method `fence`
pub record IsByFences (c : LeveledChain) : Type 0 where
  pub by_fences : c.header.method ≡ Fence
  pub operators : 0 < c.header.basis
  pub size : c.size ≤ most_steps

-- the fences that are due, and the index of the next one
pub record IsFenceCursor (f : FenceCursor) : Type 0 where
  pub chain : IsByFences f.chain
  pub fences : f.fences.items ≡ map Levels (flatter f.chain.header.spec f.chain.size f.chain.levels)
  pub at : f.at ≤ length f.fences.items

-- a fence is due or being read
pub record IsRunning (f : FenceCursor) : Type 0 where
  pub flat : IsFenceCursor f
  pub within : f.at < length f.fences.items

abbrev pub IsStage : Stage → Type 0
IsStage (stages.Prefix reader) = IsReader (seen reader)
IsStage (stages.Depth c) = IsByFences c
IsStage (stages.Due f) = IsFenceCursor f
IsStage (stages.Begun f) = IsRunning f
IsStage (stages.Within f reader) = IsRunning f
IsStage (stages.End verdict) = Unit {0}
IsStage (stages.Done verdict) = Unit {0}

-- the stage isn't within the certificate at the head
abbrev pub IsAfterPrefix : Stage → Type 0
IsAfterPrefix (stages.Prefix reader) = ⊥
IsAfterPrefix stage = Unit {0}

-- the verdict, if nothing more is due
abbrev pub verdict_in : Stage → Option DepthVerdict
verdict_in (stages.Done verdict) = Some verdict
verdict_in stage = None

-- the fences from the current one on, and those after it
abbrev pub due_of : FenceCursor → List (List ℕ)
due_of f = drop f.at (flatter f.chain.header.spec f.chain.size f.chain.levels)

abbrev pub later_of : FenceCursor → List (List ℕ)
later_of f = drop (f.at + 1) (flatter f.chain.header.spec f.chain.size f.chain.levels)

-- the current fence
abbrev pub IsNext : FenceCursor → List ℕ → Type 0
IsNext f fence = due_of f ≡ fence ∷ later_of f

-- The answer, if these lines follow, with the first open number of levels so far and the fences left.
abbrev pub fences_from : FenceCursor → ℕ → Option ℕ → Place → List Line → Answer
fences_from f number low place lines = flat_from f.chain.header f.chain.size f.chain.levels number low place lines

-- After the name of a fence.
pub record IsBegun (f : FenceCursor) (number : ℕ) (lines : List Line) (answer : Answer) : Type 0 where
  pub fence : List ℕ
  pub is_next : IsNext f fence
  pub answer_is : answer ≡ fences_from f number f.low (Begun fence (later_of f)) lines

-- In a log: the reader has read the lines so far.
pub record IsLogging (f : FenceCursor) (reader : SubproblemReader) (number : ℕ) (lines : List Line) (answer : Answer) : Type 0 where
  pub fence : List ℕ
  pub is_next : IsNext f fence
  pub log : List theory.Line
  pub reading : IsReading (formula_of f.chain.header f.chain.size (Levels fence)) f.chain.header.conflicts log reader
  pub answer_is : answer ≡ fences_from f number f.low (Within fence (later_of f) reader.ended log) lines

-- The answer, if these lines follow.
abbrev pub AnswersLines : Stage → ℕ → List Line → Answer → Type 0
AnswersLines (stages.Prefix reader) number lines answer = IsInPrefix reader number lines answer
AnswersLines (stages.Depth c) number lines answer = answer ≡ after_chain c.header c.size c.levels number lines
AnswersLines (stages.Due f) number lines answer = answer ≡ fences_from f number f.low (Due (due_of f)) lines
AnswersLines (stages.Begun f) number lines answer = IsBegun f number lines answer
AnswersLines (stages.Within f reader) number lines answer = IsLogging f reader number lines answer
AnswersLines (stages.End verdict) number lines answer = answer ≡ end_of number verdict lines
AnswersLines (stages.Done verdict) number lines answer = answer ≡ nothing_after number verdict lines

-- after one more line: the new stage has the answer, or the line is at fault whatever follows
abbrev pub Judged : Result Stage DepthError → ℕ → List Line → Answer → Type 0
Judged (Ok stage) number lines answer = AnswersLines stage number lines answer
Judged (Err e) number lines answer = Fails e answer
