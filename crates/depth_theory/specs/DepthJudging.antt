-- Lines judged as a depth certificate, and the first fault if they aren't one. Lines are judged from the top; the
-- lines of one log are judged as in certificates. Each function is given the number of its first line in the whole
-- text.
use Rattle.std.specs.Prelude.{◌≡◌, ℕ, ◌+◌, Bool, false, ◌&&◌, ◌||◌, ◌==◌, if◌then◌else◌, List, [], ◌∷◌, ◌++◌, length}
use Rattle.std.specs.Prelude.{codes, Option, Some, None, is_some, Result, Ok, Err}
use Rattle.chain_theory.specs.Chain.{Chain}
use Rattle.chain_theory.specs.Levels.{depth}
use Rattle.text_core.specs.Lines.{Line}
use Rattle.sat_theory.specs.Line as theory
use Rattle.enc_theory.specs.declared.subproblem.Subproblem.TheVariants.{Levels}
use Rattle.settings.specs.declared.methods.Method.{Method}
use Rattle.settings.specs.declared.methods.Method.TheVariants as methods
use Rattle.cert_theory.specs.declared.data.Header.{Header}
use Rattle.cert_theory.specs.declared.data.LogEnd.{LogEnd}
use Rattle.cert_theory.specs.declared.data.Verdict.{Verdict}
use Rattle.cert_theory.specs.declared.data.Verdict.TheVariants.{Minimum}
use Rattle.cert_theory.specs.declared.data.CertificateError.{CertificateError}
use Rattle.cert_theory.specs.declared.data.SubproblemError.{SubproblemError}
use Rattle.cert_theory.specs.declared.data.SubproblemError.TheVariants as subproblem_errors
use Rattle.cert_theory.specs.Gives.{◌>>=◌, with_fault}
use Rattle.cert_theory.specs.Certificate.{Certificate, formula_of, IsValid, HasOutput}
use Rattle.cert_theory.specs.Spelling.{end_text, certificate_lines}
use Rattle.cert_theory.specs.SubproblemLines.{is_line, name_in, ended_in, subproblem_in}
use Rattle.cert_theory.specs.Judging.{number_after, numbered_in, is_fence_name, low_with, certificate_of}
use Rattle.depth_theory.specs.declared.data.DepthVerdict.{DepthVerdict}
use Rattle.depth_theory.specs.declared.data.DepthVerdict.TheVariants as verdicts
use Rattle.depth_theory.specs.declared.data.DepthError.{DepthError}
use Rattle.depth_theory.specs.declared.data.DepthError.TheVariants.{Certificate as InCertificate, NotLeastForm, Syntax}
use Rattle.depth_theory.specs.declared.data.DepthError.TheVariants.{WrongDepth, StepRefused, NotNew, NotRefuted}
use Rattle.depth_theory.specs.declared.data.DepthError.TheVariants.{OpenTooShort, WrongLevels, Memory}
use Rattle.depth_theory.specs.Flatter.{flatter}
use Rattle.depth_theory.specs.DepthCertificate.{levels_found}

abbrev pub Answer : Type 0
Answer = Result DepthVerdict DepthError

-- ---- lines

-- what was read, or Syntax at the line if nothing was
abbrev pub or_syntax : {A : Type 0} → ℕ → Option A → Result A DepthError
or_syntax number None = Err (Syntax number)
or_syntax number (Some x) = Ok x

-- a fault of a log, at a line
abbrev pub fault_at : ℕ → SubproblemError → DepthError
fault_at number subproblem_errors.Syntax = Syntax number
fault_at number (subproblem_errors.StepRefused e) = StepRefused number e
fault_at number subproblem_errors.NotNew = NotNew number
fault_at number subproblem_errors.NotRefuted = NotRefuted number
fault_at number subproblem_errors.TooShort = OpenTooShort number
fault_at number subproblem_errors.EmptyClauseDerived = WrongLevels number
fault_at number subproblem_errors.Memory = Memory

-- what was read of a log, or its fault at this line
abbrev pub at_line : {A : Type 0} → ℕ → Result A SubproblemError → Result A DepthError
at_line number read = with_fault (fault_at number) read

-- ---- verdicts, as they are written

-- the verdict that a line states
unfoldable pub levels_in : Line → Option DepthVerdict
levels_in l = numbered_in (λ d. verdicts.Levels d) (λ low d. verdicts.Bounded low d) (codes "levels ")
    (codes "levels-bounded ") l

abbrev pub is_same : DepthVerdict → DepthVerdict → Bool
is_same (verdicts.Levels d) (verdicts.Levels e) = d == e
is_same (verdicts.Bounded low d) (verdicts.Bounded least e) = low == least && d == e
is_same v w = false

-- ---- the trailer

-- the verdict is the one that follows
abbrev pub follows : ℕ → DepthVerdict → DepthVerdict → Answer
follows number due v = if is_same v due then Ok v else Err (WrongLevels number)

abbrev pub nothing_after : ℕ → DepthVerdict → List Line → Answer
nothing_after number v [] = Ok v
nothing_after number v (l ∷ ls) = Err (Syntax number)

-- the line `end`, and nothing after it
unfoldable pub end_of : ℕ → DepthVerdict → List Line → Answer
end_of number v [] = Err (Syntax number)
end_of number v (l ∷ ls) = if is_line end_text l then nothing_after (number + 1) v ls else Err (Syntax number)

-- the verdict, where no fence is left; the name of a fence there is a fault of its own
unfoldable pub verdict_at : ℕ → DepthVerdict → Line → Answer
verdict_at number due l = if is_fence_name l then Err (NotRefuted number)
    else (or_syntax number (levels_in l) >>= follows number due)

-- ---- logs

-- whether a line could follow where the name of a fence is due
unfoldable pub may_follow : Line → Bool
may_follow l = is_fence_name l || is_some (levels_in l)

-- What is due: the names of these fences and then the verdict; or the log of a named fence; or the next line of
-- its log, which has these lines.
pub data Place : Type 0 where
  Due : (fences : List (List ℕ)) → Place
  Begun : (fence : List ℕ) (later : List (List ℕ)) → Place
  Within : (fence : List ℕ) (later : List (List ℕ)) (ended : LogEnd) (log : List theory.Line) → Place

-- what is due, and the number of levels of the first open fence before it
pub record Progress : Type 0 where
  pub low : Option ℕ
  pub place : Place

-- what is due after a line of a log, or after its end
abbrev pub after_line : Option ℕ → List ℕ → List (List ℕ) → LogEnd → List theory.Line → Option theory.Line → Progress
after_line low fence later ended log None = record { low = low_with low ended (length fence); place = Due later }
after_line low fence later ended log (Some line) =
    record { low = low; place = Within fence later ended (log ++ line ∷ []) }

-- The lines after that of the depth, from the point given, for a chain of `size` steps and `d` levels.
unfoldable pub flat_from : Header → ℕ → ℕ → ℕ → Option ℕ → Place → List Line → Answer
flat_from h size d number low place [] = Err (Syntax number)
flat_from h size d number low (Due []) (l ∷ ls) =
    verdict_at number (levels_found low d) l >>= λ v. end_of (number + 1) v ls
flat_from h size d number low (Due (fence ∷ later)) (l ∷ ls) =
    at_line number (name_in (may_follow l) fence l) >>= λ is_named.
    flat_from h size d (number + 1) low (Begun fence later) ls
flat_from h size d number low (Begun fence later) (l ∷ ls) =
    or_syntax number (ended_in l) >>= λ ended. flat_from h size d (number + 1) low (Within fence later ended []) ls
flat_from h size d number low (Within fence later ended log) (l ∷ ls) =
    at_line number (subproblem_in (formula_of h size (Levels fence)) h.conflicts ended log l) >>= λ step.
    flat_from h size d (number + 1) (after_line low fence later ended log step).low
    (after_line low fence later ended log step).place ls

-- ---- the whole

-- the line with the depth
unfoldable pub depth_at : ℕ → ℕ → Line → Result Unit DepthError
depth_at number d l = do
  stated ← or_syntax number (number_after (codes "depth ") l)
  (if stated == d then Ok tt else Err (WrongDepth number))

-- the lines after the certificate at the head, whose chain has `size` steps and `d` levels
unfoldable pub after_chain : Header → ℕ → ℕ → ℕ → List Line → Answer
after_chain h size d number [] = Err (Syntax number)
after_chain h size d number (l ∷ ls) = depth_at number d l >>= λ stated.
    flat_from h size d (number + 1) None (Due (flatter h.spec size d)) ls

-- the chain of a certificate by fences whose verdict is a minimum
abbrev pub least_of : Method → Verdict → Option Chain → Option Chain
least_of methods.Fence (Minimum r) chain = chain
least_of method v chain = None

abbrev pub after_least : Header → Option Chain → ℕ → List Line → Answer
after_least h None number ls = Err NotLeastForm
after_least h (Some c) number ls = after_chain h (length c.steps) (depth c) number ls

-- the lines after the certificate at the head
abbrev pub after_certificate : Certificate → ℕ → List Line → Answer
after_certificate b number ls = after_least b.header (least_of b.header.method b.verdict b.chain) number ls

-- the lines up to the first line `end`, including it, and those after it
unfoldable pub prefix_of : List Line → List Line
prefix_of [] = []
prefix_of (l ∷ ls) = if is_line end_text l then l ∷ [] else l ∷ prefix_of ls

unfoldable pub suffix_of : List Line → List Line
suffix_of [] = []
suffix_of (l ∷ ls) = if is_line end_text l then ls else suffix_of ls

-- A property of the answer for lines: if those up to the first line `end` aren't a valid certificate, the answer
-- is its fault; if they are, the answer is that of the lines after it.
-- Example: if the log of 2 1 is missing in the example of the spelling, the fault is NotRefuted at the line
-- `levels 3`.
pub record Judged (says : Answer → Type 0) (lines : List Line) : Type 0 where
  pub refused : (e : CertificateError) → certificate_of (prefix_of lines) ≡ Err e → says (Err (InCertificate e))
  pub following : (b : Certificate) → IsValid b → HasOutput b → prefix_of lines ≡ certificate_lines b →
      says (after_certificate b (length (prefix_of lines) + 1) (suffix_of lines))

-- This is the answer for the lines.
abbrev pub IsJudged : List Line → Answer → Type 0
IsJudged lines answer = Judged (λ (a : Answer). answer ≡ a) lines
