-- The text of a certificate; each value has exactly one spelling. Example, for XOR over all operators:
--
--     chains 1
--     inputs 2
--     0110
--     basis all
--     method plain
--     conflicts 100000
--     max 16
--     size 0
--     refuted
--     done
--     chain 1
--     x3 x1 x2 0110
--     out x3
--     minimum 1
--     end
use Rattle.std.specs.Prelude.{◌≡◌, ℕ, ◌+◌, ◌^◌, List, [], ◌∷◌, ◌++◌, length, map, codes, decimal, Option, Some, None}
use Rattle.std.specs.List.{flat_map, range_with_len}
use Rattle.chain_theory.specs.Chain.{Chain}
use Rattle.text_core.specs.Lines.{Line, line_bytes}
use Rattle.sat_theory.specs.Line as theory
use Rattle.lrat_text.specs.Spelling.{line_body}
use Rattle.tt_core.specs.Words.{Words, cell_of}
use Rattle.tt_core.specs.Spelling.{character, inputs_line}
use Rattle.op_basis.specs.Text.{basis_text}
use Rattle.chain_core.specs.Spelling.{line, chain_lines}
use Rattle.enc_theory.specs.declared.subproblem.Subproblem.{Subproblem}
use Rattle.enc_theory.specs.declared.subproblem.Subproblem.TheVariants.{Whole, Levels}
use Rattle.settings.specs.declared.methods.Method.{Method}
use Rattle.settings.specs.Methods.{method_text}
use Rattle.cert_theory.specs.declared.data.Header.{Header}
use Rattle.cert_theory.specs.declared.data.LogEnd.{LogEnd}
use Rattle.cert_theory.specs.declared.data.LogEnd.TheVariants as ends
use Rattle.cert_theory.specs.declared.data.Verdict.{Verdict}
use Rattle.cert_theory.specs.declared.data.Verdict.TheVariants as verdicts
use Rattle.cert_theory.specs.Certificate.{SubproblemLog, Section, Certificate, IsValid, HasOutput}

-- ---- the header

-- the table of an output, one character for each row
unfoldable pub table_text : Words → ℕ → List ℕ
table_text w h = map (λ t. character (cell_of w h t)) (range_with_len 0 (2 ^ w.n))

abbrev pub table_line : Words → ℕ → Line
table_line w h = line (table_text w h)

-- the number of inputs, and the tables
abbrev pub tables_lines : Words → List Line
tables_lines w = inputs_line w.n ∷ map (λ i. table_line w (i + 1)) (range_with_len 0 (length w.on))

unfoldable pub basis_line : ℕ → List ℕ
basis_line basis = codes "basis " ++ basis_text basis

unfoldable pub method_line : Method → List ℕ
method_line method = codes "method " ++ method_text method

unfoldable pub conflicts_line : ℕ → List ℕ
conflicts_line conflicts = codes "conflicts " ++ decimal conflicts

unfoldable pub max_line : ℕ → List ℕ
max_line max = codes "max " ++ decimal max

abbrev pub first_text : List ℕ
first_text = codes "chains 1"

abbrev pub header_lines : Header → List Line
header_lines h = line first_text ∷ (tables_lines h.spec ++
    line (basis_line h.basis) ∷ line (method_line h.method) ∷ line (conflicts_line h.conflicts) ∷ line
    (max_line h.max) ∷ [])

-- ---- sections

unfoldable pub size_line : ℕ → List ℕ
size_line size = codes "size " ++ decimal size

-- a fence is named by the sizes of its levels; the whole size has no name
unfoldable pub fence_text : List ℕ → List ℕ
fence_text sizes = codes "fence" ++ flat_map (λ size. 32 ∷ decimal size) sizes

unfoldable pub name_lines : Subproblem → List Line
name_lines Whole = []
name_lines (Levels sizes) = line (fence_text sizes) ∷ []

abbrev pub ended_text : LogEnd → List ℕ
ended_text ends.Refuted = codes "refuted"
ended_text ends.Open = codes "open"

abbrev pub done_text : List ℕ
done_text = codes "done"

abbrev pub log_line : theory.Line → Line
log_line l = line (line_body l)

unfoldable pub subproblem_lines : SubproblemLog → List Line
subproblem_lines p = name_lines p.subproblem ++ (line (ended_text p.ended) ∷ (map log_line p.log ++
    line done_text ∷ []))

unfoldable pub section_lines : Section → List Line
section_lines s = line (size_line s.size) ∷ flat_map subproblem_lines s.subproblems

-- ---- the trailer

abbrev pub block_lines : Option Chain → List Line
block_lines None = []
block_lines (Some c) = chain_lines c

unfoldable pub verdict_line : Verdict → List ℕ
verdict_line (verdicts.Minimum r) = codes "minimum " ++ decimal r
verdict_line (verdicts.NoChain x) = codes "none " ++ decimal x
verdict_line (verdicts.Bounded low r) = codes "bounded " ++ (decimal low ++ 32 ∷ decimal r)
verdict_line (verdicts.Open low) = codes "open " ++ decimal low

abbrev pub end_text : List ℕ
end_text = codes "end"

abbrev pub trailer_lines : Option Chain → Verdict → List Line
trailer_lines chain verdict = block_lines chain ++ line (verdict_line verdict) ∷ line end_text ∷ []

-- ---- the whole

abbrev pub certificate_lines : Certificate → List Line
certificate_lines b = header_lines b.header ++ (flat_map section_lines b.sections ++ trailer_lines b.chain b.verdict)

-- the text of some lines
abbrev pub text_of : List Line → List ℕ
text_of lines = flat_map line_bytes lines

abbrev pub cert_text : Certificate → List ℕ
cert_text b = text_of (certificate_lines b)

-- Bytes are the text of a valid certificate.
pub record IsCertificateText (bytes : List ℕ) (b : Certificate) : Type 0 where
  pub valid : IsValid b
  pub output : HasOutput b
  pub text : bytes ≡ cert_text b

-- Bytes are the text of a valid certificate with this verdict.
pub record HasVerdict (bytes : List ℕ) (v : Verdict) : Type 0 where
  pub certificate : Certificate
  pub is_certificate : IsCertificateText bytes certificate
  pub verdict : certificate.verdict ≡ v
