-- How a depth certificate is written: the certificate at its head and, after the line `end` of that, for the
-- example of x1 AND (x2 OR (x3 AND x4)),
--
--     depth 3
--     fence 2 1
--     refuted
--     ..
--     done
--     levels 3
--     end
use Rattle.std.specs.Prelude.{◌≡◌, ℕ, List, [], ◌∷◌, ◌++◌, codes, decimal}
use Rattle.std.specs.List.{flat_map}
use Rattle.text_core.specs.Lines.{Line}
use Rattle.chain_core.specs.Spelling.{line}
use Rattle.cert_theory.specs.Certificate.{SubproblemLog, HasOutput}
use Rattle.cert_theory.specs.Spelling.{subproblem_lines, end_text, certificate_lines, text_of}
use Rattle.depth_theory.specs.declared.data.DepthVerdict.{DepthVerdict}
use Rattle.depth_theory.specs.declared.data.DepthVerdict.TheVariants as verdicts
use Rattle.depth_theory.specs.DepthCertificate.{DepthCertificate, IsDepth}

-- the number of levels of the chain, from the verdict
abbrev pub levels_of : DepthVerdict → ℕ
levels_of (verdicts.Levels d) = d
levels_of (verdicts.Bounded low d) = d

unfoldable pub depth_line : ℕ → List ℕ
depth_line d = codes "depth " ++ decimal d

unfoldable pub levels_line : DepthVerdict → List ℕ
levels_line (verdicts.Levels d) = codes "levels " ++ decimal d
levels_line (verdicts.Bounded low d) = codes "levels-bounded " ++ (decimal low ++ 32 ∷ decimal d)

-- the lines after that of the depth
abbrev pub flat_lines : List SubproblemLog → DepthVerdict → List Line
flat_lines subproblems v = flat_map subproblem_lines subproblems ++ line (levels_line v) ∷ line end_text ∷ []

abbrev pub depth_lines : DepthCertificate → List Line
depth_lines b = certificate_lines b.certificate ++
    line (depth_line (levels_of b.verdict)) ∷ flat_lines b.subproblems b.verdict

abbrev pub depth_text : DepthCertificate → List ℕ
depth_text b = text_of (depth_lines b)

-- Bytes are the text of a depth certificate.
pub record IsDepthText (bytes : List ℕ) (b : DepthCertificate) : Type 0 where
  pub is_depth : IsDepth b
  pub output : HasOutput b.certificate
  pub text : bytes ≡ depth_text b

-- Bytes are the text of a depth certificate with this verdict.
pub record HasDepth (bytes : List ℕ) (v : DepthVerdict) : Type 0 where
  pub certificate : DepthCertificate
  pub is_text : IsDepthText bytes certificate
  pub verdict : certificate.verdict ≡ v
