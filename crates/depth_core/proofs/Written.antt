-- A depth certificate as it is written, piece by piece.
use Rattle.std.proofs.Common.{◌≡◌, ℕ, List, [], ◌∷◌, ◌++◌, refl, sym, ap, ◌∙◌, append_assoc, append-nil}
use Rattle.std.specs.List.{flat_map}
use Rattle.std.proofs.lemmas.Grind.{common_steps, flat_map-append}
use Rattle.text_core.specs.Lines.{Line, line_bytes}
use Rattle.chain_core.specs.Spelling.{line}
use Rattle.cert_theory.specs.Spelling.{subproblem_lines, end_text, certificate_lines, cert_text, text_of}
use Rattle.cert_theory.specs.Certificate.{SubproblemLog, Certificate}
use Rattle.depth_theory.specs.declared.data.DepthVerdict.{DepthVerdict}
use Rattle.depth_theory.specs.DepthCertificate.{DepthCertificate}
use Rattle.depth_core.specs.Texts.{whole_text}
use Rattle.depth_theory.specs.DepthSpelling.{levels_of, depth_line, levels_line, flat_lines, depth_text}

text_both : (ls more : List Line) → text_of (ls ++ more) ≡ text_of ls ++ text_of more
text_both ls more = flat_map-append line_bytes ls more

regroup : (a b c d e : List ℕ) → a ++ (b ++ (c ++ (d ++ (e ++ [])))) ≡ a ++ b ++ c ++ d ++ e
regroup a b c d e = simp append_assoc (simp append-nil)

turned : (t a b c d e : List ℕ) → ((((t ++ a) ++ b) ++ c) ++ d) ++ e ≡ t ++ (a ++ b ++ c ++ d ++ e)
turned t a b c d e = simp append_assoc

pub depth_subproblems : (b : DepthCertificate) → depth_text b ≡ cert_text b.certificate ++
    line_bytes (line (depth_line (levels_of b.verdict))) ++ text_of (flat_map subproblem_lines b.subproblems) ++
    line_bytes (line (levels_line b.verdict)) ++ line_bytes (line end_text)
depth_subproblems b =
    text_both (certificate_lines b.certificate) (line (depth_line (levels_of b.verdict)) ∷ flat_lines b.subproblems b.verdict)
    ∙ ap (λ (xs : List ℕ). cert_text b.certificate ++ (line_bytes (line (depth_line (levels_of b.verdict))) ++ xs))
    (text_both (flat_map subproblem_lines b.subproblems) (line (levels_line b.verdict) ∷ line end_text ∷ []))
    ∙ regroup (cert_text b.certificate) (line_bytes (line (depth_line (levels_of b.verdict))))
    (text_of (flat_map subproblem_lines b.subproblems)) (line_bytes (line (levels_line b.verdict)))
    (line_bytes (line end_text))

pub pushed : (b : Certificate) (subproblems : List SubproblemLog) (v : DepthVerdict) (t0 t1 t2 t3 t4 t5 : List ℕ) →
    t1 ≡ t0 ++ cert_text b → t2 ≡ t1 ++ line_bytes (line (depth_line (levels_of v))) → t3 ≡ t2 ++
    text_of (flat_map subproblem_lines subproblems) → t4 ≡ t3 ++ line_bytes (line (levels_line v)) → t5 ≡ t4 ++
    line_bytes (line end_text) → t5 ≡ t0 ++ whole_text b subproblems v
unfolding whole_text
pushed b subproblems v t0 t1 t2 t3 t4 t5 one two three four five =
    let d = line_bytes (line (depth_line (levels_of v))) in
    let p = text_of (flat_map subproblem_lines subproblems) in
    let l = line_bytes (line (levels_line v)) in
    let e = line_bytes (line end_text) in
    five
    ∙ ap (λ (xs : List ℕ). xs ++ e) (four ∙ ap (λ (xs : List ℕ). xs ++ l) (three ∙ ap (λ (xs : List ℕ). xs ++ p) (two ∙ ap (λ (xs : List ℕ). xs ++ d) one)))
    ∙ turned t0 (cert_text b) d p l e
    ∙ ap (λ (xs : List ℕ). t0 ++ xs) (sym (depth_subproblems (record { certificate = b; subproblems = subproblems; verdict = v })))

pub whole_is : (b : DepthCertificate) → whole_text b.certificate b.subproblems b.verdict ≡ depth_text b
unfolding whole_text
whole_is b = refl

pub ruleset pieces = (common_steps, whole_is)
