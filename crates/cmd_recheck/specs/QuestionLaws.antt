-- The tables and basis of a certificate of the fewest levels, and what its verdict says about them.
use Rattle.std.proofs.Common.{◌≡◌, ℕ, List, [], ◌∷◌, ◌++◌, ap, ◌∙◌, subst, append_assoc}
use Rattle.std.specs.List.{flat_map}
use Rattle.text_core.specs.Lines.{Line, lines_of}
use Rattle.tt_core.specs.Words.{Words, specification}
use Rattle.op_basis.specs.Basis.{members}
use Rattle.chain_core.specs.Spelling.{line}
use Rattle.cert_theory.specs.Spelling.{first_text, tables_lines, basis_line, method_line, conflicts_line, max_line, section_lines, trailer_lines}
use Rattle.cert_theory.specs.Question.{HasQuestion}
use Rattle.cert_laws.specs.CertificatesAgain.{spells_tables, basis_lower}
use Rattle.cert_laws.specs.QuestionLaws.{one_question}
use Rattle.depth_theory.specs.declared.data.DepthVerdict.{DepthVerdict}
use Rattle.depth_theory.specs.DepthCertificate.{DepthCertificate}
use Rattle.depth_theory.specs.DepthSpelling.{depth_line, levels_of, flat_lines, IsDepthText}
use Rattle.depth_theory.specs.DepthAgain.{depth_lines_again}
use Rattle.depth_theory.specs.DepthMeaning.{Means}

-- the certificate spells its tables and its basis
pub depth_asks : (bytes : List ℕ) (b : DepthCertificate) → IsDepthText bytes b → HasQuestion bytes b.certificate.header.spec b.certificate.header.basis
depth_asks bytes b is =
    let h = b.certificate.header in
    let valid = is.is_depth.valid in
    let last = line (method_line h.method) ∷ line (conflicts_line h.conflicts) ∷ line (max_line h.max) ∷ [] in
    let sections = flat_map section_lines b.certificate.sections ++ trailer_lines b.certificate.chain b.certificate.verdict in
    let following = line (depth_line (levels_of b.verdict)) ∷ flat_lines b.subproblems b.verdict in
    let basis = line (basis_line h.basis) ∷ last in
    record {
      spec = valid.header.tables;
      basis_from = valid.header.settings.basis_from;
      basis_below = valid.header.basis_below;
      following = tables_lines h.spec ++ line (basis_line h.basis) ∷ (last ++ (sections ++ following));
      first = ap lines_of is.text ∙ depth_lines_again b is.is_depth
          ∙ ap (λ (ls : List Line). line first_text ∷ ls) (append_assoc (tables_lines h.spec ++ basis) sections following ∙ append_assoc (tables_lines h.spec) basis (sections ++ following));
      rest = last ++ (sections ++ following);
      tables = spells_tables h.spec (line (basis_line h.basis)) (last ++ (sections ++ following)) is.output (basis_lower h.basis);
    }

means_as : (w u : Words) (a b steps : ℕ) (v : DepthVerdict) → w ≡ u → a ≡ b → Means (specification w) (members a) steps v → Means (specification u) (members b) steps v
means_as w u a b steps v same_words same_basis means =
    subst (λ (n : ℕ). Means (specification u) (members n) steps v) same_basis (subst (λ (x : Words). Means (specification x) (members a) steps v) same_words means)

-- What its verdict says is true for the tables and the basis that the lines spell.
pub levels_answer : (bytes : List ℕ) (b : DepthCertificate) (v : DepthVerdict) (steps : ℕ) (w : Words) (basis : ℕ) →
    IsDepthText bytes b → Means (specification b.certificate.header.spec) (members b.certificate.header.basis) steps v
    → HasQuestion bytes w basis → Means (specification w) (members basis) steps v
levels_answer bytes b v steps w basis is means has_question =
    let same = one_question bytes b.certificate.header.spec w b.certificate.header.basis basis (depth_asks bytes b is) has_question in
    means_as b.certificate.header.spec w b.certificate.header.basis basis steps v same.0 same.1 means
