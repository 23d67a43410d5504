-- The question of a certificate, and that its verdict answers it.
use Rattle.std.proofs.Common.{◌≡◌, ℕ, List, [], ◌∷◌, ◌++◌, Option, Some, Result, Ok, ap, ◌∙◌, subst, append_assoc}
use Rattle.std.specs.List.{flat_map}
use Rattle.text_core.specs.Lines.{Line, lines_of}
use Rattle.tt_core.specs.Words.{Words, specification}
use Rattle.tt_core.specs.Tables.{Read, tables_of}
use Rattle.tt_core.specs.ReadBack.{tables_again}
use Rattle.tt_core.specs.declared.error.SpecError.{SpecError}
use Rattle.op_basis.specs.Basis.{members}
use Rattle.chain_core.specs.Spelling.{line}
use Rattle.cert_theory.specs.declared.data.Verdict.{Verdict}
use Rattle.cert_theory.specs.Certificate.{Certificate}
use Rattle.cert_theory.specs.Meaning.{Means}
use Rattle.cert_theory.specs.Spelling.{first_text, tables_lines, basis_line, method_line, conflicts_line, max_line, section_lines, trailer_lines, IsCertificateText, HasVerdict}
use Rattle.cert_theory.specs.Judging.{basis_in}
use Rattle.cert_theory.specs.Question.{HasQuestion}
use Rattle.cert_laws.specs.LinesAgain.{basis_again}
use Rattle.cert_laws.specs.CertificatesAgain.{spells_tables, basis_lower, lines_again}
use Rattle.cert_laws.specs.Meanings.{verdict_true}

-- a certificate's question is its tables and its basis
pub certificate_asks : (bytes : List ℕ) (b : Certificate) → IsCertificateText bytes b → HasQuestion bytes b.header.spec b.header.basis
certificate_asks bytes b is =
    let h = b.header in
    let last = line (method_line h.method) ∷ line (conflicts_line h.conflicts) ∷ line (max_line h.max) ∷ [] in
    let sections = flat_map section_lines b.sections ++ trailer_lines b.chain b.verdict in
    record {
      spec = is.valid.header.tables;
      basis_from = is.valid.header.settings.basis_from;
      basis_below = is.valid.header.basis_below;
      following = tables_lines h.spec ++ line (basis_line h.basis) ∷ (last ++ sections);
      first = ap lines_of is.text ∙ lines_again b is.valid ∙ ap (λ (ls : List Line). line first_text ∷ ls) (append_assoc (tables_lines h.spec) (line (basis_line h.basis) ∷ last) sections);
      rest = last ++ sections;
      tables = spells_tables h.spec (line (basis_line h.basis)) (last ++ sections) is.output (basis_lower h.basis);
    }

same_after : (l : Line) (ls ms all : List Line) → all ≡ l ∷ ls → all ≡ l ∷ ms → ls ≡ ms
same_after l ls ms all one two = cc

same_first : (l m : Line) (ls ms : List Line) → l ∷ ls ≡ m ∷ ms → l ≡ m
same_first l m ls ms e = cc

same_read : (read : Result Read SpecError) (a b : Read) → read ≡ Ok a → read ≡ Ok b → a ≡ b
same_read read a b one two = cc

same_some : (o : Option ℕ) (a b : ℕ) → o ≡ Some a → o ≡ Some b → a ≡ b
same_some o a b one two = cc

-- and there is no other question
pub one_question : (bytes : List ℕ) (w u : Words) (a b : ℕ) → HasQuestion bytes w a → HasQuestion bytes u b → (w ≡ u) × (a ≡ b)
one_question bytes w u a b one two =
    let following : one.following ≡ two.following = same_after (line first_text) one.following two.following (lines_of bytes) one.first two.first in
    let again = tables_again u two.following (line (basis_line b) ∷ two.rest) two.spec two.tables in
    let read = same_read (tables_of one.following) _ _ (tables_again w one.following (line (basis_line a) ∷ one.rest) one.spec one.tables) (ap tables_of following ∙ again) in
    let lines : line (basis_line a) ≡ line (basis_line b) = same_first _ _ one.rest two.rest (ap (λ (r : Read). r.rest) read) in
    (ap (λ (r : Read). r.words) read, same_some (basis_in (line (basis_line a))) a b (basis_again a one.basis_from one.basis_below) (ap basis_in lines ∙ basis_again b two.basis_from two.basis_below))

means_as : (w u : Words) (a b : ℕ) (v : Verdict) → w ≡ u → a ≡ b → Means (specification w) (members a) v → Means (specification u) (members b) v
means_as w u a b v same_words same_basis means =
    subst (λ (n : ℕ). Means (specification u) (members n) v) same_basis (subst (λ (x : Words). Means (specification x) (members a) v) same_words means)

-- its verdict is true of them
pub verdict_answers : (bytes : List ℕ) (v : Verdict) (w : Words) (basis : ℕ) → HasVerdict bytes v → HasQuestion bytes w basis → Means (specification w) (members basis) v
verdict_answers bytes v w basis has asks =
    let h = has.certificate.header in
    let same = one_question bytes h.spec w h.basis basis (certificate_asks bytes has.certificate has.is_certificate) asks in
    means_as h.spec w h.basis basis v same.0 same.1
    (subst (λ (x : Verdict). Means (specification h.spec) (members h.basis) x) has.verdict (verdict_true has.certificate has.is_certificate.valid))
