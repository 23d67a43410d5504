-- Lines that are accepted spell a valid certificate.
use Rattle.std.proofs.Common.{◌≡◌, ℕ, ◌+◌, ◌<◌, ◌≤◌, List, [], ◌∷◌, ◌++◌, length, None, Ok, refl, sym, ap, ◌∙◌, subst, arith, zero-add, append_assoc}
use Rattle.std.specs.Prelude.{codes}
use Rattle.std.specs.List.{flat_map}
use Rattle.text_core.specs.Lines.{Line, lines_of}
use Rattle.text_core.specs.ReadBack.{lines_spell}
use Rattle.tt_core.specs.Words.{Words, IsSpec}
use Rattle.tt_core.specs.Tables as tables
use Rattle.settings.specs.declared.methods.Method.{Method}
use Rattle.chain_core.specs.Spelling.{line}
use Rattle.cert_theory.specs.declared.data.Header.{Header}
use Rattle.cert_theory.specs.declared.data.Verdict.{Verdict}
use Rattle.cert_theory.specs.declared.data.CertificateError.TheVariants.{Syntax}
use Rattle.settings.specs.Synth.{IsInRange}
use Rattle.chain_theory.specs.Limits.{most_steps}
use Rattle.cert_theory.specs.Certificate.{Certificate, settings_of, first_open, IsTrailer, IsValid, HasOutput}
use Rattle.cert_theory.specs.Spelling.{first_text, basis_line, method_line, conflicts_line, max_line, tables_lines, section_lines, trailer_lines, certificate_lines, text_of, HasVerdict}
use Rattle.cert_theory.specs.SubproblemLines.{is_line}
use Rattle.cert_theory.specs.Judging.{or_syntax, as_syntax, table_place, basis_in, method_in, conflicts_in, max_in}
use Rattle.cert_theory.specs.Judging.{after_conflicts, after_method, after_basis, after_tables, with_tables}
use Rattle.cert_theory.specs.Judging.{certificate_of, Between}
use Rattle.cert_theory.specs.GivesLaws.{bind_ok, test_ok, read_ok}
use Rattle.cert_laws.specs.LineSpellings.{as_ok, is_line_spells, basis_spells, method_spells, conflicts_spells, max_spells}
use Rattle.cert_laws.specs.TableSpellings.{tables_read}
use Rattle.cert_laws.specs.SectionSpellings.{Rest, sections_spell}

-- what was read after the tables
record Read (w : Words) (ls : List Line) (v : Verdict) : Type 0 where
  h : Header
  spec_is : h.spec ≡ w
  basis_below : h.basis < 65536
  settings : IsInRange (settings_of h)
  following : List Line
  rest : Rest h 0 None following v
  lines : ls ≡ line (basis_line h.basis) ∷ line (method_line h.method) ∷ line (conflicts_line h.conflicts) ∷ line (max_line h.max) ∷ following

read_max : (w : Words) (basis : ℕ) (method : Method) (conflicts number : ℕ) (ls : List Line) (v : Verdict) →
    after_conflicts w basis method conflicts number ls ≡ Ok v → (max : ℕ) × (following : List Line) ×
    (max ≤ most_steps) × Rest (record {
      spec = w;
      basis = basis;
      method = method;
      conflicts = conflicts;
      max = max;
    }) 0 None following v × (ls ≡ line (max_line max) ∷ following)
unfolding after_conflicts
read_max w basis method conflicts number [] v e = absurd cc
read_max w basis method conflicts number (l ∷ ls) v e =
    let read = bind_ok (or_syntax number (max_in l)) _ v e in
    let halves = max_spells l read.0 (read_ok number (max_in l) read.0 read.1) in (
      read.0,
      ls,
      halves.1,
      sections_spell ls (record {
        spec = w;
        basis = basis;
        method = method;
        conflicts = conflicts;
        max = read.0;
      }) (number + 1) 0 None Between v (omega arith) read.2,
      (λ i. halves.0 i ∷ ls),
    )

read_conflicts : (w : Words) (basis : ℕ) (method : Method) (number : ℕ) (ls : List Line) (v : Verdict) → 0 < basis →
    basis < 65536 → after_method w basis method number ls ≡ Ok v →
    (r : Read w (line (basis_line basis) ∷ line (method_line method) ∷ ls) v) × Unit {0}
unfolding after_method
read_conflicts w basis method number [] v from below e = absurd cc
read_conflicts w basis method number (l ∷ ls) v from below e =
    let read = bind_ok (or_syntax number (conflicts_in l)) _ v e in
    let halves = conflicts_spells l read.0 (read_ok number (conflicts_in l) read.0 read.1) in
    let last = read_max w basis method read.0 (number + 1) ls v read.2 in (
      record {
        h = record { spec = w; basis = basis; method = method; conflicts = read.0; max = last.0 };
        spec_is = refl;
        basis_below = below;
        settings = record { basis_from = from; max_to = last.2; conflicts_from = halves.1; conflicts_to = halves.2; effort_to = omega arith };
        following = last.1;
        rest = last.3;
        lines = λ i. line (basis_line basis) ∷ line (method_line method) ∷ halves.0 i ∷ last.4 i;
      },
      tt,
    )

moved : (w : Words) (ls more : List Line) (v : Verdict) → more ≡ ls → Read w ls v → Read w more v
moved w ls more v same r = record {
  h = r.h;
  spec_is = r.spec_is;
  basis_below = r.basis_below;
  settings = r.settings;
  following = r.following;
  rest = r.rest;
  lines = same ∙ r.lines;
}

read_method : (w : Words) (basis number : ℕ) (ls : List Line) (v : Verdict) → 0 < basis → basis < 65536 → after_basis w basis number ls ≡ Ok v → Read w (line (basis_line basis) ∷ ls) v
unfolding after_basis
read_method w basis number [] v from below e = absurd cc
read_method w basis number (l ∷ ls) v from below e =
    let read = bind_ok (or_syntax number (method_in l)) _ v e in
    let halves = method_spells l read.0 (read_ok number (method_in l) read.0 read.1) in
    let next = read_conflicts w basis read.0 (number + 1) ls v from below read.2 in
    moved w (line (basis_line basis) ∷ line (method_line read.0) ∷ ls) (line (basis_line basis) ∷ l ∷ ls) v (λ i. line (basis_line basis) ∷ halves i ∷ ls) next.0

read_basis : (w : Words) (number : ℕ) (ls : List Line) (v : Verdict) → after_tables w number ls ≡ Ok v → Read w ls v
unfolding after_tables
read_basis w number [] v e = absurd cc
read_basis w number (l ∷ ls) v e =
    let read = bind_ok (or_syntax number (basis_in l)) _ v e in
    let halves = basis_spells l read.0 (read_ok number (basis_in l) read.0 read.1) in
    moved w (line (basis_line read.0) ∷ ls) (l ∷ ls) v (λ i. halves.0 i ∷ ls) (read_method w read.0 (number + 1) ls v halves.1 halves.2 read.2)

-- the lines are those of a valid certificate with an output
pub record ReadCertificate (ls : List Line) (v : Verdict) : Type 0 where
  pub certificate : Certificate
  pub valid : IsValid certificate
  pub output : HasOutput certificate
  pub verdict : certificate.verdict ≡ v
  pub lines : ls ≡ certificate_lines certificate

with_read : (w : Words) (ls following : List Line) (v : Verdict) → IsSpec w → 0 < length w.on → ls ≡ tables_lines w ++ following → Read w following v → ReadCertificate (line first_text ∷ ls) v
with_read w ls following v spec output lines r =
    let rest = r.rest in
    let b : Certificate = record { header = r.h; sections = rest.sections; chain = rest.chain; verdict = v } in
    let count : 0 + length rest.sections ≡ length rest.sections = zero-add (length rest.sections) in
    record {
      certificate = b;
      valid = record {
        header = record {
          tables = subst (λ (x : Words). IsSpec x) (sym r.spec_is) spec;
          basis_below = r.basis_below;
          settings = r.settings;
        };
        sections = rest.are;
        sizes_to = omega (arith, rest.sizes_to);
        trailer = subst (λ (n : ℕ). IsTrailer r.h n (first_open rest.sections) rest.chain v) count rest.trailer;
      };
      output = subst (λ (x : Words). 0 < length x.on) (sym r.spec_is) output;
      verdict = refl;
      lines =
          let header = line (basis_line r.h.basis) ∷ line (method_line r.h.method) ∷ line (conflicts_line r.h.conflicts) ∷ line (max_line r.h.max) ∷ [] in
          ap (λ (xs : List Line). line first_text ∷ xs)
          (lines
          ∙ ap (λ (xs : List Line). tables_lines w ++ xs) (r.lines ∙ ap (λ (xs : List Line). header ++ xs) rest.lines)
          ∙ ap (λ (x : Words). tables_lines x ++ (header ++ (flat_map section_lines rest.sections ++ trailer_lines rest.chain v))) (sym r.spec_is)
          ∙ sym (append_assoc (tables_lines r.h.spec) header (flat_map section_lines rest.sections ++ trailer_lines rest.chain v)));
    }

pub lines_read : (ls : List Line) (v : Verdict) → certificate_of ls ≡ Ok v → ReadCertificate ls v
unfolding certificate_of with_tables
lines_read [] v e = absurd cc
lines_read (l ∷ ls) v e =
    let first = test_ok (is_line (codes "chains 1") l) (with_tables (tables.tables_of ls)) (Syntax 1) v e in
    let read = bind_ok (as_syntax table_place (tables.tables_of ls)) _ v first.1 in
    let t = tables_read ls read.0 (as_ok table_place (tables.tables_of ls) read.0 read.1) in
    let found = with_read read.0.words ls read.0.rest v t.spec t.output t.lines (read_basis read.0.words (3 + length read.0.words.on) read.0.rest v read.2) in
    record { certificate = found.certificate; valid = found.valid; output = found.output; verdict = found.verdict; lines = (λ i. is_line_spells (codes "chains 1") l first.0 i ∷ ls) ∙ found.lines }

-- Bytes that have a verdict are the text of a valid certificate with this verdict.
pub verdict_spelled : (bytes : List ℕ) (v : Verdict) → certificate_of (lines_of bytes) ≡ Ok v → HasVerdict bytes v
verdict_spelled bytes v e =
    let read = lines_read (lines_of bytes) v e in
    record {
      certificate = read.certificate;
      is_certificate = record { valid = read.valid; output = read.output; text = sym (lines_spell bytes) ∙ ap text_of read.lines };
      verdict = read.verdict;
    }
