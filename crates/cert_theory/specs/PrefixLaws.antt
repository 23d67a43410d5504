-- Laws about prefixes of certificates.
use Rattle.std.proofs.Common.{◌≡◌, ℕ, ◌+◌, ◌≤◌, ◌<◌, List, [], ◌∷◌, ◌++◌, length, refl, sym, ap, ◌∙◌, subst, arith, inl, append_assoc, append-nil, zero-add}
use Rattle.std.specs.List.{flat_map}
use Rattle.std.proofs.lemmas.Grind.{flat_map-append}
use Rattle.std.proofs.lemmas.List.{length-append}
use Rattle.text_core.specs.Lines.{Line, line_bytes}
use Rattle.cert_theory.specs.declared.data.Header.{Header}
use Rattle.cert_theory.specs.Certificate.{Section, Certificate, IsHeader, IsSection, AreSections}
use Rattle.cert_theory.specs.Spelling.{header_lines, section_lines, text_of, IsCertificateText}
use Rattle.cert_theory.specs.Prefix.{begun_lines, IsBegun, IsPrefix}
use Rattle.cert_theory.specs.SectionLaws.{AreSections-push, AreSections-prefix}

-- a whole certificate is a prefix
pub whole_is_prefix : (text : List ℕ) (b : Certificate) → IsCertificateText text b → IsPrefix b.header text
whole_is_prefix text b is = inl (b, is, refl)

-- a header is a prefix
pub header_begins : (h : Header) → IsHeader h → 0 < length h.spec.on → IsBegun h [] (text_of (header_lines h))
unfolding AreSections
header_begins h header output = record {
  header = header;
  output = output;
  are_sections = tt;
  sizes_to = omega arith;
  text = ap text_of (sym (append-nil (header_lines h)));
}

-- the lines with one more section
section_text : (h : Header) (sections : List Section) (s : Section) → text_of (begun_lines h (sections ++ s ∷ [])) ≡ text_of (begun_lines h sections) ++ text_of (section_lines s)
section_text h sections s =
    ap (λ (ls : List Line). text_of (header_lines h ++ ls)) (flat_map-append section_lines sections (s ∷ [])
    ∙ ap (λ (ls : List Line). flat_map section_lines sections ++ ls) (append-nil (section_lines s)))
    ∙ ap text_of (sym (append_assoc (header_lines h) (flat_map section_lines sections) (section_lines s)))
    ∙ flat_map-append line_bytes (begun_lines h sections) (section_lines s)

-- a prefix with the section of the next size appended is a prefix
pub section_goes_on : (h : Header) (sections : List Section) (text : List ℕ) (s : Section) → IsBegun h sections text →
    IsSection h (length sections) s → length sections ≤ h.max →
    IsBegun h (sections ++ s ∷ []) (text ++ text_of (section_lines s))
section_goes_on h sections text s is is_section within = record {
  header = is.header;
  output = is.output;
  are_sections = AreSections-push h 0 sections s is.are_sections (let e : length sections ≡ 0 + length sections = sym (zero-add (length sections)) in subst (λ (k : ℕ). IsSection h k s) e is_section);
  sizes_to = let count : length (sections ++ s ∷ []) ≡ length sections + 1 = length-append sections (s ∷ []) in omega (arith, count);
  text = ap (λ (xs : List ℕ). xs ++ text_of (section_lines s)) is.text ∙ sym (section_text h sections s);
}

-- the text of a certificate up to any of its sections is a prefix
pub sections_are_prefix : (text : List ℕ) (b : Certificate) (prefix following : List Section) →
    IsCertificateText text b → b.sections ≡ prefix ++ following →
    IsBegun b.header prefix (text_of (begun_lines b.header prefix))
sections_are_prefix text b prefix following is same = record {
  header = is.valid.header;
  output = is.output;
  are_sections = AreSections-prefix b.header 0 prefix following (subst (λ (ss : List Section). AreSections b.header 0 ss) same is.valid.sections);
  sizes_to =
      let count : length b.sections ≡ length prefix + length following = ap length same ∙ length-append prefix following in
      omega (arith, count, is.valid.sizes_to);
  text = refl;
}
