-- Prefixes of certificates: what a search may have written when it stops between two sizes.
use Rattle.std.specs.Prelude.{◌≡◌, ◌⊎◌, ℕ, ◌+◌, ◌≤◌, ◌<◌, List, ◌++◌, length}
use Rattle.std.specs.List.{flat_map}
use Rattle.text_core.specs.Lines.{Line}
use Rattle.cert_theory.specs.declared.data.Header.{Header}
use Rattle.cert_theory.specs.Certificate.{Section, Certificate, IsHeader, AreSections}
use Rattle.cert_theory.specs.Spelling.{header_lines, section_lines, text_of, IsCertificateText}

-- the lines of a header and of some sections after it
abbrev pub begun_lines : Header → List Section → List Line
begun_lines h sections = header_lines h ++ flat_map section_lines sections

-- The text is a header followed by whole sections of the sizes 0, 1, 2 and so on, none above the greatest.
pub record IsBegun (h : Header) (sections : List Section) (written : List ℕ) : Type 0 where
  pub header : IsHeader h
  pub output : 0 < length h.spec.on
  pub are_sections : AreSections h 0 sections
  pub sizes_to : length sections ≤ h.max + 1
  pub text : written ≡ text_of (begun_lines h sections)

-- A prefix with a given header: the text of a valid certificate, or a header followed by some whole sections.
-- Example: of the example in `Spelling`, the first seven lines, the first ten, and all fifteen.
abbrev pub IsPrefix : Header → List ℕ → Type 0
IsPrefix h text = ((b : Certificate) × IsCertificateText text b × (b.header ≡ h)) ⊎
    ((sections : List Section) × IsBegun h sections text)
