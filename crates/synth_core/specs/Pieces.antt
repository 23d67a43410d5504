-- A certificate that is written while it is searched.
use Rattle.std.specs.Prelude.{◌≡◌, ℕ, ◌+◌, ◌≤◌, List, [], ◌++◌}
use Rattle.text_core.specs.Lines.{lines_of}
use Rattle.tt_core.specs.Words.{specification}
use Rattle.tt_core.specs.Spelling.{SpellsTables}
use Rattle.cert_theory.specs.Certificate.{Section}
use Rattle.cert_theory.specs.Prefix.{IsBegun}
use Rattle.size_loop.specs.State.{State}
use Rattle.size_loop.specs.Searched.{HasSearched}
use Rattle.settings.specs.declared.synth.SynthSettings.{SynthSettings}
use Rattle.synth_core.specs.SettingsHeader.{header_of}
use Rattle.synth_core.specs.Certifying.{IsCertificate}
use Rattle.synth_core.specs.declared.pieces.Piece.{Piece}
use Rattle.synth_core.specs.declared.pieces.Piece.TheVariants as pieces

-- A search in progress for the tables that the bytes spell, with nothing after them, under the settings `settings`.
-- `text` is the prefix of its certificate written so far: the header, and the sections of all finished sizes.
pub record IsInProgress (bytes : List ℕ) (settings : SynthSettings) (s : State) (text : List ℕ) : Type 0 where
  pub header_is : s.header ≡ header_of s.header.spec settings
  pub tables : SpellsTables (specification s.header.spec) (lines_of bytes) []
  pub sections : List Section
  pub searched : HasSearched s sections
  pub begun : IsBegun s.header sections text

-- A piece after the prefix `before`: either the search goes on with one more section, or the whole is a
-- certificate.
abbrev pub IsNextPiece : List ℕ → SynthSettings → List ℕ → Piece → Type 0
IsNextPiece bytes settings before (pieces.Section next text) = IsInProgress bytes settings next (before ++ text.items)
IsNextPiece bytes settings before (pieces.Trailer text verdict) = IsCertificate bytes settings (before ++ text.items) verdict

-- the searched size is at most the greatest one, and the next size is one more
abbrev pub Rises : State → Piece → Type 0
Rises s (pieces.Section next text) = (s.next ≤ s.header.max) × (next.next ≡ s.next + 1) × (next.header ≡ s.header)
Rises s (pieces.Trailer text verdict) = Unit {0}
