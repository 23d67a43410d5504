-- The question that a certificate answers: the tables and the basis, as the text spells them.
use Rattle.std.specs.Prelude.{◌≡◌, ℕ, ◌<◌, List, ◌∷◌}
use Rattle.text_core.specs.Lines.{Line, lines_of}
use Rattle.chain_core.specs.Spelling.{line}
use Rattle.tt_core.specs.Words.{Words, IsSpec, specification}
use Rattle.tt_core.specs.Spelling.{SpellsTables}
use Rattle.cert_theory.specs.Spelling.{first_text, basis_line}

-- The first line begins a certificate. The tables follow, and then the line of the basis.
pub record HasQuestion (bytes : List ℕ) (w : Words) (basis : ℕ) : Type 0 where
  pub spec : IsSpec w
  pub basis_from : 0 < basis
  pub basis_below : basis < 65536
  pub following : List Line
  pub first : lines_of bytes ≡ line first_text ∷ following
  pub rest : List Line
  pub tables : SpellsTables (specification w) following (line (basis_line basis) ∷ rest)
