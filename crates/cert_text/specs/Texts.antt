-- The texts after some iterations of the loops that write them.
use Rattle.std.specs.Prelude.{ℕ, ◌+◌, List, ◌++◌, length, map, codes, decimal, Option}
use Rattle.std.specs.List.{flat_map, range_with_len}
use Rattle.text_core.specs.Lines.{line_bytes}
use Rattle.chain_core.specs.Spelling.{line}
use Rattle.tt_core.specs.Words.{Words, cell_of}
use Rattle.tt_core.specs.Spelling.{character}
use Rattle.cert_theory.specs.declared.data.Header.{Header}
use Rattle.cert_theory.specs.declared.data.Verdict.{Verdict}
use Rattle.chain_theory.specs.Chain.{Chain}
use Rattle.cert_theory.specs.Certificate.{SubproblemLog, Section}
use Rattle.cert_theory.specs.Spelling.{text_of, first_text, table_line, basis_line, method_line, conflicts_line, max_line, subproblem_lines, section_lines, trailer_lines}

-- the first cells of an output
unfoldable pub cells_to : Words → ℕ → ℕ → List ℕ
cells_to w h rows = map (λ t. character (cell_of w h t)) (range_with_len 0 rows)

-- the first tables
unfoldable pub tables_to : Words → ℕ → List ℕ
tables_to w outputs = text_of (map (λ i. table_line w (i + 1)) (range_with_len 0 outputs))

unfoldable pub subproblems_text : List SubproblemLog → List ℕ
subproblems_text subproblems = text_of (flat_map subproblem_lines subproblems)

unfoldable pub sections_text : List Section → List ℕ
sections_text sections = text_of (flat_map section_lines sections)

-- ---- texts of several pieces

-- a line, with its LF
unfoldable pub spelled : List ℕ → List ℕ
spelled text = line_bytes (line text)

-- a header, piece by piece
unfoldable pub header_text : Header → List ℕ
header_text h =
    spelled first_text ++ spelled (codes "inputs " ++ decimal h.spec.n) ++ tables_to h.spec (length h.spec.on) ++ spelled (basis_line h.basis) ++ spelled (method_line h.method)
    ++ (spelled (conflicts_line h.conflicts) ++ spelled (max_line h.max))

-- a certificate, piece by piece
unfoldable pub whole_text : Header → List Section → Option Chain → Verdict → List ℕ
whole_text h sections chain verdict = header_text h ++ (sections_text sections ++ text_of (trailer_lines chain verdict))
