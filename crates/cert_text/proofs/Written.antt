-- Texts with one more element appended.
use Rattle.std.proofs.Common.{◌≡◌, ℕ, ◌+◌, ◌^◌, List, [], ◌∷◌, ◌++◌, length, map, Option, refl, sym, ap, ◌∙◌, append_assoc, append-nil, zero-add, arith}
use Rattle.std.specs.List.{flat_map, range_with_len}
use Rattle.std.proofs.lemmas.Grind.{common_steps, flat_map-append}
use Rattle.std.proofs.lemmas.List.FromFn.{map-range_with_len_more}
use Rattle.text_core.specs.Lines.{Line, line_bytes}
use Rattle.sat_theory.specs.Line as theory
use Rattle.lrat_text.specs.Spelling.{line_text}
use Rattle.tt_core.specs.Words.{Words, cell_of}
use Rattle.tt_core.specs.Spelling.{character}
use Rattle.tt_core.specs.Spelling.{inputs_line}
use Rattle.chain_core.specs.Spelling.{line}
use Rattle.chain_theory.specs.Chain.{Chain}
use Rattle.cert_theory.specs.declared.data.Header.{Header}
use Rattle.cert_theory.specs.declared.data.Verdict.{Verdict}
use Rattle.cert_theory.specs.Certificate.{SubproblemLog, Section}
use Rattle.cert_theory.specs.Spelling.{text_of, table_text, table_line, log_line, subproblem_lines, section_lines}
use Rattle.cert_theory.specs.Spelling.{first_text, header_lines, basis_line, method_line, conflicts_line, max_line}
use Rattle.cert_theory.specs.Spelling.{name_lines, ended_text, done_text, size_line, block_lines, verdict_line}
use Rattle.cert_theory.specs.Spelling.{end_text, trailer_lines, cert_text}
use Rattle.cert_text.specs.Texts.{cells_to, tables_to, subproblems_text, sections_text, spelled, header_text, whole_text}

pub cells_none : (w : Words) (h : ℕ) → cells_to w h 0 ≡ []
unfolding cells_to
cells_none w h = refl

pub cells_more : (w : Words) (h t : ℕ) → cells_to w h (t + 1) ≡ cells_to w h t ++ character (cell_of w h t) ∷ []
unfolding cells_to
cells_more w h t = map-range_with_len_more (λ u. character (cell_of w h u)) 0 t t (zero-add t)

pub cells_all : (w : Words) (h : ℕ) → table_text w h ≡ cells_to w h (2 ^ w.n)
unfolding cells_to table_text
cells_all w h = refl

pub tables_none : (w : Words) → tables_to w 0 ≡ []
unfolding tables_to
tables_none w = refl

pub tables_more : (w : Words) (k : ℕ) → tables_to w (k + 1) ≡ tables_to w k ++ line_bytes (table_line w (k + 1))
unfolding tables_to
tables_more w k =
    ap text_of (map-range_with_len_more (λ i. table_line w (i + 1)) 0 k k (zero-add k))
    ∙ flat_map-append line_bytes (map (λ i. table_line w (i + 1)) (range_with_len 0 k)) (table_line w (k + 1) ∷ [])
    ∙ grind (arith, common_steps)

log_spelled : (ls : List theory.Line) → text_of (map log_line ls) ≡ flat_map line_text ls
log_spelled [] = refl
log_spelled (l ∷ ls) = ap (λ (xs : List ℕ). line_text l ++ xs) (log_spelled ls)

pub subproblems_none : subproblems_text [] ≡ []
unfolding subproblems_text
subproblems_none = refl

pub subproblems_more : (p : SubproblemLog) (ps : List SubproblemLog) → subproblems_text (p ∷ ps) ≡ text_of (subproblem_lines p) ++ subproblems_text ps
unfolding subproblems_text
subproblems_more p ps = flat_map-append line_bytes (subproblem_lines p) (flat_map subproblem_lines ps)

pub sections_none : sections_text [] ≡ []
unfolding sections_text
sections_none = refl

pub sections_more : (s : Section) (ss : List Section) → sections_text (s ∷ ss) ≡ text_of (section_lines s) ++ sections_text ss
unfolding sections_text
sections_more s ss = flat_map-append line_bytes (section_lines s) (flat_map section_lines ss)

-- the text of two lists of lines
pub text_both : (ls more : List Line) → text_of (ls ++ more) ≡ text_of ls ++ text_of more
text_both ls more = flat_map-append line_bytes ls more

-- ---- texts of several pieces

regroup : (a b t c d e f : List ℕ) → a ++ (b ++ (t ++ (c ++ (d ++ (e ++ (f ++ [])))))) ≡ a ++ b ++ t ++ c ++ d ++ (e ++ f)
regroup a b t c d e f = simp append_assoc (simp append-nil)

pub header_spelled : (h : Header) → header_text h ≡ text_of (header_lines h)
unfolding header_text spelled tables_to
header_spelled h =
    let tables = map (λ i. table_line h.spec (i + 1)) (range_with_len 0 (length h.spec.on)) in
    let others = line (basis_line h.basis) ∷ line (method_line h.method) ∷ line (conflicts_line h.conflicts) ∷ line (max_line h.max) ∷ [] in
    sym
    (ap (λ (xs : List ℕ). line_bytes (line first_text) ++ (line_bytes (inputs_line h.spec.n) ++ xs)) (text_both tables others)
    ∙ regroup (line_bytes (line first_text)) (line_bytes (inputs_line h.spec.n)) (text_of tables)
    (line_bytes (line (basis_line h.basis))) (line_bytes (line (method_line h.method)))
    (line_bytes (line (conflicts_line h.conflicts))) (line_bytes (line (max_line h.max))))

pub subproblem_subproblems : (p : SubproblemLog) → text_of (subproblem_lines p) ≡ text_of (name_lines p.subproblem) ++
    line_bytes (line (ended_text p.ended)) ++ flat_map line_text p.log ++ line_bytes (line done_text)
unfolding subproblem_lines
subproblem_subproblems p =
    text_both (name_lines p.subproblem) (line (ended_text p.ended) ∷ (map log_line p.log ++ line done_text ∷ []))
    ∙ ap (λ (xs : List ℕ). text_of (name_lines p.subproblem) ++ (line_bytes (line (ended_text p.ended)) ++ xs))
    (text_both (map log_line p.log) (line done_text ∷ [])
    ∙ ap (λ (xs : List ℕ). xs ++ text_of (line done_text ∷ [])) (log_spelled p.log))
    ∙ simp append_assoc (simp append-nil)

pub section_subproblems : (s : Section) → text_of (section_lines s) ≡ line_bytes (line (size_line s.size)) ++ subproblems_text s.subproblems
unfolding section_lines subproblems_text
section_subproblems s = refl

pub trailer_subproblems : (chain : Option Chain) (v : Verdict) → text_of (trailer_lines chain v) ≡ text_of (block_lines chain) ++ line_bytes (line (verdict_line v)) ++ line_bytes (line end_text)
trailer_subproblems chain v = text_both (block_lines chain) (line (verdict_line v) ∷ line end_text ∷ []) ∙ simp append_assoc (simp append-nil)

pub whole_spelled : (h : Header) (ss : List Section) (chain : Option Chain) (v : Verdict) → whole_text h ss chain v ≡ cert_text (record { header = h; sections = ss; chain = chain; verdict = v })
unfolding whole_text sections_text
whole_spelled h ss chain v =
    rw (header_spelled h)
    (sym
    (text_both (header_lines h) (flat_map section_lines ss ++ trailer_lines chain v)
    ∙ ap (λ (xs : List ℕ). text_of (header_lines h) ++ xs) (text_both (flat_map section_lines ss) (trailer_lines chain v))))

pub ruleset headers = (common_steps, header_spelled)

pub ruleset subproblem_pieces = (common_steps, subproblem_subproblems)

pub ruleset section_pieces = (common_steps, section_subproblems)

pub ruleset trailer_pieces = (common_steps, trailer_subproblems)

pub ruleset whole = (common_steps, whole_spelled)

pub ruleset cells = (common_steps, cells_none, cells_more)

pub ruleset tables = (common_steps, tables_none, tables_more, cells_all)

pub ruleset subproblems = (common_steps, subproblems_none, subproblems_more, text_both)

pub ruleset sections = (common_steps, sections_none, sections_more, text_both)
