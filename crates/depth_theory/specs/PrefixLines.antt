-- The lines of a certificate end with its first line `end`.
use Rattle.std.proofs.Common.{◌≡◌, ℕ, ◌+◌, ◌==◌, Bool, true, false, cond, List, [], ◌∷◌, ◌++◌, length, map, Option, Some, None, Ok, refl, sym, ap, ◌∙◌, append_assoc}
use Rattle.std.specs.Prelude.{codes, decimal}
use Rattle.std.specs.Str.{bytes_eq}
use Rattle.std.specs.List.{range_with_len, AllByRecursion, flat_map}
use Rattle.std.proofs.lemmas.List.Elements.{recursion_from_All}
use Rattle.std.proofs.lemmas.Slice.Eq.{bytes_eq-Decides}
use Rattle.text_core.specs.Lines.{Line}
use Rattle.text_core.specs.Items.{split_from}
use Rattle.text_core.specs.Numbers.{number_from}
use Rattle.chain_theory.specs.declared.data.Cell.{Cell}
use Rattle.chain_theory.specs.declared.data.Cell.TheVariants.{Zero, One, Free}
use Rattle.chain_theory.specs.declared.data.Out.{Out}
use Rattle.chain_theory.specs.Chain.{Chain, Step}
use Rattle.sat_theory.specs.Line as theory
use Rattle.sat_theory.specs.Line.{IsLine}
use Rattle.sat_theory.specs.State.{State, start, next}
use Rattle.sat_theory.specs.Log.{IsStep, EachLine}
use Rattle.lrat_text.specs.Reading.{line_in}
use Rattle.lrat_text.specs.Spelling.{line_body}
use Rattle.lrat_text.specs.WholeLines.{line_back}
use Rattle.tt_core.specs.Words.{Words, cell_of}
use Rattle.tt_core.specs.Spelling.{character, inputs_line}
use Rattle.chain_core.specs.Spelling.{line, step_text, step_lines, out_text, out_line, count_text}
use Rattle.enc_theory.specs.declared.subproblem.Subproblem.{Subproblem}
use Rattle.enc_theory.specs.declared.subproblem.Subproblem.TheVariants.{Whole, Levels}
use Rattle.cert_theory.specs.declared.data.Header.{Header}
use Rattle.cert_theory.specs.declared.data.LogEnd.{LogEnd}
use Rattle.cert_theory.specs.declared.data.LogEnd.TheVariants as ends
use Rattle.cert_theory.specs.declared.data.Verdict.{Verdict}
use Rattle.cert_theory.specs.declared.data.Verdict.TheVariants as verdicts
use Rattle.cert_theory.specs.Certificate.{SubproblemLog, Section, Certificate, IsSubproblemLog, IsSection, AreSections, IsValid, formula_of}
use Rattle.cert_theory.specs.Spelling.{table_text, table_line, tables_lines, basis_line, method_line, conflicts_line}
use Rattle.cert_theory.specs.Spelling.{max_line, first_text, header_lines, size_line, ended_text, done_text, log_line}
use Rattle.cert_theory.specs.Spelling.{verdict_line, end_text, fence_text, name_lines, subproblem_lines, section_lines}
use Rattle.cert_theory.specs.Spelling.{block_lines, certificate_lines}
use Rattle.cert_theory.specs.SubproblemLines.{is_line}
use Rattle.cert_laws.specs.LineSpellings.{is_line_back}
use Rattle.cert_laws.specs.SectionLists.{log_holds}
use Rattle.depth_theory.specs.DepthJudging.{prefix_of, suffix_of}

-- none of the lines is `end`, so the search for `end` goes past them
record IsEndless (ls : List Line) : Type 0 where
  prefix : (rest : List Line) → prefix_of (ls ++ rest) ≡ ls ++ prefix_of rest
  following : (rest : List Line) → suffix_of (ls ++ rest) ≡ suffix_of rest

endless_none : IsEndless []
endless_none = record { prefix = λ rest. refl; following = λ rest. refl }

endless_both : (ls ms : List Line) → IsEndless ls → IsEndless ms → IsEndless (ls ++ ms)
endless_both ls ms one two = record {
  prefix = λ rest. ap prefix_of (append_assoc ls ms rest) ∙ one.prefix (ms ++ rest) ∙ ap (λ (xs : List Line). ls ++ xs) (two.prefix rest) ∙ sym (append_assoc ls ms (prefix_of rest));
  following = λ rest. ap suffix_of (append_assoc ls ms rest) ∙ one.following (ms ++ rest) ∙ two.following rest;
}

endless_line : (l : Line) → is_line end_text l ≡ false → IsEndless (l ∷ [])
unfolding prefix_of suffix_of
endless_line l other = record {
  prefix = λ rest. ap (λ (t : Bool). cond t (l ∷ []) (l ∷ prefix_of rest)) other;
  following = λ rest. ap (λ (t : Bool). cond t rest (suffix_of rest)) other;
}

endless_cons : (l : Line) (ls : List Line) → IsEndless (l ∷ []) → IsEndless ls → IsEndless (l ∷ ls)
endless_cons l ls one two = endless_both (l ∷ []) ls one two

-- ---- lines that don't begin with an e

abbrev first_byte : List ℕ → ℕ
first_byte [] = 0
first_byte (b ∷ bs) = b

other_by : (text : List ℕ) (t : Bool) → (first_byte text == 101) ≡ false → bytes_eq text end_text ≡ t → t ≡ false
other_by text true first e =
    let same : text ≡ end_text = (bytes_eq-Decides text end_text).0 e in
    absurd (let is : true ≡ false = sym (ap (λ (bs : List ℕ). first_byte bs == 101) same) ∙ first in cc)
other_by text false first e = refl

endless_text : (text : List ℕ) → (first_byte text == 101) ≡ false → IsEndless (line text ∷ [])
endless_text text first = endless_line (line text) (other_by text (bytes_eq text end_text) first refl)

log_other : (x : theory.Line) (t : Bool) → IsLine x → bytes_eq (line_body x) (codes "end") ≡ t → t ≡ false
unfolding number_from split_from
log_other x true is e =
    let same : line_body x ≡ codes "end" = (bytes_eq-Decides (line_body x) (codes "end")).0 e in
    let read : line_in (codes "end") ≡ Ok x = sym (ap line_in same) ∙ line_back x is in
    absurd cc
log_other x false is e = refl

endless_log : (s : State) (log : List theory.Line) → EachLine IsStep s log → IsEndless (map log_line log)
unfolding EachLine
endless_log s [] each = endless_none
endless_log s (x ∷ xs) each = endless_cons (log_line x) (map log_line xs)
    (endless_line (log_line x) (log_other x (bytes_eq (line_body x) (codes "end")) each.0.is_line refl))
    (endless_log (next s x) xs each.1)

-- ---- the header

cell_other : (c : Cell) → (first_byte (character c ∷ []) == 101) ≡ false
cell_other Zero = refl
cell_other One = refl
cell_other Free = refl

cells_other : (w : Words) (h : ℕ) (ts : List ℕ) → (first_byte (map (λ t. character (cell_of w h t)) ts) == 101) ≡ false
cells_other w h [] = refl
cells_other w h (t ∷ ts) = cell_other (cell_of w h t)

endless_table : (w : Words) (h : ℕ) → IsEndless (table_line w h ∷ [])
unfolding table_text
endless_table w h = endless_text (table_text w h) (cells_other w h (range_with_len 0 _))

endless_tables : (w : Words) (ks : List ℕ) → IsEndless (map (λ i. table_line w (i + 1)) ks)
endless_tables w [] = endless_none
endless_tables w (k ∷ ks) = endless_cons (table_line w (k + 1)) (map (λ i. table_line w (i + 1)) ks) (endless_table w (k + 1)) (endless_tables w ks)

endless_header : (h : Header) → IsEndless (header_lines h)
unfolding basis_line method_line conflicts_line max_line
endless_header h =
    let four = endless_cons (line (basis_line h.basis)) _ (endless_text (basis_line h.basis) refl)
    (endless_cons (line (method_line h.method)) _ (endless_text (method_line h.method) refl)
    (endless_cons (line (conflicts_line h.conflicts)) _ (endless_text (conflicts_line h.conflicts) refl)
    (endless_text (max_line h.max) refl))) in
    let tables = endless_cons (inputs_line h.spec.n)
    (map (λ i. table_line h.spec (i + 1)) (range_with_len 0 (length h.spec.on))) (endless_text (codes "inputs " ++
    decimal h.spec.n) refl) (endless_tables h.spec (range_with_len 0 (length h.spec.on))) in
    endless_cons (line first_text) _ (endless_text first_text refl) (endless_both (tables_lines h.spec) _ tables four)

-- ---- sections

endless_name : (subproblem : Subproblem) → IsEndless (name_lines subproblem)
unfolding name_lines fence_text
endless_name Whole = endless_none
endless_name (Levels sizes) = endless_text (codes "fence" ++ flat_map (λ size. 32 ∷ decimal size) sizes) refl

endless_ended : (ended : LogEnd) → IsEndless (line (ended_text ended) ∷ [])
endless_ended ends.Refuted = endless_text (codes "refuted") refl
endless_ended ends.Open = endless_text (codes "open") refl

endless_subproblem : (h : Header) (size : ℕ) (p : SubproblemLog) → IsSubproblemLog h size p → IsEndless (subproblem_lines p)
unfolding subproblem_lines
endless_subproblem h size p is =
    let f = formula_of h size p.subproblem in
    endless_both (name_lines p.subproblem) _ (endless_name p.subproblem)
    (endless_cons (line (ended_text p.ended)) _ (endless_ended p.ended)
    (endless_both (map log_line p.log) _ (endless_log (start f) p.log (log_holds f h.conflicts p.ended p.log is))
    (endless_text done_text refl)))

endless_subproblems : (h : Header) (size : ℕ) (ps : List SubproblemLog) → AllByRecursion (IsSubproblemLog h size) ps → IsEndless (flat_map subproblem_lines ps)
endless_subproblems h size [] logs = endless_none
endless_subproblems h size (p ∷ ps) logs = endless_both (subproblem_lines p) (flat_map subproblem_lines ps) (endless_subproblem h size p logs.0) (endless_subproblems h size ps logs.1)

endless_section : (h : Header) (size : ℕ) (s : Section) → IsSection h size s → IsEndless (section_lines s)
unfolding section_lines size_line
endless_section h size s is = endless_cons (line (size_line s.size)) _ (endless_text (size_line s.size) refl)
    (endless_subproblems h size s.subproblems (recursion_from_All (IsSubproblemLog h size) s.subproblems is.logs))

endless_sections : (h : Header) (ss : List Section) (size : ℕ) → AreSections h size ss → IsEndless (flat_map section_lines ss)
unfolding AreSections
endless_sections h [] size are = endless_none
endless_sections h (s ∷ ss) size are = endless_both (section_lines s) (flat_map section_lines ss) (endless_section h size s are.0) (endless_sections h ss (size + 1) are.1)

-- ---- the trailer

endless_steps : (place : ℕ) (ss : List Step) → IsEndless (step_lines place ss)
unfolding step_lines step_text
endless_steps place [] = endless_none
endless_steps place (s ∷ ss) = endless_cons (line (step_text place s)) (step_lines (place + 1) ss) (endless_text (step_text place s) refl) (endless_steps (place + 1) ss)

endless_outs : (os : List Out) → IsEndless (map out_line os)
unfolding out_text
endless_outs [] = endless_none
endless_outs (o ∷ os) = endless_cons (out_line o) (map out_line os) (endless_text (out_text o) refl) (endless_outs os)

endless_block : (chain : Option Chain) → IsEndless (block_lines chain)
unfolding count_text
endless_block None = endless_none
endless_block (Some c) = endless_cons (line (count_text (length c.steps))) _
    (endless_text (count_text (length c.steps)) refl)
    (endless_both (step_lines (c.n + 1) c.steps) (map out_line c.outs) (endless_steps (c.n + 1) c.steps)
    (endless_outs c.outs))

endless_verdict : (v : Verdict) → IsEndless (line (verdict_line v) ∷ [])
unfolding verdict_line
endless_verdict (verdicts.Minimum r) = endless_text (codes "minimum " ++ decimal r) refl
endless_verdict (verdicts.NoChain x) = endless_text (codes "none " ++ decimal x) refl
endless_verdict (verdicts.Bounded low r) = endless_text (codes "bounded " ++ (decimal low ++ 32 ∷ decimal r)) refl
endless_verdict (verdicts.Open low) = endless_text (codes "open " ++ decimal low) refl

-- ---- the whole

-- all lines of a certificate but the last
abbrev opening : Certificate → List Line
opening b = header_lines b.header ++ (flat_map section_lines b.sections ++ (block_lines b.chain ++ line (verdict_line b.verdict) ∷ []))

opening_endless : (b : Certificate) → IsValid b → IsEndless (opening b)
opening_endless b valid =
    endless_both (header_lines b.header) _ (endless_header b.header)
    (endless_both (flat_map section_lines b.sections) _ (endless_sections b.header b.sections 0 valid.sections)
    (endless_both (block_lines b.chain) _ (endless_block b.chain) (endless_verdict b.verdict)))

regroup : (a s c : List Line) (v e : Line) (rest : List Line) → (a ++ (s ++ (c ++ v ∷ e ∷ []))) ++ rest ≡ (a ++ (s ++ (c ++ v ∷ []))) ++ e ∷ rest
regroup a s c v e rest = simp append_assoc

regroup_all : (a s c : List Line) (v e : Line) → (a ++ (s ++ (c ++ v ∷ []))) ++ e ∷ [] ≡ a ++ (s ++ (c ++ v ∷ e ∷ []))
regroup_all a s c v e = simp append_assoc

last_prefix : (rest : List Line) → prefix_of (line end_text ∷ rest) ≡ line end_text ∷ []
unfolding prefix_of
last_prefix rest = ap (λ (t : Bool). cond t (line end_text ∷ []) (line end_text ∷ prefix_of rest)) (is_line_back end_text)

last_suffix : (rest : List Line) → suffix_of (line end_text ∷ rest) ≡ rest
unfolding suffix_of
last_suffix rest = ap (λ (t : Bool). cond t rest (suffix_of rest)) (is_line_back end_text)

-- the lines of a certificate with others after them begin with the certificate ..
pub prefix_is : (b : Certificate) (rest : List Line) → IsValid b → prefix_of (certificate_lines b ++ rest) ≡ certificate_lines b
prefix_is b rest valid =
    let h = header_lines b.header in
    let s = flat_map section_lines b.sections in
    let c = block_lines b.chain in
    let v = line (verdict_line b.verdict) in
    ap prefix_of (regroup h s c v (line end_text) rest)
    ∙ (opening_endless b valid).prefix (line end_text ∷ rest)
    ∙ ap (λ (xs : List Line). opening b ++ xs) (last_prefix rest)
    ∙ regroup_all h s c v (line end_text)

-- .. and the others come after it
pub suffix_is : (b : Certificate) (rest : List Line) → IsValid b → suffix_of (certificate_lines b ++ rest) ≡ rest
suffix_is b rest valid =
    ap suffix_of (regroup (header_lines b.header) (flat_map section_lines b.sections) (block_lines b.chain) (line (verdict_line b.verdict)) (line end_text) rest)
    ∙ (opening_endless b valid).following (line end_text ∷ rest)
    ∙ last_suffix rest

both_by : (l : Line) (ls : List Line) (t : Bool) → ls ≡ prefix_of ls ++ suffix_of ls → l ∷ ls ≡ cond t (l ∷ []) (l ∷ prefix_of ls) ++ cond t ls (suffix_of ls)
both_by l ls true rest = refl
both_by l ls false rest = ap (λ (xs : List Line). l ∷ xs) rest

-- lines are those up to the first `end` and those after it
pub prefix_and_suffix : (ls : List Line) → ls ≡ prefix_of ls ++ suffix_of ls
unfolding prefix_of suffix_of
prefix_and_suffix [] = refl
prefix_and_suffix (l ∷ ls) = both_by l ls (is_line end_text l) (prefix_and_suffix ls)
