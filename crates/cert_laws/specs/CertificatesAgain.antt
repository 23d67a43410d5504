-- The text of a valid certificate is accepted.
use Rattle.std.proofs.lemmas.List.Elements.{recursion_from_All}
use Rattle.cert_laws.specs.CodingLaws.{HasShortName, method_is_coding}
use Rattle.enc_theory.specs.declared.subproblem.Subproblem.{Subproblem}
use Rattle.std.proofs.Common.{◌≡◌, ℕ, zero, suc, ◌+◌, ◌^◌, ◌<◌, ◌≤◌, Bool, true, false, cond, List, [], ◌∷◌, ◌++◌}
use Rattle.std.proofs.Common.{length, map, drop, Option, Some, None, Ok, Err, refl, sym, ap, ◌∙◌, subst, arith}
use Rattle.std.proofs.Common.{append_assoc, append-nil, zero-add, Contains}
use Rattle.std.specs.Prelude.{codes, slice_get}
use Rattle.std.specs.List.{flat_map, range_with_len, AllByRecursion}
use Rattle.std.proofs.Math.Logic.{⊎_elim}
use Rattle.std.proofs.lemmas.List.FromFn.{length-map-range_with_len, get_or-map-range_with_len}
use Rattle.text_core.specs.Lines.{Line, lines_from, lines_of}
use Rattle.text_core.specs.Words.{begins_lower}
use Rattle.chain_theory.specs.Chain.{Chain}
use Rattle.sat_theory.specs.State.{start}
use Rattle.tt_core.specs.Words.{Words, specification, cell_of}
use Rattle.tt_core.specs.Spelling.{character, IsTableLine, SpellsTables}
use Rattle.tt_core.specs.Tables as tables
use Rattle.tt_core.specs.ReadBack.{tables_again}
use Rattle.chain_core.specs.Spelling.{line}
use Rattle.settings.specs.declared.methods.Method.{Method}
use Rattle.cert_theory.specs.declared.data.Header.{Header}
use Rattle.cert_theory.specs.declared.data.Verdict.{Verdict}
use Rattle.cert_theory.specs.declared.data.CertificateError.TheVariants.{Syntax}
use Rattle.cert_theory.specs.Certificate.{Section, Certificate, IsHeader, AreSections, IsSection, is_open, first_open}
use Rattle.cert_theory.specs.Certificate.{IsTrailer, IsValid, HasOutput, SubproblemLog, subproblem_of, subproblems_of, formula_of}
use Rattle.cert_theory.specs.TriedLaws.{tried_among}
use Rattle.cert_theory.specs.Certificate.{IsSubproblemLog}
use Rattle.cert_theory.specs.Spelling.{table_text, table_line, tables_lines, basis_line, method_line, conflicts_line}
use Rattle.cert_theory.specs.Spelling.{max_line, header_lines, log_line, section_lines, block_lines, verdict_line}
use Rattle.cert_theory.specs.Spelling.{trailer_lines, certificate_lines, cert_text, IsCertificateText, name_lines}
use Rattle.cert_theory.specs.Spelling.{subproblem_lines}
use Rattle.cert_theory.specs.Gives.{◌>>=◌}
use Rattle.sat_theory.specs.Limits.{most_conflicts}
use Rattle.chain_theory.specs.Limits.{most_steps}
use Rattle.cert_theory.specs.Judging.{or_syntax, beginning, sections_of, after_conflicts, after_method, after_basis, after_tables, with_tables, certificate_of}
use Rattle.cert_laws.specs.LineSpellings.{is_line_back, some_is}
use Rattle.cert_laws.specs.LinesAgain.{basis_again, method_again, conflicts_again, max_again}
use Rattle.cert_laws.specs.Meanings.{open_cases}
use Rattle.cert_laws.specs.SectionsAgain.{small_chain}
use Rattle.cert_laws.specs.SectionLists.{log_holds, sections_again}
use Rattle.cert_laws.specs.WholeTexts.{IsWhole, whole_none, whole_both, whole_cons, whole_block, whole_header}
use Rattle.cert_laws.specs.WholeTexts.{whole_lines, whole_ended, whole_done, whole_end, whole_size, IsShort}
use Rattle.cert_laws.specs.WholeTexts.{whole_verdict, whole_name}

-- ---- tables

got_from : (w : Words) (m k i : ℕ) (rest : List Line) → i < m → slice_get (map (λ j. table_line w (j + 1)) (range_with_len k m) ++ rest) i ≡ Some (table_line w (k + i + 1))
got_from w zero k i rest low = absurd (omega arith)
got_from w (suc m) k zero rest low = let same : k + 1 ≡ k + 0 + 1 = omega arith in ap (λ (n : ℕ). Some (table_line w n)) same
got_from w (suc m) k (suc i) rest low = let same : k + 1 + i + 1 ≡ k + suc i + 1 = omega arith in got_from w m (k + 1) i rest (omega arith) ∙ ap (λ (n : ℕ). Some (table_line w n)) same

dropped : (w : Words) (m k : ℕ) (rest : List Line) → drop m (map (λ j. table_line w (j + 1)) (range_with_len k m) ++ rest) ≡ rest
dropped w zero k rest = refl
dropped w (suc m) k rest = dropped w m (k + 1) rest

table_is_line : (w : Words) (h : ℕ) → IsTableLine (specification w) h (table_line w h)
unfolding table_text
table_is_line w h = record {
  ended = refl;
  rows = length-map-range_with_len (λ t. character (cell_of w h t)) 0 (2 ^ w.n);
  cells = λ t low. get_or-map-range_with_len (λ u. character (cell_of w h u)) 0 (2 ^ w.n) t t 0 low (zero-add t);
}

table_at : (w : Words) (rest : List Line) (h : ℕ) → 0 < h → h ≤ length w.on → (l : Line) × (slice_get (tables_lines w ++ rest) h ≡ Some l) × IsTableLine (specification w) h l
table_at w rest zero some low = absurd (omega arith)
table_at w rest (suc i) some low =
    let same : 0 + i + 1 ≡ suc i = omega arith in
    (table_line w (suc i), got_from w (length w.on) 0 i rest (omega arith) ∙ ap (λ (n : ℕ). Some (table_line w n)) same, table_is_line w (suc i))

pub spells_tables : (w : Words) (l : Line) (ls : List Line) → 0 < length w.on → begins_lower l.text ≡ true → SpellsTables (specification w) (tables_lines w ++ l ∷ ls) (l ∷ ls)
spells_tables w l ls output lower = record {
  inputs_first = refl;
  tables = λ h some low. table_at w (l ∷ ls) h some low;
  output = output;
  following = sym (ap (λ (n : ℕ). drop n (tables_lines w ++ l ∷ ls)) (one_more (length w.on)) ∙ dropped w (length w.on) 0 (l ∷ ls));
  end = lower;
}
  where
    one_more : (n : ℕ) → 1 + n ≡ suc n
    one_more n = omega arith

pub basis_lower : (b : ℕ) → begins_lower (basis_line b) ≡ true
unfolding basis_line
basis_lower b = refl

-- ---- the header

max_next : (w : Words) (basis : ℕ) (method : Method) (conflicts number max : ℕ) (ls : List Line) → max ≤ most_steps →
    after_conflicts w basis method conflicts number (line (max_line max) ∷ ls) ≡
    sections_of (record { spec = w; basis = basis; method = method; conflicts = conflicts; max = max })
    (number + 1) beginning ls
unfolding after_conflicts
max_next w basis method conflicts number max ls fits =
    ap (λ (o : Option ℕ). or_syntax number o >>= λ x. sections_of (record { spec = w; basis = basis; method = method; conflicts = conflicts; max = x }) (number + 1) beginning ls) (max_again max fits)

conflicts_next : (w : Words) (basis : ℕ) (method : Method) (number conflicts : ℕ) (ls : List Line) → 1 ≤ conflicts →
    conflicts ≤ most_conflicts → after_method w basis method number (line (conflicts_line conflicts) ∷ ls) ≡
    after_conflicts w basis method conflicts (number + 1) ls
unfolding after_method
conflicts_next w basis method number conflicts ls some fits = ap (λ (o : Option ℕ). or_syntax number o >>= λ k. after_conflicts w basis method k (number + 1) ls) (conflicts_again conflicts some fits)

method_next : (h : Header) (number : ℕ) (ls : List Line) → after_basis h.spec h.basis number (line (method_line h.method) ∷ ls) ≡ after_method h.spec h.basis h.method (number + 1) ls
unfolding after_basis
method_next h number ls = ap (λ (o : Option Method). or_syntax number o >>= λ m. after_method h.spec h.basis m (number + 1) ls) (method_again h.method)

basis_next : (w : Words) (number basis : ℕ) (ls : List Line) → 0 < basis → basis < 65536 → after_tables w number (line (basis_line basis) ∷ ls) ≡ after_basis w basis (number + 1) ls
unfolding after_tables
basis_next w number basis ls some low = ap (λ (o : Option ℕ). or_syntax number o >>= λ b. after_basis w b (number + 1) ls) (basis_again basis some low)

-- the lines of a header are accepted, and sections follow
header_again : (h : Header) (rest : List Line) (v : Verdict) → IsHeader h → 0 < length h.spec.on →
    ((number : ℕ) → sections_of h number beginning rest ≡ Ok v) → certificate_of (header_lines h ++ rest) ≡ Ok v
unfolding certificate_of with_tables
header_again h rest v is output onward =
    let others = line (method_line h.method) ∷ line (conflicts_line h.conflicts) ∷ line (max_line h.max) ∷ rest in
    let number = 3 + length h.spec.on in
    ap (λ (t : Bool). cond t (with_tables (tables.tables_of ((tables_lines h.spec ++
    line (basis_line h.basis) ∷ line (method_line h.method) ∷ line (conflicts_line h.conflicts) ∷ line
    (max_line h.max) ∷ []) ++ rest))) (Err (Syntax 1))) (is_line_back (codes "chains 1"))
    ∙ ap (λ (ls : List Line). with_tables (tables.tables_of ls))
    (append_assoc (tables_lines h.spec) (line (basis_line h.basis) ∷ line (method_line h.method) ∷ line
    (conflicts_line h.conflicts) ∷ line (max_line h.max) ∷ []) rest)
    ∙ ap with_tables (tables_again h.spec (tables_lines h.spec ++ line (basis_line h.basis) ∷ others)
    (line (basis_line h.basis) ∷ others) is.tables (spells_tables h.spec (line (basis_line h.basis)) others output
    (basis_lower h.basis)))
    ∙ basis_next h.spec number h.basis others is.settings.basis_from is.basis_below
    ∙ method_next h (number + 1) (line (conflicts_line h.conflicts) ∷ line (max_line h.max) ∷ rest)
    ∙ conflicts_next h.spec h.basis h.method (number + 1 + 1) h.conflicts (line (max_line h.max) ∷ rest) is.settings.conflicts_from is.settings.conflicts_to
    ∙ max_next h.spec h.basis h.method h.conflicts (number + 1 + 1 + 1) h.max rest is.settings.max_to
    ∙ onward (number + 1 + 1 + 1 + 1)

-- ---- the whole

-- the first open size is the size of a section
open_low : (h : Header) (ss : List Section) (size l : ℕ) → AreSections h size ss → size + length ss ≤ h.max + 1 → first_open ss ≡ Some l → l ≤ h.max
unfolding AreSections
open_low h [] size l are few e = absurd cc
open_low h (s ∷ ss) size l are few e =
    ⊎_elim
    (λ (opened : (is_open s ≡ true) × (Some l ≡ Some s.size)). let same = some_is l s.size opened.1 in omega (arith, same, are.0.size_is))
    (λ (later : (is_open s ≡ false) × (first_open ss ≡ Some l)). open_low h ss (size + 1) l are.1 (omega arith) later.1)
    (open_cases s ss (Some l) e)

pub certificate_again : (b : Certificate) → IsValid b → HasOutput b → certificate_of (certificate_lines b) ≡ Ok b.verdict
certificate_again b valid output =
    let count : length b.sections ≡ 0 + length b.sections = omega arith in
    header_again b.header (flat_map section_lines b.sections ++ trailer_lines b.chain b.verdict) b.verdict valid.header output
    (λ number. sections_again b.sections b.header number 0 None b.chain b.verdict valid.header valid.sections (omega (arith, valid.sizes_to))
    (λ l e. let low = open_low b.header b.sections 0 l valid.sections (omega (arith, valid.sizes_to)) e in omega (arith, low, valid.header.settings.max_to))
    (subst (λ (n : ℕ). IsTrailer b.header n (first_open b.sections) b.chain b.verdict) count valid.trailer))

-- ---- the bytes

abbrev AreShort : List SubproblemLog → Type 0
AreShort ps = (subproblem : Subproblem) → Contains (map subproblem_of ps) subproblem → HasShortName subproblem

pub whole_subproblem : (h : Header) (size : ℕ) (p : SubproblemLog) → HasShortName p.subproblem → IsSubproblemLog h size p → IsWhole (subproblem_lines p)
unfolding subproblem_lines
whole_subproblem h size p short is =
    let f = formula_of h size p.subproblem in
    whole_both (name_lines p.subproblem) _ (whole_name p.subproblem short)
    (whole_cons _ _ (whole_ended p.ended) (whole_both (map log_line p.log) _ (whole_lines (start f) p.log (log_holds f h.conflicts p.ended p.log is)) whole_done))

whole_subproblems : (h : Header) (size : ℕ) (ps : List SubproblemLog) → AreShort ps → AllByRecursion (IsSubproblemLog h size) ps → IsWhole (flat_map subproblem_lines ps)
whole_subproblems h size [] short logs = whole_none
whole_subproblems h size (p ∷ ps) short logs =
    whole_both (subproblem_lines p) (flat_map subproblem_lines ps) (whole_subproblem h size p (short p.subproblem (0, omega arith, refl)) logs.0)
    (whole_subproblems h size ps (λ subproblem there. short subproblem (suc there.0, omega (arith, there.1), there.2)) logs.1)

whole_section : (h : Header) (size : ℕ) (s : Section) → size ≤ most_steps → IsSection h size s → IsWhole (section_lines s)
unfolding section_lines
whole_section h size s few is =
    let short : AreShort s.subproblems = λ subproblem there.
    (method_is_coding h.method).fence_names h.spec size subproblem few
    (tried_among h.method (subproblems_of h size) s.subproblems subproblem
    (subst (λ (subproblems : List Subproblem). Contains subproblems subproblem) is.subproblems_are there)) in
    whole_cons _ _ (whole_size s.size (omega (arith, is.size_is))) (whole_subproblems h size s.subproblems short (recursion_from_All (IsSubproblemLog h size) s.subproblems is.logs))

whole_sections : (h : Header) (ss : List Section) (size : ℕ) → size + length ss ≤ 17 → AreSections h size ss → IsWhole (flat_map section_lines ss)
unfolding AreSections
whole_sections h [] size few are = whole_none
whole_sections h (s ∷ ss) size few are = whole_both (section_lines s) (flat_map section_lines ss) (whole_section h size s (omega arith) are.0) (whole_sections h ss (size + 1) (omega arith) are.1)

short_verdict : (h : Header) (count : ℕ) (low : Option ℕ) (chain : Option Chain) (v : Verdict) → count ≤ 17 →
    h.max ≤ most_steps → ((l : ℕ) → low ≡ Some l → l ≤ h.max) → IsTrailer h count low chain v → IsShort v
short_verdict h count None None v few fits all is = subst (λ (w : Verdict). IsShort w) (sym is.1) (omega arith)
short_verdict h count (Some low) None v few fits all is = subst (λ (w : Verdict). IsShort w) (sym is.1) (let small = all low refl in omega (arith, small))
short_verdict h count None (Some c) v few fits all is = subst (λ (w : Verdict). IsShort w) (sym is.1) (omega arith)
short_verdict h count (Some low) (Some c) v few fits all is = subst (λ (w : Verdict). IsShort w) (sym is.1) (let small = all low refl in (omega (arith, small), omega arith))

whole_chain : (h : Header) (count : ℕ) (low : Option ℕ) (chain : Option Chain) (v : Verdict) → IsHeader h → IsTrailer h count low chain v → IsWhole (block_lines chain)
whole_chain h count low None v header is = whole_none
whole_chain h count low (Some c) v header is = whole_block c (small_chain h count c header is.0)

pub whole_certificate : (b : Certificate) → IsValid b → IsWhole (certificate_lines b)
whole_certificate b valid =
    let header = valid.header in
    let short = short_verdict b.header (length b.sections) (first_open b.sections) b.chain b.verdict
    (omega (arith, valid.sizes_to, header.settings.max_to)) header.settings.max_to
    (λ l e. open_low b.header b.sections 0 l valid.sections (omega (arith, valid.sizes_to)) e) valid.trailer in
    let trailer = whole_both (block_lines b.chain) _
    (whole_chain b.header (length b.sections) (first_open b.sections) b.chain b.verdict header valid.trailer)
    (whole_cons (line (verdict_line b.verdict)) _ (whole_verdict b.verdict short) whole_end) in
    let sections = whole_sections b.header b.sections 0 (omega (arith, valid.sizes_to, header.settings.max_to)) valid.sections in
    whole_both (header_lines b.header) _ (whole_header b.header (omega (arith, header.tables.inputs))
    (omega (arith, header.settings.conflicts_to)) (omega (arith, header.settings.max_to)))
    (whole_both (flat_map section_lines b.sections) _ sections trailer)

pub lines_again : (b : Certificate) → IsValid b → lines_of (cert_text b) ≡ certificate_lines b
unfolding lines_from
lines_again b valid = sym (ap lines_of (append-nil (cert_text b))) ∙ (whole_certificate b valid).back [] ∙ append-nil (certificate_lines b)

-- The text of a valid certificate is accepted with its verdict.
pub text_again : (bytes : List ℕ) (b : Certificate) → IsCertificateText bytes b → certificate_of (lines_of bytes) ≡ Ok b.verdict
text_again bytes b is = ap (λ (xs : List ℕ). certificate_of (lines_of xs)) is.text ∙ ap certificate_of (lines_again b is.valid) ∙ certificate_again b is.valid is.output
