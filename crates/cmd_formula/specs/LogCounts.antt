-- How many logs a section has, among the lines of a valid certificate: a part beyond them has none.
use Rattle.std.proofs.Common.{◌≡◌, ℕ, zero, suc, ◌+◌, ◌<◌, ◌≤◌, Bool, true, false, cond, List}
use Rattle.std.proofs.Common.{[], ◌∷◌, ◌++◌, length, map, Option, Some, None, refl, sym, ap, ◌∙◌, subst, arith, append_assoc}
use Rattle.std.specs.Prelude.{slice_get}
use Rattle.std.specs.List.{flat_map}
use Rattle.text_core.specs.Lines.{Line}
use Rattle.chain_theory.specs.Limits.{most_steps}
use Rattle.chain_theory.specs.Chain.{Chain, Step}
use Rattle.chain_theory.specs.declared.data.Out.{Out}
use Rattle.chain_core.specs.Spelling.{line, step_text, step_lines, out_text, out_line, count_text}
use Rattle.lrat_text.specs.Spelling.{line_text}
use Rattle.cert_theory.specs.declared.data.Header.{Header}
use Rattle.cert_theory.specs.declared.data.Verdict.{Verdict}
use Rattle.cert_theory.specs.declared.data.Verdict.TheVariants as verdicts
use Rattle.cert_theory.specs.Certificate.{SubproblemLog, Section, Certificate, IsSubproblemLog, IsSection, AreSections, IsValid}
use Rattle.cert_theory.specs.Spelling.{header_lines, size_line, done_text, subproblem_lines, section_lines, trailer_lines, certificate_lines, text_of, block_lines, verdict_line, end_text}
use Rattle.cert_theory.specs.SubproblemLines.{is_line}
use Rattle.cert_laws.specs.LineSpellings.{is_line_back}
use Rattle.cmd_formula.specs.LogLines.{lines_after, log_lines, found_lines, has_log}
use Rattle.cmd_formula.specs.LineLaws.{Without, without_both, passed, found_here, done_not_size, inner, inner_not_done, inner_not_size, subproblem_parts}
use Rattle.cmd_formula.specs.LineLaws.{AreLogs, logs_of, first_section, section_not_size, log_in_sections, section_log, header_not_size, log_bytes}

-- ---- how many logs a section has

has_passed : (text : List ℕ) (others : ℕ) (xs ys : List Line) → Without text xs → Without done_text xs → has_log text others (xs ++ ys) ≡ has_log text others ys
unfolding Without has_log
has_passed text others [] ys without running = refl
has_passed text zero (x ∷ xs) ys without running =
    ap (λ (t : Bool). cond t false (cond (is_line done_text x) true (has_log text zero (xs ++ ys)))) without.0
    ∙ ap (λ (t : Bool). cond t true (has_log text zero (xs ++ ys))) running.0
    ∙ has_passed text zero xs ys without.1 running.1
has_passed text (suc n) (x ∷ xs) ys without running =
    ap (λ (t : Bool). cond t false (cond (is_line done_text x) (has_log text n (xs ++ ys)) (has_log text (suc n) (xs ++ ys)))) without.0
    ∙ ap (λ (t : Bool). cond t (has_log text n (xs ++ ys)) (has_log text (suc n) (xs ++ ys))) running.0
    ∙ has_passed text (suc n) xs ys without.1 running.1

has_here : (other : ℕ) (ls : List Line) → has_log (size_line other) zero (line done_text ∷ ls) ≡ true
unfolding has_log
has_here other ls =
    ap (λ (t : Bool). cond t false (cond (is_line done_text (line done_text)) true (has_log (size_line other) zero ls))) (done_not_size other)
    ∙ ap (λ (t : Bool). cond t true (has_log (size_line other) zero ls)) (is_line_back done_text)

has_later : (other n : ℕ) (ls : List Line) → has_log (size_line other) (suc n) (line done_text ∷ ls) ≡ has_log (size_line other) n ls
unfolding has_log
has_later other n ls =
    ap (λ (t : Bool). cond t false (cond (is_line done_text (line done_text)) (has_log (size_line other) n ls) (has_log (size_line other) (suc n) ls))) (done_not_size other)
    ∙ ap (λ (t : Bool). cond t (has_log (size_line other) n ls) (has_log (size_line other) (suc n) ls)) (is_line_back done_text)

none_by : (stops ends more rest : Bool) → ends ≡ false → rest ≡ false → cond stops false (cond ends more rest) ≡ false
none_by true ends more rest e none = refl
none_by false true more rest e none = absurd cc
none_by false false more rest e none = none

has_none : (text : List ℕ) (others : ℕ) (ls : List Line) → Without done_text ls → has_log text others ls ≡ false
unfolding Without has_log
has_none text others [] without = refl
has_none text zero (l ∷ ls) without = none_by (is_line text l) (is_line done_text l) true (has_log text zero ls) without.0 (has_none text zero ls without.1)
has_none text (suc n) (l ∷ ls) without = none_by (is_line text l) (is_line done_text l) (has_log text n ls) (has_log text (suc n) ls) without.0 (has_none text (suc n) ls without.1)

has_stop : (text : List ℕ) (others : ℕ) (ls : List Line) → has_log text others (line text ∷ ls) ≡ false
unfolding has_log
has_stop text zero ls = ap (λ (t : Bool). cond t false (cond (is_line done_text (line text)) true (has_log text zero ls))) (is_line_back text)
has_stop text (suc n) ls = ap (λ (t : Bool). cond t false (cond (is_line done_text (line text)) (has_log text n ls) (has_log text (suc n) ls))) (is_line_back text)

has_subproblem : (other others : ℕ) (h : Header) (size : ℕ) (p : SubproblemLog) (ls : List Line) → IsSubproblemLog h size p
    → has_log (size_line other) others (subproblem_lines p ++ ls) ≡ has_log (size_line other) others (line done_text ∷ ls)
has_subproblem other others h size p ls is =
    ap (has_log (size_line other) others) (subproblem_parts p ls)
    ∙ has_passed (size_line other) others (inner p) (line done_text ∷ ls) (inner_not_size other h size p is) (inner_not_done h size p is)

-- the logs of a section are there
has_among : (other : ℕ) (h : Header) (size : ℕ) (ps : List SubproblemLog) (i : ℕ) (ls : List Line) → AreLogs h size ps → i < length ps
    → has_log (size_line other) i (flat_map subproblem_lines ps ++ ls) ≡ true
unfolding AreLogs
has_among other h size [] i ls are low = absurd (omega (arith, low))
has_among other h size (p ∷ ps) zero ls are low =
    ap (has_log (size_line other) zero) (append_assoc (subproblem_lines p) (flat_map subproblem_lines ps) ls)
    ∙ has_subproblem other zero h size p (flat_map subproblem_lines ps ++ ls) are.0
    ∙ has_here other (flat_map subproblem_lines ps ++ ls)
has_among other h size (p ∷ ps) (suc i) ls are low =
    ap (has_log (size_line other) (suc i)) (append_assoc (subproblem_lines p) (flat_map subproblem_lines ps) ls)
    ∙ has_subproblem other (suc i) h size p (flat_map subproblem_lines ps ++ ls) are.0
    ∙ has_later other i (flat_map subproblem_lines ps ++ ls)
    ∙ has_among other h size ps i ls are.1 (omega (arith, low))

-- and no more
has_past : (other : ℕ) (h : Header) (size : ℕ) (ps : List SubproblemLog) (i : ℕ) (ls : List Line) → AreLogs h size ps → length ps ≤ i
    → ((n : ℕ) → has_log (size_line other) n ls ≡ false) → has_log (size_line other) i (flat_map subproblem_lines ps ++ ls) ≡ false
unfolding AreLogs
has_past other h size [] i ls are high none = none i
has_past other h size (p ∷ ps) zero ls are high none = absurd (omega (arith, high))
has_past other h size (p ∷ ps) (suc i) ls are high none =
    ap (has_log (size_line other) (suc i)) (append_assoc (subproblem_lines p) (flat_map subproblem_lines ps) ls)
    ∙ has_subproblem other (suc i) h size p (flat_map subproblem_lines ps ++ ls) are.0
    ∙ has_later other i (flat_map subproblem_lines ps ++ ls)
    ∙ has_past other h size ps i ls are.1 (omega (arith, high)) none

-- what comes after a section has no log, or begins with the line of the next size
has_next : (h : Header) (k : ℕ) (ss : List Section) (ls : List Line) → AreSections h k ss → Without done_text ls → (n : ℕ)
    → has_log (size_line k) n (flat_map section_lines ss ++ ls) ≡ false
unfolding AreSections
has_next h k [] ls are without n = has_none (size_line k) n ls without
has_next h k (s ∷ ss) ls are without n =
    ap (has_log (size_line k) n) (first_section s ss ls)
    ∙ ap (λ (size : ℕ). has_log (size_line k) n (line (size_line size) ∷ (flat_map subproblem_lines s.subproblems ++ (flat_map section_lines ss ++ ls)))) are.0.size_is
    ∙ has_stop (size_line k) n (flat_map subproblem_lines s.subproblems ++ (flat_map section_lines ss ++ ls))

-- the lines of the sections from that of a size on, after the line of the size
from_section : (h : Header) (k i : ℕ) (ss : List Section) (s : Section) (ls : List Line) → AreSections h k ss → k + i ≤ most_steps → slice_get ss i ≡ Some s
    → (more : List Section) × AreSections h (k + i + 1) more × IsSection h (k + i) s
    × (lines_after (size_line (k + i)) (flat_map section_lines ss ++ ls) ≡ flat_map subproblem_lines s.subproblems ++ (flat_map section_lines more ++ ls))
unfolding AreSections
from_section h k i [] s ls are small is = absurd cc
from_section h k zero (t ∷ ss) s ls are small is =
    let same : t ≡ s = cc in
    let size : k + 0 ≡ k = omega arith in
    let own : k + 0 ≡ t.size = omega (arith, are.0.size_is) in (
      ss,
      subst (λ (n : ℕ). AreSections h (n + 1) ss) (sym size) are.1,
      subst (λ (x : Section). IsSection h (k + 0) x) same (subst (λ (n : ℕ). IsSection h n t) (sym size) are.0),
      ap (λ (n : ℕ). lines_after (size_line n) (flat_map section_lines (t ∷ ss) ++ ls)) own
          ∙ ap (lines_after (size_line t.size)) (first_section t ss ls)
          ∙ found_here (size_line t.size) (flat_map subproblem_lines t.subproblems ++ (flat_map section_lines ss ++ ls))
          ∙ ap (λ (x : Section). flat_map subproblem_lines x.subproblems ++ (flat_map section_lines ss ++ ls)) same,
    )
from_section h k (suc i) (t ∷ ss) s ls are small is =
    let same : k + suc i ≡ k + 1 + i = omega arith in
    let rest = from_section h (k + 1) i ss s ls are.1 (omega (arith, small)) is in (
      rest.0,
      subst (λ (n : ℕ). AreSections h (n + 1) rest.0) (sym same) rest.1,
      subst (λ (n : ℕ). IsSection h n s) (sym same) rest.2,
      ap (λ (n : ℕ). lines_after (size_line n) (flat_map section_lines (t ∷ ss) ++ ls)) same
          ∙ ap (lines_after (size_line (k + 1 + i))) (append_assoc (section_lines t) (flat_map section_lines ss) ls)
          ∙ passed (size_line (k + 1 + i)) (section_lines t) (flat_map section_lines ss ++ ls)
          (section_not_size (k + 1 + i) h k t are.0 (omega (arith, small)) (omega (arith, small)) (λ e. omega (arith, e)))
          ∙ rest.3,
    )

-- ---- the trailer has no log

steps_not_done : (place : ℕ) (steps : List Step) → Without done_text (step_lines place steps)
unfolding Without step_lines step_text
steps_not_done place [] = tt
steps_not_done place (s ∷ ss) = (refl, steps_not_done (place + 1) ss)

outs_not_done : (outs : List Out) → Without done_text (map out_line outs)
unfolding Without out_text
outs_not_done [] = tt
outs_not_done (o ∷ os) = (refl, outs_not_done os)

block_not_done : (chain : Option Chain) → Without done_text (block_lines chain)
unfolding Without count_text
block_not_done None = tt
block_not_done (Some c) = (refl, without_both done_text (step_lines (c.n + 1) c.steps) (map out_line c.outs) (steps_not_done (c.n + 1) c.steps) (outs_not_done c.outs))

verdict_not_done : (v : Verdict) → is_line done_text (line (verdict_line v)) ≡ false
unfolding verdict_line
verdict_not_done (verdicts.Minimum r) = refl
verdict_not_done (verdicts.NoChain x) = refl
verdict_not_done (verdicts.Bounded low r) = refl
verdict_not_done (verdicts.Open low) = refl

trailer_not_done : (chain : Option Chain) (v : Verdict) → Without done_text (trailer_lines chain v)
unfolding Without
trailer_not_done chain v = without_both done_text (block_lines chain) (line (verdict_line v) ∷ line end_text ∷ []) (block_not_done chain) (verdict_not_done v, (refl, tt))

-- the lines after the line of a size
size_lines : (b : Certificate) (i : ℕ) → lines_after (size_line i) (certificate_lines b) ≡ lines_after (size_line i) (flat_map section_lines b.sections ++ trailer_lines b.chain b.verdict)
size_lines b i = passed (size_line i) (header_lines b.header) (flat_map section_lines b.sections ++ trailer_lines b.chain b.verdict) (header_not_size i b.header)

-- the lines of a part's log
pub log_found : (b : Certificate) (i : ℕ) (s : Section) (j : ℕ) (p : SubproblemLog) → IsValid b → i ≤ most_steps → slice_get b.sections i ≡ Some s →
    slice_get s.subproblems j ≡ Some p → j < length s.subproblems
    → text_of (log_lines i j (certificate_lines b)) ≡ flat_map line_text p.log
log_found b i s j p valid small got has low =
    let last = trailer_lines b.chain b.verdict in
    let rest = flat_map section_lines b.sections ++ last in
    let same : 0 + i ≡ i = omega arith in
    let at = from_section b.header 0 i b.sections s last valid.sections (omega (arith, small)) got in
    let lines : lines_after (size_line i) (certificate_lines b) ≡ flat_map subproblem_lines s.subproblems ++ (flat_map section_lines at.0 ++ last) =
    size_lines b i ∙ ap (λ (n : ℕ). lines_after (size_line n) rest) (sym same) ∙ at.3 in
    let there : has_log (size_line (i + 1)) j (lines_after (size_line i) (certificate_lines b)) ≡ true =
    ap (has_log (size_line (i + 1)) j) lines
    ∙ has_among (i + 1) b.header (0 + i) s.subproblems j (flat_map section_lines at.0 ++ last) (logs_of b.header (0 + i) s at.2) low in
    ap (λ (t : Bool). text_of (cond t (found_lines j (lines_after (size_line i) (certificate_lines b))) [])) there
    ∙ ap (λ (ls : List Line). text_of (found_lines j ls)) (size_lines b i)
    ∙ ap (λ (n : ℕ). text_of (section_log n j rest)) (sym same)
    ∙ ap text_of (log_in_sections b.header 0 i b.sections s j p last valid.sections (omega (arith, small)) got has)
    ∙ log_bytes p.log

-- a section that ends before a part has no log of it
pub log_missing : (b : Certificate) (i : ℕ) (s : Section) (j : ℕ) → IsValid b → i ≤ most_steps → slice_get b.sections i ≡ Some s →
    length s.subproblems ≤ j → text_of (log_lines i j (certificate_lines b)) ≡ []
log_missing b i s j valid small got high =
    let last = trailer_lines b.chain b.verdict in
    let rest = flat_map section_lines b.sections ++ last in
    let same : 0 + i ≡ i = omega arith in
    let at = from_section b.header 0 i b.sections s last valid.sections (omega (arith, small)) got in
    let more : AreSections b.header (i + 1) at.0 = subst (λ (n : ℕ). AreSections b.header (n + 1) at.0) same at.1 in
    let lines : lines_after (size_line i) (certificate_lines b) ≡ flat_map subproblem_lines s.subproblems ++ (flat_map section_lines at.0 ++ last) =
    size_lines b i ∙ ap (λ (n : ℕ). lines_after (size_line n) rest) (sym same) ∙ at.3 in
    let none : has_log (size_line (i + 1)) j (lines_after (size_line i) (certificate_lines b)) ≡ false =
    ap (has_log (size_line (i + 1)) j) lines
    ∙ has_past (i + 1) b.header (0 + i) s.subproblems j (flat_map section_lines at.0 ++ last) (logs_of b.header (0 + i) s at.2) high
    (has_next b.header (i + 1) at.0 last more (trailer_not_done b.chain b.verdict)) in
    ap (λ (t : Bool). text_of (cond t (found_lines j (lines_after (size_line i) (certificate_lines b))) [])) none
