-- In the text of a valid certificate, the lines that are found are those of the log: no line before the one that is
-- looked for has its text.
use Rattle.std.proofs.Common.{◌≡◌, ℕ, zero, suc, ◌+◌, ◌%◌, ◌^◌, ◌<◌, ◌≤◌, Bool, true, false, cond, List}
use Rattle.std.proofs.Common.{[], ◌∷◌, ◌++◌, length, map, Option, Some, refl, sym, ap, ◌∙◌, subst, arith, append_assoc, append-nil}
use Rattle.std.specs.Prelude.{codes, decimal, is_some, slice_get}
use Rattle.std.specs.List.{flat_map, range_with_len, AllByRecursion}
use Rattle.std.proofs.lemmas.List.Elements.{recursion_from_All}
use Rattle.std.specs.Str.{bytes_eq}
use Rattle.std.proofs.lemmas.Fmt.{decimal_by_steps}
use Rattle.std.proofs.lemmas.Grind.{common_steps}
use Rattle.std.proofs.lemmas.Slice.Eq.{bytes_eq-Decides}
use Rattle.text_core.specs.Lines.{Line}
use Rattle.text_core.specs.Numbers.{number_up_to}
use Rattle.text_core.specs.Words.{after, begins_lower}
use Rattle.text_core.specs.ReadBack.{word_back, number_back}
use Rattle.chain_theory.specs.declared.data.Cell.{Cell}
use Rattle.chain_theory.specs.declared.data.Cell.TheVariants.{Zero, One, Free}
use Rattle.chain_theory.specs.Limits.{most_steps}
use Rattle.chain_core.specs.Spelling.{line}
use Rattle.sat_theory.specs.Line as theory
use Rattle.sat_theory.specs.Line.{IsLine}
use Rattle.sat_theory.specs.State.{State, start, next}
use Rattle.sat_theory.specs.Log.{IsStep, EachLine}
use Rattle.lrat_text.specs.Spelling.{line_body, line_text}
use Rattle.tt_core.specs.Words.{Words, cell_of}
use Rattle.tt_core.specs.Spelling.{character}
use Rattle.enc_theory.specs.declared.subproblem.Subproblem.{Subproblem}
use Rattle.enc_theory.specs.declared.subproblem.Subproblem.TheVariants.{Whole, Levels}
use Rattle.cert_theory.specs.declared.data.Header.{Header}
use Rattle.cert_theory.specs.declared.data.LogEnd.{LogEnd}
use Rattle.cert_theory.specs.declared.data.LogEnd.TheVariants as ends
use Rattle.cert_theory.specs.Certificate.{SubproblemLog, Section, IsSubproblemLog, IsSection, AreSections, formula_of}
use Rattle.cert_theory.specs.Spelling.{table_text, table_line, basis_line, method_line, conflicts_line, max_line, header_lines, size_line}
use Rattle.cert_theory.specs.Spelling.{fence_text, name_lines, ended_text, done_text, log_line}
use Rattle.cert_theory.specs.Spelling.{subproblem_lines, section_lines, text_of}
use Rattle.cert_theory.specs.SubproblemLines.{is_line, ended_in}
use Rattle.cert_laws.specs.LinesAgain.{ended_again}
use Rattle.cert_laws.specs.SectionLists.{log_holds}
use Rattle.cert_laws.specs.LineSpellings.{is_line_back}
use Rattle.cmd_formula.specs.LogLines.{lines_after, lines_before, after_logs, log_from, found_lines}

-- ---- lines without a text

-- none of the lines is this text
unfoldable pub Without : List ℕ → List Line → Type 0
Without text [] = Unit {0}
Without text (l ∷ ls) = (is_line text l ≡ false) × Without text ls

pub without_both : (text : List ℕ) (xs ys : List Line) → Without text xs → Without text ys → Without text (xs ++ ys)
unfolding Without
without_both text [] ys before more = more
without_both text (x ∷ xs) ys before more = (before.0, without_both text xs ys before.1 more)

-- they are passed over
pub passed : (text : List ℕ) (xs ys : List Line) → Without text xs → lines_after text (xs ++ ys) ≡ lines_after text ys
unfolding Without lines_after
passed text [] ys without = refl
passed text (x ∷ xs) ys without = ap (λ (t : Bool). cond t (xs ++ ys) (lines_after text (xs ++ ys))) without.0 ∙ passed text xs ys without.1

pub found_here : (text : List ℕ) (ls : List Line) → lines_after text (line text ∷ ls) ≡ ls
unfolding lines_after
found_here text ls = ap (λ (t : Bool). cond t ls (lines_after text ls)) (is_line_back text)

before_it : (text : List ℕ) (xs ys : List Line) → Without text xs → lines_before text (xs ++ line text ∷ ys) ≡ xs
unfolding Without lines_before
before_it text [] ys without = ap (λ (t : Bool). let r : List Line = cond t [] (line text ∷ lines_before text ys) in r) (is_line_back text)
before_it text (x ∷ xs) ys without =
    ap (λ (t : Bool). let r : List Line = cond t [] (x ∷ lines_before text (xs ++ line text ∷ ys)) in r) without.0
    ∙ ap (λ (ls : List Line). x ∷ ls) (before_it text xs ys without.1)

-- ---- texts that differ

differs_by : (x y : List ℕ) (b : Bool) → bytes_eq x y ≡ b → (x ≡ y → ⊥) → b ≡ false
differs_by x y true e none = absurd (none ((bytes_eq-Decides x y).0 e))
differs_by x y false e none = refl

differs : (x y : List ℕ) → (x ≡ y → ⊥) → bytes_eq x y ≡ false
differs x y none = differs_by x y (bytes_eq x y) refl none

not_both : (b : Bool) → b ≡ true → b ≡ false → ⊥
not_both b yes_ no_ = cc

-- a text that begins with a letter isn't one that doesn't
apart : (x y : List ℕ) → begins_lower x ≡ false → begins_lower y ≡ true → bytes_eq x y ≡ false
apart x y other lower = differs x y (λ same. not_both (begins_lower y) lower (sym (ap begins_lower same) ∙ other))

-- a number doesn't begin with a letter
number_low : (n : ℕ) → n < 2 ^ 64 → (rest : List ℕ) → begins_lower (decimal n ++ rest) ≡ false
number_low = decimal_by_steps
    (λ n ds. (rest : List ℕ) → begins_lower (ds ++ rest) ≡ false)
    (λ n low rest. grind (arith, common_steps))
    (λ n ds high prefix rest. ap begins_lower (append_assoc ds ((48 + n % 10) ∷ []) rest) ∙ prefix ((48 + n % 10) ∷ rest))

-- nor does a line of a log
log_low : (x : theory.Line) → IsLine x → begins_lower (line_body x) ≡ false
log_low (theory.Add id [] hints) is = number_low id (omega (arith, is.own_id.1)) _
log_low (theory.Add id (l ∷ ls) hints) is = number_low id (omega (arith, is.own_id.1)) _
log_low (theory.Delete id ids) is = number_low id (omega (arith, is.own_id.1)) _

sizes_same : (j k : ℕ) → j ≤ most_steps → k ≤ most_steps → size_line j ≡ size_line k → j ≡ k
unfolding size_line
sizes_same j k small little same =
    let digits : Some (decimal j) ≡ Some (decimal k) = sym (word_back (codes "size ") (decimal j)) ∙ ap (after (codes "size ")) same ∙ word_back (codes "size ") (decimal k) in
    let texts : decimal j ≡ decimal k = one (decimal j) (decimal k) digits in
    let values : Some j ≡ Some k = sym (number_back most_steps j (omega arith) small) ∙ ap (number_up_to most_steps) texts ∙ number_back most_steps k (omega arith) little in
    one j k values
  where
    one : {X : Type 0} (x y : X) → Some x ≡ Some y → x ≡ y
    one x y e = cc

size_apart : (j k : ℕ) → j ≤ most_steps → k ≤ most_steps → (j ≡ k → ⊥) → is_line (size_line k) (line (size_line j)) ≡ false
size_apart j k small little none = differs (size_line j) (size_line k) (λ same. none (sizes_same j k small little same))

-- ---- logs

log_without : (text : List ℕ) (log : List theory.Line) → begins_lower text ≡ true → (s : State) → EachLine IsStep s log → Without text (map log_line log)
unfolding Without EachLine
log_without text [] lower s holds = tt
log_without text (x ∷ log) lower s holds = (apart (line_body x) text (log_low x holds.0.is_line) lower, log_without text log lower (next s x) holds.1)

-- ---- subproblems

holding : (h : Header) (size : ℕ) (p : SubproblemLog) → IsSubproblemLog h size p → EachLine IsStep (start (formula_of h size p.subproblem)) p.log
holding h size p is = log_holds (formula_of h size p.subproblem) h.conflicts p.ended p.log is

name_not_done : (subproblem : Subproblem) → Without done_text (name_lines subproblem)
unfolding Without name_lines fence_text
name_not_done Whole = tt
name_not_done (Levels sizes) = (refl, tt)

name_not_size : (size : ℕ) (subproblem : Subproblem) → Without (size_line size) (name_lines subproblem)
unfolding Without name_lines fence_text size_line
name_not_size size Whole = tt
name_not_size size (Levels sizes) = (refl, tt)

ended_not_done : (ended : LogEnd) → is_line done_text (line (ended_text ended)) ≡ false
ended_not_done ends.Refuted = refl
ended_not_done ends.Open = refl

ended_not_size : (size : ℕ) (ended : LogEnd) → is_line (size_line size) (line (ended_text ended)) ≡ false
unfolding size_line
ended_not_size size ends.Refuted = refl
ended_not_size size ends.Open = refl

pub done_not_size : (size : ℕ) → is_line (size_line size) (line done_text) ≡ false
unfolding size_line
done_not_size size = refl

size_lower : (size : ℕ) → begins_lower (size_line size) ≡ true
unfolding size_line
size_lower size = refl

-- the lines of a subproblem before `done`
abbrev pub inner : SubproblemLog → List Line
inner p = name_lines p.subproblem ++ line (ended_text p.ended) ∷ map log_line p.log

pub inner_not_done : (h : Header) (size : ℕ) (p : SubproblemLog) → IsSubproblemLog h size p → Without done_text (inner p)
unfolding Without
inner_not_done h size p is =
    without_both done_text (name_lines p.subproblem) (line (ended_text p.ended) ∷ map log_line p.log) (name_not_done p.subproblem)
    (ended_not_done p.ended, log_without done_text p.log refl (start (formula_of h size p.subproblem)) (holding h size p is))

pub inner_not_size : (other : ℕ) (h : Header) (size : ℕ) (p : SubproblemLog) → IsSubproblemLog h size p → Without (size_line other) (inner p)
unfolding Without
inner_not_size other h size p is =
    without_both (size_line other) (name_lines p.subproblem) (line (ended_text p.ended) ∷ map log_line p.log) (name_not_size other p.subproblem)
    (ended_not_size other p.ended, log_without (size_line other) p.log (size_lower other) (start (formula_of h size p.subproblem)) (holding h size p is))

pub subproblem_parts : (p : SubproblemLog) (ls : List Line) → subproblem_lines p ++ ls ≡ inner p ++ line done_text ∷ ls
unfolding subproblem_lines
subproblem_parts p ls =
    append_assoc (name_lines p.subproblem) (line (ended_text p.ended) ∷ (map log_line p.log ++ line done_text ∷ [])) ls
    ∙ ap (λ (xs : List Line). name_lines p.subproblem ++ line (ended_text p.ended) ∷ xs) (append_assoc (map log_line p.log) (line done_text ∷ []) ls)
    ∙ sym (append_assoc (name_lines p.subproblem) (line (ended_text p.ended) ∷ map log_line p.log) (line done_text ∷ ls))

-- the lines after it
after_subproblem : (h : Header) (size : ℕ) (p : SubproblemLog) (ls : List Line) → IsSubproblemLog h size p → lines_after done_text (subproblem_lines p ++ ls) ≡ ls
after_subproblem h size p ls is =
    ap (lines_after done_text) (subproblem_parts p ls)
    ∙ passed done_text (inner p) (line done_text ∷ ls) (inner_not_done h size p is)
    ∙ found_here done_text ls

begun_here : (ended : LogEnd) (ls : List Line) → log_from (line (ended_text ended) ∷ ls) ≡ ls
unfolding log_from
begun_here ended ls = ap (λ (o : Option LogEnd). cond (is_some o) ls (log_from ls)) (ended_again ended)

begun_after : (subproblem : Subproblem) (ended : LogEnd) (ls : List Line) → log_from (name_lines subproblem ++ line (ended_text ended) ∷ ls) ≡ ls
unfolding log_from name_lines fence_text ended_in
begun_after Whole ended ls = begun_here ended ls
begun_after (Levels sizes) ended ls = begun_here ended ls

-- the lines of its log
log_of_subproblem : (h : Header) (size : ℕ) (p : SubproblemLog) (ls : List Line) → IsSubproblemLog h size p →
    lines_before done_text (log_from (subproblem_lines p ++ ls)) ≡ map log_line p.log
log_of_subproblem h size p ls is =
    ap (λ (xs : List Line). lines_before done_text (log_from xs))
    (subproblem_parts p ls ∙ append_assoc (name_lines p.subproblem) (line (ended_text p.ended) ∷ map log_line p.log) (line done_text ∷ ls))
    ∙ ap (lines_before done_text) (begun_after p.subproblem p.ended (map log_line p.log ++ line done_text ∷ ls))
    ∙ before_it done_text (map log_line p.log) ls (log_without done_text p.log refl (start (formula_of h size p.subproblem)) (holding h size p is))

-- the logs of a list of subproblems
unfoldable pub AreLogs : Header → ℕ → List SubproblemLog → Type 0
AreLogs h size [] = Unit {0}
AreLogs h size (p ∷ ps) = IsSubproblemLog h size p × AreLogs h size ps

log_among : (h : Header) (size : ℕ) (ps : List SubproblemLog) (i : ℕ) (p : SubproblemLog) (ls : List Line) → AreLogs h size ps → slice_get ps i ≡ Some p
    → lines_before done_text (log_from (after_logs i (flat_map subproblem_lines ps ++ ls))) ≡ map log_line p.log
unfolding AreLogs after_logs
log_among h size [] i p ls are is = absurd cc
log_among h size (q ∷ ps) zero p ls are is =
    let same : q ≡ p = cc in
    subst (λ (x : SubproblemLog). lines_before done_text (log_from (flat_map subproblem_lines (q ∷ ps) ++ ls)) ≡ map log_line x.log) same
    (ap (λ (xs : List Line). lines_before done_text (log_from xs)) (append_assoc (subproblem_lines q) (flat_map subproblem_lines ps) ls)
    ∙ log_of_subproblem h size q (flat_map subproblem_lines ps ++ ls) are.0)
log_among h size (q ∷ ps) (suc i) p ls are is =
    ap (λ (xs : List Line). lines_before done_text (log_from (after_logs i (lines_after done_text xs)))) (append_assoc (subproblem_lines q) (flat_map subproblem_lines ps) ls)
    ∙ ap (λ (xs : List Line). lines_before done_text (log_from (after_logs i xs))) (after_subproblem h size q (flat_map subproblem_lines ps ++ ls) are.0)
    ∙ log_among h size ps i p ls are.1 is

-- ---- sections

subproblem_not_size : (other : ℕ) (h : Header) (size : ℕ) (p : SubproblemLog) → IsSubproblemLog h size p → Without (size_line other) (subproblem_lines p)
unfolding Without
subproblem_not_size other h size p is =
    subst (Without (size_line other)) (sym (subproblem_parts p []) ∙ append-nil (subproblem_lines p))
    (without_both (size_line other) (inner p) (line done_text ∷ []) (inner_not_size other h size p is) (done_not_size other, tt))

subproblems_not_size : (other : ℕ) (h : Header) (size : ℕ) (ps : List SubproblemLog) → AreLogs h size ps → Without (size_line other) (flat_map subproblem_lines ps)
unfolding AreLogs Without
subproblems_not_size other h size [] are = tt
subproblems_not_size other h size (p ∷ ps) are =
    without_both (size_line other) (subproblem_lines p) (flat_map subproblem_lines ps) (subproblem_not_size other h size p are.0) (subproblems_not_size other h size ps are.1)

are_logs : (h : Header) (size : ℕ) (ps : List SubproblemLog) → AllByRecursion (IsSubproblemLog h size) ps → AreLogs h size ps
unfolding AreLogs
are_logs h size [] all = tt
are_logs h size (p ∷ ps) all = (all.0, are_logs h size ps all.1)

pub logs_of : (h : Header) (size : ℕ) (s : Section) → IsSection h size s → AreLogs h size s.subproblems
logs_of h size s is = are_logs h size s.subproblems (recursion_from_All (IsSubproblemLog h size) s.subproblems is.logs)

pub section_not_size : (other : ℕ) (h : Header) (size : ℕ) (s : Section) → IsSection h size s → size ≤ most_steps → other ≤ most_steps → (size ≡ other → ⊥) →
    Without (size_line other) (section_lines s)
unfolding Without section_lines
section_not_size other h size s is small little none =
    (size_apart s.size other (omega (arith, is.size_is, small)) little (λ same. none (sym is.size_is ∙ same)), subproblems_not_size other h size s.subproblems (logs_of h size s is))

pub first_section : (t : Section) (ss : List Section) (ls : List Line) →
    flat_map section_lines (t ∷ ss) ++ ls ≡ line (size_line t.size) ∷ (flat_map subproblem_lines t.subproblems ++ (flat_map section_lines ss ++ ls))
unfolding section_lines
first_section t ss ls = append_assoc (line (size_line t.size) ∷ flat_map subproblem_lines t.subproblems) (flat_map section_lines ss) ls

-- the lines of a log after the line of its size
abbrev pub section_log : ℕ → ℕ → List Line → List Line
section_log size others ls = found_lines others (lines_after (size_line size) ls)

-- the logs of the section of a size come after the line of the size
pub log_in_sections : (h : Header) (k i : ℕ) (ss : List Section) (s : Section) (j : ℕ) (p : SubproblemLog) (ls : List Line) → AreSections h k ss → k + i ≤ most_steps
    → slice_get ss i ≡ Some s → slice_get s.subproblems j ≡ Some p → section_log (k + i) j (flat_map section_lines ss ++ ls) ≡ map log_line p.log
unfolding AreSections
log_in_sections h k i [] s j p ls are small is has = absurd cc
log_in_sections h k zero (t ∷ ss) s j p ls are small is has =
    let same : t ≡ s = cc in
    let other : slice_get t.subproblems j ≡ Some p = ap (λ (x : Section). slice_get x.subproblems j) same ∙ has in
    let size : k + 0 ≡ t.size = omega (arith, are.0.size_is) in
    ap (λ (n : ℕ). section_log n j (flat_map section_lines (t ∷ ss) ++ ls)) size
    ∙ ap (λ (xs : List Line). section_log t.size j xs) (first_section t ss ls)
    ∙ ap (λ (xs : List Line). lines_before done_text (log_from (after_logs j xs))) (found_here (size_line t.size) (flat_map subproblem_lines t.subproblems ++ (flat_map section_lines ss ++ ls)))
    ∙ log_among h k t.subproblems j p (flat_map section_lines ss ++ ls) (logs_of h k t are.0) other
log_in_sections h k (suc i) (t ∷ ss) s j p ls are small is has =
    let same : k + suc i ≡ k + 1 + i = omega arith in
    ap (λ (n : ℕ). section_log n j (flat_map section_lines (t ∷ ss) ++ ls)) same
    ∙ ap (λ (xs : List Line). section_log (k + 1 + i) j xs) (append_assoc (section_lines t) (flat_map section_lines ss) ls)
    ∙ ap (λ (xs : List Line). lines_before done_text (log_from (after_logs j xs)))
    (passed (size_line (k + 1 + i)) (section_lines t) (flat_map section_lines ss ++ ls)
    (section_not_size (k + 1 + i) h k t are.0 (omega (arith, small)) (omega (arith, small)) (λ e. omega (arith, e))))
    ∙ log_in_sections h (k + 1) i ss s j p ls are.1 (omega (arith, small)) is has

-- ---- the header

character_not_s : (c : Cell) (xs ys : List ℕ) → bytes_eq (character c ∷ xs) (115 ∷ ys) ≡ false
character_not_s Zero xs ys = refl
character_not_s One xs ys = refl
character_not_s Free xs ys = refl

cells_not_s : (w : Words) (h : ℕ) (rows ys : List ℕ) → bytes_eq (map (λ t. character (cell_of w h t)) rows) (115 ∷ ys) ≡ false
cells_not_s w h [] ys = refl
cells_not_s w h (t ∷ rows) ys = character_not_s (cell_of w h t) (map (λ u. character (cell_of w h u)) rows) ys

table_not_size : (size : ℕ) (w : Words) (h : ℕ) → is_line (size_line size) (table_line w h) ≡ false
unfolding size_line table_text
table_not_size size w h = cells_not_s w h (range_with_len 0 (2 ^ w.n)) _

tables_not_size : (size : ℕ) (w : Words) (rows : List ℕ) → Without (size_line size) (map (λ i. table_line w (i + 1)) rows)
unfolding Without
tables_not_size size w [] = tt
tables_not_size size w (i ∷ rows) = (table_not_size size w (i + 1), tables_not_size size w rows)

four_not_size : (size : ℕ) (h : Header) →
    Without (size_line size) (line (basis_line h.basis) ∷ line (method_line h.method) ∷ line (conflicts_line h.conflicts) ∷ line (max_line h.max) ∷ [])
unfolding Without size_line basis_line method_line conflicts_line max_line
four_not_size size h = (refl, (refl, (refl, (refl, tt))))

pub header_not_size : (size : ℕ) (h : Header) → Without (size_line size) (header_lines h)
unfolding Without size_line
header_not_size size h = (
  refl,
  (
    refl,
    without_both (size_line size) (map (λ i. table_line h.spec (i + 1)) (range_with_len 0 (length h.spec.on))) _
        (tables_not_size size h.spec (range_with_len 0 (length h.spec.on))) (four_not_size size h),
  ),
)

-- ---- the whole

pub log_bytes : (log : List theory.Line) → text_of (map log_line log) ≡ flat_map line_text log
log_bytes [] = refl
log_bytes (x ∷ log) = ap (λ (t : List ℕ). line_text x ++ t) (log_bytes log)
