-- Sections that were written are accepted.
use Rattle.cert_theory.specs.declared.data.SubproblemError.{SubproblemError}
use Rattle.cert_theory.specs.declared.data.SubproblemError.TheVariants.{NotRefuted, Syntax}
use Rattle.std.proofs.Common.{◌≡◌, ℕ, suc, ◌+◌, ◌<◌, ◌≤◌, Bool, not, cond, List, [], ◌∷◌, ◌++◌, length, map, Contains}
use Rattle.std.proofs.Common.{Option, Some, None, Result, Ok, refl, sym, ap, ◌∙◌, subst, arith, append_assoc, Err}
use Rattle.std.specs.List.{flat_map, AllByRecursion}
use Rattle.std.proofs.lemmas.List.Elements.{recursion_from_All}
use Rattle.text_core.specs.Lines.{Line}
use Rattle.chain_theory.specs.Chain.{Chain}
use Rattle.sat_theory.specs.Formula.{Formula, IsFormula}
use Rattle.sat_theory.specs.Line as theory
use Rattle.sat_theory.specs.State.{start}
use Rattle.sat_theory.specs.Log.{IsStep, EachLine, after}
use Rattle.chain_core.specs.Spelling.{line}
use Rattle.enc_theory.specs.declared.subproblem.Subproblem.{Subproblem}
use Rattle.enc_theory.specs.declared.subproblem.Subproblem.TheVariants.{Whole, Levels}
use Rattle.cert_theory.specs.declared.data.Header.{Header}
use Rattle.cert_theory.specs.declared.data.LogEnd.{LogEnd}
use Rattle.cert_theory.specs.declared.data.LogEnd.TheVariants as ends
use Rattle.cert_theory.specs.declared.data.Verdict.{Verdict}
use Rattle.cert_theory.specs.declared.data.CertificateError.{CertificateError}
use Rattle.cert_laws.specs.CodingLaws.{method_is_coding}
use Rattle.cert_theory.specs.Certificate.{SubproblemLog, Section, subproblem_of, subproblems_of, IsHeader, IsSubproblemLog, EndsAs, IsSection, AreSections, first_open, IsTrailer, formula_of, due_after, tried}
use Rattle.cert_theory.specs.TriedLaws.{tried_among}
use Rattle.cert_theory.specs.Spelling.{size_line, ended_text, done_text, log_line, section_lines, trailer_lines, fence_text, name_lines, subproblem_lines}
use Rattle.cert_theory.specs.Gives.{◌>>=◌}
use Rattle.cert_theory.specs.Judging.{Progress, Between, Begun, Within, low_with, section_at, trailer_at, sections_of, Due, before, may_follow, or_syntax, at_line}
use Rattle.cert_theory.specs.SubproblemLines.{name_in}
use Rattle.cert_laws.specs.ClauseStates.{start_clauses}
use Rattle.cert_laws.specs.LineSpellings.{is_line_back}
use Rattle.cert_laws.specs.LinesAgain.{size_again, size_begins, ended_again}
use Rattle.cert_laws.specs.SectionSpellings.{progress, low_or, low_same, low_more, low_after, subproblem_text}
use Rattle.cert_laws.specs.SectionsAgain.{trailer_again, WasFresh, within_again, Onward}
use Rattle.chain_theory.specs.Limits.{most_steps}

-- ---- subproblems

pub log_holds : (f : Formula) (conflicts : ℕ) (ended : LogEnd) (log : List theory.Line) → EndsAs f conflicts ended log → EachLine IsStep (start f) log
log_holds f conflicts ends.Refuted log is = is.holds
log_holds f conflicts ends.Open log is = is.holds

pub log_fresh : (f : Formula) (conflicts : ℕ) (ended : LogEnd) (log : List theory.Line) → EndsAs f conflicts ended log → WasFresh ended (start f) log
log_fresh f conflicts ends.Refuted log is = tt
log_fresh f conflicts ends.Open log is = is.fresh

abbrev come : Progress → Result Progress CertificateError
come p = Ok p

size_step : (h : Header) (number size : ℕ) (low : Option ℕ) (ls : List Line) → size ≤ h.max → size ≤ most_steps →
    sections_of h number (progress size low Between) (line (size_line size) ∷ ls) ≡
    sections_of h (number + 1) (before size low (subproblems_of h size)) ls
unfolding sections_of
size_step h number size low ls fits few =
    ap (λ (t : Bool). cond (not t) (trailer_at h number size low (line (size_line size)) ls)
    (section_at h number size low Between (line (size_line size)) >>= λ next. sections_of h (number + 1) next ls))
    (size_begins size)
    ∙ ap (λ (r : Result (Unit {0}) CertificateError).
    (r >>= λ begun. come (before size low (subproblems_of h size))) >>= λ next. sections_of h (number + 1) next ls)
    (size_again h number size fits few)

pub name_again : (follows : Bool) (sizes : List ℕ) → name_in follows sizes (line (fence_text sizes)) ≡ Ok tt
unfolding name_in
name_again follows sizes = ap (λ (t : Bool). let r : Result (Unit {0}) SubproblemError = cond t (Ok tt) (cond follows (Err NotRefuted) (Err Syntax)) in r) (is_line_back (fence_text sizes))

name_step : (h : Header) (number size : ℕ) (low : Option ℕ) (sizes : List ℕ) (later : List Subproblem)
    (ls : List Line) → sections_of h number (progress size low (Due sizes later)) (line (fence_text sizes) ∷ ls) ≡
    sections_of h (number + 1) (progress size low (Begun (Levels sizes) later)) ls
unfolding sections_of
name_step h number size low sizes later ls =
    ap (λ (r : Result (Unit {0}) SubproblemError).
    (at_line number r >>= λ is_named. come (progress size low (Begun (Levels sizes) later))) >>= λ next.
    sections_of h (number + 1) next ls) (name_again (may_follow (line (fence_text sizes))) sizes)

ended_step : (h : Header) (number size : ℕ) (low : Option ℕ) (subproblem : Subproblem) (later : List Subproblem)
    (ended : LogEnd) (ls : List Line) → sections_of h number (progress size low (Begun subproblem later))
    (line (ended_text ended) ∷ ls) ≡ sections_of h (number + 1)
    (progress size low (Within subproblem (due_after h.method ended later) ended [])) ls
unfolding sections_of
ended_step h number size low subproblem later ended ls =
    ap (λ (o : Option LogEnd). (or_syntax number o >>= λ e. come (progress size low (Within subproblem (due_after h.method e later) e []))) >>= λ next. sections_of h (number + 1) next ls) (ended_again ended)

-- the lines of a log are accepted
log_again : (h : Header) (number size : ℕ) (low : Option ℕ) (subproblem : Subproblem) (later : List Subproblem)
    (ended : LogEnd) (log : List theory.Line) (following : List Line) (v : Verdict) →
    IsFormula (formula_of h size subproblem) → EndsAs (formula_of h size subproblem) h.conflicts ended log →
    Onward h size (low_with low ended size) (due_after h.method ended later) following v
    → sections_of h number (progress size low (Begun subproblem later)) (line (ended_text ended) ∷ (map log_line log ++ line done_text ∷ following)) ≡ Ok v
unfolding after
log_again h number size low subproblem later ended log following v formula is onward =
    let f = formula_of h size subproblem in
    ended_step h number size low subproblem later ended (map log_line log ++ line done_text ∷ following)
    ∙ within_again log h (number + 1) size low subproblem (due_after h.method ended later) ended [] following v (start_clauses f formula) (log_holds f h.conflicts ended log is) (log_fresh f h.conflicts ended log is) is onward

-- a subproblem, with its name
subproblem_again : (subproblem : Subproblem) (h : Header) (number size : ℕ) (low : Option ℕ) (later : List Subproblem)
    (ended : LogEnd) (log : List theory.Line) (following : List Line) (v : Verdict) →
    IsFormula (formula_of h size subproblem) → EndsAs (formula_of h size subproblem) h.conflicts ended log →
    Onward h size (low_with low ended size) (due_after h.method ended later) following v
    → sections_of h number (before size low (subproblem ∷ later)) (name_lines subproblem ++ (line (ended_text ended) ∷ (map log_line log ++ line done_text ∷ following))) ≡ Ok v
unfolding before name_lines
subproblem_again Whole h number size low later ended log following v formula is onward = log_again h number size low Whole later ended log following v formula is onward
subproblem_again (Levels sizes) h number size low later ended log following v formula is onward =
    name_step h number size low sizes later (line (ended_text ended) ∷ (map log_line log ++ line done_text ∷ following))
    ∙ log_again h (number + 1) size low (Levels sizes) later ended log following v formula is onward

abbrev AreFormulas : Header → ℕ → List SubproblemLog → Type 0
AreFormulas h size ps = (subproblem : Subproblem) → Contains (map subproblem_of ps) subproblem → IsFormula (formula_of h size subproblem)

head_is : (p q : Subproblem) (ps qs : List Subproblem) → p ∷ ps ≡ q ∷ qs → p ≡ q
head_is p q ps qs e = cc

tail_is : (p q : Subproblem) (ps qs : List Subproblem) → p ∷ ps ≡ q ∷ qs → ps ≡ qs
tail_is p q ps qs e = cc

-- all subproblems of a section
subproblems_again : (ps : List SubproblemLog) (h : Header) (number size : ℕ) (low : Option ℕ) (due : List Subproblem)
    (following : List Line) (v : Verdict) → map subproblem_of ps ≡ tried h.method due ps → AreFormulas h size ps →
    AllByRecursion (IsSubproblemLog h size) ps →
    ((n : ℕ) → sections_of h n (progress (size + 1) (low_after low size ps) Between) following ≡ Ok v)
    → sections_of h number (before size low due) (flat_map subproblem_lines ps ++ following) ≡ Ok v
unfolding before low_after tried
subproblems_again [] h number size low due following v are formulas logs onward =
    subst (λ (xs : List Subproblem). sections_of h number (before size low xs) following ≡ Ok v) are (onward number)
subproblems_again (p ∷ ps) h number size low [] following v are formulas logs onward = absurd cc
subproblems_again (p ∷ ps) h number size low (q ∷ later) following v are formulas logs onward =
    let rest = flat_map subproblem_lines ps ++ following in
    let left = due_after h.method p.ended later in
    let same : p.subproblem ≡ q = head_is p.subproblem q (map subproblem_of ps) (tried h.method left ps) are in
    ap (λ (x : Subproblem). sections_of h number (before size low (x ∷ later)) (flat_map subproblem_lines (p ∷ ps) ++ following)) (sym same)
    ∙ ap (sections_of h number (before size low (p.subproblem ∷ later)))
    (append_assoc (subproblem_lines p) (flat_map subproblem_lines ps) following
    ∙ subproblem_text p.subproblem p.ended p.log rest)
    ∙ subproblem_again p.subproblem h number size low later p.ended p.log rest v (formulas p.subproblem (0, omega arith, refl)) logs.0
    (λ n. subproblems_again ps h n size (low_with low p.ended size) left following v
    (tail_is p.subproblem q (map subproblem_of ps) (tried h.method left ps) are)
    (λ subproblem there. formulas subproblem (suc there.0, omega (arith, there.1), there.2)) logs.1 onward)

section_formulas : (h : Header) (size : ℕ) (s : Section) → IsSection h size s → AreFormulas h size s.subproblems
section_formulas h size s is subproblem there =
    (method_is_coding h.method).formulas h.spec h.basis size subproblem
    (tried_among h.method (subproblems_of h size) s.subproblems subproblem
    (subst (λ (subproblems : List Subproblem). Contains subproblems subproblem) is.subproblems_are there))

-- the lines of a section are accepted
section_again : (h : Header) (number size : ℕ) (low : Option ℕ) (s : Section) (following : List Line) (v : Verdict) →
    size ≤ h.max → size ≤ most_steps → IsSection h size s →
    ((n : ℕ) → sections_of h n (progress (size + 1) (low_after low size s.subproblems) Between) following ≡ Ok v)
    → sections_of h number (progress size low Between) (section_lines s ++ following) ≡ Ok v
unfolding section_lines
section_again h number size low s following v fits few is onward =
    let ls = flat_map subproblem_lines s.subproblems ++ following in
    ap (λ (k : ℕ). sections_of h number (progress size low Between) (line (size_line k) ∷ ls)) is.size_is
    ∙ size_step h number size low ls fits few
    ∙ subproblems_again s.subproblems h (number + 1) size low (subproblems_of h size) following v is.subproblems_are (section_formulas h size s is) (recursion_from_All (IsSubproblemLog h size) s.subproblems is.logs) onward

-- ---- all sections

pub sections_again : (ss : List Section) (h : Header) (number size : ℕ) (low : Option ℕ) (chain : Option Chain) (v : Verdict) → IsHeader h → AreSections h size ss → size + length ss ≤ h.max + 1
    → ((l : ℕ) → low_or low (first_open ss) ≡ Some l → l < 1000000000) → IsTrailer h (size + length ss) (low_or low (first_open ss)) chain v
    → sections_of h number (progress size low Between) (flat_map section_lines ss ++ trailer_lines chain v) ≡ Ok v
unfolding AreSections
sections_again [] h number size low chain v header are few short trailer =
    let same : size + 0 ≡ size = omega arith in
    let none : low_or low None ≡ low = sym (low_same low) in
    trailer_again h number size low chain v header (λ l e. short l (none ∙ e))
    (subst (λ (o : Option ℕ). IsTrailer h size o chain v) none (subst (λ (n : ℕ). IsTrailer h n (low_or low None) chain v) same trailer))
sections_again (s ∷ ss) h number size low chain v header are few short trailer =
    let count : size + suc (length ss) ≡ size + 1 + length ss = omega arith in
    let after_it = low_after low size s.subproblems in
    let named : first_open (record { size = size; subproblems = s.subproblems } ∷ ss) ≡ first_open (s ∷ ss) =
    ap (λ (k : ℕ). let t : Section = record { size = k; subproblems = s.subproblems } in
    first_open (t ∷ ss)) (sym are.0.size_is) in
    let open_same : low_or after_it (first_open ss) ≡ low_or low (first_open (s ∷ ss)) = low_more low size s.subproblems ss ∙ ap (low_or low) named in
    let following = flat_map section_lines ss ++ trailer_lines chain v in
    ap (sections_of h number (progress size low Between)) (append_assoc (section_lines s) (flat_map section_lines ss) (trailer_lines chain v))
    ∙ section_again h number size low s following v (omega arith) (omega (arith, header.settings.max_to)) are.0
    (λ n. sections_again ss h n (size + 1) after_it chain v header are.1 (omega arith)
    (λ l e. short l (sym open_same ∙ e))
    (subst (λ (o : Option ℕ). IsTrailer h (size + 1 + length ss) o chain v) (sym open_same) (subst (λ (k : ℕ). IsTrailer h k (low_or low (first_open (s ∷ ss))) chain v) count trailer)))
