-- Depth certificates that were written are read again.
use Rattle.std.proofs.Common.{◌≡◌, ℕ, ◌+◌, ◌<◌, ◌≤◌, ◌==◌, Bool, true, false, cond, List, [], ◌∷◌, ◌++◌, length, map}
use Rattle.std.proofs.Common.{Contains, Option, Some, None, Result, Ok, Err, refl, sym, ap, ◌∙◌, subst, arith}
use Rattle.std.proofs.Common.{append_assoc, append-nil}
use Rattle.std.specs.Prelude.{codes, decimal}
use Rattle.std.specs.List.{flat_map, AllByRecursion}
use Rattle.std.specs.Option.{option_map}
use Rattle.std.proofs.lemmas.Bool.Decides.{nat_tests}
use Rattle.std.proofs.lemmas.List.Elements.{recursion_from_All}
use Rattle.text_core.specs.Lines.{Line, lines_of, lines_from}
use Rattle.text_core.specs.Words.{after as after_word, is_free}
use Rattle.text_core.specs.ReadBack.{free_both, free_decimal}
use Rattle.chain_theory.specs.Chain.{Chain}
use Rattle.chain_theory.specs.Levels.{depth}
use Rattle.chain_theory.specs.LevelLaws.{depth-least}
use Rattle.chain_laws.specs.Least.{levels_at_most_steps}
use Rattle.sat_theory.specs.Formula.{IsFormula}
use Rattle.sat_theory.specs.Line as theory
use Rattle.sat_theory.specs.State.{State, start, next}
use Rattle.sat_theory.specs.Log.{IsStep, EachLine, after}
use Rattle.sat_theory.specs.LogLaws.{after-push}
use Rattle.lrat_check.specs.Live.{AreClauses}
use Rattle.tt_core.specs.Words.{Words}
use Rattle.chain_core.specs.Spelling.{line}
use Rattle.clause_core.specs.Holds.{contains_head, contains_tail, contains_map}
use Rattle.enc_theory.specs.Subproblems.{fence_in, subproblems_for}
use Rattle.enc_theory.specs.declared.subproblem.Subproblem.{Subproblem}
use Rattle.enc_theory.specs.declared.subproblem.Subproblem.TheVariants.{Levels}
use Rattle.settings.specs.declared.methods.Method.{Method}
use Rattle.settings.specs.declared.methods.Method.TheVariants.{Fence}
use Rattle.enc_laws.specs.Fence.{fence_is_formula}
use Rattle.cert_theory.specs.Coding.{coding_of}
use Rattle.cert_theory.specs.declared.data.Header.{Header}
use Rattle.cert_theory.specs.declared.data.LogEnd.{LogEnd}
use Rattle.cert_theory.specs.declared.data.LogEnd.TheVariants as ends
use Rattle.cert_theory.specs.declared.data.Verdict.{Verdict}
use Rattle.cert_theory.specs.declared.data.Verdict.TheVariants as certificate_verdicts
use Rattle.cert_theory.specs.declared.data.SubproblemError.{SubproblemError}
use Rattle.cert_theory.specs.Certificate.{SubproblemLog, IsSubproblemLog, EndsAs, subproblem_of, formula_of}
use Rattle.cert_theory.specs.Spelling.{ended_text, done_text, log_line, fence_text, name_lines, subproblem_lines, end_text, certificate_lines}
use Rattle.cert_theory.specs.Gives.{◌>>=◌}
use Rattle.cert_theory.specs.SubproblemLines.{state_after}
use Rattle.cert_theory.specs.Judging.{is_fence_name, low_with}
use Rattle.cert_laws.specs.CodingLaws.{HasShortName, fence_is_coding}
use Rattle.cert_laws.specs.ClauseStates.{start_clauses, next_clauses}
use Rattle.cert_laws.specs.LinesAgain.{ended_again, number_again, two_again}
use Rattle.cert_laws.specs.SectionsAgain.{WasFresh, subproblem_ends, subproblem_goes}
use Rattle.cert_laws.specs.SectionLists.{log_holds, log_fresh, name_again}
use Rattle.cert_laws.specs.SectionSpellings.{low_or, low_same, subproblem_text}
use Rattle.cert_laws.specs.WholeTexts.{IsWhole, whole_none, whole_both, whole_cons, whole_line, whole_end}
use Rattle.cert_laws.specs.CertificatesAgain.{whole_subproblem, whole_certificate}
use Rattle.depth_theory.specs.declared.data.DepthVerdict.{DepthVerdict}
use Rattle.depth_theory.specs.declared.data.DepthVerdict.TheVariants as verdicts
use Rattle.depth_theory.specs.declared.data.DepthError.{DepthError}
use Rattle.depth_theory.specs.declared.data.DepthError.TheVariants.{NotRefuted, WrongDepth, WrongLevels}
use Rattle.depth_theory.specs.Flatter.{fences_for, flatter}
use Rattle.depth_theory.specs.FlatterLaws.{flatter_is}
use Rattle.depth_theory.specs.DepthCertificate.{DepthCertificate, open_levels, levels_found, IsDepth}
use Rattle.depth_theory.specs.DepthMeanings.{open_fence, depth_found}
use Rattle.depth_theory.specs.DepthSpelling.{levels_of, depth_line, levels_line, flat_lines, depth_lines, depth_text, IsDepthText}
use Rattle.depth_theory.specs.DepthJudging.{Answer, or_syntax, at_line, levels_in, is_same, follows, end_of, verdict_at}
use Rattle.depth_theory.specs.DepthJudging.{may_follow, Due, Begun, Within, after_line, flat_from, depth_at}
use Rattle.depth_theory.specs.DepthJudging.{after_chain, least_of, after_least, after_certificate, prefix_of, suffix_of}
use Rattle.depth_theory.specs.DepthJudging.{IsJudged}
use Rattle.depth_theory.specs.DepthSpellings.{low_step, found_depth}
use Rattle.depth_theory.specs.PrefixLines.{prefix_is, suffix_is}
use Rattle.chain_theory.specs.Limits.{most_steps}

-- ---- verdicts

-- the numbers of a verdict can be read
abbrev IsShort : DepthVerdict → Type 0
IsShort (verdicts.Levels d) = d < 1000000000
IsShort (verdicts.Bounded low d) = (low < 1000000000) × (d < 1000000000)

levels_again : (v : DepthVerdict) → IsShort v → levels_in (line (levels_line v)) ≡ Some v
unfolding levels_in levels_line after_word
levels_again (verdicts.Levels d) short = ap (option_map (λ n. verdicts.Levels n)) (number_again (codes "levels ") d short)
levels_again (verdicts.Bounded low d) short =
    two_again verdicts.Bounded low d short.0 short.1

eq_same : (n : ℕ) → (n == n) ≡ true
eq_same n = grind (arith, nat_tests)

same_again : (v : DepthVerdict) → is_same v v ≡ true
same_again (verdicts.Levels d) = eq_same d
same_again (verdicts.Bounded low d) = rw (eq_same low, eq_same d) refl

verdict_no_name : (v : DepthVerdict) → is_fence_name (line (levels_line v)) ≡ false
unfolding levels_line is_fence_name after_word
verdict_no_name (verdicts.Levels d) = refl
verdict_no_name (verdicts.Bounded low d) = refl

end_again : (number : ℕ) (v : DepthVerdict) → end_of number v (line end_text ∷ []) ≡ Ok v
unfolding end_of
end_again number v = refl

verdict_again : (number : ℕ) (v : DepthVerdict) → IsShort v → verdict_at number v (line (levels_line v)) ≡ Ok v
unfolding verdict_at
verdict_again number v short =
    ap (λ (t : Bool). let r : Answer = cond t (Err (NotRefuted number)) (or_syntax number (levels_in (line (levels_line v))) >>= follows number v) in r) (verdict_no_name v)
    ∙ ap (λ (o : Option DepthVerdict). or_syntax number o >>= follows number v) (levels_again v short)
    ∙ ap (λ (t : Bool). let r : Answer = cond t (Ok v) (Err (WrongLevels number)) in r) (same_again v)

trailer_again : (h : Header) (size d number : ℕ) (low : Option ℕ) (v : DepthVerdict) → IsShort v →
    v ≡ levels_found low d → flat_from h size d number low (Due []) (line (levels_line v) ∷ line end_text ∷ []) ≡ Ok v
unfolding flat_from
trailer_again h size d number low v short is =
    ap (λ (due : DepthVerdict). verdict_at number due (line (levels_line v)) >>= λ w. end_of (number + 1) w (line end_text ∷ [])) (sym is)
    ∙ ap (λ (r : Answer). r >>= λ w. end_of (number + 1) w (line end_text ∷ [])) (verdict_again number v short)
    ∙ end_again (number + 1) v

-- ---- logs

abbrev Continues : Header → ℕ → ℕ → Option ℕ → List (List ℕ) → List Line → DepthVerdict → Type 0
Continues h size d low later following v = (number : ℕ) → flat_from h size d number low (Due later) following ≡ Ok v

abbrev next_step : Header → ℕ → ℕ → ℕ → Option ℕ → List ℕ → List (List ℕ) → LogEnd → List theory.Line → List Line → Option theory.Line → Answer
next_step h size d number low fence later ended log ls step = flat_from h size d (number + 1) (after_line low fence later ended log step).low (after_line low fence later ended log step).place ls

fresh_more : (ended : LogEnd) (s : State) (x : theory.Line) (more : List theory.Line) → WasFresh ended s (x ∷ more) → WasFresh ended (next s x) more
unfolding EachLine
fresh_more ends.Refuted s x more fresh = tt
fresh_more ends.Open s x more fresh = fresh.1

within_again : (more : List theory.Line) (h : Header) (size d number : ℕ) (low : Option ℕ) (fence : List ℕ)
    (later : List (List ℕ)) (ended : LogEnd) (log : List theory.Line) (following : List Line) (v : DepthVerdict)
    → AreClauses (state_after (formula_of h size (Levels fence)) log).live →
    EachLine IsStep (state_after (formula_of h size (Levels fence)) log) more →
    WasFresh ended (state_after (formula_of h size (Levels fence)) log) more →
    EndsAs (formula_of h size (Levels fence)) h.conflicts ended (log ++ more)
    → Continues h size d (low_with low ended (length fence)) later following v → flat_from h size d number low (Within fence later ended log) (map log_line more ++ line done_text ∷ following) ≡ Ok v
unfolding flat_from EachLine
within_again [] h size d number low fence later ended log following v clauses steps fresh ends_as onward =
    let f = formula_of h size (Levels fence) in
    let closes = subproblem_ends f h.conflicts ended log (subst (λ (xs : List theory.Line). EndsAs f h.conflicts ended xs) (append-nil log) ends_as) in
    ap (λ (r : Result (Option theory.Line) SubproblemError). at_line number r >>= next_step h size d number low fence later ended log following) closes
    ∙ onward (number + 1)
within_again (x ∷ more) h size d number low fence later ended log following v clauses steps fresh ends_as onward =
    let f = formula_of h size (Levels fence) in
    let ls = map log_line more ++ line done_text ∷ following in
    let state : state_after f (log ++ x ∷ []) ≡ next (state_after f log) x = after-push (start f) log x in
    ap (λ (r : Result (Option theory.Line) SubproblemError). at_line number r >>= next_step h size d number low fence
    later ended log ls) (subproblem_goes f h.conflicts ended log x more clauses steps.0 fresh)
    ∙ within_again more h size d (number + 1) low fence later ended (log ++ x ∷ []) following v
    (subst (λ (s : State). AreClauses s.live) (sym state) (next_clauses (state_after f log) x clauses steps.0))
    (subst (λ (s : State). EachLine IsStep s more) (sym state) steps.1)
    (subst (λ (s : State). WasFresh ended s more) (sym state) (fresh_more ended (state_after f log) x more fresh))
    (subst (λ (xs : List theory.Line). EndsAs f h.conflicts ended xs) (sym (append_assoc log (x ∷ []) more)) ends_as)
    onward

name_step : (h : Header) (size d number : ℕ) (low : Option ℕ) (fence : List ℕ) (later : List (List ℕ))
    (ls : List Line) → flat_from h size d number low (Due (fence ∷ later)) (line (fence_text fence) ∷ ls) ≡
    flat_from h size d (number + 1) low (Begun fence later) ls
unfolding flat_from
name_step h size d number low fence later ls =
    ap (λ (r : Result (Unit {0}) SubproblemError). at_line number r >>= λ is_named.
    flat_from h size d (number + 1) low (Begun fence later) ls)
    (name_again (may_follow (line (fence_text fence))) fence)

ended_step : (h : Header) (size d number : ℕ) (low : Option ℕ) (fence : List ℕ) (later : List (List ℕ)) (ended : LogEnd)
    (ls : List Line) → flat_from h size d number low (Begun fence later) (line (ended_text ended) ∷ ls) ≡
    flat_from h size d (number + 1) low (Within fence later ended []) ls
unfolding flat_from
ended_step h size d number low fence later ended ls =
    ap (λ (o : Option LogEnd). or_syntax number o >>= λ e. flat_from h size d (number + 1) low (Within fence later e []) ls) (ended_again ended)

-- a log, with the name of its fence
subproblem_again : (h : Header) (size d number : ℕ) (low : Option ℕ) (fence : List ℕ) (later : List (List ℕ))
    (ended : LogEnd) (log : List theory.Line) (following : List Line) (v : DepthVerdict) →
    IsFormula (formula_of h size (Levels fence)) → EndsAs (formula_of h size (Levels fence)) h.conflicts ended log →
    Continues h size d (low_with low ended (length fence)) later following v
    → flat_from h size d number low (Due (fence ∷ later)) (name_lines (Levels fence) ++ (line (ended_text ended) ∷ (map log_line log ++ line done_text ∷ following))) ≡ Ok v
unfolding name_lines after
subproblem_again h size d number low fence later ended log following v formula is onward =
    let f = formula_of h size (Levels fence) in
    let ls = map log_line log ++ line done_text ∷ following in
    name_step h size d number low fence later (line (ended_text ended) ∷ ls)
    ∙ ended_step h size d (number + 1) low fence later ended ls
    ∙ within_again log h size d (number + 1 + 1) low fence later ended [] following v (start_clauses f formula) (log_holds f h.conflicts ended log is) (log_fresh f h.conflicts ended log is) is onward

formula_by : (m : Method) (w : Words) (basis size : ℕ) (fence : List ℕ) → m ≡ Fence → IsFormula ((coding_of m).formula w basis size (Levels fence))
unfolding coding_of fence_in
formula_by m w basis size fence same = subst (λ (x : Method). IsFormula ((coding_of x).formula w basis size (Levels fence))) (sym same) (fence_is_formula w basis size fence)

head_subproblem : (p : SubproblemLog) (ps : List SubproblemLog) (f : List ℕ) (fs : List (List ℕ)) →
    map subproblem_of (p ∷ ps) ≡ map Levels (f ∷ fs) → (p.subproblem ≡ Levels f) ×
    (map subproblem_of ps ≡ map Levels fs)
head_subproblem p ps f fs e = (cc, cc)

-- the logs, and the verdict after them
flat_again : (ps : List SubproblemLog) (due : List (List ℕ)) (h : Header) (size d number : ℕ) (low : Option ℕ)
    (v : DepthVerdict) → h.method ≡ Fence → IsShort v → map subproblem_of ps ≡ map Levels due →
    AllByRecursion (IsSubproblemLog h size) ps → v ≡ levels_found (low_or low (open_levels ps)) d →
    flat_from h size d number low (Due due) (flat_lines ps v) ≡ Ok v
flat_again [] [] h size d number low v by_fences short same logs is = trailer_again h size d number low v short (is ∙ ap (λ (o : Option ℕ). levels_found o d) (sym (low_same low)))
flat_again [] (f ∷ fs) h size d number low v by_fences short same logs is = absurd cc
flat_again (p ∷ ps) [] h size d number low v by_fences short same logs is = absurd cc
flat_again (p ∷ ps) (f ∷ fs) h size d number low v by_fences short same logs is =
    let each = head_subproblem p ps f fs same in
    let q : SubproblemLog = record { subproblem = Levels f; ended = p.ended; log = p.log } in
    let named : p ≡ q = λ i. record { subproblem = each.0 i; ended = p.ended; log = p.log } in
    let ends_as : EndsAs (formula_of h size (Levels f)) h.conflicts p.ended p.log = subst (λ (x : Subproblem). EndsAs (formula_of h size x) h.conflicts p.ended p.log) each.0 logs.0 in
    let low_is : levels_found (low_or low (open_levels (p ∷ ps))) d ≡
    levels_found (low_or (low_with low p.ended (length f)) (open_levels ps)) d =
    ap (λ (x : SubproblemLog). levels_found (low_or low (open_levels (x ∷ ps))) d) named
    ∙ ap (λ (o : Option ℕ). levels_found o d) (sym (low_step low f p.ended p.log ps)) in
    ap (λ (x : SubproblemLog). flat_from h size d number low (Due (f ∷ fs)) (flat_lines (x ∷ ps) v)) named
    ∙ ap (flat_from h size d number low (Due (f ∷ fs)))
    (append_assoc (subproblem_lines q) (flat_map subproblem_lines ps) (line (levels_line v) ∷ line end_text ∷ [])
    ∙ subproblem_text (Levels f) p.ended p.log (flat_lines ps v))
    ∙ subproblem_again h size d number low f fs p.ended p.log (flat_lines ps v) v (formula_by h.method h.spec h.basis size f by_fences) ends_as
    (λ n. flat_again ps fs h size d n (low_with low p.ended (length f)) v by_fences short each.1 logs.1 (is ∙ low_is))

-- ---- after the certificate at the head

depth_again : (number d : ℕ) → d < 1000000000 → depth_at number d (line (depth_line d)) ≡ Ok tt
unfolding depth_at depth_line
depth_again number d short =
    ap (λ (o : Option ℕ). or_syntax number o >>= λ stated. let r : Result (Unit {0}) DepthError = cond (stated == d) (Ok tt) (Err (WrongDepth number)) in r) (number_again (codes "depth ") d short)
    ∙ ap (λ (t : Bool). let r : Result (Unit {0}) DepthError = cond t (Ok tt) (Err (WrongDepth number)) in r) (eq_same d)

chain_again : (h : Header) (size d number : ℕ) (ps : List SubproblemLog) (v : DepthVerdict) → h.method ≡ Fence →
    d < 1000000000 → IsShort v → map subproblem_of ps ≡ map Levels (flatter h.spec size d) →
    AllByRecursion (IsSubproblemLog h size) ps → v ≡ levels_found (open_levels ps) d →
    after_chain h size d number (line (depth_line d) ∷ flat_lines ps v) ≡ Ok v
unfolding after_chain
chain_again h size d number ps v by_fences low short same logs is =
    ap (λ (r : Result (Unit {0}) DepthError). r >>= λ stated. flat_from h size d (number + 1) None (Due (flatter h.spec size d)) (flat_lines ps v)) (depth_again number d low)
    ∙ flat_again ps (flatter h.spec size d) h size d (number + 1) None v by_fences short same logs is

least_by : (m : Method) (v : Verdict) (chain : Option Chain) (c : Chain) (r : ℕ) → m ≡ Fence → v ≡ certificate_verdicts.Minimum r → chain ≡ Some c → least_of m v chain ≡ Some c
least_by m v chain c r by_fences minimum is = ap (λ (x : Method). least_of x v chain) by_fences ∙ ap (λ (x : Verdict). least_of Fence x chain) minimum ∙ is

-- a chain has at most as many levels as steps
few_levels : (b : DepthCertificate) (is : IsDepth b) → depth is.chain ≤ most_steps
few_levels b is =
    let found = depth_found b is in
    let steps : depth is.chain ≤ length is.chain.steps = depth-least is.chain (length is.chain.steps) (levels_at_most_steps is.chain found.chain) in
    omega (arith, steps, found.size_is, found.size_to, is.valid.header.settings.max_to)

short_by : (d : ℕ) (o : Option ℕ) → d ≤ most_steps → ((low : ℕ) → o ≡ Some low → low ≤ most_steps) → IsShort (levels_found o d)
short_by d None few all = omega arith
short_by d (Some low) few all = let small = all low refl in (omega (arith, small), omega arith)

short : (b : DepthCertificate) (is : IsDepth b) → IsShort b.verdict
short b is =
    let h = b.certificate.header in
    let size = length is.chain.steps in
    let d = depth is.chain in
    let few = few_levels b is in
    subst IsShort (sym is.verdict_is) (short_by d (open_levels b.subproblems) few (λ low e.
    let named = open_fence low b.subproblems (flatter h.spec size d) is.subproblems_are e in
    let below = flatter_is (fences_for h.spec size) d named.0 named.1 in
    omega (arith, below.1, named.2, few)))

levels_is : (b : DepthCertificate) (is : IsDepth b) → levels_of b.verdict ≡ depth is.chain
levels_is b is = ap levels_of is.verdict_is ∙ found_depth (open_levels b.subproblems) (depth is.chain)

-- the lines after the certificate at the head are judged to have the verdict
pub after_again : (b : DepthCertificate) (number : ℕ) → IsDepth b → after_certificate b.certificate number (line (depth_line (levels_of b.verdict)) ∷ flat_lines b.subproblems b.verdict) ≡ Ok b.verdict
after_again b number is =
    let h = b.certificate.header in
    let size = length is.chain.steps in
    let rest = flat_lines b.subproblems b.verdict in
    ap (λ (o : Option Chain). after_least h o number (line (depth_line (levels_of b.verdict)) ∷ rest))
    (least_by h.method b.certificate.verdict b.certificate.chain is.chain size is.by_fences is.least is.chain_is)
    ∙ ap (λ (n : ℕ). after_chain h size (depth is.chain) number (line (depth_line n) ∷ rest)) (levels_is b is)
    ∙ chain_again h size (depth is.chain) number b.subproblems b.verdict is.by_fences (omega (arith, few_levels b is))
    (short b is) is.subproblems_are (recursion_from_All (IsSubproblemLog h size) b.subproblems is.logs) is.verdict_is

-- ---- the bytes

free_depth : (d : ℕ) → d < 1000000000 → is_free 10 (depth_line d) ≡ true
unfolding depth_line is_free
free_depth d small = free_both 10 (codes "depth ") (decimal d) refl (free_decimal 10 d (omega arith) (omega arith))

free_levels : (v : DepthVerdict) → IsShort v → is_free 10 (levels_line v) ≡ true
unfolding levels_line is_free
free_levels (verdicts.Levels d) small = free_both 10 (codes "levels ") (decimal d) refl (free_decimal 10 d (omega arith) (omega (arith, small)))
free_levels (verdicts.Bounded low d) small =
    let pair = free_both 10 (decimal low) (32 ∷ decimal d) (free_decimal 10 low (omega arith) (omega (arith, small.0))) (free_decimal 10 d (omega arith) (omega (arith, small.1))) in
    free_both 10 (codes "levels-bounded ") (decimal low ++ 32 ∷ decimal d) refl pair

-- the numbers of a listed fence can be read
short_fence : (w : Words) (r : ℕ) (f : List ℕ) → r ≤ most_steps → Contains (fences_for w r) f → HasShortName (Levels f)
unfolding subproblems_for
short_fence w r f few there = fence_is_coding.fence_names w r (Levels f) few (contains_map Levels (fences_for w r) f there)

whole_subproblems : (h : Header) (size : ℕ) (ps : List SubproblemLog) (fs : List (List ℕ)) →
    map subproblem_of ps ≡ map Levels fs → ((f : List ℕ) → Contains fs f → HasShortName (Levels f)) →
    AllByRecursion (IsSubproblemLog h size) ps → IsWhole (flat_map subproblem_lines ps)
whole_subproblems h size [] fs same named logs = whole_none
whole_subproblems h size (p ∷ ps) [] same named logs = absurd cc
whole_subproblems h size (p ∷ ps) (f ∷ fs) same named logs =
    let each = head_subproblem p ps f fs same in
    whole_both (subproblem_lines p) (flat_map subproblem_lines ps) (whole_subproblem h size p (subst HasShortName (sym each.0) (named f (contains_head f fs))) logs.0)
    (whole_subproblems h size ps fs each.1 (λ x there. named x (contains_tail f x fs there)) logs.1)

pub depth_lines_again : (b : DepthCertificate) → IsDepth b → lines_of (depth_text b) ≡ depth_lines b
unfolding lines_from
depth_lines_again b is =
    let h = b.certificate.header in
    let size = length is.chain.steps in
    let found = depth_found b is in
    let few : size ≤ most_steps = omega (arith, found.size_is, found.size_to, is.valid.header.settings.max_to) in
    let d_is = levels_is b is in
    let subproblems = whole_subproblems h size b.subproblems (flatter h.spec size (depth is.chain)) is.subproblems_are
    (λ f there. short_fence h.spec size f few (flatter_is (fences_for h.spec size) (depth is.chain) f there).0)
    (recursion_from_All (IsSubproblemLog h size) b.subproblems is.logs) in
    let last = whole_cons (line (levels_line b.verdict)) _ (whole_line (levels_line b.verdict) (free_levels b.verdict (short b is))) whole_end in
    let rest = whole_cons (line (depth_line (levels_of b.verdict))) _
    (whole_line (depth_line (levels_of b.verdict))
    (free_depth (levels_of b.verdict) (omega (arith, d_is, few_levels b is))))
    (whole_both (flat_map subproblem_lines b.subproblems) _ subproblems last) in
    let all = whole_both (certificate_lines b.certificate) _ (whole_certificate b.certificate is.valid) rest in
    sym (ap lines_of (append-nil (depth_text b))) ∙ all.back [] ∙ append-nil (depth_lines b)

-- ---- the whole

abbrev after_lines : DepthCertificate → List Line
after_lines b = line (depth_line (levels_of b.verdict)) ∷ flat_lines b.subproblems b.verdict

-- the lines of a depth certificate: those of the certificate at its head, and the others after them
pub depth_prefix : (bytes : List ℕ) (b : DepthCertificate) → IsDepthText bytes b → prefix_of (lines_of bytes) ≡ certificate_lines b.certificate
depth_prefix bytes b is = ap (λ (xs : List ℕ). prefix_of (lines_of xs)) is.text ∙ ap prefix_of (depth_lines_again b is.is_depth) ∙ prefix_is b.certificate (after_lines b) is.is_depth.valid

pub depth_suffix : (bytes : List ℕ) (b : DepthCertificate) → IsDepthText bytes b → suffix_of (lines_of bytes) ≡ line (depth_line (levels_of b.verdict)) ∷ flat_lines b.subproblems b.verdict
depth_suffix bytes b is = ap (λ (xs : List ℕ). suffix_of (lines_of xs)) is.text ∙ ap suffix_of (depth_lines_again b is.is_depth) ∙ suffix_is b.certificate (after_lines b) is.is_depth.valid

-- The text of a depth certificate is judged to have its verdict.
pub judged_again : (bytes : List ℕ) (b : DepthCertificate) (answer : Answer) → IsDepthText bytes b → IsJudged (lines_of bytes) answer → answer ≡ Ok b.verdict
judged_again bytes b answer is judged =
    judged.following b.certificate is.is_depth.valid is.output (depth_prefix bytes b is)
    ∙ ap (after_certificate b.certificate (length (prefix_of (lines_of bytes)) + 1)) (depth_suffix bytes b is)
    ∙ after_again b (length (prefix_of (lines_of bytes)) + 1) is.is_depth
