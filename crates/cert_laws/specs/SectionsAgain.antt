-- Sections and trailers that were written are accepted.
use Rattle.cert_theory.specs.Coding.{has_fence_names}
use Rattle.std.proofs.Common.{◌≡◌, ℕ, ◌+◌, ◌<◌, ◌≤◌, ◌==◌, ◌&&◌, Bool, true, false, not, cond, List, [], ◌∷◌, ◌++◌}
use Rattle.std.proofs.Common.{length, map, Option, Some, None, Result, Ok, Err, refl, sym, ap, ◌∙◌, subst, arith}
use Rattle.std.proofs.Common.{append_assoc, append-nil}
use Rattle.std.specs.Prelude.{codes, nat_le, nat_lt}
use Rattle.std.proofs.lemmas.Bool.Decides.{nat_tests}
use Rattle.text_core.specs.Lines.{Line}
use Rattle.text_core.specs.Words.{after}
use Rattle.chain_theory.specs.Chain.{Chain}
use Rattle.sat_theory.specs.Formula.{Formula}
use Rattle.sat_theory.specs.Line as theory
use Rattle.sat_theory.specs.State.{State, start, next}
use Rattle.sat_theory.specs.Log.{IsStep, AddsUnsubsumed, EachLine, added_ids}
use Rattle.sat_theory.specs.LogLaws.{after-push}
use Rattle.lrat_check.specs.Judging.{line_fault}
use Rattle.lrat_check.specs.FaultLaws.{line_without_fault}
use Rattle.lrat_check.specs.Live.{AreClauses}
use Rattle.lrat_check.specs.declared.error.CheckError.{CheckError}
use Rattle.tt_core.specs.Words.{specification}
use Rattle.op_basis.specs.Basis.{members}
use Rattle.chain_core.specs.declared.frame.Frame.{Frame}
use Rattle.chain_core.specs.declared.error.ChainError.{ChainError}
use Rattle.chain_core.specs.Block.{body_from}
use Rattle.chain_core.specs.Steps.{IsSmallChain}
use Rattle.chain_core.specs.Spelling.{line, count_text, step_lines, out_line}
use Rattle.chain_core.specs.WrittenBlockLaws.{count_at_back, lines_read}
use Rattle.enc_theory.specs.declared.subproblem.Subproblem.{Subproblem}
use Rattle.cert_theory.specs.declared.data.Header.{Header}
use Rattle.cert_theory.specs.declared.data.LogEnd.{LogEnd}
use Rattle.cert_theory.specs.declared.data.LogEnd.TheVariants as ends
use Rattle.cert_theory.specs.declared.data.Verdict.{Verdict}
use Rattle.cert_theory.specs.declared.data.CertificateError.{CertificateError}
use Rattle.cert_theory.specs.declared.data.CertificateError.TheVariants.{SizeOutOfOrder, NotRefuted, WrongVerdict}
use Rattle.cert_theory.specs.declared.data.SubproblemError.{SubproblemError}
use Rattle.cert_theory.specs.declared.data.SubproblemError.TheVariants as subproblem_errors
use Rattle.cert_theory.specs.Certificate.{IsHeader, EndsAs, found, not_found, IsFound, IsTrailer, formula_of}
use Rattle.cert_theory.specs.Spelling.{done_text, log_line, verdict_line, end_text, trailer_lines}
use Rattle.cert_theory.specs.Difference.{difference_of}
use Rattle.cert_theory.specs.Gives.{◌>>=◌}
use Rattle.cert_theory.specs.SubproblemLines.{state_after, refused, or_not_new, has_empty, logged_in, done_in, subproblem_in}
use Rattle.cert_theory.specs.Judging.{or_syntax, as_syntax, begins, Between, Within, Progress, low_with, section_at}
use Rattle.cert_theory.specs.Judging.{trailer_at, sections_of, found_in, not_found_in, follows, end_of, after_chain}
use Rattle.cert_theory.specs.Judging.{chain_place, steps_at, frame_of, or_differs, or_outside, chain_judged, with_block}
use Rattle.cert_theory.specs.Judging.{chain_at, no_chain_at, before, verdict_at, is_fence_name, at_line, after_line}
use Rattle.cert_laws.specs.EmptyLaws.{empty_has, has_is}
use Rattle.cert_laws.specs.FreshLaws.{test_from_fresh}
use Rattle.cert_laws.specs.DifferenceLaws.{outside_is, difference_is}
use Rattle.cert_laws.specs.BlockReads.{body_again}
use Rattle.cert_laws.specs.ClauseStates.{next_clauses}
use Rattle.cert_laws.specs.LinesAgain.{not_done, log_again, minimum_again, bounded_again, none_again, open_again, same_again}
use Rattle.cert_laws.specs.SectionSpellings.{progress}
use Rattle.chain_theory.specs.Limits.{most_steps}

abbrev go_on : Header → ℕ → List Line → Progress → Result Verdict CertificateError
go_on h number ls next = sections_of h (number + 1) next ls

-- ---- the trailer

end_again : (number : ℕ) (v : Verdict) → end_of number v (line end_text ∷ []) ≡ Ok v
unfolding end_of
end_again number v = refl

last_again : (number : ℕ) (v : Verdict) (o : Option Verdict) → o ≡ Some v → (or_syntax number o >>= λ read. follows number true v read >>= λ w. end_of (number + 1) w (line end_text ∷ [])) ≡ Ok v
last_again number v o is =
    ap (λ (p : Option Verdict). or_syntax number p >>= λ read. follows number true v read >>= λ w. end_of (number + 1) w (line end_text ∷ [])) is
    ∙ ap (λ (t : Bool). let r : Result Verdict CertificateError = cond t (Ok v) (Err (WrongVerdict number)) in r >>= λ w. end_of (number + 1) w (line end_text ∷ [])) (same_again v)
    ∙ end_again (number + 1) v

found_again : (size : ℕ) (low : Option ℕ) → size < 1000000000 → ((l : ℕ) → low ≡ Some l → l < 1000000000) → found_in (line (verdict_line (found size low))) ≡ Some (found size low)
found_again size None short all = minimum_again size short
found_again size (Some low) short all = bounded_again low size (all low refl) short

not_found_again : (max : ℕ) (low : Option ℕ) → max < 1000000000 → ((l : ℕ) → low ≡ Some l → l < 1000000000) → not_found_in (line (verdict_line (not_found max low))) ≡ Some (not_found max low)
not_found_again max None short all = none_again max short
not_found_again max (Some low) short all = open_again low (all low refl)

no_chain_begins : (max : ℕ) (low : Option ℕ) → begins (codes "chain ") (line (verdict_line (not_found max low))) ≡ false
unfolding verdict_line after
no_chain_begins max None = refl
no_chain_begins max (Some low) = refl

no_size_begins : (max : ℕ) (low : Option ℕ) → begins (codes "size ") (line (verdict_line (not_found max low))) ≡ false
unfolding verdict_line after
no_size_begins max None = refl
no_size_begins max (Some low) = refl

no_name : (max : ℕ) (low : Option ℕ) → is_fence_name (line (verdict_line (not_found max low))) ≡ false
unfolding verdict_line is_fence_name after
no_name max None = refl
no_name max (Some low) = refl

-- a line that isn't the name of a fence is read as a verdict
verdict_plain : (is_named : Bool) (number : ℕ) (l : Line) → is_fence_name l ≡ false → verdict_at is_named number l ≡ or_syntax number (not_found_in l)
verdict_plain true number l e = ap (λ (b : Bool). cond b (Err (NotRefuted number)) (or_syntax number (not_found_in l))) e
verdict_plain false number l e = refl

chain_begins : (r : ℕ) → begins (codes "chain ") (line (count_text r)) ≡ true
unfolding count_text after
chain_begins r = refl

chain_no_size : (r : ℕ) → begins (codes "size ") (line (count_text r)) ≡ false
unfolding count_text after
chain_no_size r = refl

judged_again : (h : Header) (size : ℕ) (c : Chain) → c.n ≡ h.spec.n → length c.outs ≡ length h.spec.on → IsFound h size c → chain_judged h c ≡ Ok tt
unfolding chain_judged
judged_again h size c inputs outputs is =
    ap (λ (o : Option ℕ). or_outside o (or_differs (difference_of c (specification h.spec)))) (outside_is (members h.basis) c None is.over)
    ∙ ap or_differs (difference_is c (specification h.spec) None inputs outputs is.agrees)

eq_same : (n : ℕ) → (n == n) ≡ true
eq_same n = grind (arith, nat_tests)

le_back : (a b : ℕ) → a ≤ b → nat_le a b ≡ true
le_back a b low = grind (arith, nat_tests)

pub small_chain : (h : Header) (size : ℕ) (c : Chain) → IsHeader h → IsFound h size c → IsSmallChain c
small_chain h size c header is = record {
  chain = is.chain;
  inputs = omega (arith, is.agrees.inputs, header.tables.inputs);
  steps = omega (arith, is.size_is, is.size_to, header.settings.max_to);
  outs = omega (arith, is.agrees.outputs, header.tables.outputs);
}

abbrev stated : ℕ → Result ℕ CertificateError
stated steps = Ok steps

steps_again : (h : Header) (number size r : ℕ) → r ≡ size → r ≤ most_steps → r ≤ h.max → steps_at h number size (line (count_text r)) ≡ Ok r
unfolding steps_at
steps_again h number size r same few fits =
    let tests : ((r == size) && nat_le r h.max) ≡ true = rw (sym same, eq_same r, le_back r h.max fits) refl in
    ap (λ (q : Result ℕ ChainError). as_syntax chain_place q >>= λ steps. cond ((steps == size) && nat_le steps h.max) (stated steps) (Err (SizeOutOfOrder number))) (count_at_back number r few)
    ∙ ap (λ (t : Bool). cond t (stated r) (Err (SizeOutOfOrder number))) tests

frame_same : (h : Header) (number r n m : ℕ) → n ≡ h.spec.n → m ≡ length h.spec.on → frame_of h number r ≡ record { first_line = number; n = n; outputs = m; steps = r }
frame_same h number r n m inputs outputs = λ i. record { first_line = number; n = sym inputs i; outputs = sym outputs i; steps = r }

chain_again : (h : Header) (number size : ℕ) (low : Option ℕ) (c : Chain) → IsHeader h → IsFound h size c → ((l : ℕ) → low ≡ Some l → l < 1000000000)
    → trailer_at h number size low (line (count_text (length c.steps))) ((step_lines (c.n + 1) c.steps ++
    map out_line c.outs) ++ line (verdict_line (found size low)) ∷ line end_text ∷ []) ≡ Ok (found size low)
unfolding with_block after_chain
chain_again h number size low c header is short =
    let r = length c.steps in
    let rest = line (verdict_line (found size low)) ∷ line end_text ∷ [] in
    let ls = (step_lines (c.n + 1) c.steps ++ map out_line c.outs) ++ rest in
    let few : r ≤ most_steps = omega (arith, is.size_is, is.size_to, header.settings.max_to) in
    let small = small_chain h size c header is in
    let read : body_from (record { first_line = number; n = c.n; outputs = length c.outs; steps = r }) ls ≡ Ok (record { chain = c; rest = rest }) =
    body_again number c.n (length c.outs) r (line (count_text r)) ls (record { chain = c; rest = rest }) (count_at_back number r few) (lines_read number c rest small) in
    let f : Frame = frame_of h number r in
    let body : body_from f ls ≡ Ok (record { chain = c; rest = rest }) = ap (λ (g : Frame). body_from g ls) (frame_same h number r c.n (length c.outs) is.agrees.inputs is.agrees.outputs) ∙ read in
    let due : found r low ≡ found size low = ap (λ (n : ℕ). found n low) is.size_is in
    let verdict : found_in (line (verdict_line (found size low))) ≡ Some (found r low) =
    found_again size low (omega (arith, is.size_to, header.settings.max_to)) short
    ∙ ap (λ (v : Verdict). Some v) (sym due) in
    ap (λ (t : Bool). cond t (chain_at h number size low (line (count_text r)) ls) (no_chain_at h number size low (line (count_text r)) ls)) (chain_begins r)
    ∙ ap (λ (q : Result ℕ CertificateError). q >>= λ steps. with_block h (frame_of h number steps) low
    (body_from (frame_of h number steps) ls)) (steps_again h number size r is.size_is few
    (omega (arith, is.size_is, is.size_to)))
    ∙ ap (with_block h f low) body
    ∙ ap (λ (q : Result (Unit {0}) CertificateError). q >>= λ good. after_chain (f.first_line + 1 + f.steps + f.outputs) f.steps low rest) (judged_again h size c is.agrees.inputs is.agrees.outputs is)
    ∙ last_again (f.first_line + 1 + f.steps + f.outputs) (found r low) (found_in (line (verdict_line (found size low)))) verdict
    ∙ ap (λ (v : Verdict). let q : Result Verdict CertificateError = Ok v in q) due

not_found_last : (h : Header) (number size : ℕ) (low : Option ℕ) → size ≡ h.max + 1 → h.max < 1000000000 → ((l : ℕ) → low ≡ Some l → l < 1000000000)
    → trailer_at h number size low (line (verdict_line (not_found h.max low))) (line end_text ∷ []) ≡ Ok (not_found h.max low)
not_found_last h number size low complete fits short =
    let v = not_found h.max low in
    let all : (size == h.max + 1) ≡ true = rw complete (eq_same (h.max + 1)) in
    ap (λ (t : Bool). cond t (chain_at h number size low (line (verdict_line v)) (line end_text ∷ []))
    (no_chain_at h number size low (line (verdict_line v)) (line end_text ∷ []))) (no_chain_begins h.max low)
    ∙ ap (λ (r : Result Verdict CertificateError). r >>= λ read. follows number (size == h.max + 1) v read >>= λ w.
    end_of (number + 1) w (line end_text ∷ [])) (verdict_plain (has_fence_names h.method &&
    nat_lt 0 size) number (line (verdict_line v)) (no_name h.max low))
    ∙ ap (λ (t : Bool). or_syntax number (not_found_in (line (verdict_line v))) >>= λ read. follows number t v read >>= λ w. end_of (number + 1) w (line end_text ∷ [])) all
    ∙ last_again number v (not_found_in (line (verdict_line v))) (not_found_again h.max low fits short)

-- where no section begins, the trailer is read
at_trailer : (h : Header) (number size : ℕ) (low : Option ℕ) (l : Line) (ls : List Line) →
    begins (codes "size ") l ≡ false → sections_of h number (progress size low Between) (l ∷ ls) ≡
    trailer_at h number size low l ls
unfolding sections_of
at_trailer h number size low l ls none = ap (λ (t : Bool). cond (not t) (trailer_at h number size low l ls) (section_at h number size low Between l >>= go_on h number ls)) none

pub trailer_again : (h : Header) (number size : ℕ) (low : Option ℕ) (chain : Option Chain) (v : Verdict) → IsHeader h →
    ((l : ℕ) → low ≡ Some l → l < 1000000000) → IsTrailer h size low chain v →
    sections_of h number (progress size low Between) (trailer_lines chain v) ≡ Ok v
trailer_again h number size low None v header short is =
    subst (λ (w : Verdict). sections_of h number (progress size low Between) (trailer_lines None w) ≡ Ok w) (sym is.1)
    (at_trailer h number size low (line (verdict_line (not_found h.max low))) (line end_text ∷ []) (no_size_begins h.max low)
    ∙ not_found_last h number size low is.0 (omega (arith, header.settings.max_to)) short)
trailer_again h number size low (Some c) v header short is =
    subst (λ (w : Verdict). sections_of h number (progress size low Between) (trailer_lines (Some c) w) ≡ Ok w) (sym is.1)
    (at_trailer h number size low (line (count_text (length c.steps))) _ (chain_no_size (length c.steps))
    ∙ chain_again h number size low c header is.0 short)

-- ---- logs

abbrev pub WasFresh : LogEnd → State → List theory.Line → Type 0
WasFresh ends.Refuted s log = Unit {0}
WasFresh ends.Open s log = EachLine AddsUnsubsumed s log

fresh_first : (ended : LogEnd) (s : State) (x : theory.Line) (more : List theory.Line) → WasFresh ended s (x ∷ more) → or_not_new ended s x ≡ Ok x
unfolding EachLine
fresh_first ends.Refuted s x more fresh = refl
fresh_first ends.Open s x more fresh = ap (λ (t : Bool). let r : Result theory.Line SubproblemError = cond t (Ok x) (Err subproblem_errors.NotNew) in r) (test_from_fresh s x fresh.0)

fresh_more : (ended : LogEnd) (s : State) (x : theory.Line) (more : List theory.Line) → WasFresh ended s (x ∷ more) → WasFresh ended (next s x) more
unfolding EachLine
fresh_more ends.Refuted s x more fresh = tt
fresh_more ends.Open s x more fresh = fresh.1

logged_again : (f : Formula) (ended : LogEnd) (log : List theory.Line) (x : theory.Line) (more : List theory.Line) →
    AreClauses (state_after f log).live → IsStep (state_after f log) x →
    WasFresh ended (state_after f log) (x ∷ more) → logged_in f ended log (log_line x) ≡ Ok x
unfolding logged_in
logged_again f ended log x more clauses step fresh =
    ap (λ (r : Result theory.Line SubproblemError). r >>= λ line. refused (line_fault (state_after f log) line) line >>= λ held. or_not_new ended (state_after f log) held) (log_again x step.is_line)
    ∙ ap (λ (o : Option CheckError). refused o x >>= λ held. or_not_new ended (state_after f log) held) (line_without_fault (state_after f log) x clauses step.holds)
    ∙ fresh_first ended (state_after f log) x more fresh

none_false : (b : Bool) → (b ≡ true → ⊥) → b ≡ false
none_false true none = absurd (none refl)
none_false false none = refl

abbrev fine : Result (Unit {0}) SubproblemError
fine = Ok tt

done_again : (f : Formula) (conflicts : ℕ) (ended : LogEnd) (log : List theory.Line) → EndsAs f conflicts ended log → done_in f conflicts ended log ≡ Ok tt
unfolding done_in
done_again f conflicts ends.Refuted log is = ap (λ (t : Bool). cond t fine (Err subproblem_errors.NotRefuted)) (has_is f log is.reaches)
done_again f conflicts ends.Open log is =
    ap (λ (t : Bool). cond t (Err subproblem_errors.EmptyClauseDerived)
    (cond (nat_le conflicts (length (added_ids log))) fine (Err subproblem_errors.TooShort)))
    (none_false (has_empty f log) (λ yes_. is.open_yet (empty_has f log yes_)))
    ∙ ap (λ (t : Bool). cond t fine (Err subproblem_errors.TooShort)) (le_back conflicts (length (added_ids log)) is.enough)

abbrev stop : Unit {0} → Result (Option theory.Line) SubproblemError
stop done = Ok None

abbrev one_more : theory.Line → Result (Option theory.Line) SubproblemError
one_more line = Ok (Some line)

-- the end, and one more line
pub subproblem_ends : (f : Formula) (conflicts : ℕ) (ended : LogEnd) (log : List theory.Line) → EndsAs f conflicts ended log → subproblem_in f conflicts ended log (line done_text) ≡ Ok None
unfolding subproblem_in
subproblem_ends f conflicts ended log is = ap (λ (r : Result (Unit {0}) SubproblemError). r >>= stop) (done_again f conflicts ended log is)

pub subproblem_goes : (f : Formula) (conflicts : ℕ) (ended : LogEnd) (log : List theory.Line) (x : theory.Line)
    (more : List theory.Line) → AreClauses (state_after f log).live → IsStep (state_after f log) x →
    WasFresh ended (state_after f log) (x ∷ more) → subproblem_in f conflicts ended log (log_line x) ≡ Ok (Some x)
unfolding subproblem_in
subproblem_goes f conflicts ended log x more clauses step fresh =
    ap (λ (t : Bool). cond t (done_in f conflicts ended log >>= stop) (logged_in f ended log (log_line x) >>= one_more)) (not_done x step.is_line)
    ∙ ap (λ (r : Result theory.Line SubproblemError). r >>= one_more) (logged_again f ended log x more clauses step fresh)

abbrev pub Onward : Header → ℕ → Option ℕ → List Subproblem → List Line → Verdict → Type 0
Onward h size low later following v = (number : ℕ) → sections_of h number (before size low later) following ≡ Ok v

abbrev come : Progress → Result Progress CertificateError
come p = Ok p

pub within_again : (more : List theory.Line) (h : Header) (number size : ℕ) (low : Option ℕ) (subproblem : Subproblem)
    (later : List Subproblem) (ended : LogEnd) (log : List theory.Line) (following : List Line) (v : Verdict)
    → AreClauses (state_after (formula_of h size subproblem) log).live →
    EachLine IsStep (state_after (formula_of h size subproblem) log) more →
    WasFresh ended (state_after (formula_of h size subproblem) log) more →
    EndsAs (formula_of h size subproblem) h.conflicts ended (log ++ more)
    → Onward h size (low_with low ended size) later following v → sections_of h number (progress size low (Within subproblem later ended log)) (map log_line more ++ line done_text ∷ following) ≡ Ok v
unfolding sections_of EachLine
within_again [] h number size low subproblem later ended log following v clauses steps fresh ends_as onward =
    let f = formula_of h size subproblem in
    let closes = subproblem_ends f h.conflicts ended log (subst (λ (xs : List theory.Line). EndsAs f h.conflicts ended xs) (append-nil log) ends_as) in
    ap (λ (r : Result (Option theory.Line) SubproblemError). (at_line number r >>= λ step. come (after_line size low subproblem later ended log step)) >>= go_on h number following) closes
    ∙ onward (number + 1)
within_again (x ∷ more) h number size low subproblem later ended log following v clauses steps fresh ends_as onward =
    let f = formula_of h size subproblem in
    let ls = map log_line more ++ line done_text ∷ following in
    let state : state_after f (log ++ x ∷ []) ≡ next (state_after f log) x = after-push (start f) log x in
    ap (λ (r : Result (Option theory.Line) SubproblemError). (at_line number r >>= λ step.
    come (after_line size low subproblem later ended log step)) >>= go_on h number ls)
    (subproblem_goes f h.conflicts ended log x more clauses steps.0 fresh)
    ∙ within_again more h (number + 1) size low subproblem later ended (log ++ x ∷ []) following v
    (subst (λ (s : State). AreClauses s.live) (sym state) (next_clauses (state_after f log) x clauses steps.0))
    (subst (λ (s : State). EachLine IsStep s more) (sym state) steps.1)
    (subst (λ (s : State). WasFresh ended s more) (sym state) (fresh_more ended (state_after f log) x more fresh))
    (subst (λ (xs : List theory.Line). EndsAs f h.conflicts ended xs) (sym (append_assoc log (x ∷ []) more)) ends_as)
    onward
