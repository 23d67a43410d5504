-- Depth certificates, as they are read.
use Rattle.std.proofs.Common.{◌≡◌, ℕ, ◌+◌, ◌==◌, Bool, true, false, cond, List, [], ◌∷◌, ◌++◌, length, map, Option, Some, None, Result, Ok, Err, refl, sym, ap, ◌∙◌, subst, append_assoc, append-nil}
use Rattle.std.specs.Prelude.{codes, decimal}
use Rattle.std.specs.List.{flat_map, AllByRecursion}
use Rattle.std.proofs.lemmas.Bool.{eqb-true}
use Rattle.std.proofs.lemmas.List.Elements.{All-from_recursion}
use Rattle.text_core.specs.Lines.{Line, lines_of}
use Rattle.text_core.specs.ReadBack.{lines_spell}
use Rattle.chain_theory.specs.Chain.{Chain}
use Rattle.chain_theory.specs.Levels.{depth}
use Rattle.sat_theory.specs.Line as theory
use Rattle.chain_core.specs.Spelling.{line}
use Rattle.enc_theory.specs.declared.subproblem.Subproblem.{Subproblem}
use Rattle.enc_theory.specs.declared.subproblem.Subproblem.TheVariants.{Levels}
use Rattle.settings.specs.declared.methods.Method.{Method}
use Rattle.settings.specs.declared.methods.Method.TheVariants.{Plain, Ssv, Select, Fence, Strong, StrongFence}
use Rattle.cert_theory.specs.declared.data.Header.{Header}
use Rattle.cert_theory.specs.declared.data.LogEnd.{LogEnd}
use Rattle.cert_theory.specs.declared.data.LogEnd.TheVariants as ends
use Rattle.cert_theory.specs.declared.data.Verdict.{Verdict}
use Rattle.cert_theory.specs.declared.data.Verdict.TheVariants as certificate_verdicts
use Rattle.cert_theory.specs.declared.data.CertificateError.{CertificateError}
use Rattle.cert_theory.specs.Certificate.{SubproblemLog, Certificate, IsSubproblemLog, EndsAs, subproblem_of, formula_of, first_open, IsTrailer, IsValid, HasOutput}
use Rattle.cert_theory.specs.Spelling.{ended_text, done_text, log_line, fence_text, name_lines, subproblem_lines, end_text, certificate_lines, text_of}
use Rattle.cert_theory.specs.Gives.{◌>>=◌}
use Rattle.cert_theory.specs.SubproblemLines.{is_line, name_in, ended_in, subproblem_in}
use Rattle.cert_theory.specs.Judging.{number_after, is_fence_name, low_with, certificate_of}
use Rattle.cert_theory.specs.GivesLaws.{bind_ok, test_ok, located_ok}
use Rattle.cert_laws.specs.LineSpellings.{both_true, is_line_spells, ended_spells}
use Rattle.cert_laws.specs.TrailerSpellings.{number_spelled, numbered_spells}
use Rattle.cert_laws.specs.LogSpellings.{IsLog, no_log, closed_is, logged_is}
use Rattle.cert_laws.specs.SectionSpellings.{low_or, low_same, subproblem_text, name_spells, unit_is, subproblem_done, subproblem_logged}
use Rattle.cert_laws.specs.CertificateSpellings.{ReadCertificate, lines_read}
use Rattle.depth_theory.specs.declared.data.DepthVerdict.{DepthVerdict}
use Rattle.depth_theory.specs.declared.data.DepthVerdict.TheVariants as verdicts
use Rattle.depth_theory.specs.declared.data.DepthError.{DepthError}
use Rattle.depth_theory.specs.declared.data.DepthError.TheVariants.{Certificate as InCertificate, NotRefuted, WrongDepth, WrongLevels}
use Rattle.depth_theory.specs.Flatter.{flatter}
use Rattle.depth_theory.specs.DepthCertificate.{DepthCertificate, open_levels, levels_found, IsDepth}
use Rattle.depth_theory.specs.DepthSpelling.{levels_of, depth_line, levels_line, flat_lines, HasDepth}
use Rattle.depth_theory.specs.DepthJudging.{Answer, or_syntax, fault_at, at_line, levels_in, is_same, follows}
use Rattle.depth_theory.specs.DepthJudging.{nothing_after, end_of, verdict_at, may_follow, Place, Due, Begun, Within}
use Rattle.depth_theory.specs.DepthJudging.{after_line, flat_from, depth_at, after_chain, least_of, after_least}
use Rattle.depth_theory.specs.DepthJudging.{after_certificate, prefix_of, suffix_of, IsJudged}
use Rattle.depth_theory.specs.PrefixLines.{prefix_and_suffix}

read_ok : {A : Type 0} (number : ℕ) (o : Option A) (x : A) → or_syntax number o ≡ Ok x → o ≡ Some x
read_ok number None x e = absurd cc
read_ok number (Some y) x e = cc

-- ---- verdicts

pub levels_spells : (l : Line) (v : DepthVerdict) → levels_in l ≡ Some v → l ≡ line (levels_line v)
unfolding levels_in levels_line
levels_spells l v e = numbered_spells (λ d. verdicts.Levels d) (λ low d. verdicts.Bounded low d) (codes "levels ") (codes "levels-bounded ") levels_line l v (λ d. refl) (λ low d. refl) e

same_is : (v w : DepthVerdict) → is_same v w ≡ true → v ≡ w
same_is (verdicts.Levels d) (verdicts.Levels e) is = ap (λ (n : ℕ). verdicts.Levels n) (eqb-true d e is)
same_is (verdicts.Levels d) (verdicts.Bounded low e) is = absurd cc
same_is (verdicts.Bounded l d) (verdicts.Levels e) is = absurd cc
same_is (verdicts.Bounded l d) (verdicts.Bounded low e) is =
    let halves = both_true (l == low) (d == e) is in
    ap (λ (n : ℕ). verdicts.Bounded n d) (eqb-true l low halves.0) ∙ ap (λ (n : ℕ). verdicts.Bounded low n) (eqb-true d e halves.1)

-- ---- the trailer

nothing_is : (number : ℕ) (v w : DepthVerdict) (ls : List Line) → nothing_after number v ls ≡ Ok w → (ls ≡ []) × (v ≡ w)
nothing_is number v w [] e = (refl, cc)
nothing_is number v w (l ∷ ls) e = absurd cc

end_spells : (number : ℕ) (v w : DepthVerdict) (ls : List Line) → end_of number v ls ≡ Ok w → (ls ≡ line end_text ∷ []) × (v ≡ w)
unfolding end_of
end_spells number v w [] e = absurd cc
end_spells number v w (l ∷ ls) e =
    let tests = test_ok (is_line end_text l) (nothing_after (number + 1) v ls) _ w e in
    let rest = nothing_is (number + 1) v w ls tests.1 in
    ((λ i. is_line_spells end_text l tests.0 i ∷ rest.0 i), rest.1)

no_name : (b : Bool) (d : DepthError) (read : Answer) (v : DepthVerdict) → cond b (Err d) read ≡ Ok v → read ≡ Ok v
no_name true d read v e = absurd cc
no_name false d read v e = e

verdict_ok : (v w : DepthVerdict) (r : Answer) → r ≡ Ok v → r ≡ Ok w → v ≡ w
verdict_ok v w r one two = cc

verdict_spells : (number : ℕ) (due v : DepthVerdict) (l : Line) → verdict_at number due l ≡ Ok v → (v ≡ due) × (l ≡ line (levels_line v))
unfolding verdict_at
verdict_spells number due v l e =
    let plain = no_name (is_fence_name l) (NotRefuted number) (or_syntax number (levels_in l) >>= follows number due) v e in
    let read = bind_ok (or_syntax number (levels_in l)) (follows number due) v plain in
    let tests = test_ok (is_same read.0 due) (Ok read.0) (WrongLevels number) v read.2 in
    let own : read.0 ≡ v = verdict_ok read.0 v (Ok read.0) refl tests.1 in
    (sym own ∙ same_is read.0 due tests.0, levels_spells l read.0 (read_ok number (levels_in l) read.0 read.1) ∙ ap (λ (w : DepthVerdict). line (levels_line w)) own)

-- ---- the lines from a given point on

-- the logs of the fences that are due, and the verdict
record FlatRest (h : Header) (size d : ℕ) (low : Option ℕ) (due : List (List ℕ)) (ls : List Line) (v : DepthVerdict) : Type 0 where
  subproblems : List SubproblemLog
  subproblems_are : map subproblem_of subproblems ≡ map Levels due
  logs : AllByRecursion (IsSubproblemLog h size) subproblems
  verdict : v ≡ levels_found (low_or low (open_levels subproblems)) d
  lines : ls ≡ flat_lines subproblems v

record LogRest (h : Header) (size d : ℕ) (low : Option ℕ) (fence : List ℕ) (later : List (List ℕ)) (ended : LogEnd) (log : List theory.Line) (ls : List Line) (v : DepthVerdict) : Type 0 where
  more : List theory.Line
  ends_as : EndsAs (formula_of h size (Levels fence)) h.conflicts ended (log ++ more)
  following : List Line
  rest : FlatRest h size d (low_with low ended (length fence)) later following v
  lines : ls ≡ map log_line more ++ line done_text ∷ following

record BegunRest (h : Header) (size d : ℕ) (low : Option ℕ) (fence : List ℕ) (later : List (List ℕ)) (ls : List Line) (v : DepthVerdict) : Type 0 where
  ended : LogEnd
  following : List Line
  rest : LogRest h size d low fence later ended [] following v
  lines : ls ≡ line (ended_text ended) ∷ following

abbrev RestAt : Header → ℕ → ℕ → Option ℕ → Place → List Line → DepthVerdict → Type 0
RestAt h size d low (Due fences) ls v = FlatRest h size d low fences ls v
RestAt h size d low (Begun fence later) ls v = BegunRest h size d low fence later ls v
RestAt h size d low (Within fence later ended log) ls v = LogRest h size d low fence later ended log ls v

abbrev IsAt : Header → ℕ → Place → Type 0
IsAt h size (Due fences) = Unit {0}
IsAt h size (Begun fence later) = Unit {0}
IsAt h size (Within fence later ended log) = IsLog (formula_of h size (Levels fence)) ended log

-- the first open fence, with one more fence before it
pub low_step : (low : Option ℕ) (fence : List ℕ) (ended : LogEnd) (log : List theory.Line) (ps : List SubproblemLog) →
    low_or (low_with low ended (length fence)) (open_levels ps) ≡
    low_or low (open_levels (record { subproblem = Levels fence; ended = ended; log = log } ∷ ps))
low_step (Some low) fence ended log ps = refl
low_step None fence ends.Refuted log ps = refl
low_step None fence ends.Open log ps = refl

-- one more fence at the head
begun_more : (h : Header) (size d : ℕ) (low : Option ℕ) (fence : List ℕ) (later : List (List ℕ)) (l : Line)
    (ls : List Line) (v : DepthVerdict) → l ≡ line (fence_text fence) → BegunRest h size d low fence later ls v →
    FlatRest h size d low (fence ∷ later) (l ∷ ls) v
unfolding name_lines
begun_more h size d low fence later l ls v first begun =
    let log = begun.rest in
    let flat = log.rest in
    let p : SubproblemLog = record { subproblem = Levels fence; ended = begun.ended; log = log.more } in
    record {
      subproblems = p ∷ flat.subproblems;
      subproblems_are = ap (λ (ps : List Subproblem). Levels fence ∷ ps) flat.subproblems_are;
      logs = (log.ends_as, flat.logs);
      verdict = flat.verdict ∙ ap (λ (o : Option ℕ). levels_found o d) (low_step low fence begun.ended log.more flat.subproblems);
      lines =
          (λ i. first i ∷ (begun.lines ∙ ap (λ (xs : List Line). line (ended_text begun.ended) ∷ xs) (log.lines ∙ ap (λ (xs : List Line). map log_line log.more ++ line done_text ∷ xs) flat.lines)) i)
          ∙ sym (subproblem_text (Levels fence) begun.ended log.more (flat_lines flat.subproblems v))
          ∙ sym (append_assoc (subproblem_lines p) (flat_map subproblem_lines flat.subproblems) (line (levels_line v) ∷ line end_text ∷ []));
    }

-- one more line of a log at the head
logged_more : (h : Header) (size d : ℕ) (low : Option ℕ) (fence : List ℕ) (later : List (List ℕ)) (ended : LogEnd)
    (log : List theory.Line) (x : theory.Line) (l : Line) (ls : List Line) (v : DepthVerdict) → l ≡ log_line x →
    LogRest h size d low fence later ended (log ++ x ∷ []) ls v → LogRest h size d low fence later ended log (l ∷ ls) v
logged_more h size d low fence later ended log x l ls v first rest = record {
  more = x ∷ rest.more;
  ends_as = subst (λ (xs : List theory.Line). EndsAs (formula_of h size (Levels fence)) h.conflicts ended xs) (append_assoc log (x ∷ []) rest.more) rest.ends_as;
  following = rest.following;
  rest = rest.rest;
  lines = λ i. first i ∷ rest.lines i;
}

done_more : (h : Header) (size d : ℕ) (low : Option ℕ) (fence : List ℕ) (later : List (List ℕ)) (ended : LogEnd)
    (log : List theory.Line) (l : Line) (ls : List Line) (v : DepthVerdict) → l ≡ line done_text →
    EndsAs (formula_of h size (Levels fence)) h.conflicts ended log →
    FlatRest h size d (low_with low ended (length fence)) later ls v →
    LogRest h size d low fence later ended log (l ∷ ls) v
done_more h size d low fence later ended log l ls v first ends_as rest = record {
  more = [];
  ends_as = subst (λ (xs : List theory.Line). EndsAs (formula_of h size (Levels fence)) h.conflicts ended xs) (sym (append-nil log)) ends_as;
  following = ls;
  rest = rest;
  lines = λ i. first i ∷ ls;
}

trailer_rest : (h : Header) (size d number : ℕ) (low : Option ℕ) (l : Line) (ls : List Line) (v : DepthVerdict) →
    (verdict_at number (levels_found low d) l >>= λ w. end_of (number + 1) w ls) ≡ Ok v →
    FlatRest h size d low [] (l ∷ ls) v
trailer_rest h size d number low l ls v e =
    let read = bind_ok (verdict_at number (levels_found low d) l) (λ w. end_of (number + 1) w ls) v e in
    let last = end_spells (number + 1) read.0 v ls read.2 in
    let first = verdict_spells number (levels_found low d) read.0 l read.1 in
    record {
      subproblems = [];
      subproblems_are = refl;
      logs = tt;
      verdict = sym last.1 ∙ first.0 ∙ ap (λ (o : Option ℕ). levels_found o d) (low_same low);
      lines = λ i. (first.1 ∙ ap (λ (w : DepthVerdict). line (levels_line w)) last.1) i ∷ last.0 i;
    }

-- a line of a log, or its end
abbrev Continues : Header → ℕ → ℕ → ℕ → Option ℕ → List ℕ → List (List ℕ) → LogEnd → List theory.Line → List Line → Option theory.Line → Answer
Continues h size d number low fence later ended log ls step = flat_from h size d (number + 1) (after_line low fence later ended log step).low (after_line low fence later ended log step).place ls

within_by : (h : Header) (size d number : ℕ) (low : Option ℕ) (fence : List ℕ) (later : List (List ℕ)) (ended : LogEnd)
    (log : List theory.Line) (l : Line) (ls : List Line) (v : DepthVerdict) (step : Option theory.Line)
    → IsLog (formula_of h size (Levels fence)) ended log →
    subproblem_in (formula_of h size (Levels fence)) h.conflicts ended log l ≡ Ok step →
    Continues h size d number low fence later ended log ls step ≡ Ok v
    → ((p : Place) (o : Option ℕ) → IsAt h size p → flat_from h size d (number + 1) o p ls ≡ Ok v → RestAt h size d o p ls v) → LogRest h size d low fence later ended log (l ∷ ls) v
within_by h size d number low fence later ended log l ls v None is e next rest =
    let done = subproblem_done (formula_of h size (Levels fence)) h.conflicts ended log l e in
    done_more h size d low fence later ended log l ls v (is_line_spells done_text l done.0)
    (closed_is (formula_of h size (Levels fence)) h.conflicts ended log is done.1)
    (rest (Due later) (low_with low ended (length fence)) tt next)
within_by h size d number low fence later ended log l ls v (Some x) is e next rest =
    let more = logged_is (formula_of h size (Levels fence)) ended log l x is (subproblem_logged (formula_of h size (Levels fence)) h.conflicts ended log l x e) in
    logged_more h size d low fence later ended log x l ls v more.line_is (rest (Within fence later ended (log ++ x ∷ [])) low more.log_is next)

flat_spells : (ls : List Line) (h : Header) (size d number : ℕ) (low : Option ℕ) (place : Place) (v : DepthVerdict) →
    IsAt h size place → flat_from h size d number low place ls ≡ Ok v → RestAt h size d low place ls v
unfolding flat_from
flat_spells [] h size d number low (Due fences) v is e = absurd cc
flat_spells [] h size d number low (Begun fence later) v is e = absurd cc
flat_spells [] h size d number low (Within fence later ended log) v is e = absurd cc
flat_spells (l ∷ ls) h size d number low (Due []) v is e = trailer_rest h size d number low l ls v e
flat_spells (l ∷ ls) h size d number low (Due (fence ∷ later)) v is e =
    let name = name_in (may_follow l) fence l in
    let read = bind_ok (at_line number name) (λ is_named. flat_from h size d (number + 1) low (Begun fence later) ls) v e in
    begun_more h size d low fence later l ls v (name_spells (may_follow l) fence l
    (unit_is name read.0 (located_ok (fault_at number) name read.0 read.1)))
    (flat_spells ls h size d (number + 1) low (Begun fence later) v tt read.2)
flat_spells (l ∷ ls) h size d number low (Begun fence later) v is e =
    let read = bind_ok (or_syntax number (ended_in l)) (λ ended. flat_from h size d (number + 1) low (Within fence later ended []) ls) v e in
    record {
      ended = read.0;
      following = ls;
      rest = flat_spells ls h size d (number + 1) low (Within fence later read.0 []) v (no_log (formula_of h size (Levels fence)) read.0) read.2;
      lines = λ i. ended_spells l read.0 (read_ok number (ended_in l) read.0 read.1) i ∷ ls;
    }
flat_spells (l ∷ ls) h size d number low (Within fence later ended log) v is e =
    let subproblem = subproblem_in (formula_of h size (Levels fence)) h.conflicts ended log l in
    let read = bind_ok (at_line number subproblem) (Continues h size d number low fence later ended log ls) v e in
    within_by h size d number low fence later ended log l ls v read.0 is (located_ok (fault_at number) subproblem read.0 read.1) read.2
    (λ p o at next. flat_spells ls h size d (number + 1) o p v at next)

-- ---- after the certificate at the head

depth_spells : (number d : ℕ) (l : Line) → depth_at number d l ≡ Ok tt → l ≡ line (depth_line d)
unfolding depth_at depth_line
depth_spells number d l e =
    let read = bind_ok (or_syntax number (number_after (codes "depth ") l)) _ tt e in
    let tests = test_ok (read.0 == d) (Ok tt) (WrongDepth number) tt read.2 in
    number_spelled (codes "depth ") l read.0 (read_ok number (number_after (codes "depth ") l) read.0 read.1) ∙ ap (λ (n : ℕ). line (codes "depth " ++ decimal n)) (eqb-true read.0 d tests.0)

pub found_depth : (o : Option ℕ) (d : ℕ) → levels_of (levels_found o d) ≡ d
found_depth None d = refl
found_depth (Some low) d = refl

unit_ok : (r : Result (Unit {0}) DepthError) (x : Unit {0}) → r ≡ Ok x → r ≡ Ok tt
unit_ok r x e = e

-- the logs and the verdict after the certificate at the head
record ReadFlat (h : Header) (size d : ℕ) (ls : List Line) (v : DepthVerdict) : Type 0 where
  subproblems : List SubproblemLog
  subproblems_are : map subproblem_of subproblems ≡ map Levels (flatter h.spec size d)
  logs : AllByRecursion (IsSubproblemLog h size) subproblems
  verdict : v ≡ levels_found (open_levels subproblems) d
  lines : ls ≡ line (depth_line (levels_of v)) ∷ flat_lines subproblems v

chain_spells : (h : Header) (size d number : ℕ) (ls : List Line) (v : DepthVerdict) → after_chain h size d number ls ≡ Ok v → ReadFlat h size d ls v
unfolding after_chain
chain_spells h size d number [] v e = absurd cc
chain_spells h size d number (l ∷ ls) v e =
    let read = bind_ok (depth_at number d l) (λ stated. flat_from h size d (number + 1) None (Due (flatter h.spec size d)) ls) v e in
    let flat = flat_spells ls h size d (number + 1) None (Due (flatter h.spec size d)) v tt read.2 in
    let levels : d ≡ levels_of v = sym (ap levels_of flat.verdict ∙ found_depth (open_levels flat.subproblems) d) in
    record {
      subproblems = flat.subproblems;
      subproblems_are = flat.subproblems_are;
      logs = flat.logs;
      verdict = flat.verdict;
      lines = λ i. (depth_spells number d l (unit_ok (depth_at number d l) read.0 read.1) ∙ ap (λ (n : ℕ). line (depth_line n)) levels) i ∷ flat.lines i;
    }

record IsLeast (m : Method) (v : Verdict) (chain : Option Chain) (c : Chain) : Type 0 where
  by_fences : m ≡ Fence
  r : ℕ
  minimum : v ≡ certificate_verdicts.Minimum r
  chain_is : chain ≡ Some c

least_is : (m : Method) (v : Verdict) (chain : Option Chain) (c : Chain) → least_of m v chain ≡ Some c → IsLeast m v chain c
least_is Fence (certificate_verdicts.Minimum r) chain c e = record { by_fences = refl; r = r; minimum = refl; chain_is = e }
least_is Fence (certificate_verdicts.NoChain x) chain c e = absurd cc
least_is Fence (certificate_verdicts.Bounded low r) chain c e = absurd cc
least_is Fence (certificate_verdicts.Open low) chain c e = absurd cc
least_is Plain v chain c e = absurd cc
least_is Ssv v chain c e = absurd cc
least_is Select v chain c e = absurd cc
least_is Strong v chain c e = absurd cc
least_is StrongFence v chain c e = absurd cc

counted_by : (h : Header) (count : ℕ) (low : Option ℕ) (c : Chain) (v : Verdict) (r : ℕ) →
    IsTrailer h count low (Some c) v → v ≡ certificate_verdicts.Minimum r →
    v ≡ certificate_verdicts.Minimum (length c.steps)
counted_by h count None c v r trailer is = trailer.1 ∙ ap (λ (n : ℕ). certificate_verdicts.Minimum n) (sym trailer.0.size_is)
counted_by h count (Some low) c v r trailer is = absurd (let e : certificate_verdicts.Bounded low count ≡ certificate_verdicts.Minimum r = sym trailer.1 ∙ is in cc)

depth_by : (b : Certificate) (c : Chain) (rest : List Line) (v : DepthVerdict) → IsValid b →
    IsLeast b.header.method b.verdict b.chain c → ReadFlat b.header (length c.steps) (depth c) rest v →
    (x : DepthCertificate) × IsDepth x × (x.certificate ≡ b) × (x.verdict ≡ v) ×
    (rest ≡ line (depth_line (levels_of x.verdict)) ∷ flat_lines x.subproblems x.verdict)
depth_by b c rest v valid least flat =
    let trailer : IsTrailer b.header (length b.sections) (first_open b.sections) (Some c) b.verdict =
    subst (λ (o : Option Chain). IsTrailer b.header (length b.sections) (first_open b.sections) o b.verdict)
    least.chain_is valid.trailer in (
      record { certificate = b; subproblems = flat.subproblems; verdict = v },
      record {
        valid = valid;
        by_fences = least.by_fences;
        chain = c;
        chain_is = least.chain_is;
        least = counted_by b.header (length b.sections) (first_open b.sections) c b.verdict least.r trailer least.minimum;
        subproblems_are = flat.subproblems_are;
        logs = All-from_recursion (IsSubproblemLog b.header (length c.steps)) flat.subproblems flat.logs;
        verdict_is = flat.verdict;
      },
      refl,
      refl,
      flat.lines,
    )

abbrev Read : Certificate → List Line → DepthVerdict → Type 0
Read b rest v = (x : DepthCertificate) × IsDepth x × (x.certificate ≡ b) × (x.verdict ≡ v) × (rest ≡ line (depth_line (levels_of x.verdict)) ∷ flat_lines x.subproblems x.verdict)

least_spells : (b : Certificate) (o : Option Chain) (number : ℕ) (rest : List Line) (v : DepthVerdict) → IsValid b →
    least_of b.header.method b.verdict b.chain ≡ o → after_least b.header o number rest ≡ Ok v → Read b rest v
least_spells b None number rest v valid is e = absurd cc
least_spells b (Some c) number rest v valid is e = depth_by b c rest v valid (least_is b.header.method b.verdict b.chain c is) (chain_spells b.header (length c.steps) (depth c) number rest v e)

after_spells : (b : Certificate) (number : ℕ) (rest : List Line) (v : DepthVerdict) → IsValid b → after_certificate b number rest ≡ Ok v → Read b rest v
after_spells b number rest v valid e = least_spells b (least_of b.header.method b.verdict b.chain) number rest v valid refl e

-- ---- the whole

text_by : (bytes : List ℕ) (b : Certificate) (v : DepthVerdict) → HasOutput b → lines_of bytes ≡ certificate_lines b ++
    suffix_of (lines_of bytes) → Read b (suffix_of (lines_of bytes)) v → HasDepth bytes v
text_by bytes b v output lines read = record {
  certificate = read.0;
  is_text = record {
    is_depth = read.1;
    output = subst HasOutput (sym read.2) output;
    text = sym (lines_spell bytes) ∙ ap text_of (lines ∙ ap (λ (xs : List Line). certificate_lines b ++ xs) read.4
        ∙ ap (λ (x : Certificate). certificate_lines x ++
        line (depth_line (levels_of read.0.verdict)) ∷ flat_lines read.0.subproblems read.0.verdict) (sym read.2));
  };
  verdict = read.3;
}

judged_by : (bytes : List ℕ) (v : DepthVerdict) (r : Result Verdict CertificateError) → certificate_of (prefix_of (lines_of bytes)) ≡ r → IsJudged (lines_of bytes) (Ok v) → HasDepth bytes v
judged_by bytes v (Err e) is judged = absurd (let no_ : Ok v ≡ Err (InCertificate e) = judged.refused e is in cc)
judged_by bytes v (Ok u) is judged =
    let ls = lines_of bytes in
    let read : ReadCertificate (prefix_of ls) u = lines_read (prefix_of ls) u is in
    let answer = judged.following read.certificate read.valid read.output read.lines in
    text_by bytes read.certificate v read.output (prefix_and_suffix ls ∙ ap (λ (xs : List Line). xs ++ suffix_of ls) read.lines)
    (after_spells read.certificate (length (prefix_of ls) + 1) (suffix_of ls) v read.valid (sym answer))

-- Bytes that are judged to have a verdict are the text of a depth certificate with that verdict.
pub judged_spelled : (bytes : List ℕ) (v : DepthVerdict) → IsJudged (lines_of bytes) (Ok v) → HasDepth bytes v
judged_spelled bytes v judged = judged_by bytes v (certificate_of (prefix_of (lines_of bytes))) refl judged
