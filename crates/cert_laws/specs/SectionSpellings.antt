-- Lines that are accepted as sections spell them.
use Rattle.std.specs.Option.{option_map}
use Rattle.std.proofs.Common.{◌≡◌, ◌⊎◌, ℕ, suc, ◌+◌, ◌≤◌, Bool, true, false, not, cond, List, [], ◌∷◌, ◌++◌, length}
use Rattle.std.proofs.Common.{map, Option, Some, None, Result, Ok, Err, refl, sym, ap, ◌∙◌, subst, arith, inl, inr}
use Rattle.std.proofs.Common.{append_assoc, append-nil, ◌||◌}
use Rattle.std.specs.Prelude.{codes}
use Rattle.std.specs.List.{flat_map, list_any, find, AllByRecursion}
use Rattle.std.proofs.Math.Logic.{⊎_elim}
use Rattle.std.proofs.lemmas.List.Elements.{All-from_recursion}
use Rattle.text_core.specs.Lines.{Line}
use Rattle.chain_theory.specs.Chain.{Chain}
use Rattle.sat_theory.specs.Formula.{Formula}
use Rattle.sat_theory.specs.Line as theory
use Rattle.chain_core.specs.Spelling.{line}
use Rattle.enc_theory.specs.declared.subproblem.Subproblem.{Subproblem}
use Rattle.enc_theory.specs.declared.subproblem.Subproblem.TheVariants.{Whole, Levels}
use Rattle.cert_theory.specs.declared.data.Header.{Header}
use Rattle.cert_theory.specs.declared.data.LogEnd.{LogEnd}
use Rattle.cert_theory.specs.declared.data.LogEnd.TheVariants as ends
use Rattle.cert_theory.specs.declared.data.Verdict.{Verdict}
use Rattle.cert_theory.specs.declared.data.CertificateError.{CertificateError}
use Rattle.cert_theory.specs.declared.data.SubproblemError.{SubproblemError}
use Rattle.cert_theory.specs.declared.data.SubproblemError.TheVariants.{NotRefuted, Syntax}
use Rattle.cert_theory.specs.Certificate.{Section, IsSubproblemLog, EndsAs, AreSections, first_open, IsTrailer, SubproblemLog, subproblem_of, subproblems_of, formula_of, is_open_end, is_open, size_of, due_after, tried}
use Rattle.cert_theory.specs.Spelling.{size_line, ended_text, done_text, log_line, name_lines, subproblem_lines, section_lines, trailer_lines, fence_text}
use Rattle.cert_theory.specs.Gives.{◌>>=◌}
use Rattle.cert_theory.specs.SubproblemLines.{is_line, logged_in, done_in, name_in, ended_in, subproblem_in}
use Rattle.cert_theory.specs.Judging.{begins, SectionState, Between, Begun, Within, Progress, low_with, size_at}
use Rattle.cert_theory.specs.Judging.{section_at, trailer_at, sections_of, Due, before, may_follow, or_syntax, fault_at}
use Rattle.cert_theory.specs.Judging.{at_line, after_line}
use Rattle.cert_theory.specs.GivesLaws.{bind_ok, read_ok, located_ok}
use Rattle.cert_laws.specs.LineSpellings.{chosen, is_line_spells, size_spells, ended_spells}
use Rattle.cert_laws.specs.TrailerSpellings.{IsEnded, trailer_spells}
use Rattle.cert_laws.specs.LogSpellings.{IsLog, no_log, fine, closed_is, taken, logged_is}

-- ---- the lines from a state on

abbrev pub low_or : Option ℕ → Option ℕ → Option ℕ
low_or None o = o
low_or (Some low) o = Some low

-- the first open size, with the subproblems of one more size
unfoldable pub low_after : Option ℕ → ℕ → List SubproblemLog → Option ℕ
low_after low size [] = low
low_after low size (p ∷ ps) = low_after (low_with low p.ended size) size ps

-- sections of the sizes from one on, and the trailer
pub record Rest (h : Header) (size : ℕ) (low : Option ℕ) (ls : List Line) (v : Verdict) : Type 0 where
  pub sections : List Section
  pub chain : Option Chain
  pub are : AreSections h size sections
  pub sizes_to : size + length sections ≤ h.max + 1
  pub trailer : IsTrailer h (size + length sections) (low_or low (first_open sections)) chain v
  pub lines : ls ≡ flat_map section_lines sections ++ trailer_lines chain v

-- the logs of the remaining subproblems, and the lines after the section
pub record SubproblemsRest (h : Header) (size : ℕ) (low : Option ℕ) (due : List Subproblem) (ls : List Line) (v : Verdict) : Type 0 where
  pub subproblems : List SubproblemLog
  pub subproblems_are : map subproblem_of subproblems ≡ tried h.method due subproblems
  pub logs : AllByRecursion (IsSubproblemLog h size) subproblems
  pub following : List Line
  pub rest : Rest h (size + 1) (low_after low size subproblems) following v
  pub lines : ls ≡ flat_map subproblem_lines subproblems ++ following

pub record LogRest (h : Header) (size : ℕ) (low : Option ℕ) (subproblem : Subproblem) (later : List Subproblem) (ended : LogEnd) (log : List theory.Line) (ls : List Line) (v : Verdict) : Type 0 where
  pub more : List theory.Line
  pub ends_as : EndsAs (formula_of h size subproblem) h.conflicts ended (log ++ more)
  pub following : List Line
  pub rest : SubproblemsRest h size (low_with low ended size) later following v
  pub lines : ls ≡ map log_line more ++ line done_text ∷ following

pub record BegunRest (h : Header) (size : ℕ) (low : Option ℕ) (subproblem : Subproblem) (later : List Subproblem) (ls : List Line) (v : Verdict) : Type 0 where
  pub ended : LogEnd
  pub following : List Line
  pub rest : LogRest h size low subproblem (due_after h.method ended later) ended [] following v
  pub lines : ls ≡ line (ended_text ended) ∷ following

pub record DueRest (h : Header) (size : ℕ) (low : Option ℕ) (sizes : List ℕ) (later : List Subproblem) (ls : List Line) (v : Verdict) : Type 0 where
  pub following : List Line
  pub rest : BegunRest h size low (Levels sizes) later following v
  pub lines : ls ≡ line (fence_text sizes) ∷ following

abbrev pub RestAt : Header → ℕ → Option ℕ → SectionState → List Line → Verdict → Type 0
RestAt h size low Between ls v = Rest h size low ls v
RestAt h size low (Due sizes later) ls v = DueRest h size low sizes later ls v
RestAt h size low (Begun subproblem later) ls v = BegunRest h size low subproblem later ls v
RestAt h size low (Within subproblem later ended log) ls v = LogRest h size low subproblem later ended log ls v

abbrev pub IsAt : Header → ℕ → SectionState → Type 0
IsAt h size Between = size ≤ h.max + 1
IsAt h size (Due sizes later) = size ≤ h.max
IsAt h size (Begun subproblem later) = size ≤ h.max
IsAt h size (Within subproblem later ended log) = (size ≤ h.max) × IsLog (formula_of h size subproblem) ended log

-- no more section
pub low_same : (low : Option ℕ) → low ≡ low_or low None
low_same None = refl
low_same (Some low) = refl

ended_rest : (h : Header) (size : ℕ) (low : Option ℕ) (ls : List Line) (v : Verdict) → size ≤ h.max + 1 → IsEnded h size low ls v → Rest h size low ls v
unfolding AreSections
ended_rest h size low ls v few ended =
    let same : size ≡ size + 0 = omega arith in
    record {
      sections = [];
      chain = ended.chain;
      are = tt;
      sizes_to = omega arith;
      trailer = subst (λ (o : Option ℕ). IsTrailer h (size + 0) o ended.chain v) (low_same low) (subst (λ (n : ℕ). IsTrailer h n low ended.chain v) same ended.trailer);
      lines = ended.lines;
    }

-- ---- one more section at the head

abbrev pub any_open : List SubproblemLog → Bool
any_open ps = list_any (λ p. is_open_end p.ended) ps

low_some : (low size : ℕ) (ps : List SubproblemLog) → low_after (Some low) size ps ≡ Some low
unfolding low_after
low_some low size [] = refl
low_some low size (p ∷ ps) = low_some low size ps

-- the first open size with a section's subproblems, and those of the sections after it
low_first : (ended : LogEnd) (size : ℕ) (ps : List SubproblemLog) (o : Option ℕ) →
    low_or (low_after None size ps) o ≡ cond (any_open ps) (Some size) o →
    low_or (low_after (low_with None ended size) size ps) o ≡ cond (is_open_end ended || any_open ps) (Some size) o
low_first ends.Refuted size ps o rest = rest
low_first ends.Open size ps o rest = ap (λ (q : Option ℕ). low_or q o) (low_some size size ps)

low_subproblems : (size : ℕ) (ps : List SubproblemLog) (o : Option ℕ) → low_or (low_after None size ps) o ≡ cond (any_open ps) (Some size) o
unfolding low_after
low_subproblems size [] o = refl
low_subproblems size (p ∷ ps) o = low_first p.ended size ps o (low_subproblems size ps o)

first_is : (b : Bool) (s : Section) (o : Option Section) → option_map size_of (cond b (Some s) o) ≡ cond b (Some s.size) (option_map size_of o)
first_is true s o = refl
first_is false s o = refl

pub low_more : (low : Option ℕ) (size : ℕ) (ps : List SubproblemLog) (ss : List Section) →
    low_or (low_after low size ps) (first_open ss) ≡
    low_or low (first_open (record { size = size; subproblems = ps } ∷ ss))
low_more (Some low) size ps ss = ap (λ (o : Option ℕ). low_or o (first_open ss)) (low_some low size ps)
low_more None size ps ss = low_subproblems size ps (first_open ss) ∙ sym (first_is (any_open ps) (record { size = size; subproblems = ps }) (find is_open ss))

size_rest : (h : Header) (size : ℕ) (low : Option ℕ) (l : Line) (ls : List Line) (v : Verdict) →
    l ≡ line (size_line size) → SubproblemsRest h size low (subproblems_of h size) ls v → Rest h size low (l ∷ ls) v
unfolding AreSections section_lines
size_rest h size low l ls v first subproblems =
    let rest = subproblems.rest in
    let s : Section = record { size = size; subproblems = subproblems.subproblems } in
    let count : size + 1 + length rest.sections ≡ size + suc (length rest.sections) = omega arith in
    record {
      sections = s ∷ rest.sections;
      chain = rest.chain;
      are = (record { size_is = refl; subproblems_are = subproblems.subproblems_are; logs = All-from_recursion (IsSubproblemLog h size) subproblems.subproblems subproblems.logs }, rest.are);
      sizes_to = omega (arith, rest.sizes_to);
      trailer =
          subst (λ (o : Option ℕ). IsTrailer h (size + suc (length rest.sections)) o rest.chain v) (low_more low size subproblems.subproblems rest.sections)
          (subst (λ (n : ℕ). IsTrailer h n (low_or (low_after low size subproblems.subproblems) (first_open rest.sections)) rest.chain v) count rest.trailer);
      lines =
          (λ i. first i ∷ (subproblems.lines ∙ ap (λ (xs : List Line). flat_map subproblem_lines subproblems.subproblems ++ xs) rest.lines) i)
          ∙ sym (append_assoc (section_lines s) (flat_map section_lines rest.sections) (trailer_lines rest.chain v));
    }

-- ---- subproblems

-- the lines of a subproblem, and those after it
pub subproblem_text : (subproblem : Subproblem) (ended : LogEnd) (log : List theory.Line) (following : List Line) →
    subproblem_lines (record { subproblem = subproblem; ended = ended; log = log }) ++
    following ≡ name_lines subproblem ++ (line (ended_text ended) ∷ (map log_line log ++ line done_text ∷ following))
unfolding subproblem_lines
subproblem_text subproblem ended log following =
    append_assoc (name_lines subproblem) (line (ended_text ended) ∷ (map log_line log ++ line done_text ∷ [])) following
    ∙ ap (λ (xs : List Line). name_lines subproblem ++ (line (ended_text ended) ∷ xs)) (append_assoc (map log_line log) (line done_text ∷ []) following)

begun_subproblems : (h : Header) (size : ℕ) (low : Option ℕ) (subproblem : Subproblem) (later : List Subproblem)
    (ls all : List Line) (v : Verdict) → all ≡ name_lines subproblem ++ ls →
    BegunRest h size low subproblem later ls v → SubproblemsRest h size low (subproblem ∷ later) all v
unfolding low_after tried
begun_subproblems h size low subproblem later ls all v first begun =
    let log = begun.rest in
    let subproblems = log.rest in
    let p : SubproblemLog = record { subproblem = subproblem; ended = begun.ended; log = log.more } in
    record {
      subproblems = p ∷ subproblems.subproblems;
      subproblems_are = ap (λ (ps : List Subproblem). subproblem ∷ ps) subproblems.subproblems_are;
      logs = (log.ends_as, subproblems.logs);
      following = subproblems.following;
      rest = subproblems.rest;
      lines =
          first
          ∙ ap (λ (xs : List Line). name_lines subproblem ++ xs) (begun.lines
          ∙ ap (λ (xs : List Line). line (ended_text begun.ended) ∷ xs) (log.lines
          ∙ ap (λ (xs : List Line). map log_line log.more ++ line done_text ∷ xs) subproblems.lines))
          ∙ sym (subproblem_text subproblem begun.ended log.more (flat_map subproblem_lines subproblems.subproblems ++ subproblems.following))
          ∙ sym (append_assoc (subproblem_lines p) (flat_map subproblem_lines subproblems.subproblems) subproblems.following);
    }

pub at_before : (h : Header) (size : ℕ) (low : Option ℕ) (due : List Subproblem) → size ≤ h.max → IsAt h (before size low due).size (before size low due).place
unfolding before
at_before h size low [] few = omega arith
at_before h size low (Whole ∷ later) few = few
at_before h size low (Levels sizes ∷ later) few = few

before_rest : (h : Header) (size : ℕ) (low : Option ℕ) (due : List Subproblem) (ls : List Line) (v : Verdict) →
    RestAt h (before size low due).size (before size low due).low (before size low due).place ls v →
    SubproblemsRest h size low due ls v
unfolding before low_after name_lines tried
before_rest h size low [] ls v rest = record { subproblems = []; subproblems_are = refl; logs = tt; following = ls; rest = rest; lines = refl }
before_rest h size low (Whole ∷ later) ls v rest = begun_subproblems h size low Whole later ls ls v refl rest
before_rest h size low (Levels sizes ∷ later) ls v rest = begun_subproblems h size low (Levels sizes) later rest.following ls v rest.lines rest.rest

-- ---- one line after the other

abbrev pub progress : ℕ → Option ℕ → SectionState → Progress
progress size low place = record { size = size; low = low; place = place }

abbrev go_on : Header → ℕ → List Line → Progress → Result Verdict CertificateError
go_on h number ls next = sections_of h (number + 1) next ls

abbrev come : Progress → Result Progress CertificateError
come p = Ok p

progress_is : (p q : Progress) → come p ≡ Ok q → p ≡ q
progress_is p q e = cc

pub unit_is : {E : Type 0} (r : Result (Unit {0}) E) (x : Unit {0}) → r ≡ Ok x → r ≡ Ok tt
unit_is r x e = e

-- between two sections
record BetweenCases (h : Header) (number size : ℕ) (low : Option ℕ) (l : Line) (ls : List Line) (v : Verdict) : Type 0 where
  cases : (trailer_at h number size low l ls ≡ Ok v) ⊎ ((size_at h number size l ≡ Ok tt) × (sections_of h (number + 1) (before size low (subproblems_of h size)) ls ≡ Ok v))

between_cases : (h : Header) (number size : ℕ) (low : Option ℕ) (l : Line) (ls : List Line) (v : Verdict) →
    sections_of h number (progress size low Between) (l ∷ ls) ≡ Ok v → BetweenCases h number size low l ls v
unfolding sections_of
between_cases h number size low l ls v e = record {
  cases =
      ⊎_elim
      (λ (yes_ : (not (begins (codes "size ") l) ≡ true) × (trailer_at h number size low l ls ≡ Ok v)). inl yes_.1)
      (λ (no_ : (not (begins (codes "size ") l) ≡ false) × ((section_at h number size low Between l >>= go_on h number ls) ≡ Ok v)).
      let next = bind_ok (section_at h number size low Between l) (go_on h number ls) v no_.1 in
      let begun = bind_ok (size_at h number size l) (λ begun. Ok (before size low (subproblems_of h size))) next.0 next.1 in
      let same : before size low (subproblems_of h size) ≡ next.0 = progress_is (before size low (subproblems_of h size)) next.0 begun.2 in
      inr (unit_is (size_at h number size l) begun.0 begun.1, ap (go_on h number ls) same ∙ next.2))
      (chosen (not (begins (codes "size ") l)) (trailer_at h number size low l ls) (section_at h number size low Between l >>= go_on h number ls) (Ok v) e);
}

record DueCase (h : Header) (number size : ℕ) (low : Option ℕ) (sizes : List ℕ) (later : List Subproblem) (l : Line) (ls : List Line) (v : Verdict) : Type 0 where
  text : l ≡ line (fence_text sizes)
  next : sections_of h (number + 1) (progress size low (Begun (Levels sizes) later)) ls ≡ Ok v

pub name_spells : (follows : Bool) (sizes : List ℕ) (l : Line) → name_in follows sizes l ≡ Ok tt → l ≡ line (fence_text sizes)
unfolding name_in
name_spells follows sizes l e =
    ⊎_elim
    (λ (yes_ : (is_line (fence_text sizes) l ≡ true) × (fine ≡ Ok tt)). is_line_spells (fence_text sizes) l yes_.0)
    (λ (no_ : (is_line (fence_text sizes) l ≡ false) × (cond follows (Err NotRefuted) (Err Syntax) ≡ Ok tt)). absurd (none follows no_.1))
    (chosen (is_line (fence_text sizes) l) fine (cond follows (Err NotRefuted) (Err Syntax)) (Ok tt) e)
  where
    none : (b : Bool) → cond b (Err NotRefuted) (Err Syntax) ≡ fine → ⊥
    none true e = cc
    none false e = cc

due_case : (h : Header) (number size : ℕ) (low : Option ℕ) (sizes : List ℕ) (later : List Subproblem) (l : Line)
    (ls : List Line) (v : Verdict) → sections_of h number (progress size low (Due sizes later)) (l ∷ ls) ≡ Ok v →
    DueCase h number size low sizes later l ls v
unfolding sections_of
due_case h number size low sizes later l ls v e =
    let next = bind_ok (section_at h number size low (Due sizes later) l) (go_on h number ls) v e in
    let name = name_in (may_follow l) sizes l in
    let read = bind_ok (at_line number name) (λ is_named. come (progress size low (Begun (Levels sizes) later))) next.0 next.1 in
    let same : progress size low (Begun (Levels sizes) later) ≡ next.0 = progress_is _ next.0 read.2 in
    record { text = name_spells (may_follow l) sizes l (unit_is name read.0 (located_ok (fault_at number) name read.0 read.1)); next = ap (go_on h number ls) same ∙ next.2 }

record BegunCase (h : Header) (number size : ℕ) (low : Option ℕ) (subproblem : Subproblem) (later : List Subproblem) (l : Line) (ls : List Line) (v : Verdict) : Type 0 where
  ended : LogEnd
  read : ended_in l ≡ Some ended
  next : sections_of h (number + 1) (progress size low (Within subproblem (due_after h.method ended later) ended [])) ls ≡ Ok v

begun_case : (h : Header) (number size : ℕ) (low : Option ℕ) (subproblem : Subproblem) (later : List Subproblem)
    (l : Line) (ls : List Line) (v : Verdict) → sections_of h number (progress size low (Begun subproblem later))
    (l ∷ ls) ≡ Ok v → BegunCase h number size low subproblem later l ls v
unfolding sections_of
begun_case h number size low subproblem later l ls v e =
    let next = bind_ok (section_at h number size low (Begun subproblem later) l) (go_on h number ls) v e in
    let read = bind_ok (or_syntax number (ended_in l)) (λ ended. Ok (progress size low (Within subproblem (due_after h.method ended later) ended []))) next.0 next.1 in
    let begun = progress size low (Within subproblem (due_after h.method read.0 later) read.0 []) in
    let same : begun ≡ next.0 = progress_is begun next.0 read.2 in
    record { ended = read.0; read = read_ok number (ended_in l) read.0 read.1; next = ap (go_on h number ls) same ∙ next.2 }

record DoneCase (h : Header) (number size : ℕ) (low : Option ℕ) (subproblem : Subproblem) (later : List Subproblem)
    (ended : LogEnd) (log : List theory.Line) (l : Line) (ls : List Line) (v : Verdict) : Type 0 where
  is_done : is_line (codes "done") l ≡ true
  closes : done_in (formula_of h size subproblem) h.conflicts ended log ≡ Ok tt
  next : sections_of h (number + 1) (before size (low_with low ended size) later) ls ≡ Ok v

record LoggedCase (h : Header) (number size : ℕ) (low : Option ℕ) (subproblem : Subproblem) (later : List Subproblem)
    (ended : LogEnd) (log : List theory.Line) (l : Line) (ls : List Line) (v : Verdict) : Type 0 where
  x : theory.Line
  read : logged_in (formula_of h size subproblem) ended log l ≡ Ok x
  next : sections_of h (number + 1) (progress size low (Within subproblem later ended (log ++ x ∷ []))) ls ≡ Ok v

abbrev stop : Unit {0} → Result (Option theory.Line) SubproblemError
stop done = Ok None

abbrev one_more : theory.Line → Result (Option theory.Line) SubproblemError
one_more line = Ok (Some line)

-- a line is either of the two
pub subproblem_done : (f : Formula) (conflicts : ℕ) (ended : LogEnd) (log : List theory.Line) (l : Line) →
    subproblem_in f conflicts ended log l ≡ Ok None → (is_line (codes "done") l ≡ true) ×
    (done_in f conflicts ended log ≡ Ok tt)
unfolding subproblem_in
subproblem_done f conflicts ended log l e =
    ⊎_elim
    (λ (yes_ : (is_line (codes "done") l ≡ true) × ((done_in f conflicts ended log >>= stop) ≡ Ok None)).
    let closes = bind_ok (done_in f conflicts ended log) stop None yes_.1 in
    (yes_.0, unit_is (done_in f conflicts ended log) closes.0 closes.1))
    (λ (no_ : (is_line (codes "done") l ≡ false) × ((logged_in f ended log l >>= one_more) ≡ Ok None)).
    let read = bind_ok (logged_in f ended log l) one_more None no_.1 in
    absurd (let more = read.2 in cc))
    (chosen (is_line (codes "done") l) (done_in f conflicts ended log >>= stop) (logged_in f ended log l >>= one_more) (Ok None) e)

pub subproblem_logged : (f : Formula) (conflicts : ℕ) (ended : LogEnd) (log : List theory.Line) (l : Line)
    (x : theory.Line) → subproblem_in f conflicts ended log l ≡ Ok (Some x) → logged_in f ended log l ≡ Ok x
unfolding subproblem_in
subproblem_logged f conflicts ended log l x e =
    ⊎_elim
    (λ (yes_ : (is_line (codes "done") l ≡ true) × ((done_in f conflicts ended log >>= stop) ≡ Ok (Some x))).
    let closes = bind_ok (done_in f conflicts ended log) stop (Some x) yes_.1 in
    absurd (let none = closes.2 in cc))
    (λ (no_ : (is_line (codes "done") l ≡ false) × ((logged_in f ended log l >>= one_more) ≡ Ok (Some x))).
    let read = bind_ok (logged_in f ended log l) one_more (Some x) no_.1 in
    read.1 ∙ ap taken (one_is read.0 x read.2))
    (chosen (is_line (codes "done") l) (done_in f conflicts ended log >>= stop) (logged_in f ended log l >>= one_more) (Ok (Some x)) e)
  where
    one_is : (y z : theory.Line) → one_more y ≡ Ok (Some z) → y ≡ z
    one_is y z e = cc

within_step : (h : Header) (number size : ℕ) (low : Option ℕ) (subproblem : Subproblem) (later : List Subproblem)
    (ended : LogEnd) (log : List theory.Line) (l : Line) (ls : List Line) (v : Verdict) (step : Option theory.Line)
    → subproblem_in (formula_of h size subproblem) h.conflicts ended log l ≡ Ok step →
    sections_of h (number + 1) (after_line size low subproblem later ended log step) ls ≡ Ok v →
    DoneCase h number size low subproblem later ended log l ls v ⊎
    LoggedCase h number size low subproblem later ended log l ls v
within_step h number size low subproblem later ended log l ls v None e next =
    let done = subproblem_done (formula_of h size subproblem) h.conflicts ended log l e in
    inl (record { is_done = done.0; closes = done.1; next = next })
within_step h number size low subproblem later ended log l ls v (Some x) e next =
    inr (record {
      x = x;
      read = subproblem_logged (formula_of h size subproblem) h.conflicts ended log l x e;
      next = next;
    })

within_cases : (h : Header) (number size : ℕ) (low : Option ℕ) (subproblem : Subproblem) (later : List Subproblem)
    (ended : LogEnd) (log : List theory.Line) (l : Line) (ls : List Line) (v : Verdict) →
    sections_of h number (progress size low (Within subproblem later ended log)) (l ∷ ls) ≡ Ok v →
    DoneCase h number size low subproblem later ended log l ls v ⊎
    LoggedCase h number size low subproblem later ended log l ls v
unfolding sections_of
within_cases h number size low subproblem later ended log l ls v e =
    let read = subproblem_in (formula_of h size subproblem) h.conflicts ended log l in
    let next = bind_ok (section_at h number size low (Within subproblem later ended log) l) (go_on h number ls) v e in
    let step = bind_ok (at_line number read) (λ step. come (after_line size low subproblem later ended log step)) next.0 next.1 in
    let same : after_line size low subproblem later ended log step.0 ≡ next.0 = progress_is _ next.0 step.2 in
    within_step h number size low subproblem later ended log l ls v step.0 (located_ok (fault_at number) read step.0 step.1) (ap (go_on h number ls) same ∙ next.2)

done_rest : (h : Header) (number size : ℕ) (low : Option ℕ) (subproblem : Subproblem) (later : List Subproblem)
    (ended : LogEnd) (log : List theory.Line) (l : Line) (ls : List Line) (v : Verdict) →
    IsLog (formula_of h size subproblem) ended log → DoneCase h number size low subproblem later ended log l ls v →
    SubproblemsRest h size (low_with low ended size) later ls v →
    LogRest h size low subproblem later ended log (l ∷ ls) v
done_rest h number size low subproblem later ended log l ls v is done rest = record {
  more = [];
  ends_as = subst (λ (xs : List theory.Line). EndsAs (formula_of h size subproblem) h.conflicts ended xs)
      (sym (append-nil log)) (closed_is (formula_of h size subproblem) h.conflicts ended log is done.closes);
  following = ls;
  rest = rest;
  lines = λ i. is_line_spells (codes "done") l done.is_done i ∷ ls;
}

logged_rest : (h : Header) (size : ℕ) (low : Option ℕ) (subproblem : Subproblem) (later : List Subproblem)
    (ended : LogEnd) (log : List theory.Line) (x : theory.Line) (l : Line) (ls : List Line) (v : Verdict) →
    l ≡ log_line x → LogRest h size low subproblem later ended (log ++ x ∷ []) ls v →
    LogRest h size low subproblem later ended log (l ∷ ls) v
logged_rest h size low subproblem later ended log x l ls v first rest = record {
  more = x ∷ rest.more;
  ends_as = subst (λ (xs : List theory.Line). EndsAs (formula_of h size subproblem) h.conflicts ended xs) (append_assoc log (x ∷ []) rest.more) rest.ends_as;
  following = rest.following;
  rest = rest.rest;
  lines = λ i. first i ∷ rest.lines i;
}

pub sections_spell : (ls : List Line) (h : Header) (number size : ℕ) (low : Option ℕ) (place : SectionState)
    (v : Verdict) → IsAt h size place → sections_of h number (progress size low place) ls ≡ Ok v →
    RestAt h size low place ls v
unfolding sections_of
sections_spell [] h number size low Between v is e = absurd cc
sections_spell [] h number size low (Due sizes later) v is e = absurd cc
sections_spell [] h number size low (Begun subproblem later) v is e = absurd cc
sections_spell [] h number size low (Within subproblem later ended log) v is e = absurd cc
sections_spell (l ∷ ls) h number size low Between v is e =
    let between = between_cases h number size low l ls v e in
    ⊎_elim
    (λ (trailer : trailer_at h number size low l ls ≡ Ok v). ended_rest h size low (l ∷ ls) v is (trailer_spells h number size low l ls v trailer))
    (λ (begun : (size_at h number size l ≡ Ok tt) × (sections_of h (number + 1) (before size low (subproblems_of h size)) ls ≡ Ok v)).
    let first = size_spells h number size l begun.0 in
    let next = before size low (subproblems_of h size) in
    size_rest h size low l ls v first.0 (before_rest h size low (subproblems_of h size) ls v
    (sections_spell ls h (number + 1) next.size next.low next.place v
    (at_before h size low (subproblems_of h size) first.1) begun.1)))
    between.cases
sections_spell (l ∷ ls) h number size low (Due sizes later) v is e =
    let due = due_case h number size low sizes later l ls v e in
    record {
      following = ls;
      rest = sections_spell ls h (number + 1) size low (Begun (Levels sizes) later) v is due.next;
      lines = λ i. due.text i ∷ ls;
    }
sections_spell (l ∷ ls) h number size low (Begun subproblem later) v is e =
    let begun = begun_case h number size low subproblem later l ls v e in
    record {
      ended = begun.ended;
      following = ls;
      rest = sections_spell ls h (number + 1) size low (Within subproblem (due_after h.method begun.ended later) begun.ended []) v (is, no_log (formula_of h size subproblem) begun.ended) begun.next;
      lines = λ i. ended_spells l begun.ended begun.read i ∷ ls;
    }
sections_spell (l ∷ ls) h number size low (Within subproblem later ended log) v is e =
    ⊎_elim
    (λ (done : DoneCase h number size low subproblem later ended log l ls v).
    let next = before size (low_with low ended size) later in
    done_rest h number size low subproblem later ended log l ls v is.1 done
    (before_rest h size (low_with low ended size) later ls v
    (sections_spell ls h (number + 1) next.size next.low next.place v
    (at_before h size (low_with low ended size) later is.0) done.next)))
    (λ (logged : LoggedCase h number size low subproblem later ended log l ls v).
    let more = logged_is (formula_of h size subproblem) ended log l logged.x is.1 logged.read in
    logged_rest h size low subproblem later ended log logged.x l ls v more.line_is
    (sections_spell ls h (number + 1) size low (Within subproblem later ended (log ++ logged.x ∷ [])) v
    (is.0, more.log_is) logged.next))
    (within_cases h number size low subproblem later ended log l ls v e)
