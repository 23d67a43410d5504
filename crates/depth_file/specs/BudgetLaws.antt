-- If the verdict of a depth certificate is bounded, the log of a fence with the lower number of levels is spent.
use Rattle.std.proofs.Common.{◌≡◌, ℕ, Bool, true, false, cond, List, [], ◌∷◌, ◌++◌, length, map, Contains, Option, Some, None, refl, sym, ap, ◌∙◌, subst, append_assoc}
use Rattle.std.specs.List.{flat_map, find, AllByRecursion}
use Rattle.std.specs.Option.{option_map}
use Rattle.std.proofs.lemmas.Grind.{flat_map-append}
use Rattle.std.proofs.lemmas.List.Elements.{recursion_from_All}
use Rattle.clause_core.specs.Holds.{contains_head, contains_tail}
use Rattle.text_core.specs.Lines.{Line, line_bytes}
use Rattle.sat_theory.specs.Line as theory
use Rattle.sat_theory.specs.Log.{ReachesBudget}
use Rattle.chain_core.specs.Spelling.{line}
use Rattle.chain_theory.specs.Levels.{depth}
use Rattle.enc_theory.specs.declared.subproblem.Subproblem.{Subproblem}
use Rattle.enc_theory.specs.declared.subproblem.Subproblem.TheVariants.{Levels}
use Rattle.cert_theory.specs.declared.data.LogEnd.{LogEnd}
use Rattle.cert_theory.specs.declared.data.LogEnd.TheVariants.{Refuted, Open}
use Rattle.cert_theory.specs.declared.data.Header.{Header}
use Rattle.cert_theory.specs.Certificate.{SubproblemLog, IsSubproblemLog, EndsAs, subproblem_of, is_open_end, formula_of}
use Rattle.cert_theory.specs.Spelling.{subproblem_lines, end_text, certificate_lines, text_of}
use Rattle.depth_theory.specs.declared.data.DepthVerdict.TheVariants as verdicts
use Rattle.depth_theory.specs.Flatter.{fences_for, flatter}
use Rattle.depth_theory.specs.FlatterLaws.{flatter_is}
use Rattle.depth_theory.specs.DepthCertificate.{DepthCertificate, subproblem_levels, open_levels, levels_found}
use Rattle.depth_theory.specs.DepthSpelling.{levels_of, depth_line, levels_line, IsDepthText}
use Rattle.depth_file.specs.BudgetReached.{IsLeftOpen}

-- ---- the first open log

record HasOpen (logs : List SubproblemLog) (low : ℕ) : Type 0 where
  prefix : List SubproblemLog
  log : SubproblemLog
  later : List SubproblemLog
  logs_are : logs ≡ prefix ++ log ∷ later
  is_open : is_open_end log.ended ≡ true
  levels : subproblem_levels log.subproblem ≡ low

some_low : (m n : ℕ) → Some m ≡ Some n → m ≡ n
some_low m n e = cc

open_by : (p : SubproblemLog) (ps : List SubproblemLog) (low : ℕ) (t : Bool) → is_open_end p.ended ≡ t →
    open_levels (p ∷ ps) ≡ Some low → (open_levels ps ≡ Some low → HasOpen ps low) → HasOpen (p ∷ ps) low
open_by p ps low true is found later =
    let first : open_levels (p ∷ ps) ≡ Some (subproblem_levels p.subproblem) =
    ap (λ (t : Bool). option_map (λ (q : SubproblemLog). subproblem_levels q.subproblem)
    (cond t (Some p) (find (λ (q : SubproblemLog). is_open_end q.ended) ps))) is in
    record { prefix = []; log = p; later = ps; logs_are = refl; is_open = is; levels = some_low (subproblem_levels p.subproblem) low (sym first ∙ found) }
open_by p ps low false is found later =
    let first : open_levels (p ∷ ps) ≡ open_levels ps =
    ap (λ (t : Bool). option_map (λ (q : SubproblemLog). subproblem_levels q.subproblem)
    (cond t (Some p) (find (λ (q : SubproblemLog). is_open_end q.ended) ps))) is in
    let more = later (sym first ∙ found) in
    record { prefix = p ∷ more.prefix; log = more.log; later = more.later; logs_are = ap (λ (qs : List SubproblemLog). p ∷ qs) more.logs_are; is_open = more.is_open; levels = more.levels }

first_open : (ps : List SubproblemLog) (low : ℕ) → open_levels ps ≡ Some low → HasOpen ps low
first_open [] low found = absurd (let e : None ≡ Some low = found in cc)
first_open (p ∷ ps) low found = open_by p ps low (is_open_end p.ended) refl found (first_open ps low)

-- ---- it is that of a fence

record IsFenceOf (fences : List (List ℕ)) (subproblem : Subproblem) : Type 0 where
  fence : List ℕ
  subproblem_is : subproblem ≡ Levels fence
  among : Contains fences fence

head_subproblem : (p q : Subproblem) (xs ys : List Subproblem) → p ∷ xs ≡ q ∷ ys → p ≡ q
head_subproblem p q xs ys e = cc

tail_subproblems : (p q : Subproblem) (xs ys : List Subproblem) → p ∷ xs ≡ q ∷ ys → xs ≡ ys
tail_subproblems p q xs ys e = cc

fence_at : (fences : List (List ℕ)) (prefix later : List SubproblemLog) (log : SubproblemLog) → map subproblem_of (prefix ++ log ∷ later) ≡ map Levels fences → IsFenceOf fences log.subproblem
fence_at [] [] later log same = absurd cc
fence_at [] (p ∷ prefix) later log same = absurd cc
fence_at (f ∷ fs) [] later log same =
    record { fence = f; subproblem_is = head_subproblem log.subproblem (Levels f) (map subproblem_of later) (map Levels fs) same; among = contains_head f fs }
fence_at (f ∷ fs) (p ∷ prefix) later log same =
    let more = fence_at fs prefix later log (tail_subproblems p.subproblem (Levels f) (map subproblem_of (prefix ++ log ∷ later)) (map Levels fs) same) in
    record { fence = more.fence; subproblem_is = more.subproblem_is; among = contains_tail f more.fence fs more.among }

-- ---- its budget is spent

log_at : (h : Header) (size : ℕ) (prefix later : List SubproblemLog) (log : SubproblemLog) → AllByRecursion (IsSubproblemLog h size) (prefix ++ log ∷ later) → IsSubproblemLog h size log
log_at h size [] later log each = each.0
log_at h size (p ∷ prefix) later log each = log_at h size prefix later log each.1

open_end : (e : LogEnd) → is_open_end e ≡ true → e ≡ Open
open_end Refuted is = absurd cc
open_end Open is = refl

ends_open : (h : Header) (size : ℕ) (subproblem : Subproblem) (ended : LogEnd) (log : List theory.Line) → ended ≡ Open →
    EndsAs (formula_of h size subproblem) h.conflicts ended log →
    ReachesBudget (formula_of h size subproblem) log h.conflicts
ends_open h size subproblem ended log is_open ends = subst (λ (e : LogEnd). EndsAs (formula_of h size subproblem) h.conflicts e log) is_open ends

spent_by : (h : Header) (size : ℕ) (log : SubproblemLog) (subproblem : Subproblem) → log.ended ≡ Open →
    log.subproblem ≡ subproblem → IsSubproblemLog h size log →
    ReachesBudget (formula_of h size subproblem) log.log h.conflicts
spent_by h size log subproblem is_open same is =
    subst (λ (p : Subproblem). ReachesBudget (formula_of h size p) log.log h.conflicts) same (ends_open h size log.subproblem log.ended log.log is_open is)

-- ---- where it stands

stands_in : (prefix later : List Line) (first last : List Line) (bytes : List ℕ) →
    bytes ≡ text_of (prefix ++ ((first ++ later) ++ last)) → bytes ≡ text_of prefix ++
    (text_of first ++ (text_of later ++ text_of last))
stands_in prefix later first last bytes is =
    is
    ∙ flat_map-append line_bytes prefix ((first ++ later) ++ last)
    ∙ ap (λ (bs : List ℕ). text_of prefix ++ bs) (flat_map-append line_bytes (first ++ later) last
    ∙ ap (λ (bs : List ℕ). bs ++ text_of last) (flat_map-append line_bytes first later)
    ∙ append_assoc (text_of first) (text_of later) (text_of last))

subproblems_at : (prefix later : List SubproblemLog) (log : SubproblemLog) →
    flat_map subproblem_lines (prefix ++ log ∷ later) ≡ flat_map subproblem_lines prefix ++
    (subproblem_lines log ++ flat_map subproblem_lines later)
subproblems_at prefix later log = flat_map-append subproblem_lines prefix (log ∷ later)

regrouped : (bs fs ms ls : List Line) (l : Line) → bs ++ l ∷ ((fs ++ ms) ++ ls) ≡ (bs ++ l ∷ fs) ++ (ms ++ ls)
regrouped bs fs ms ls l = simp append_assoc

-- ---- the whole

low_found : (o : Option ℕ) (d low most : ℕ) → levels_found o d ≡ verdicts.Bounded low most → o ≡ Some low
low_found None d low most e = absurd cc
low_found (Some l) d low most e = ap (λ (n : ℕ). let r : Option ℕ = Some n in r) (let same : l ≡ low = cc in same)

pub log_reaches_budget : (bytes : List ℕ) (b : DepthCertificate) (low d : ℕ) → (is : IsDepthText bytes b) →
    b.verdict ≡ verdicts.Bounded low d → IsLeftOpen bytes b.certificate.header (length is.is_depth.chain.steps) low
log_reaches_budget bytes b low d is verdict =
    let depth_is = is.is_depth in
    let h = b.certificate.header in
    let size = length depth_is.chain.steps in
    let open_one = first_open b.subproblems low (low_found (open_levels b.subproblems) (depth depth_is.chain) low d (sym depth_is.verdict_is ∙ verdict)) in
    let fence = fence_at (flatter h.spec size (depth depth_is.chain)) open_one.prefix open_one.later open_one.log (ap (map subproblem_of) (sym open_one.logs_are) ∙ depth_is.subproblems_are) in
    let log = log_at h size open_one.prefix open_one.later open_one.log
    (subst (AllByRecursion (IsSubproblemLog h size)) open_one.logs_are
    (recursion_from_All (IsSubproblemLog h size) b.subproblems depth_is.logs)) in
    let is_open = open_end open_one.log.ended open_one.is_open in
    let prefix = certificate_lines b.certificate ++ line (depth_line (levels_of b.verdict)) ∷ flat_map subproblem_lines open_one.prefix in
    let last = line (levels_line b.verdict) ∷ line end_text ∷ [] in
    record {
      fence = fence.fence;
      listed = (flatter_is (fences_for h.spec size) (depth depth_is.chain) fence.fence fence.among).0;
      levels = sym (ap subproblem_levels fence.subproblem_is) ∙ open_one.levels;
      log = open_one.log;
      subproblem_is = fence.subproblem_is;
      is_open = is_open;
      spent = spent_by h size open_one.log (Levels fence.fence) is_open fence.subproblem_is log;
      before = text_of prefix;
      following = text_of (flat_map subproblem_lines open_one.later) ++ text_of last;
      stands = stands_in prefix (flat_map subproblem_lines open_one.later) (subproblem_lines open_one.log) last bytes
          (is.text ∙ ap text_of (ap (λ (ls : List Line). certificate_lines b.certificate ++
          line (depth_line (levels_of b.verdict)) ∷ (ls ++ last))
          (ap (λ (ps : List SubproblemLog). flat_map subproblem_lines ps) open_one.logs_are
          ∙ subproblems_at open_one.prefix open_one.later open_one.log)
          ∙ regrouped (certificate_lines b.certificate) (flat_map subproblem_lines open_one.prefix)
          (subproblem_lines open_one.log ++ flat_map subproblem_lines open_one.later) last
          (line (depth_line (levels_of b.verdict)))));
    }
