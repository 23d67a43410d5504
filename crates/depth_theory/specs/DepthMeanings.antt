-- The verdict of a depth certificate is true: a chain with fewer levels would satisfy the formula of a listed
-- fence with at most its levels, and each of these is refuted.
use Rattle.std.proofs.Common.{◌≡◌, ◌⊎◌, ℕ, ◌<◌, ◌≤◌, Bool, true, false, cond, List, [], ◌∷◌, length, map, Contains, Option, Some, None, refl, sym, ap, ◌∙◌, subst, arith, inl, inr}
use Rattle.std.specs.List.{find, AllByRecursion}
use Rattle.std.specs.Option.{option_map}
use Rattle.std.proofs.Math.Logic.{⊎_elim}
use Rattle.std.proofs.lemmas.List.Elements.{recursion_from_All}
use Rattle.chain_theory.specs.Agreement.{IsMinimum}
use Rattle.chain_theory.specs.Chain.{Chain}
use Rattle.chain_theory.specs.Levels.{HasLevels, HasChainOfLevels, depth}
use Rattle.chain_theory.specs.LevelLaws.{depth-bound}
use Rattle.sat_theory.specs.Formula.{Assignment, Satisfies}
use Rattle.sat_theory.specs.Line.{Line}
use Rattle.sat_theory.specs.Log.{Refutes}
use Rattle.sat_theory.specs.Soundness.{no_assignment}
use Rattle.tt_core.specs.Words.{Words, specification}
use Rattle.tt_core.specs.Live.{live_words}
use Rattle.op_basis.specs.Basis.{members}
use Rattle.clause_core.specs.Holds.{contains_head, contains_tail, contains_cases}
use Rattle.fence_core.specs.Listing.{fences_are_listed}
use Rattle.enc_theory.specs.Fence.{fence_formula}
use Rattle.enc_theory.specs.Subproblems.{fence_in}
use Rattle.enc_theory.specs.declared.subproblem.Subproblem.{Subproblem}
use Rattle.enc_theory.specs.declared.subproblem.Subproblem.TheVariants.{Levels}
use Rattle.settings.specs.declared.methods.Method.{Method}
use Rattle.settings.specs.declared.methods.Method.TheVariants.{Fence}
use Rattle.enc_laws.specs.Fence.{HasFence, fence_complete_at, fence_is_formula}
use Rattle.cert_theory.specs.declared.data.Header.{Header}
use Rattle.cert_theory.specs.declared.data.LogEnd.{LogEnd}
use Rattle.cert_theory.specs.declared.data.LogEnd.TheVariants as ends
use Rattle.cert_theory.specs.declared.data.Verdict.{Verdict}
use Rattle.cert_theory.specs.Coding.{coding_of}
use Rattle.cert_theory.specs.Certificate.{SubproblemLog, formula_of, EndsAs, IsSubproblemLog, subproblem_of, is_open_end, first_open, IsFound, IsTrailer}
use Rattle.cert_theory.specs.Meaning as meaning
use Rattle.cert_laws.specs.Meanings.{verdict_true}
use Rattle.depth_theory.specs.declared.data.DepthVerdict.{DepthVerdict}
use Rattle.depth_theory.specs.Flatter.{fences_for, flatter}
use Rattle.depth_theory.specs.FlatterLaws.{AreRising, flatter_has, flatter_is, flatter_rise}
use Rattle.depth_theory.specs.DepthCertificate.{DepthCertificate, subproblem_levels, open_levels, levels_found, IsDepth}
use Rattle.depth_theory.specs.DepthMeaning.{HasDepthOf, NoneFlatter, Means}

-- ---- a refuted log leaves no solution

no_solution_by : (m : Method) (w : Words) (basis size : ℕ) (fence : List ℕ) (log : List Line) (v : Assignment) →
    m ≡ Fence → Refutes ((coding_of m).formula w basis size (Levels fence)) log →
    Satisfies v (fence_formula w basis size fence) → ⊥
unfolding coding_of fence_in
no_solution_by m w basis size fence log v same refutes satisfies =
    let over : Refutes (fence_formula w basis size fence) log = subst (λ (x : Method). Refutes ((coding_of x).formula w basis size (Levels fence)) log) same refutes in
    no_assignment (fence_formula w basis size fence) log v (fence_is_formula w basis size fence) over satisfies

ends_refuted : (h : Header) (size : ℕ) (subproblem : Subproblem) (log : List Line) (ended : LogEnd) →
    is_open_end ended ≡ false → EndsAs (formula_of h size subproblem) h.conflicts ended log →
    Refutes (formula_of h size subproblem) log
ends_refuted h size subproblem log ends.Refuted is ends_as = ends_as
ends_refuted h size subproblem log ends.Open is ends_as = absurd cc

abbrev Solved : Header → ℕ → List ℕ → Type 0
Solved h size fence = (v : Assignment) × Satisfies v (fence_formula h.spec h.basis size fence)

subproblem_unsolved : (h : Header) (size : ℕ) (p : SubproblemLog) (fence : List ℕ) → h.method ≡ Fence →
    p.subproblem ≡ Levels fence → IsSubproblemLog h size p → is_open_end p.ended ≡ false → Solved h size fence → ⊥
subproblem_unsolved h size p fence by_fences same is refuted solved =
    let ends_as : EndsAs (formula_of h size (Levels fence)) h.conflicts p.ended p.log = subst (λ (q : Subproblem). EndsAs (formula_of h size q) h.conflicts p.ended p.log) same is in
    no_solution_by h.method h.spec h.basis size fence p.log solved.0 by_fences (ends_refuted h size (Levels fence) p.log p.ended refuted ends_as) solved.1

-- ---- logs by levels

head_subproblem : (p : SubproblemLog) (ps : List SubproblemLog) (f : List ℕ) (fs : List (List ℕ)) →
    map subproblem_of (p ∷ ps) ≡ map Levels (f ∷ fs) → (p.subproblem ≡ Levels f) ×
    (map subproblem_of ps ≡ map Levels fs)
head_subproblem p ps f fs e = (cc, cc)

open_first : (b : Bool) (p : SubproblemLog) (o : Option SubproblemLog) → b ≡ true → option_map (λ q. subproblem_levels q.subproblem) (cond b (Some p) o) ≡ Some (subproblem_levels p.subproblem)
open_first true p o is = refl
open_first false p o is = absurd cc

open_later : (b : Bool) (p : SubproblemLog) (o : Option SubproblemLog) → b ≡ false →
    option_map (λ q. subproblem_levels q.subproblem) (cond b (Some p) o) ≡
    option_map (λ q. subproblem_levels q.subproblem) o
open_later true p o is = absurd cc
open_later false p o is = refl

some_is : (a b : ℕ) → Some a ≡ Some b → a ≡ b
some_is a b e = cc

no_open : (b : Bool) (p : SubproblemLog) (o : Option SubproblemLog) → option_map (λ q. subproblem_levels q.subproblem) (cond b (Some p) o) ≡ None → b ≡ false
no_open true p o is = absurd cc
no_open false p o is = refl

-- if no fence is left open, each is refuted
all_unsolved : (h : Header) (size : ℕ) (ps : List SubproblemLog) (fs : List (List ℕ)) (f : List ℕ) → h.method ≡ Fence →
    AllByRecursion (IsSubproblemLog h size) ps → map subproblem_of ps ≡ map Levels fs → open_levels ps ≡ None →
    Contains fs f → Solved h size f → ⊥
all_unsolved h size [] [] f by_fences logs same none there solved = omega (arith, there.1)
all_unsolved h size [] (g ∷ fs) f by_fences logs same none there solved = cc
all_unsolved h size (p ∷ ps) [] f by_fences logs same none there solved = cc
all_unsolved h size (p ∷ ps) (g ∷ fs) f by_fences logs same none there solved =
    let each = head_subproblem p ps g fs same in
    let refuted = no_open (is_open_end p.ended) p (find (λ q. is_open_end q.ended) ps) none in
    ⊎_elim
    (λ (here : g ≡ f). subproblem_unsolved h size p f by_fences (each.0 ∙ ap (λ (x : List ℕ). Levels x) here) logs.0 refuted solved)
    (λ (later : Contains fs f). all_unsolved h size ps fs f by_fences logs.1 each.1 (sym (open_later (is_open_end p.ended) p (find (λ q. is_open_end q.ended) ps) refuted) ∙ none) later solved)
    (contains_cases g f fs there)

-- the first fence, open or refuted, if the result for the others is known
low_by : (h : Header) (size low : ℕ) (p : SubproblemLog) (ps : List SubproblemLog) (g f : List ℕ) (fs : List (List ℕ))
    (b : Bool) → is_open_end p.ended ≡ b → h.method ≡ Fence → IsSubproblemLog h size p → p.subproblem ≡ Levels g
    → ((x : List ℕ) → Contains fs x → length g ≤ length x) → open_levels (p ∷ ps) ≡ Some low →
    (open_levels ps ≡ Some low → Contains fs f → ⊥) → (g ≡ f) ⊎ Contains fs f → length f < low → Solved h size f → ⊥
low_by h size low p ps g f fs true is by_fences log subproblem rising opened rest (inl here) less solved =
    let own : subproblem_levels p.subproblem ≡ length g = ap subproblem_levels subproblem in
    let low_is : low ≡ subproblem_levels p.subproblem = some_is low (subproblem_levels p.subproblem) (sym opened ∙ open_first (is_open_end p.ended) p (find (λ q. is_open_end q.ended) ps) is) in
    let same : length g ≡ length f = ap (λ (x : List ℕ). length x) here in
    omega (arith, own, low_is, same, less)
low_by h size low p ps g f fs true is by_fences log subproblem rising opened rest (inr later) less solved =
    let own : subproblem_levels p.subproblem ≡ length g = ap subproblem_levels subproblem in
    let low_is : low ≡ subproblem_levels p.subproblem = some_is low (subproblem_levels p.subproblem) (sym opened ∙ open_first (is_open_end p.ended) p (find (λ q. is_open_end q.ended) ps) is) in
    omega (arith, own, low_is, rising f later, less)
low_by h size low p ps g f fs false is by_fences log subproblem rising opened rest (inl here) less solved =
    subproblem_unsolved h size p f by_fences (subproblem ∙ ap (λ (x : List ℕ). Levels x) here) log is solved
low_by h size low p ps g f fs false is by_fences log subproblem rising opened rest (inr later) less solved =
    rest (sym (open_later (is_open_end p.ended) p (find (λ q. is_open_end q.ended) ps) is) ∙ opened) later

-- and each fence with fewer levels than the first open one is refuted
low_unsolved : (h : Header) (size low : ℕ) (ps : List SubproblemLog) (fs : List (List ℕ)) (f : List ℕ) →
    h.method ≡ Fence → AllByRecursion (IsSubproblemLog h size) ps → map subproblem_of ps ≡ map Levels fs →
    AreRising fs → open_levels ps ≡ Some low → Contains fs f → length f < low → Solved h size f → ⊥
unfolding AreRising
low_unsolved h size low [] fs f by_fences logs same rising opened there less solved = absurd cc
low_unsolved h size low (p ∷ ps) [] f by_fences logs same rising opened there less solved = absurd cc
low_unsolved h size low (p ∷ ps) (g ∷ fs) f by_fences logs same rising opened there less solved =
    let each = head_subproblem p ps g fs same in
    low_by h size low p ps g f fs (is_open_end p.ended) refl by_fences logs.0 each.0 rising.0 opened
    (λ onward later. low_unsolved h size low ps fs f by_fences logs.1 each.1 rising.1 onward later less solved)
    (contains_cases g f fs there) less solved

-- ---- chains of fewer levels

-- if no chain of fewer steps implements the tables, a chain with `k` levels has a listed fence whose formula is
-- satisfiable
solved_fence : (h : Header) (size k : ℕ) → IsMinimum (specification h.spec) (members h.basis) size →
    HasDepthOf (specification h.spec) (members h.basis) size k → (fence : List ℕ) ×
    Contains (fences_for h.spec size) fence × (length fence ≤ k) × Solved h size fence
solved_fence h size k minimum has =
    let low : HasLevels k has.chain = subst (λ (d : ℕ). HasLevels d has.chain) has.depth_is (depth-bound has.chain) in
    let chain : HasChainOfLevels (specification h.spec) (members h.basis) size k =
    record {
      chain = has.chain;
      is_chain = has.is_chain;
      size = has.size;
      is_over = has.is_over;
      agrees = has.agrees;
      levels = low;
    } in
    let found : HasFence h.spec h.basis size k = fence_complete_at h.spec h.basis size k chain minimum.none_fewer in
    (found.fence, (fences_are_listed size (length (live_words h.spec).on)).all found.fence found.listed, found.low, found.satisfiable)

abbrev Flat : Header → ℕ → ℕ → Type 0
Flat h size d = NoneFlatter (specification h.spec) (members h.basis) size d

none_flatter_closed : (h : Header) (size d : ℕ) (ps : List SubproblemLog) → h.method ≡ Fence →
    IsMinimum (specification h.spec) (members h.basis) size → AllByRecursion (IsSubproblemLog h size) ps →
    map subproblem_of ps ≡ map Levels (flatter h.spec size d) → open_levels ps ≡ None → Flat h size d
none_flatter_closed h size d ps by_fences minimum logs same none k less has =
    let found = solved_fence h size k minimum has in
    all_unsolved h size ps (flatter h.spec size d) found.0 by_fences logs same none (flatter_has (fences_for h.spec size) d found.0 found.1 (omega (arith, found.2, less))) found.3

none_flatter_opened : (h : Header) (size d low : ℕ) (ps : List SubproblemLog) → low ≤ d → h.method ≡ Fence →
    IsMinimum (specification h.spec) (members h.basis) size → AllByRecursion (IsSubproblemLog h size) ps →
    map subproblem_of ps ≡ map Levels (flatter h.spec size d) → open_levels ps ≡ Some low → Flat h size low
none_flatter_opened h size d low ps fits by_fences minimum logs same opened k less has =
    let found = solved_fence h size k minimum has in
    low_unsolved h size low ps (flatter h.spec size d) found.0 by_fences logs same (flatter_rise (fences_for h.spec size) d) opened
    (flatter_has (fences_for h.spec size) d found.0 found.1 (omega (arith, found.2, less, fits))) (omega (arith, found.2, less)) found.3

-- the levels of the first open fence are those of one of the fences
open_by : (low : ℕ) (p : SubproblemLog) (ps : List SubproblemLog) (g : List ℕ) (fs : List (List ℕ)) (b : Bool) →
    is_open_end p.ended ≡ b → p.subproblem ≡ Levels g → open_levels (p ∷ ps) ≡ Some low →
    (open_levels ps ≡ Some low → (f : List ℕ) × Contains fs f × (length f ≡ low)) → (f : List ℕ) ×
    Contains (g ∷ fs) f × (length f ≡ low)
open_by low p ps g fs true is subproblem opened rest =
    let own : subproblem_levels p.subproblem ≡ length g = ap subproblem_levels subproblem in
    let low_is : low ≡ subproblem_levels p.subproblem = some_is low (subproblem_levels p.subproblem) (sym opened ∙ open_first (is_open_end p.ended) p (find (λ q. is_open_end q.ended) ps) is) in
    (g, contains_head g fs, sym own ∙ sym low_is)
open_by low p ps g fs false is subproblem opened rest =
    let found = rest (sym (open_later (is_open_end p.ended) p (find (λ q. is_open_end q.ended) ps) is) ∙ opened) in
    (found.0, contains_tail g found.0 fs found.1, found.2)

pub open_fence : (low : ℕ) (ps : List SubproblemLog) (fs : List (List ℕ)) → map subproblem_of ps ≡ map Levels fs → open_levels ps ≡ Some low → (f : List ℕ) × Contains fs f × (length f ≡ low)
open_fence low [] fs same opened = absurd cc
open_fence low (p ∷ ps) [] same opened = absurd cc
open_fence low (p ∷ ps) (g ∷ fs) same opened =
    let each = head_subproblem p ps g fs same in
    open_by low p ps g fs (is_open_end p.ended) refl each.0 opened (λ later. open_fence low ps fs each.1 later)

-- ---- the verdict

found_chain : (h : Header) (count : ℕ) (low : Option ℕ) (o : Option Chain) (c : Chain) (v : Verdict) → o ≡ Some c → IsTrailer h count low o v → IsFound h count c
found_chain h count low None c v same trailer = absurd cc
found_chain h count low (Some x) c v same trailer = let is : x ≡ c = some_chain x c same in subst (λ (y : Chain). IsFound h count y) is trailer.0
  where
    some_chain : (x y : Chain) → Some x ≡ Some y → x ≡ y
    some_chain x y e = cc

-- the chain of a depth certificate
pub depth_found : (b : DepthCertificate) (is : IsDepth b) → IsFound b.certificate.header (length b.certificate.sections) is.chain
depth_found b is = found_chain b.certificate.header (length b.certificate.sections) (first_open b.certificate.sections) b.certificate.chain is.chain b.certificate.verdict is.chain_is is.valid.trailer

reached : (b : DepthCertificate) (is : IsDepth b) → HasDepthOf (specification b.certificate.header.spec) (members b.certificate.header.basis) (length is.chain.steps) (depth is.chain)
reached b is =
    let found = depth_found b is in
    record { chain = is.chain; is_chain = found.chain; size = refl; is_over = found.over; agrees = found.agrees; depth_is = refl }

least : (b : DepthCertificate) (is : IsDepth b) → IsMinimum (specification b.certificate.header.spec) (members b.certificate.header.basis) (length is.chain.steps)
least b is = subst (λ (v : Verdict). meaning.Means (specification b.certificate.header.spec) (members b.certificate.header.basis) v) is.least (verdict_true b.certificate is.valid)

means_by : (b : DepthCertificate) (is : IsDepth b) (o : Option ℕ) → open_levels b.subproblems ≡ o →
    Means (specification b.certificate.header.spec) (members b.certificate.header.basis) (length is.chain.steps)
    (levels_found o (depth is.chain))
means_by b is None e =
    let h = b.certificate.header in
    let logs = recursion_from_All (IsSubproblemLog h (length is.chain.steps)) b.subproblems is.logs in
    record {
      minimum = least b is;
      reached = reached b is;
      none_flatter = none_flatter_closed h (length is.chain.steps) (depth is.chain) b.subproblems is.by_fences
          (least b is) logs is.subproblems_are e;
    }
means_by b is (Some low) e =
    let h = b.certificate.header in
    let size = length is.chain.steps in
    let logs = recursion_from_All (IsSubproblemLog h size) b.subproblems is.logs in
    let named = open_fence low b.subproblems (flatter h.spec size (depth is.chain)) is.subproblems_are e in
    let below = flatter_is (fences_for h.spec size) (depth is.chain) named.0 named.1 in
    record {
      minimum = least b is;
      reached = reached b is;
      none_flatter = none_flatter_opened h size (depth is.chain) low b.subproblems
          (omega (arith, below.1, named.2)) is.by_fences (least b is) logs is.subproblems_are e;
    }

-- The verdict of a depth certificate is true.
pub depth_means : (b : DepthCertificate) (is : IsDepth b) → Means (specification b.certificate.header.spec) (members b.certificate.header.basis) (length is.chain.steps) b.verdict
depth_means b is =
    subst (λ (v : DepthVerdict). Means (specification b.certificate.header.spec) (members b.certificate.header.basis)
    (length is.chain.steps) v) (sym is.verdict_is) (means_by b is (open_levels b.subproblems) refl)
