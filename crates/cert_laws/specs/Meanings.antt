-- The verdict of a valid certificate is true.
use Rattle.std.proofs.Common.{◌≡◌, ◌⊎◌, ℕ, zero, suc, ◌+◌, ◌<◌, ◌≤◌, ◌||◌, Bool, true, false, cond, List, [], ◌∷◌}
use Rattle.std.proofs.Common.{length, map, Contains, Option, Some, None, refl, sym, ◌∙◌, subst, arith, inl, inr}
use Rattle.std.proofs.Common.{zero-add}
use Rattle.std.specs.List.{list_any, find, AllByRecursion}
use Rattle.std.specs.Option.{option_map}
use Rattle.std.proofs.Math.Logic.{⊎_elim}
use Rattle.std.proofs.lemmas.Bool.{cases_lt}
use Rattle.std.proofs.lemmas.List.Elements.{recursion_from_All}
use Rattle.chain_theory.specs.Agreement.{HasChain, NoneBelow}
use Rattle.chain_theory.specs.Chain.{Chain}
use Rattle.sat_theory.specs.Formula.{Assignment, Satisfies}
use Rattle.sat_theory.specs.Line.{Line}
use Rattle.sat_theory.specs.Log.{Refutes}
use Rattle.sat_theory.specs.Soundness.{no_assignment}
use Rattle.tt_core.specs.Words.{specification}
use Rattle.op_basis.specs.Basis.{members}
use Rattle.enc_theory.specs.declared.subproblem.Subproblem.{Subproblem}
use Rattle.cert_theory.specs.declared.data.Header.{Header}
use Rattle.cert_theory.specs.declared.data.LogEnd.{LogEnd}
use Rattle.cert_theory.specs.declared.data.LogEnd.TheVariants as ends
use Rattle.cert_theory.specs.declared.data.Verdict.{Verdict}
use Rattle.cert_theory.specs.Coding.{coding_of}
use Rattle.cert_laws.specs.CodingLaws.{method_is_coding, IsCoding}
use Rattle.cert_theory.specs.Certificate.{SubproblemLog, Section, Certificate, IsHeader, subproblems_of, formula_of}
use Rattle.cert_theory.specs.Certificate.{EndsAs, IsSubproblemLog, subproblem_of, IsSection, AreSections, is_open_end}
use Rattle.cert_theory.specs.Certificate.{is_open, size_of, first_open, found, IsFound, IsTrailer, IsValid}
use Rattle.cert_theory.specs.Meaning.{Means}
use Rattle.cert_theory.specs.TriedLaws.{tried_all}
use Rattle.chain_theory.specs.Limits.{most_steps}

abbrev Fewer : Header → ℕ → Type 0
Fewer h size = NoneBelow (specification h.spec) (members h.basis) size

-- the log of a subproblem whose size is refuted
record RefutedLog (h : Header) (size : ℕ) (subproblem : Subproblem) : Type 0 where
  p : SubproblemLog
  subproblem_is : p.subproblem ≡ subproblem
  log : IsSubproblemLog h size p
  ended : is_open_end p.ended ≡ false

neither : (a b : Bool) → (a || b) ≡ false → (a ≡ false) × (b ≡ false)
neither true b e = absurd cc
neither false b e = (refl, e)

log_of : (h : Header) (size : ℕ) (ps : List SubproblemLog) (subproblem : Subproblem) →
    AllByRecursion (IsSubproblemLog h size) ps → list_any (λ p. is_open_end p.ended) ps ≡ false →
    Contains (map subproblem_of ps) subproblem → RefutedLog h size subproblem
log_of h size [] subproblem logs none (k, within, at) = absurd (let low : k < 0 = within in omega arith)
log_of h size (p ∷ ps) subproblem logs none (zero, within, at) =
    record {
      p = p;
      subproblem_is = at;
      log = logs.0;
      ended = (neither (is_open_end p.ended) (list_any (λ p. is_open_end p.ended) ps) none).0;
    }
log_of h size (p ∷ ps) subproblem logs none (suc k, within, at) =
    log_of h size ps subproblem logs.1 (neither (is_open_end p.ended) (list_any (λ p. is_open_end p.ended) ps) none).1
    (k, (let more : suc k < suc (length (map subproblem_of ps)) = within in omega arith), at)

-- a log that ends refuted excludes all assignments
refutes : (h : Header) (size : ℕ) (subproblem : Subproblem) (log : List Line) (ended : LogEnd) →
    is_open_end ended ≡ false → EndsAs (formula_of h size subproblem) h.conflicts ended log →
    Refutes (formula_of h size subproblem) log
refutes h size subproblem log ends.Refuted is ends_as = ends_as
refutes h size subproblem log ends.Open is ends_as = absurd cc

unsatisfied : (h : Header) (size : ℕ) (subproblem : Subproblem) → IsCoding (coding_of h.method) →
    Contains (subproblems_of h size) subproblem → RefutedLog h size subproblem → (v : Assignment) →
    Satisfies v (formula_of h size subproblem) → ⊥
unsatisfied h size subproblem coding there r v satisfies =
    let ends_as : EndsAs (formula_of h size subproblem) h.conflicts r.p.ended r.p.log = subst (λ (q : Subproblem). EndsAs (formula_of h size q) h.conflicts r.p.ended r.p.log) r.subproblem_is r.log in
    no_assignment (formula_of h size subproblem) r.p.log v (coding.formulas h.spec h.basis size subproblem there) (refutes h size subproblem r.p.log r.p.ended r.ended ends_as) satisfies

-- a refuted size has no chain if no smaller size has one
pub none_at : (h : Header) (size : ℕ) (s : Section) → IsHeader h → IsCoding (coding_of h.method) → size ≤ most_steps →
    IsSection h size s → is_open s ≡ false → Fewer h size → HasChain (specification h.spec) (members h.basis) size → ⊥
none_at h size s header coding few section refuted fewer has =
    let sat = coding.complete h.spec h.basis size (record { reached = has; none_fewer = fewer }) in
    let named : Contains (map subproblem_of s.subproblems) sat.0 = subst (λ (subproblems : List Subproblem). Contains subproblems sat.0) (sym (section.subproblems_are ∙ tried_all h.method (subproblems_of h size) s.subproblems refuted)) sat.1 in
    unsatisfied h size sat.0 coding sat.1 (log_of h size s.subproblems sat.0 (recursion_from_All (IsSubproblemLog h size) s.subproblems section.logs) refuted named) sat.2.0 sat.2.1

-- if no chain has fewer than `size` steps and none has `size`, none has fewer than `size + 1`
pub one_more : (h : Header) (size : ℕ) → Fewer h size → (HasChain (specification h.spec) (members h.basis) size → ⊥) → Fewer h (size + 1)
one_more h size fewer none = λ q low has. elim (cases_lt q size) as (λ _. ⊥) [
  | inl below ↦ fewer q below has
  | inr past ↦ let same : q ≡ size = omega arith in none (subst (λ (k : ℕ). HasChain (specification h.spec) (members h.basis) k) same has)
]

some_is : (a b : ℕ) → Some a ≡ Some b → a ≡ b
some_is a b e = cc

-- which section is the first open one
pub open_cases : (s : Section) (ss : List Section) (o : Option ℕ) → first_open (s ∷ ss) ≡ o → ((is_open s ≡ true) × (o ≡ Some s.size)) ⊎ ((is_open s ≡ false) × (first_open ss ≡ o))
open_cases s ss o e = by (is_open s) refl e
  where
    by : (b : Bool) → is_open s ≡ b → option_map size_of (cond b (Some s) (find is_open ss)) ≡ o → ((is_open s ≡ true) × (o ≡ Some s.size)) ⊎ ((is_open s ≡ false) × (first_open ss ≡ o))
    by true is e = inl (is, sym e)
    by false is e = inr (is, e)

-- if all sizes are refuted, no chain has one of them
pub all_refuted : (h : Header) (ss : List Section) (size : ℕ) → IsHeader h → IsCoding (coding_of h.method) →
    AreSections h size ss → size + length ss ≤ h.max + 1 → first_open ss ≡ None → Fewer h size →
    Fewer h (size + length ss)
unfolding AreSections
all_refuted h [] size header coding are few none fewer = let same : size ≡ size + 0 = omega arith in subst (λ (k : ℕ). Fewer h k) same fewer
all_refuted h (s ∷ ss) size header coding are few none fewer =
    let same : size + 1 + length ss ≡ size + suc (length ss) = omega arith in
    ⊎_elim
    (λ (opened : (is_open s ≡ true) × (None ≡ Some s.size)). absurd (let e = opened.1 in cc))
    (λ (refuted : (is_open s ≡ false) × (first_open ss ≡ None)).
    subst (λ (k : ℕ). Fewer h k) same
    (all_refuted h ss (size + 1) header coding are.1 (omega arith) refuted.1
    (one_more h size fewer (none_at h size s header coding (omega (arith, header.settings.max_to)) are.0 refuted.0 fewer))))
    (open_cases s ss None none)

-- and none is below the first open one
pub none_below_open : (h : Header) (ss : List Section) (size low : ℕ) → IsHeader h → IsCoding (coding_of h.method) →
    AreSections h size ss → size + length ss ≤ h.max + 1 → first_open ss ≡ Some low → Fewer h size → Fewer h low
unfolding AreSections
none_below_open h [] size low header coding are few is fewer = absurd cc
none_below_open h (s ∷ ss) size low header coding are few is fewer =
    ⊎_elim
    (λ (opened : (is_open s ≡ true) × (Some low ≡ Some s.size)). let same : low ≡ s.size = some_is low s.size opened.1 in subst (λ (k : ℕ). Fewer h k) (sym (same ∙ are.0.size_is)) fewer)
    (λ (refuted : (is_open s ≡ false) × (first_open ss ≡ Some low)).
    none_below_open h ss (size + 1) low header coding are.1 (omega arith) refuted.1
    (one_more h size fewer (none_at h size s header coding (omega (arith, header.settings.max_to)) are.0 refuted.0 fewer)))
    (open_cases s ss (Some low) is)

-- ---- verdicts

has_found : (h : Header) (size : ℕ) (c : Chain) → IsFound h size c → HasChain (specification h.spec) (members h.basis) size
has_found h size c found = record { chain = c; is_chain = found.chain; size = found.size_is; is_over = found.over; agrees = found.agrees }

means_by : (h : Header) (count : ℕ) (low : Option ℕ) (chain : Option Chain) (v : Verdict) → count ≤ h.max + 1 →
    (low ≡ None → Fewer h count) → ((l : ℕ) → low ≡ Some l → Fewer h l) → IsTrailer h count low chain v →
    Means (specification h.spec) (members h.basis) v
means_by h count None None v few all opened trailer =
    subst (λ (w : Verdict). Means (specification h.spec) (members h.basis) w) (sym trailer.1) (λ q low. all refl q (omega (arith, trailer.0)))
means_by h count (Some l) None v few all opened trailer =
    subst (λ (w : Verdict). Means (specification h.spec) (members h.basis) w) (sym trailer.1) (opened l refl)
means_by h count None (Some c) v few all opened trailer =
    subst (λ (w : Verdict). Means (specification h.spec) (members h.basis) w) (sym trailer.1) (record { reached = has_found h count c trailer.0; none_fewer = all refl })
means_by h count (Some l) (Some c) v few all opened trailer =
    subst (λ (w : Verdict). Means (specification h.spec) (members h.basis) w) (sym trailer.1) (has_found h count c trailer.0, opened l refl)

nothing_fewer : (h : Header) → Fewer h 0
nothing_fewer h = λ q low has. absurd (omega arith)

-- The verdict of a valid certificate is true.
pub verdict_means : (b : Certificate) → IsCoding (coding_of b.header.method) → IsValid b → Means (specification b.header.spec) (members b.header.basis) b.verdict
verdict_means b coding valid =
    let none = nothing_fewer b.header in
    means_by b.header (length b.sections) (first_open b.sections) b.chain b.verdict valid.sizes_to
    (λ e. subst (λ (k : ℕ). Fewer b.header k) (zero-add (length b.sections)) (all_refuted b.header b.sections 0 valid.header coding valid.sections (omega (arith, valid.sizes_to)) e none))
    (λ l e. none_below_open b.header b.sections 0 l valid.header coding valid.sections (omega (arith, valid.sizes_to)) e none)
    valid.trailer

-- This holds for each method whose formulas satisfy the laws.
pub verdict_true : (b : Certificate) → IsValid b → Means (specification b.header.spec) (members b.header.basis) b.verdict
verdict_true b valid = verdict_means b (method_is_coding b.header.method) valid
