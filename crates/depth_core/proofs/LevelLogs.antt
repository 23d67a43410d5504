-- The logs of fences, level by level.
use Rattle.std.proofs.Common.{◌≡◌, ℕ, zero, suc, ◌+◌, ◌-◌, ◌<◌, ◌≤◌, ◌==◌, Bool, true, false, cond, List, [], ◌∷◌, ◌++◌}
use Rattle.std.proofs.Common.{length, map, Contains, All, Option, Some, None, refl, sym, ap, ◌∙◌, subst, arith}
use Rattle.std.proofs.Common.{append-nil}
use Rattle.std.specs.Prelude.{nat_lt}
use Rattle.std.specs.List.{filter, find}
use Rattle.std.specs.Option.{option_map}
use Rattle.std.proofs.Math.Logic.{⊎_elim}
use Rattle.std.proofs.lemmas.Bool.{eqb-true}
use Rattle.std.proofs.lemmas.Bool.Decides.{nat_tests}
use Rattle.std.proofs.lemmas.Grind.{common_steps}
use Rattle.std.proofs.lemmas.List.{map-append}
use Rattle.std.proofs.lemmas.List.Elements.{All-append, All-filter, filter-append}
use Rattle.clause_core.specs.Holds.{contains_head, contains_tail, contains_cases, filter_get}
use Rattle.chain_theory.specs.Chain.{Chain}
use Rattle.chain_theory.specs.Levels.{HasLevels, depth}
use Rattle.chain_theory.specs.LevelLaws.{depth-least}
use Rattle.tt_core.specs.Words.{Words}
use Rattle.enc_theory.specs.Fence.{fence_formula}
use Rattle.enc_theory.specs.Subproblems.{subproblems_for, fence_in, FitsSubproblem}
use Rattle.enc_theory.specs.declared.subproblem.Subproblem.{Subproblem}
use Rattle.enc_theory.specs.declared.subproblem.Subproblem.TheVariants.{Levels}
use Rattle.settings.specs.declared.methods.Method.{Method}
use Rattle.settings.specs.declared.methods.Method.TheVariants.{Fence}
use Rattle.cert_theory.specs.Coding.{coding_of}
use Rattle.cert_theory.specs.declared.data.Header.{Header}
use Rattle.cert_theory.specs.declared.data.LogEnd.{LogEnd}
use Rattle.cert_theory.specs.declared.data.LogEnd.TheVariants as ends
use Rattle.cert_theory.specs.declared.data.Verdict.{Verdict}
use Rattle.cert_theory.specs.declared.data.Verdict.TheVariants as verdicts
use Rattle.cert_theory.specs.Certificate.{SubproblemLog, Section, Certificate, IsSubproblemLog, subproblem_of, is_open_end, first_open, found, not_found, IsFound, IsTrailer, IsValid}
use Rattle.size_loop.specs.declared.trying.SubproblemOutcome.{SubproblemOutcome}
use Rattle.size_loop.specs.declared.trying.SubproblemOutcome.TheVariants as outcomes
use Rattle.size_loop.specs.Outcomes.{IsTried, AreLogged}
use Rattle.size_loop.specs.OutcomeLaws.{logged_none}
use Rattle.size_loop.specs.Coded.{IsCodedBy}
use Rattle.cert_theory.specs.LiveBounds.{HasLiveBounds, HaveLiveBounds}
use Rattle.depth_theory.specs.declared.data.DepthVerdict.{DepthVerdict}
use Rattle.depth_theory.specs.Flatter.{fences_for, has_levels, of_levels, by_levels, flatter}
use Rattle.depth_theory.specs.FlatterLaws.{flatter_is, level_is, by_levels_more}
use Rattle.depth_theory.specs.DepthCertificate.{subproblem_levels, open_levels, levels_found}
use Rattle.depth_theory.specs.DepthMeanings.{open_fence}
use Rattle.depth_core.specs.Flattened.{at_level, is_flatter, IsTriedLow, AreLogs, IsFlattest, AreSearched, IsLeast, minimum_of}

-- ---- the encoding

coded : IsCodedBy (coding_of Fence) (λ w r. subproblems_for w r) (λ w basis r subproblem. fence_formula w basis r (fence_in subproblem))
unfolding coding_of
coded = record { subproblems_are = λ w r. refl; formulas_are = λ w basis r subproblem. refl }

pub coded_by_fences : (m : Method) → m ≡ Fence → IsCodedBy (coding_of m) (λ w r. subproblems_for w r) (λ w basis r subproblem. fence_formula w basis r (fence_in subproblem))
coded_by_fences m same = subst (λ (x : Method). IsCodedBy (coding_of x) (λ w r. subproblems_for w r) (λ w basis r subproblem. fence_formula w basis r (fence_in subproblem))) (sym same) coded

-- ---- one level

other_false : (a k : ℕ) → (a ≡ k → ⊥) → (a == k) ≡ false
other_false a k other = grind (arith, nat_tests)

same_true : (a k : ℕ) → a ≡ k → (a == k) ≡ true
same_true a k same = grind (arith, nat_tests)

pub pick_own : (k : ℕ) (subproblem : Subproblem) (subproblems : List Subproblem) → subproblem_levels subproblem ≡ k →
    filter (at_level k) (subproblem ∷ subproblems) ≡ subproblem ∷ filter (at_level k) subproblems
pick_own k subproblem subproblems same = ap (λ (t : Bool). cond t (subproblem ∷ filter (at_level k) subproblems) (filter (at_level k) subproblems)) (same_true (subproblem_levels subproblem) k same)

pub pick_other : (k : ℕ) (subproblem : Subproblem) (subproblems : List Subproblem) →
    (subproblem_levels subproblem ≡ k → ⊥) → filter (at_level k) (subproblem ∷ subproblems) ≡
    filter (at_level k) subproblems
pick_other k subproblem subproblems other = ap (λ (t : Bool). cond t (subproblem ∷ filter (at_level k) subproblems)
    (filter (at_level k) subproblems)) (other_false (subproblem_levels subproblem) k other)

pub ruleset picked = (common_steps, pick_own, pick_other)

head_is : (k : ℕ) (p subproblem : Subproblem) (ps : List Subproblem) (b : Bool) → at_level k p ≡ b →
    (Contains ps subproblem → at_level k subproblem ≡ true) → Contains (cond b (p ∷ ps) ps) subproblem →
    at_level k subproblem ≡ true
head_is k p subproblem ps true is rest there = ⊎_elim (λ (here : p ≡ subproblem). sym (ap (at_level k) here) ∙ is) rest (contains_cases p subproblem ps there)
head_is k p subproblem ps false is rest there = rest there

filter_is : (k : ℕ) (subproblems : List Subproblem) (subproblem : Subproblem) → Contains (filter (at_level k) subproblems) subproblem → at_level k subproblem ≡ true
filter_is k [] subproblem there = absurd (omega (arith, there.1))
filter_is k (p ∷ ps) subproblem there = head_is k p subproblem (filter (at_level k) ps) (at_level k p) refl (filter_is k ps subproblem) there

-- a chosen subproblem is one of the size, and has the level
pub level_subproblem : (w : Words) (r k : ℕ) (own : List Subproblem) (subproblem : Subproblem) →
    own ≡ filter (at_level k) (subproblems_for w r) → Contains own subproblem →
    Contains (subproblems_for w r) subproblem × (subproblem_levels subproblem ≡ k)
level_subproblem w r k own subproblem is there =
    let inside : Contains (filter (at_level k) (subproblems_for w r)) subproblem = subst (λ (xs : List Subproblem). Contains xs subproblem) is there in
    (filter_get (at_level k) (subproblems_for w r) subproblem inside, eqb-true (subproblem_levels subproblem) k (filter_is k (subproblems_for w r) subproblem inside))

kept_map : (b : Bool) (f : List ℕ) (fs : List (List ℕ)) (subproblems : List Subproblem) → subproblems ≡ map Levels fs → cond b (Levels f ∷ subproblems) subproblems ≡ map Levels (cond b (f ∷ fs) fs)
kept_map true f fs subproblems e = ap (λ (xs : List Subproblem). Levels f ∷ xs) e
kept_map false f fs subproblems e = e

filter_map : (k : ℕ) (fences : List (List ℕ)) → filter (at_level k) (map Levels fences) ≡ map Levels (filter (has_levels k) fences)
filter_map k [] = refl
filter_map k (f ∷ fs) = kept_map (length f == k) f (filter (has_levels k) fs) (filter (at_level k) (map Levels fs)) (filter_map k fs)

pub level_all : (h : Header) (size k : ℕ) (own : List Subproblem) (logs : List SubproblemLog) →
    own ≡ filter (at_level k) (subproblems_for h.spec size) → AreLogged h size own logs →
    AreLogs h size (of_levels (fences_for h.spec size) k) logs
unfolding subproblems_for of_levels
level_all h size k own logs is logged = record { subproblems_are = logged.subproblems_are ∙ is ∙ filter_map k (fences_for h.spec size); ends = logged.ends; live_bounds = logged.live_bounds }

levels_subproblem : (fences : List (List ℕ)) (subproblem : Subproblem) → Contains (map Levels fences) subproblem → (f : List ℕ) × (subproblem ≡ Levels f)
levels_subproblem [] subproblem there = absurd (omega (arith, there.1))
levels_subproblem (f ∷ fs) subproblem there = ⊎_elim (λ (here : Levels f ≡ subproblem). (f, sym here))
    (λ (later : Contains (map Levels fs) subproblem). levels_subproblem fs subproblem later)
    (contains_cases (Levels f) subproblem (map Levels fs) there)

fits_by : (subproblem : Subproblem) (f : List ℕ) (k : ℕ) (c : Chain) → subproblem ≡ Levels f → subproblem_levels subproblem ≡ k → FitsSubproblem subproblem c → HasLevels k c
unfolding FitsSubproblem
fits_by subproblem f k c is same fits =
    let low : HasLevels (length f) c = subst (λ (p : Subproblem). FitsSubproblem p c) is fits in
    subst (λ (d : ℕ). HasLevels d c) (sym (ap subproblem_levels is) ∙ same) low

level_found : (w : Words) (r k : ℕ) (subproblem : Subproblem) (c : Chain) → Contains (subproblems_for w r) subproblem → subproblem_levels subproblem ≡ k → FitsSubproblem subproblem c → HasLevels k c
unfolding subproblems_for
level_found w r k subproblem c there same fits = let named = levels_subproblem (fences_for w r) subproblem there in fits_by subproblem named.0 k c named.1 same fits

-- the result of one fence
pub tried_low : (h : Header) (size : ℕ) (subproblem : Subproblem) (outcome : SubproblemOutcome) →
    Contains (subproblems_for h.spec size) subproblem → IsTried h size subproblem outcome →
    IsTriedLow h size subproblem outcome
tried_low h size subproblem (outcomes.Found c) there tried = (tried.0, level_found h.spec size (subproblem_levels subproblem) subproblem c there refl tried.1)
tried_low h size subproblem (outcomes.Logged p) there tried = tried

pub ruleset levels = (common_steps, logged_none, level_all)

-- ---- logs that are kept

kept_more : (d : ℕ) (ys : List SubproblemLog) (p : SubproblemLog) → filter (is_flatter d) (ys ++ p ∷ []) ≡ filter (is_flatter d) ys ++ filter (is_flatter d) (p ∷ [])
kept_more d ys p = filter-append (is_flatter d) ys (p ∷ [])

kept_low : (d : ℕ) (p : SubproblemLog) → subproblem_levels p.subproblem < d → filter (is_flatter d) (p ∷ []) ≡ p ∷ []
kept_low d p low = ap (λ (t : Bool). cond t (p ∷ []) []) (low_true (subproblem_levels p.subproblem) d low)
  where
    low_true : (a b : ℕ) → a < b → nat_lt a b ≡ true
    low_true a b is = grind (arith, nat_tests)

kept_high : (d : ℕ) (p : SubproblemLog) → d ≤ subproblem_levels p.subproblem → filter (is_flatter d) (p ∷ []) ≡ []
kept_high d p high = ap (λ (t : Bool). cond t (p ∷ []) []) (high_false (subproblem_levels p.subproblem) d high)
  where
    high_false : (a b : ℕ) → b ≤ a → nat_lt a b ≡ false
    high_false a b is = grind (arith, nat_tests)

pub kept_with : (d : ℕ) (ys : List SubproblemLog) (p : SubproblemLog) → subproblem_levels p.subproblem < d → filter (is_flatter d) (ys ++ p ∷ []) ≡ filter (is_flatter d) ys ++ p ∷ []
kept_with d ys p low = kept_more d ys p ∙ ap (λ (xs : List SubproblemLog). filter (is_flatter d) ys ++ xs) (kept_low d p low)

pub kept_without : (d : ℕ) (ys : List SubproblemLog) (p : SubproblemLog) → d ≤ subproblem_levels p.subproblem → filter (is_flatter d) (ys ++ p ∷ []) ≡ filter (is_flatter d) ys
kept_without d ys p high = kept_more d ys p ∙ ap (λ (xs : List SubproblemLog). filter (is_flatter d) ys ++ xs) (kept_high d p high) ∙ append-nil (filter (is_flatter d) ys)

pub ruleset kept = (common_steps, kept_with, kept_without)

-- ---- the first open fence

pub open_here : (p : SubproblemLog) (ps : List SubproblemLog) → p.ended ≡ ends.Open → open_levels (p ∷ ps) ≡ Some (subproblem_levels p.subproblem)
open_here p ps is = ap (λ (x : LogEnd). option_map (λ (q : SubproblemLog). subproblem_levels q.subproblem) (cond (is_open_end x) (Some p) (find (λ q. is_open_end q.ended) ps))) is

closed_by : (p : SubproblemLog) (ps : List SubproblemLog) (x : LogEnd) → (x ≡ ends.Open → ⊥) →
    option_map (λ (q : SubproblemLog). subproblem_levels q.subproblem)
    (cond (is_open_end x) (Some p) (find (λ q. is_open_end q.ended) ps)) ≡ open_levels ps
closed_by p ps ends.Refuted other = refl
closed_by p ps ends.Open other = absurd (other refl)

pub open_later : (p : SubproblemLog) (ps : List SubproblemLog) → (p.ended ≡ ends.Open → ⊥) → open_levels (p ∷ ps) ≡ open_levels ps
open_later p ps other = closed_by p ps p.ended other

pub ruleset opened = (common_steps, open_here, open_later)

-- ---- level by level

pub flat_none : (h : Header) (size : ℕ) → AreLogs h size (flatter h.spec size 0) []
unfolding by_levels
flat_none h size = logged_none h size

pub flat_more : (h : Header) (size k : ℕ) (logs more : List SubproblemLog) →
    AreLogs h size (flatter h.spec size k) logs → AreLogs h size (of_levels (fences_for h.spec size) k) more →
    AreLogs h size (flatter h.spec size (k + 1)) (logs ++ more)
flat_more h size k logs more one two = record {
  subproblems_are =
      map-append subproblem_of logs more
      ∙ ap (λ (xs : List Subproblem). xs ++ map subproblem_of more) one.subproblems_are
      ∙ ap (λ (xs : List Subproblem). map Levels (flatter h.spec size k) ++ xs) two.subproblems_are
      ∙ sym (map-append Levels (flatter h.spec size k) (of_levels (fences_for h.spec size) k))
      ∙ ap (λ (xs : List (List ℕ)). map Levels xs) (sym (by_levels_more (fences_for h.spec size) k));
  ends = All-append (IsSubproblemLog h size) logs more one.ends two.ends;
  live_bounds = All-append (HasLiveBounds h size) logs more one.live_bounds two.live_bounds;
}

-- ---- flatter still

abbrev low : ℕ → List ℕ → Bool
low d f = nat_lt (length f) d

pass_by : (p : List ℕ → Bool) (x : List ℕ) (xs rest : List (List ℕ)) (b : Bool) → p x ≡ b → b ≡ true → rest ≡ xs → cond (p x) (x ∷ rest) rest ≡ x ∷ xs
pass_by p x xs rest b is yes_ e = ap (λ (t : Bool). cond t (x ∷ rest) rest) (is ∙ yes_) ∙ ap (λ (ys : List (List ℕ)). x ∷ ys) e

filter_all : (p : List ℕ → Bool) (xs : List (List ℕ)) → ((x : List ℕ) → Contains xs x → p x ≡ true) → filter p xs ≡ xs
filter_all p [] all = refl
filter_all p (x ∷ xs) all = pass_by p x xs (filter p xs) (p x) refl (all x (contains_head x xs)) (filter_all p xs (λ y there. all y (contains_tail x y xs there)))

filter_none : (p : List ℕ → Bool) (xs : List (List ℕ)) → ((x : List ℕ) → Contains xs x → p x ≡ false) → filter p xs ≡ []
filter_none p [] none = refl
filter_none p (x ∷ xs) none = ap (λ (t : Bool). cond t (x ∷ filter p xs) (filter p xs)) (none x (contains_head x xs)) ∙ filter_none p xs (λ y there. none y (contains_tail x y xs there))

lt_true : (a b : ℕ) → a < b → nat_lt a b ≡ true
lt_true a b is = grind (arith, nat_tests)

lt_false : (a b : ℕ) → b ≤ a → nat_lt a b ≡ false
lt_false a b is = grind (arith, nat_tests)

cut_from : (fences : List (List ℕ)) (d n : ℕ) → filter (low d) (by_levels fences (d + n)) ≡ by_levels fences d
cut_from fences d zero =
    let same : d + 0 ≡ d = omega arith in
    ap (λ (k : ℕ). filter (low d) (by_levels fences k)) same
    ∙ filter_all (low d) (by_levels fences d) (λ f there. lt_true (length f) d (flatter_is fences d f there).1)
cut_from fences d (suc n) =
    let same : d + suc n ≡ (d + n) + 1 = omega arith in
    ap (λ (k : ℕ). filter (low d) (by_levels fences k)) same
    ∙ ap (filter (low d)) (by_levels_more fences (d + n))
    ∙ filter-append (low d) (by_levels fences (d + n)) (of_levels fences (d + n))
    ∙ ap (λ (xs : List (List ℕ)). filter (low d) (by_levels fences (d + n)) ++
    xs) (filter_none (low d) (of_levels fences (d + n)) (λ f there.
    lt_false (length f) d (omega (arith, level_is fences (d + n) f there))))
    ∙ append-nil (filter (low d) (by_levels fences (d + n)))
    ∙ cut_from fences d n

cut_levels : (fences : List (List ℕ)) (d k : ℕ) → d ≤ k → filter (low d) (by_levels fences k) ≡ by_levels fences d
cut_levels fences d k fits = let same : k ≡ d + (k - d) = omega arith in ap (λ (n : ℕ). filter (low d) (by_levels fences n)) same ∙ cut_from fences d (k - d)

cut_head : (d : ℕ) (p : SubproblemLog) (ps : List SubproblemLog) (f : List ℕ) (fs : List (List ℕ)) (b : Bool) →
    nat_lt (length f) d ≡ b → p.subproblem ≡ Levels f → map subproblem_of (filter (is_flatter d) ps) ≡
    map Levels (filter (low d) fs) → map subproblem_of (filter (is_flatter d) (p ∷ ps)) ≡
    map Levels (filter (low d) (f ∷ fs))
cut_head d p ps f fs b is same rest =
    ap (λ (x : Subproblem). map subproblem_of (cond (nat_lt (subproblem_levels x) d) (p ∷ filter (is_flatter d) ps) (filter (is_flatter d) ps))) same
    ∙ by (nat_lt (length f) d)
  where
    by : (t : Bool) → map subproblem_of (cond t (p ∷ filter (is_flatter d) ps) (filter (is_flatter d) ps)) ≡ map Levels (cond t (f ∷ filter (low d) fs) (filter (low d) fs))
    by true = λ i. same i ∷ rest i
    by false = rest

cut_subproblems : (d : ℕ) (ps : List SubproblemLog) (fs : List (List ℕ)) → map subproblem_of ps ≡ map Levels fs → map subproblem_of (filter (is_flatter d) ps) ≡ map Levels (filter (low d) fs)
cut_subproblems d [] [] same = refl
cut_subproblems d [] (f ∷ fs) same = absurd cc
cut_subproblems d (p ∷ ps) [] same = absurd cc
cut_subproblems d (p ∷ ps) (f ∷ fs) same =
    let first : p.subproblem ≡ Levels f = cc in
    let others : map subproblem_of ps ≡ map Levels fs = cc in
    cut_head d p ps f fs (nat_lt (length f) d) refl first (cut_subproblems d ps fs others)

pub flat_found : (h : Header) (size k : ℕ) (logs : List SubproblemLog) (c : Chain) →
    AreLogs h size (flatter h.spec size k) logs → IsFound h size c → HasLevels k c →
    IsFlattest h size c (filter (is_flatter (depth c)) logs)
flat_found h size k logs c are is has = record {
  found = is;
  logged = record {
    subproblems_are = cut_subproblems (depth c) logs (flatter h.spec size k) are.subproblems_are
        ∙ ap (λ (xs : List (List ℕ)). map Levels xs)
        (cut_levels (fences_for h.spec size) (depth c) k (depth-least c k has));
    ends = All-filter (is_flatter (depth c)) (IsSubproblemLog h size) logs are.ends;
    live_bounds = All-filter (is_flatter (depth c)) (HasLiveBounds h size) logs are.live_bounds;
  };
}

pub flat_whole : (h : Header) (size d : ℕ) (logs : List SubproblemLog) (c : Chain) → AreLogs h size (flatter h.spec size d) logs → IsFound h size c → d ≡ depth c → IsFlattest h size c logs
flat_whole h size d logs c are is same = record { found = is; logged = subst (λ (k : ℕ). AreLogs h size (flatter h.spec size k) logs) same are }

pub ruleset flattening = (common_steps, flat_none, flat_more, flat_found, flat_whole)

-- ---- the verdict

-- the first open fence has fewer levels than the chain
pub open_below : (w : Words) (size d l : ℕ) (ps : List SubproblemLog) → map subproblem_of ps ≡ map Levels (flatter w size d) → open_levels ps ≡ Some l → l < d
open_below w size d l ps same opened =
    let named = open_fence l ps (flatter w size d) same opened in
    let below = flatter_is (fences_for w size) d named.0 named.1 in
    omega (arith, below.1, named.2)

-- ---- the certificate

minimum_by : (size count : ℕ) (o : Option ℕ) → verdicts.Minimum size ≡ found count o → (size ≡ count) × (o ≡ None)
minimum_by size count None e = (cc, refl)
minimum_by size count (Some l) e = absurd cc

trailer_with : (h : Header) (count size : ℕ) (o : Option ℕ) (c d : Chain) →
    IsTrailer h count o (Some c) (verdicts.Minimum size) → IsFound h size d →
    IsTrailer h count o (Some d) (verdicts.Minimum size)
trailer_with h count size o c d trailer is = (subst (λ (n : ℕ). IsFound h n d) (minimum_by size count o trailer.1).0 is, trailer.1)

count_is : (h : Header) (sections : List Section) (c : Chain) (size : ℕ) → AreSearched h sections c size → size ≡ length sections
count_is h sections c size is = (minimum_by size (length sections) (first_open sections) is.valid.trailer.1).0

-- the search found a chain of `size` steps
pub searched_found : (h : Header) (sections : List Section) (c : Chain) (size : ℕ) → AreSearched h sections c size → IsFound h size c
searched_found h sections c size is = subst (λ (n : ℕ). IsFound h n c) (sym (count_is h sections c size is)) is.valid.trailer.0

pub searched_least : (h : Header) (sections : List Section) (c d : Chain) (size : ℕ) (logs : List SubproblemLog)
    (v : DepthVerdict) → h.method ≡ Fence → AreSearched h sections c size → IsFlattest h size d logs →
    v ≡ levels_found (open_levels logs) (depth d)
    → IsLeast h (record { certificate = record { header = h; sections = sections; chain = Some d; verdict = verdicts.Minimum size }; subproblems = logs; verdict = v })
searched_least h sections c d size logs v by_fences is flattest follows =
    let count = count_is h sections c size is in
    let steps : size ≡ length d.steps = sym flattest.found.size_is in
    record {
      header = refl;
      is_depth = record {
        valid = record {
          header = is.valid.header;
          sections = is.valid.sections;
          sizes_to = is.valid.sizes_to;
          trailer = trailer_with h (length sections) size (first_open sections) c d is.valid.trailer flattest.found;
        };
        by_fences = by_fences;
        chain = d;
        chain_is = refl;
        least = ap (λ (n : ℕ). verdicts.Minimum n) steps;
        subproblems_are = subst (λ (n : ℕ). map subproblem_of logs ≡ map Levels (flatter h.spec n (depth d))) steps flattest.logged.subproblems_are;
        logs = subst (λ (n : ℕ). All (IsSubproblemLog h n) logs) steps flattest.logged.ends;
        verdict_is = follows;
      };
      live_bounds = is.live_bounds;
      subproblems_live_bounds = subst (λ (n : ℕ). All (HasLiveBounds h n) logs) count flattest.logged.live_bounds;
    }

pub ruleset bundling = (common_steps, open_below, searched_found, searched_least)

-- ---- the search

minimum_is : (v : Verdict) (size : ℕ) → minimum_of v ≡ Some size → v ≡ verdicts.Minimum size
minimum_is (verdicts.Minimum r) size e = let same : r ≡ size = cc in ap (λ (n : ℕ). verdicts.Minimum n) same
minimum_is (verdicts.NoChain x) size e = absurd cc
minimum_is (verdicts.Bounded l r) size e = absurd cc
minimum_is (verdicts.Open l) size e = absurd cc

pub is_searched : (b : Certificate) (c : Chain) (size : ℕ) → IsValid b → HaveLiveBounds b.header b.sections →
    b.chain ≡ Some c → minimum_of b.verdict ≡ Some size → AreSearched b.header b.sections c size
is_searched b c size valid live_bounds chain minimum =
    let verdict = minimum_is b.verdict size minimum in
    let named : b ≡ record {
      header = b.header;
      sections = b.sections;
      chain = Some c;
      verdict = verdicts.Minimum size;
    } = λ i. record {
      header = b.header;
      sections = b.sections;
      chain =
          chain i;
      verdict = verdict i;
    } in
    record { valid = subst IsValid named valid; live_bounds = live_bounds }

not_found_none : (max : ℕ) (o : Option ℕ) → minimum_of (not_found max o) ≡ None
not_found_none max None = refl
not_found_none max (Some l) = refl

pub no_chain : (b : Certificate) → IsValid b → b.chain ≡ None → minimum_of b.verdict ≡ None
no_chain b valid none =
    let trailer : IsTrailer b.header (length b.sections) (first_open b.sections) None b.verdict =
    subst (λ (o : Option Chain). IsTrailer b.header (length b.sections) (first_open b.sections) o b.verdict) none
    valid.trailer in
    ap minimum_of trailer.1 ∙ not_found_none b.header.max (first_open b.sections)

pub ruleset searching = (common_steps, is_searched, no_chain)
