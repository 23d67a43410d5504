-- Steps read few places: in a fresh chain each further step reads one place more than it adds to those that later
-- steps read, and two if it is the first with the values of some output.
use Rattle.std.proofs.Common.{◌≡◌, ℕ, zero, suc, ◌+◌, ◌≤◌, ◌<◌, true, false, Bool, cond, not, List, [], ◌∷◌, ◌++◌, length, refl, sym, ap, ◌∙◌, subst, arith, inl, inr}
use Rattle.std.proofs.lemmas.Bool.{cases_Bool, cases_lt, and_parts, or_cases}
use Rattle.std.proofs.lemmas.List.{length_push}
use Rattle.chain_theory.specs.Operator.{Basis}
use Rattle.chain_theory.specs.Chain.{Step}
use Rattle.tt_core.specs.Words.{Words}
use Rattle.bound_core.specs.Counts.{count_below}
use Rattle.bound_core.specs.CountLaws.{some_passes, true_false}
use Rattle.step_core.specs.Steps.{misses, meets_at, is_met, is_missing, word_in}
use Rattle.step_core.specs.Pruning.{meets, gives, gives_some}
use Rattle.step_core.specs.Waits.{has_read, is_later}
use Rattle.step_core.specs.Reads.{IsFreshSolution, NoneReading, missing}
use Rattle.step_core.specs.LoopLaws.{count_split, count_zero, count_more}
use Rattle.step_core.specs.StackLaws.{word_prefix}
use Rattle.step_core.specs.PruningLaws.{met_some}
use Rattle.step_core.specs.NormalSolutionLaws.{met_at}
use Rattle.step_core.specs.OutcomeLaws.{append_one}
use Rattle.step_core.specs.WaitLaws.{two_read}

-- ---- counts

pub count_weaker : (a b : ℕ → Bool) (k : ℕ) → ((i : ℕ) → i < k → a i ≡ true → b i ≡ true) → count_below a k ≤ count_below b k
count_weaker a b k each =
    let none : count_below (λ i. false) k ≡ 0 = count_zero (λ i. false) k (λ i low. refl) in
    omega (arith, none, count_split a b (λ i. false) k (λ i low e. inl (each i low e)))

-- where all that pass `a` pass `b`, and one passes `b` alone
pub count_fewer : (a b : ℕ → Bool) (k i : ℕ) → i < k → a i ≡ false → b i ≡ true →
    ((j : ℕ) → j < k → a j ≡ true → b j ≡ true) → count_below a k + 1 ≤ count_below b k
count_fewer a b zero i low fails passes each = absurd (omega (arith, low))
count_fewer a b (suc k) i low fails passes each = elim (cases_lt i k) [
  | inl below ↦ omega (
    arith,
    count_fewer a b k i below fails passes (λ j less. each j (omega (arith, less))),
    more a k,
    more b k,
    bits (a k) (b k) (each k (omega arith)),
  )
  | inr last ↦
      let same : i ≡ k = omega (arith, low, last) in
      let zero_more : ◌≡◌ {A = ℕ} (cond (a k) 1 0) 0 = ap {B = ℕ} (λ (x : Bool). cond x 1 0) (ap a (sym same) ∙ fails) in
      let one_more : ◌≡◌ {A = ℕ} (cond (b k) 1 0) 1 = ap {B = ℕ} (λ (x : Bool). cond x 1 0) (ap b (sym same) ∙ passes) in
      omega (arith, more a k, more b k, zero_more, one_more, count_weaker a b k (λ j less. each j (omega (arith, less))))
]
  where
    more : (c : ℕ → Bool) (k : ℕ) → count_below c (suc k) ≡ count_below c k + cond (c k) 1 0
    more c k = let e : suc k ≡ k + 1 = omega arith in ap (count_below c) e ∙ count_more c k

    bits : (x y : Bool) → (x ≡ true → y ≡ true) → cond x 1 0 ≤ cond y 1 0
    bits false y e = omega arith
    bits true true e = omega arith
    bits true false e = absurd (true_false (sym (e refl)))

-- ---- one step more

pub still_met : (w : Words) (prefix rest : List Step) (i : ℕ) → is_met w prefix i ≡ true → is_met w (prefix ++ rest) i ≡ true
unfolding meets_at
still_met w prefix rest i met =
    let found = met_some w prefix i met in
    met_at w (prefix ++ rest) i found.0 (omega (arith, found.1, longer prefix rest))
    (ap (λ (x : ℕ). not (misses w x i)) (word_prefix w.n prefix rest (w.n + 1 + found.0) (omega (arith, found.1))) ∙ found.2)
  where
    longer : (prefix rest : List Step) → length prefix ≤ length (prefix ++ rest)
    longer [] rest = omega arith
    longer (x ∷ prefix) rest = omega (arith, longer prefix rest)

pub still_missing : (w : Words) (prefix : List Step) (s : Step) (i : ℕ) → is_missing w (prefix ++ s ∷ []) i ≡ true → is_missing w prefix i ≡ true
unfolding is_missing
still_missing w prefix s i e = elim (cases_Bool (is_met w prefix i)) [
  | inl met ↦ absurd (true_false (sym e ∙ ap not (still_met w prefix (s ∷ []) i met)))
  | inr none ↦ ap not none
]

pub missing_after : (w : Words) (prefix : List Step) (s : Step) → missing w (prefix ++ s ∷ []) ≤ missing w prefix
missing_after w prefix s = count_weaker (is_missing w (prefix ++ s ∷ [])) (is_missing w prefix) (length w.on) (λ i low e. still_missing w prefix s i e)

-- the word of the last step gives an output, which isn't missing any more
pub given_met : (w : Words) (prefix : List Step) (s : Step) (word i : ℕ) → word ≡ word_in w.n (prefix ++ s ∷ []) (w.n + 1 + length prefix) → meets w word i ≡ true → is_missing w (prefix ++ s ∷ []) i ≡ false
unfolding is_missing meets meets_at
given_met w prefix s word i is has = ap not (met_at w (prefix ++ s ∷ []) i (length prefix) (omega (arith, length_push prefix s))
    (ap (λ (x : ℕ). not (misses w x i)) (sym is) ∙ has))

pub missing_given : (w : Words) (prefix : List Step) (s : Step) (word : ℕ) →
    word ≡ word_in w.n (prefix ++ s ∷ []) (w.n + 1 + length prefix) → gives_some w prefix word ≡ true →
    missing w (prefix ++ s ∷ []) + 1 ≤ missing w prefix
unfolding gives_some gives
missing_given w prefix s word is some =
    let found = some_passes (gives w prefix word) (length w.on) some in
    let parts = and_parts (meets w word found.0) (is_missing w prefix found.0) found.2 in
    count_fewer (is_missing w (prefix ++ s ∷ [])) (is_missing w prefix) (length w.on) found.0 found.1
    (given_met w prefix s word found.0 is parts.0) parts.1 (λ i low e. still_missing w prefix s i e)

-- the word of a step in the middle is that of the last step of the prefix
pub middle_word : (w : Words) (prefix rest : List Step) (s : Step) → word_in w.n (prefix ++ s ∷ rest) (w.n + 1 + length prefix) ≡ word_in w.n (prefix ++ s ∷ []) (w.n + 1 + length prefix)
middle_word w prefix rest s =
    ap (λ (ss : List Step). word_in w.n ss (w.n + 1 + length prefix)) (sym (append_one prefix s rest))
    ∙ word_prefix w.n (prefix ++ s ∷ []) rest (w.n + 1 + length prefix) (omega (arith, length_push prefix s))

-- ---- the bound

pub reads_few : (w : Words) (basis : Basis) (rest prefix : List Step) → IsFreshSolution w basis (prefix ++ rest) →
    count_below (is_later rest) (w.n + length prefix) ≤ length rest + missing w prefix
unfolding is_later
reads_few w basis [] prefix target = omega (arith, count_zero (is_later []) (w.n + length prefix) (λ i low. refl))
reads_few w basis (s ∷ rest) prefix target =
    let places : ℕ = w.n + length prefix in
    let longer : List Step = prefix ++ s ∷ [] in
    let moved : IsFreshSolution w basis (longer ++ rest) = subst (IsFreshSolution w basis) (sym (append_one prefix s rest)) target in
    let count : w.n + length longer ≡ places + 1 = omega (arith, length_push prefix s) in
    let later : count_below (is_later rest) (w.n + length longer) ≡ count_below (is_later rest) places + cond (is_later rest places) 1 0 = ap (count_below (is_later rest)) count ∙ count_more (is_later rest) places in
    let split : count_below (is_later (s ∷ rest)) places ≤ count_below (has_read s) places + count_below (is_later rest) places = count_split (is_later (s ∷ rest)) (has_read s) (is_later rest) places (λ i low e. or_cases (has_read s i) (is_later rest i) e) in
    elim (target.each prefix rest s refl) [
      | inl read ↦ omega (
        arith,
        later,
        split,
        two_read s places,
        reads_few w basis rest longer moved,
        missing_after w prefix s,
        ap {B = ℕ} (λ (x : Bool). cond x 1 0) read,
      )
      | inr given ↦ omega (
        arith,
        later,
        split,
        two_read s places,
        reads_few w basis rest longer moved,
        missing_given w prefix s (word_in w.n (prefix ++ s ∷ rest) (w.n + 1 + length prefix)) (middle_word w prefix rest s) given,
      )
    ]

-- too many places are to be read
pub too_many_reads : (w : Words) (basis : Basis) (prefix : List Step) (left : ℕ) (reads : ℕ → Bool) →
    left + missing w prefix < count_below reads (w.n + length prefix) → NoneReading w basis prefix left reads
too_many_reads w basis prefix left reads many = record {
  none = λ rest count target read. omega (
    arith,
    many,
    count,
    reads_few w basis rest prefix target,
    count_weaker reads (is_later rest) (w.n + length prefix) (λ i low e. read.each i low ∙ e),
  );
}
