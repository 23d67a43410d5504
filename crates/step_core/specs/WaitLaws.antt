-- Each place that waits is read by a later step; so many waiting places need many further steps.
use Rattle.std.proofs.Common.{◌≡◌, ℕ, zero, suc, ◌+◌, ◌-◌, ◌*◌, ◌≤◌, ◌<◌, ◌⊎◌, true, false, Bool, cond, ◌&&◌, ◌||◌, not, ◌==◌, List, [], ◌∷◌, ◌++◌, length, refl, sym, ap, ◌∙◌, arith, inl, inr}
use Rattle.std.specs.Prelude.{slice_get, Some, nat_lt}
use Rattle.std.proofs.lemmas.Bool.{cases_Bool, cases_eq, cases_lt, and_parts, or_cases, or_left, or_right, not-true, not-false, both_ways, cond-true, cond-false, lt-ltb, le-ltb, eq-eqb, eqb-true}
use Rattle.std.proofs.lemmas.Grind.{common_steps}
use Rattle.chain_theory.specs.Operator.{Basis, digit}
use Rattle.chain_theory.specs.Specification.{input}
use Rattle.chain_theory.specs.Chain.{Step, AreSteps}
use Rattle.chain_theory.specs.Value.{values_on}
use Rattle.chain_laws.specs.Follow.{with_own, own_has, other_has, value_is_local, values_are, step_is, input_value, step_at, step_at_is, step_at_get, push_keeps}
use Rattle.chain_laws.specs.NormalForm.{Reads}
use Rattle.tt_core.specs.Words.{Words, IsSpec, specification, cell_of}
use Rattle.tt_core.specs.RowLaws.{row_below}
use Rattle.bound_core.specs.Counts.{some_below, count_below}
use Rattle.bound_core.specs.CountLaws.{passes_some, some_passes, uses_is}
use Rattle.bound_core.specs.Support.{IsInSupport}
use Rattle.bound_core.specs.Needed.{opposite_met}
use Rattle.step_core.specs.Steps.{IsSolution, misses, meets_at, is_met, is_missing, all_met, word_in}
use Rattle.step_core.specs.Pruning.{meets_some}
use Rattle.step_core.specs.Waits.{is_at, has_read, is_later, reads_at, is_read, has_in_support, is_in_some_support, is_needed, waits, waiting}
use Rattle.step_core.specs.Enumeration.{IsNormalSolution, NoneFrom, NoneWith, HasPair}
use Rattle.step_core.specs.LoopLaws.{none_passes, count_split, count_zero, count_one}
use Rattle.step_core.specs.StackLaws.{word_prefix}
use Rattle.step_core.specs.WordLaws.{word_row, not_missed}
use Rattle.step_core.specs.NormalFormLaws.{out_meets}

-- ---- places that are read

pub at_is : (p i : ℕ) → i + 1 ≡ p → is_at p i ≡ true
unfolding is_at
at_is p i e = eq-eqb (i + 1) p e

pub is_at_is : (p i : ℕ) → is_at p i ≡ true → i + 1 ≡ p
unfolding is_at
is_at_is p i e = eqb-true (i + 1) p e

pub reads_has : (s : Step) (i p : ℕ) → p ≡ i + 1 → Reads s p → has_read s i ≡ true
unfolding has_read
reads_has s i p e (inl first) = or_left (is_at s.j i) (is_at s.k i) (at_is s.j i (sym (first ∙ e)))
reads_has s i p e (inr second) = or_right (is_at s.j i) (is_at s.k i) (at_is s.k i (sym (second ∙ e)))

pub later_has : (rest : List Step) (i p k : ℕ) (s : Step) → p ≡ i + 1 → slice_get rest k ≡ Some s → Reads s p → is_later rest i ≡ true
unfolding is_later
later_has [] i p k s e at reads = absurd cc
later_has (x ∷ rest) i p zero s e at reads =
    let same : s ≡ x = cc in
    or_left (has_read x i) (is_later rest i) (ap (λ (y : Step). has_read y i) (sym same) ∙ reads_has s i p e reads)
later_has (x ∷ rest) i p (suc k) s e at reads = or_right (has_read x i) (is_later rest i) (later_has rest i p k s e at reads)

-- a step of two lists one after the other is in one of them
pub either_get : (prefix rest : List Step) (i : ℕ) (s : Step) → slice_get (prefix ++ rest) i ≡ Some s → ((i < length prefix) × (slice_get prefix i ≡ Some s)) ⊎ ((k : ℕ) × (slice_get rest k ≡ Some s))
either_get [] rest i s at = inr (i, at)
either_get (x ∷ prefix) rest zero s at = inl (omega arith, at)
either_get (x ∷ prefix) rest (suc i) s at = elim (either_get prefix rest i s at) [
  | inl here ↦ inl (omega (arith, here.0), here.1)
  | inr later ↦ inr later
]

read_by : (steps : List Step) (p i : ℕ) (s : Step) → i < length steps → slice_get steps i ≡ Some s → Reads s p → is_read steps p ≡ true
unfolding is_read reads_at
read_by steps p i s low at reads =
    let same : step_at steps i ≡ s = step_at_is steps i s at in
    passes_some (reads_at steps p) (length steps) i low (ap (λ (x : Step). x.j == p || x.k == p) same ∙ one reads)
  where
    one : Reads s p → (s.j == p || s.k == p) ≡ true
    one (inl first) = or_left (s.j == p) (s.k == p) (eq-eqb s.j p first)
    one (inr second) = or_right (s.j == p) (s.k == p) (eq-eqb s.k p second)

-- a place that is read, but by no step so far, is read by a later step
read_later : (prefix rest : List Step) (i p k : ℕ) (s : Step) → p ≡ i + 1 → is_read prefix p ≡ false → slice_get (prefix ++ rest) k ≡ Some s → Reads s p → is_later rest i ≡ true
read_later prefix rest i p k s e unread at reads = elim (either_get prefix rest k s at) [
  | inl here ↦ absurd (both_ways (is_read prefix p) unread (read_by prefix p k s here.0 here.1 reads))
  | inr later ↦ later_has rest i p later.0 s e later.1 reads
]

-- ---- inputs

-- Rows that differ in one input alone give a step the same value, where no step reads that input.
same_value : (n t u j : ℕ) (steps : List Step) → AreSteps n steps → j ≤ n →
    ((i : ℕ) → 1 ≤ i → i ≤ n → (i ≡ j → ⊥) → input n t i ≡ input n u i) →
    ((i : ℕ) (s : Step) → slice_get steps i ≡ Some s → Reads s j → ⊥) → (p : ℕ) → n < p → p < n + 1 + length steps →
    values_on n t steps p ≡ values_on n u steps p
same_value n t u j steps are low alone unread p from to =
    values_are n t (with_own (values_on n u steps) j (input n t j)) steps are
    (λ q q_from q_to. elim (cases_eq q j) [
      | inl same ↦ own_has (values_on n u steps) j q (input n t j) same ∙ ap (input n t) (sym same)
      | inr other ↦ other_has (values_on n u steps) j q (input n t j) other ∙ input_value n u q steps (omega arith) ∙ sym (alone q q_from q_to other)
    ])
    (λ i s at.
    other_has (values_on n u steps) j (n + 1 + i) (input n t j) (λ e. omega (arith, e, low))
    ∙ step_is n u steps are i s at
    ∙ sym (value_is_local.same (with_own (values_on n u steps) j (input n t j)) (values_on n u steps) s
    (other_has (values_on n u steps) j s.j (input n t j) (λ e. unread i s at (inl e)))
    (other_has (values_on n u steps) j s.k (input n t j) (λ e. unread i s at (inr e)))))
    p (omega (arith, from)) to
    ∙ other_has (values_on n u steps) j p (input n t j) (λ e. omega (arith, e, low, from))

pub met_place : (w : Words) (basis : Basis) (steps : List Step) (i : ℕ) → IsSolution w basis steps → i < length w.on → (k : ℕ) × (k < length steps) × (misses w (word_in w.n steps (w.n + 1 + k)) i ≡ false)
unfolding all_met is_missing is_met meets_at
met_place w basis steps i solution low =
    let missing : not (is_met w steps i) ≡ false = none_passes (is_missing w steps) (length w.on) i (not-true (some_below (is_missing w steps) (length w.on)) solution.met) low in
    let found = some_passes (meets_at w steps i) (length steps) (not-false (is_met w steps i) missing) in
    (found.0, found.1, not-true (misses w (word_in w.n steps (w.n + 1 + found.0)) i) found.2)

-- an input in the support of an output is read
input_read : (w : Words) (basis : Basis) (steps : List Step) (j i : ℕ) → IsSpec w → IsSolution w basis steps →
    j ≤ w.n → i < length w.on → IsInSupport (specification w) j (i + 1) →
    ((k : ℕ) (s : Step) → slice_get steps k ≡ Some s → Reads s j → ⊥) → ⊥
input_read w basis steps j i spec solution low inside used unread =
    let met = met_place w basis steps i solution inside in
    let p : ℕ = w.n + 1 + met.0 in
    let word : ℕ = word_in w.n steps p in
    let rows = row_below w.n spec.inputs in
    let row : digit word used.row ≡ values_on w.n used.row steps p = word_row w.n used.row steps p spec.inputs solution.are (omega (arith, used.inside.0, rows)) (omega arith) (omega (arith, met.1)) in
    let other : digit word used.other ≡ values_on w.n used.other steps p =
    word_row w.n used.other steps p spec.inputs solution.are (omega (arith, used.inside.1, rows)) (omega arith)
    (omega (arith, met.1)) in
    let same : values_on w.n used.row steps p ≡ values_on w.n used.other steps p =
    same_value w.n used.row used.other j steps solution.are low used.alone unread p (omega arith)
    (omega (arith, met.1)) in
    opposite_met (cell_of w (i + 1) used.row) (cell_of w (i + 1) used.other) (digit word used.row)
    (digit word used.other) used.asked (not_missed w word i used.row met.2) (not_missed w word i used.other met.2)
    (row ∙ same ∙ sym other)

-- ---- what waits is read later

asked_by : (w : Words) (p : ℕ) → is_in_some_support w p ≡ true → 1 ≤ p → p ≤ w.n → (i : ℕ) × (i < length w.on) × IsInSupport (specification w) p (i + 1)
unfolding is_in_some_support has_in_support
asked_by w p asked from to =
    let found = some_passes (has_in_support w p) (length w.on) asked in
    (found.0, found.1, uses_is (specification w) (found.0 + 1) p from to found.2)

needed_input : (w : Words) (steps : List Step) (p : ℕ) → p ≤ w.n → is_needed w steps p ≡ true → is_in_some_support w p ≡ true
unfolding is_needed
needed_input w steps p low e = sym (cond-false (nat_lt w.n p) (not (meets_some w (word_in w.n steps p))) (is_in_some_support w p) (le-ltb w.n p low)) ∙ e

needed_step : (w : Words) (steps : List Step) (p : ℕ) → w.n < p → is_needed w steps p ≡ true → meets_some w (word_in w.n steps p) ≡ false
unfolding is_needed
needed_step w steps p low e = not-true (meets_some w (word_in w.n steps p)) (sym (cond-true (nat_lt w.n p) (not (meets_some w (word_in w.n steps p))) (is_in_some_support w p) (lt-ltb w.n p low)) ∙ e)

waits_parts : (w : Words) (steps : List Step) (i : ℕ) → waits w steps i ≡ true → (is_read steps (i + 1) ≡ false) × (is_needed w steps (i + 1) ≡ true)
unfolding waits
waits_parts w steps i e = let parts = and_parts (not (is_read steps (i + 1))) (is_needed w steps (i + 1)) e in (not-true (is_read steps (i + 1)) parts.0, parts.1)

input_later : (w : Words) (basis : Basis) (prefix rest : List Step) (i : ℕ) → IsSpec w →
    IsNormalSolution w basis (prefix ++ rest) → i < w.n → is_read prefix (i + 1) ≡ false →
    is_in_some_support w (i + 1) ≡ true → is_later rest i ≡ true
input_later w basis prefix rest i spec target low unread asked = elim (cases_Bool (is_later rest i)) [
  | inl later ↦ later
  | inr none ↦
      let found = asked_by w (i + 1) asked (omega arith) (omega (arith, low)) in
      absurd (input_read w basis (prefix ++ rest) (i + 1) found.0 spec target.solution (omega (arith, low)) found.1 found.2
      (λ k s at reads. both_ways (is_later rest i) none (read_later prefix rest i (i + 1) k s refl unread at reads)))
]

step_later : (w : Words) (basis : Basis) (prefix rest : List Step) (i m : ℕ) → IsSpec w →
    IsNormalSolution w basis (prefix ++ rest) → i ≡ w.n + m → m < length prefix → is_read prefix (i + 1) ≡ false →
    meets_some w (word_in w.n prefix (i + 1)) ≡ false → is_later rest i ≡ true
step_later w basis prefix rest i m spec target e low unread none =
    let steps : List Step = prefix ++ rest in
    let place : w.n + 1 + m ≡ i + 1 = omega (arith, e) in
    let long : m < length steps = omega (arith, low, longer prefix rest) in
    elim (target.normal_form.used m (step_at prefix m) (push_keeps prefix rest m (step_at prefix m) (step_at_get prefix m low))) [
      | inl out ↦
          let met : meets_some w (word_in w.n steps (w.n + 1 + m)) ≡ true =
          out_meets w steps target.outs (w.n + 1 + m) spec target.solution.are target.agrees (omega arith)
          (omega (arith, long)) out in
          let same : word_in w.n steps (w.n + 1 + m) ≡ word_in w.n prefix (i + 1) = ap (word_in w.n steps) place ∙ word_prefix w.n prefix rest (i + 1) (omega (arith, e, low)) in
          absurd (both_ways (meets_some w (word_in w.n prefix (i + 1))) none (ap (meets_some w) (sym same) ∙ met))
      | inr read ↦ read_later prefix rest i (w.n + 1 + m) read.0 read.1 place (ap (is_read prefix) place ∙ unread) read.2 read.3
    ]
  where
    longer : (prefix rest : List Step) → length prefix ≤ length (prefix ++ rest)
    longer [] rest = omega arith
    longer (x ∷ prefix) rest = omega (arith, longer prefix rest)

waits_later : (w : Words) (basis : Basis) (prefix rest : List Step) (i : ℕ) → IsSpec w →
    IsNormalSolution w basis (prefix ++ rest) → i < w.n + length prefix → waits w prefix i ≡ true →
    is_later rest i ≡ true
waits_later w basis prefix rest i spec target low e =
    let parts = waits_parts w prefix i e in
    elim (cases_lt i w.n) [
      | inl is_input ↦ input_later w basis prefix rest i spec target is_input parts.0 (needed_input w prefix (i + 1) (omega (arith, is_input)) parts.1)
      | inr is_step ↦ step_later w basis prefix rest i (i - w.n) spec target (omega (arith, is_step))
          (omega (arith, is_step, low)) parts.0 (needed_step w prefix (i + 1) (omega (arith, is_step)) parts.1)
    ]

-- ---- counts

-- different numbers are different places
at_once : (p i j : ℕ) → i < j → is_at p i ≡ true → is_at p j ≡ true → ⊥
at_once p i j less first second = omega (arith, less, is_at_is p i first, is_at_is p j second)

-- a step reads two places at most
pub two_read : (s : Step) (k : ℕ) → count_below (has_read s) k ≤ 2
unfolding has_read
two_read s k = omega (
  arith,
  count_split (has_read s) (is_at s.j) (is_at s.k) k (λ i low e. or_cases (is_at s.j i) (is_at s.k i) e),
  count_one (is_at s.j) k (λ i j less low. at_once s.j i j less),
  count_one (is_at s.k) k (λ i j less low. at_once s.k i j less),
)

later_few : (rest : List Step) (k : ℕ) → count_below (is_later rest) k ≤ 2 * length rest
unfolding is_later
later_few [] k = omega (arith, count_zero (is_later []) k (λ i low. refl))
later_few (s ∷ rest) k = omega (
  arith,
  count_split (is_later (s ∷ rest)) (has_read s) (is_later rest) k (λ i low e. or_cases (has_read s i) (is_later rest i) e),
  two_read s k,
  later_few rest k,
)

-- the place waits, and is the given one
unfoldable is_own : Words → List Step → ℕ → ℕ → Bool
is_own w prefix p i = waits w prefix i && is_at p i

own_few : (w : Words) (prefix : List Step) (p k : ℕ) → count_below (is_own w prefix p) k ≤ cond (waits w prefix (p - 1)) 1 0
unfolding is_own
own_few w prefix p k = elim (cases_Bool (waits w prefix (p - 1))) [
  | inl waits_there ↦ rw waits_there (count_one (is_own w prefix p) k (λ i j less low first second.
      at_once p i j less (and_parts (waits w prefix i) (is_at p i) first).1
      (and_parts (waits w prefix j) (is_at p j) second).1))
  | inr none ↦ rw none (omega (arith, count_zero (is_own w prefix p) k (λ i low. fails i none)))
]
  where
    fails : (i : ℕ) → waits w prefix (p - 1) ≡ false → (waits w prefix i && is_at p i) ≡ false
    fails i none = elim (cases_Bool (waits w prefix i && is_at p i)) [
      | inr e ↦ e
      | inl e ↦
          let parts = and_parts (waits w prefix i) (is_at p i) e in
          let here : p - 1 ≡ i = omega (arith, is_at_is p i parts.1) in
          absurd (both_ways (waits w prefix (p - 1)) none (ap (waits w prefix) here ∙ parts.0))
    ]

-- one of the two places
unfoldable is_of : Words → List Step → ℕ → ℕ → ℕ → Bool
is_of w prefix low high i = is_own w prefix low i || is_own w prefix high i

of_few : (w : Words) (prefix : List Step) (low high k : ℕ) → count_below (is_of w prefix low high) k ≤ cond (waits w prefix (low - 1)) 1 0 + cond (waits w prefix (high - 1)) 1 0
unfolding is_of
of_few w prefix low high k = omega (
  arith,
  count_split (is_of w prefix low high) (is_own w prefix low) (is_own w prefix high) k (λ i inside e. or_cases (is_own w prefix low i) (is_own w prefix high i) e),
  own_few w prefix low k,
  own_few w prefix high k,
)

-- ---- the pruning rules

pub too_many : (w : Words) (basis : Basis) (prefix : List Step) (left : ℕ) → IsSpec w → 2 * left < waiting w prefix → NoneFrom w basis prefix left
too_many w basis prefix left spec many = record {
  none = λ rest count target.
      let k : ℕ = w.n + length prefix in
      let none : count_below (λ i. false) k ≡ 0 = count_zero (λ i. false) k (λ i low. refl) in
      omega (arith, many, count, none, later_few rest k, count_split (waits w prefix) (is_later rest) (λ i. false) k (λ i low e. inl (waits_later w basis prefix rest i spec target low e)));
}

by_pair : (s : Step) (low high i : ℕ) → HasPair low high s → has_read s i ≡ true → (i + 1 ≡ low) ⊎ (i + 1 ≡ high)
unfolding has_read
by_pair s low high i pair e = elim (cases_lt s.j s.k) [
  | inl orders_operands ↦ elim (or_cases (is_at s.j i) (is_at s.k i) e) [
    | inl first ↦ inl (omega (arith, is_at_is s.j i first, orders_operands, pair.0))
    | inr second ↦ inr (omega (arith, is_at_is s.k i second, orders_operands, pair.1))
  ]
  | inr falls ↦ elim (or_cases (is_at s.j i) (is_at s.k i) e) [
    | inl first ↦ inr (omega (arith, is_at_is s.j i first, falls, pair.1))
    | inr second ↦ inl (omega (arith, is_at_is s.k i second, falls, pair.0))
  ]
]

pub pair_leaves : (w : Words) (basis : Basis) (prefix : List Step) (left low high : ℕ) → IsSpec w → 1 ≤ left →
    2 * (left - 1) + (cond (waits w prefix (low - 1)) 1 0 + cond (waits w prefix (high - 1)) 1 0) < waiting w prefix →
    NoneWith w basis prefix left (HasPair low high)
unfolding is_later is_of is_own
pair_leaves w basis prefix left low high spec some many = record {
  none = λ s rest pair count target.
      let k : ℕ = w.n + length prefix in
      let each : (i : ℕ) → i < k → waits w prefix i ≡ true → (is_of w prefix low high i ≡ true) ⊎ (is_later rest i ≡ true) = λ i inside e.
      elim (or_cases (has_read s i) (is_later rest i) (waits_later w basis prefix (s ∷ rest) i spec target inside e)) [
        | inr later ↦ inr later
        | inl here ↦ inl (elim (by_pair s low high i pair here) [
          | inl first ↦ or_left (waits w prefix i && is_at low i) (waits w prefix i && is_at high i) (rw (e, at_is low i first) refl)
          | inr second ↦ or_right (waits w prefix i && is_at low i) (waits w prefix i && is_at high i) (rw (e, at_is high i second) refl)
        ])
      ] in
      omega (arith, many, some, count, of_few w prefix low high k, later_few rest k, count_split (waits w prefix) (is_of w prefix low high) (is_later rest) k each);
}

-- ---- loops

pub step_is_needed : (w : Words) (steps : List Step) (p : ℕ) (met : Bool) → w.n < p → met ≡ meets_some w (word_in w.n steps p) → not met ≡ is_needed w steps p
unfolding is_needed
step_is_needed w steps p met low is = ap not is ∙ sym (cond-true (nat_lt w.n p) (not (meets_some w (word_in w.n steps p))) (is_in_some_support w p) (lt-ltb w.n p low))

pub input_is_needed : (w : Words) (steps : List Step) (p : ℕ) (asked : Bool) → p ≤ w.n → asked ≡ is_in_some_support w p → asked ≡ is_needed w steps p
unfolding is_needed
input_is_needed w steps p asked low is = is ∙ sym (cond-false (nat_lt w.n p) (not (meets_some w (word_in w.n steps p))) (is_in_some_support w p) (le-ltb w.n p low))

pub some_reads : (steps : List Step) (p i : ℕ) → reads_at steps p i ≡ true → i < length steps → is_read steps p ≡ true
unfolding is_read
some_reads steps p i here low = passes_some (reads_at steps p) (length steps) i low here

pub some_has_in_support : (w : Words) (p i : ℕ) → has_in_support w p i ≡ true → i < length w.on → is_in_some_support w p ≡ true
unfolding is_in_some_support
some_has_in_support w p i here low = passes_some (has_in_support w p) (length w.on) i low here

pub step_reads : (steps : List Step) (s : Step) (p i : ℕ) (read : Bool) → s ≡ step_at steps i → read ≡ (s.j == p || s.k == p) → read ≡ reads_at steps p i
unfolding reads_at
step_reads steps s p i read is e = e ∙ ap (λ (x : Step). x.j == p || x.k == p) is

pub ruleset reading = (common_steps, step_reads)

pub ruleset leaving = (common_steps, pair_leaves)

pub ruleset waiting_for = (common_steps, step_is_needed, input_is_needed)
