-- The components of the places that further steps read, and of the outputs that are missing. A step joins two of them.
use Rattle.std.proofs.Common.{◌≡◌, ℕ, ◌+◌, ◌-◌, ◌≤◌, ◌<◌, ◌⊎◌, true, false, Bool, cond, ◌&&◌, ◌||◌, not, ◌==◌, List, [], ◌∷◌, ◌++◌, length, refl, sym, ap, ◌∙◌, subst, arith, inl, inr}
use Rattle.std.proofs.lemmas.Bool.{cases_Bool, cases_lt, cases_eq, and_parts, and_from, or_cases, both_ways, not-true, not-false, cond-true, cond-false, eqb-true, eqb-false}
use Rattle.std.proofs.lemmas.List.{length_push}
use Rattle.chain_theory.specs.Operator.{Basis}
use Rattle.chain_theory.specs.Chain.{Step, IsStepAt}
use Rattle.chain_laws.specs.Follow.{with_own, own_has, other_has}
use Rattle.op_basis.specs.WordOperator.{on_words}
use Rattle.tt_core.specs.Words.{Words}
use Rattle.bound_core.specs.Counts.{count_below}
use Rattle.bound_core.specs.CountLaws.{some_passes}
use Rattle.step_core.specs.Steps.{misses, meets_at, is_met, is_missing, word_in}
use Rattle.step_core.specs.Pruning.{meets, gives, gives_some}
use Rattle.step_core.specs.Waits.{is_at, has_read, is_later}
use Rattle.step_core.specs.Reads.{IsFreshSolution, ReadExactly}
use Rattle.step_core.specs.LoopLaws.{count_split, count_one}
use Rattle.step_core.specs.StackLaws.{word_prefix, word_last}
use Rattle.step_core.specs.PruningLaws.{met_some}
use Rattle.step_core.specs.NormalSolutionLaws.{met_at}
use Rattle.step_core.specs.OutcomeLaws.{step_among}
use Rattle.step_core.specs.WaitLaws.{is_at_is}
use Rattle.step_core.specs.ReadCountLaws.{still_met, still_missing, given_met, middle_word}
use Rattle.step_core.specs.DeterminedLaws.{SameBits, first_read, second_read, rest_read, step_same}

-- The word depends on places of one colour alone: on two rows with equal values at these, of the set, it has equal bits.
pub record DependsOn (w : Words) (base : List Step) (reads : ℕ → Bool) (colours : ℕ → ℕ) (colour word : ℕ) : Type 0 where
  pub each : (p q : ℕ) → p < 64 → q < 64 →
      ((x : ℕ) → x < w.n + length base → reads x ≡ true → colours x ≡ colour → SameBits p q (word_in w.n base (x + 1))) →
      SameBits p q word

-- a further step has the values of output i + 1, and its place has the colour
pub record IsGivenIn (w : Words) (base prefix : List Step) (colours : ℕ → ℕ) (colour output : ℕ) : Type 0 where
  pub index : ℕ
  pub from : length base ≤ index
  pub to : index < length prefix
  pub has : misses w (word_in w.n prefix (w.n + 1 + index)) output ≡ false
  pub same : colours (w.n + index) ≡ colour

-- a place of the colour is read later
pub record IsReadIn (places : ℕ) (rest : List Step) (colours : ℕ → ℕ) (colour : ℕ) : Type 0 where
  pub place : ℕ
  pub inside : place < places
  pub read : is_later rest place ≡ true
  pub same : colours place ≡ colour

-- an output of the colour was missing, and isn't any more
pub record IsOutIn (w : Words) (base prefix : List Step) (outs : ℕ → ℕ) (colour : ℕ) : Type 0 where
  pub output : ℕ
  pub inside : output < length w.on
  pub missed : is_missing w base output ≡ true
  pub met : is_met w prefix output ≡ true
  pub same : outs output ≡ colour

-- The components after some of the further steps: places and outputs have the colours of their components, and each
-- place of `roots` is in a component of its own, which is read later or has given an output that was missing.
pub record AreComponents (w : Words) (base : List Step) (reads : ℕ → Bool) (prefix rest : List Step)
    (colours outs : ℕ → ℕ) (roots : ℕ → Bool) : Type 0 where
  pub longer : length base ≤ length prefix
  pub within : (x : ℕ) → x < w.n + length base → is_later rest x ≡ true → reads x ≡ true
  pub older : (o : ℕ) → is_missing w prefix o ≡ true → is_missing w base o ≡ true
  pub apart : (i j : ℕ) → i < w.n + length base → j < w.n + length base → roots i ≡ true → roots j ≡ true → colours i ≡ colours j → i ≡ j
  pub lives : (i : ℕ) → i < w.n + length base → roots i ≡ true →
      IsReadIn (w.n + length prefix) rest colours (colours i) ⊎ IsOutIn w base prefix outs (colours i)
  pub depends : (i : ℕ) → i < w.n + length prefix → (i < w.n + length base → reads i ≡ true) →
      DependsOn w base reads colours (colours i) (word_in w.n prefix (i + 1))
  pub givers : (o : ℕ) → o < length w.on → is_missing w base o ≡ true → is_met w prefix o ≡ true →
      IsGivenIn w base prefix colours (outs o) o

missing_met : (w : Words) (steps : List Step) (o : ℕ) → is_missing w steps o ≡ true → is_met w steps o ≡ false
unfolding is_missing
missing_met w steps o e = not-true (is_met w steps o) e

missing_not : (w : Words) (steps : List Step) (o : ℕ) → is_missing w steps o ≡ false → is_met w steps o ≡ true
unfolding is_missing
missing_not w steps o e = not-false (is_met w steps o) e

-- at first each place is a component
pub first_components : (w : Words) (base rest : List Step) (reads : ℕ → Bool) → ReadExactly rest (w.n + length base) reads →
    AreComponents w base reads base rest (λ i. i) (λ o. o) reads
first_components w base rest reads read = record {
  longer = omega arith;
  within = λ x low e. sym (read.each x low) ∙ e;
  older = λ o e. e;
  apart = λ i j low_i low_j root_i root_j e. e;
  lives = λ i low root. inl (record { place = i; inside = low; read = read.each i low ∙ root; same = refl });
  depends = λ i low known. record { each = λ p q low_p low_q same. same i low (known low) refl };
  givers = λ o low missed met. absurd (both_ways (is_met w base o) (missing_met w base o missed) met);
}

-- ---- a step joins two components

-- the colour b becomes a
abbrev joined : ℕ → ℕ → ℕ → ℕ
joined a b colour = with_own (λ (x : ℕ). x) b a colour

joined_first : (a b : ℕ) → joined a b a ≡ a
joined_first a b = elim (cases_eq a b) [
  | inl e ↦ own_has (λ (x : ℕ). x) b a a e
  | inr apart ↦ other_has (λ (x : ℕ). x) b a a apart
]

-- the colours after a step with the operands j and k at the place i + 1
abbrev pub colours_after : (ℕ → ℕ) → ℕ → ℕ → ℕ → ℕ → ℕ
colours_after colours j k i = with_own (λ (x : ℕ). joined (colours (j - 1)) (colours (k - 1)) (colours x)) i (colours (j - 1))

abbrev pub outs_after : Words → List Step → (ℕ → ℕ) → ℕ → ℕ → (ℕ → ℕ) → ℕ → ℕ
outs_after w prefix colours j k outs o = cond (is_met w prefix o) (joined (colours (j - 1)) (colours (k - 1)) (outs o)) (colours (j - 1))

-- the component of b isn't one of its own any more
unfoldable pub roots_after : (ℕ → ℕ) → ℕ → ℕ → (ℕ → Bool) → ℕ → Bool
roots_after colours a b roots i = roots i && joined a b (colours i) == colours i

root_before : (colours : ℕ → ℕ) (a b : ℕ) (roots : ℕ → Bool) (i : ℕ) → roots_after colours a b roots i ≡ true → roots i ≡ true
unfolding roots_after
root_before colours a b roots i e = (and_parts (roots i) (joined a b (colours i) == colours i) e).0

root_same : (colours : ℕ → ℕ) (a b : ℕ) (roots : ℕ → Bool) (i : ℕ) → roots_after colours a b roots i ≡ true → joined a b (colours i) ≡ colours i
unfolding roots_after
root_same colours a b roots i e = eqb-true (joined a b (colours i)) (colours i) (and_parts (roots i) (joined a b (colours i) == colours i) e).1

-- the root that a step takes away
unfoldable root_lost : (ℕ → ℕ) → ℕ → ℕ → (ℕ → Bool) → ℕ → Bool
root_lost colours a b roots i = roots i && not (joined a b (colours i) == colours i)

lost_colour : (colours : ℕ → ℕ) (a b : ℕ) (roots : ℕ → Bool) (i : ℕ) → root_lost colours a b roots i ≡ true → (roots i ≡ true) × (colours i ≡ b)
unfolding root_lost
lost_colour colours a b roots i e =
    let parts = and_parts (roots i) (not (joined a b (colours i) == colours i)) e in
    let moved : (joined a b (colours i) == colours i) ≡ false = not-true (joined a b (colours i) == colours i) parts.1 in (
      parts.0,
      elim (cases_eq (colours i) b) [
        | inl same ↦ same
        | inr other ↦ absurd (eqb-false (joined a b (colours i)) (colours i) moved (other_has (λ (x : ℕ). x) b (colours i) a other))
      ],
    )

root_kept : (colours : ℕ → ℕ) (a b : ℕ) (roots : ℕ → Bool) (i : ℕ) → roots i ≡ true →
    (roots_after colours a b roots i ≡ true) ⊎ (root_lost colours a b roots i ≡ true)
unfolding roots_after root_lost
root_kept colours a b roots i root = elim (cases_Bool (joined a b (colours i) == colours i)) [
  | inl same ↦ inl (and_from (roots i) (joined a b (colours i) == colours i) root same)
  | inr moved ↦ inr (and_from (roots i) (not (joined a b (colours i) == colours i)) root (ap not moved))
]

-- one at most
pub roots_left : (colours : ℕ → ℕ) (a b : ℕ) (roots : ℕ → Bool) (m : ℕ) →
    ((i j : ℕ) → i < m → j < m → roots i ≡ true → roots j ≡ true → colours i ≡ colours j → i ≡ j) →
    count_below roots m ≤ count_below (roots_after colours a b roots) m + 1
roots_left colours a b roots m apart = omega (
  arith,
  count_split roots (roots_after colours a b roots) (root_lost colours a b roots) m (λ i low e. root_kept colours a b roots i e),
  count_one (root_lost colours a b roots) m (λ i j less low first second.
      once i j less low (lost_colour colours a b roots i first) (lost_colour colours a b roots j second)),
)
  where
    once : (i j : ℕ) → i < j → j < m → (roots i ≡ true) × (colours i ≡ b) → (roots j ≡ true) × (colours j ≡ b) → ⊥
    once i j less low first second = omega (arith, less, apart i j (omega (arith, less, low)) low first.0 second.0 (first.1 ∙ sym second.1))

-- a lower place is coloured anew by the merge alone
old_colour : (colours : ℕ → ℕ) (j k i x : ℕ) → x < i → colours_after colours j k i x ≡ joined (colours (j - 1)) (colours (k - 1)) (colours x)
old_colour colours j k i x low =
    other_has (λ (y : ℕ). joined (colours (j - 1)) (colours (k - 1)) (colours y)) i x (colours (j - 1)) (λ e. omega (arith, e, low))

own_colour : (colours : ℕ → ℕ) (j k i : ℕ) → colours_after colours j k i i ≡ colours (j - 1)
own_colour colours j k i =
    own_has (λ (y : ℕ). joined (colours (j - 1)) (colours (k - 1)) (colours y)) i i (colours (j - 1)) refl

-- a root that is left keeps its colour
root_colour : (colours : ℕ → ℕ) (j k places : ℕ) (roots : ℕ → Bool) (i : ℕ) → i < places →
    roots_after colours (colours (j - 1)) (colours (k - 1)) roots i ≡ true → colours_after colours j k places i ≡ colours i
root_colour colours j k places roots i low root =
    old_colour colours j k places i low ∙ root_same colours (colours (j - 1)) (colours (k - 1)) roots i root

-- the word depends on the places of a colour that its colour became
widened : (w : Words) (base : List Step) (reads : ℕ → Bool) (old new : ℕ → ℕ) (from to word : ℕ) →
    ((x : ℕ) → x < w.n + length base → old x ≡ from → new x ≡ to) → DependsOn w base reads old from word → DependsOn w base reads new to word
widened w base reads old new from to word moves is = record {
  each = λ p q low_p low_q same. is.each p q low_p low_q (λ x low read e. same x low read (moves x low e));
}

-- the place of an operand
operand_index : (w : Words) (prefix : List Step) (p : ℕ) → 1 ≤ p → p < w.n + 1 + length prefix → (p - 1 < w.n + length prefix) × (p - 1 + 1 ≡ p)
operand_index w prefix p from to = (omega (arith, from, to), omega (arith, from))

next_depends : (w : Words) (base prefix rest : List Step) (s : Step) (reads : ℕ → Bool) (colours outs : ℕ → ℕ) (roots : ℕ → Bool) →
    IsStepAt (w.n + 1 + length prefix) s → AreComponents w base reads prefix (s ∷ rest) colours outs roots →
    (i : ℕ) → i < w.n + length (prefix ++ s ∷ []) → (i < w.n + length base → reads i ≡ true) →
    DependsOn w base reads (colours_after colours s.j s.k (w.n + length prefix)) (colours_after colours s.j s.k (w.n + length prefix) i)
    (word_in w.n (prefix ++ s ∷ []) (i + 1))
next_depends w base prefix rest s reads colours outs roots at are i low known =
    let places : ℕ = w.n + length prefix in
    let a : ℕ = colours (s.j - 1) in
    let b : ℕ = colours (s.k - 1) in
    let new : ℕ → ℕ = colours_after colours s.j s.k places in
    let old : (x : ℕ) → x < w.n + length base → new x ≡ joined a b (colours x) = λ x low_x. old_colour colours s.j s.k places x (omega (arith, low_x, are.longer)) in
    elim (cases_lt i places) [
      | inl before ↦
          let whole : word_in w.n (prefix ++ s ∷ []) (i + 1) ≡ word_in w.n prefix (i + 1) = word_prefix w.n prefix (s ∷ []) (i + 1) (omega (arith, before)) in
          subst (DependsOn w base reads new (new i)) (sym whole)
          (widened w base reads colours new (colours i) (new i) (word_in w.n prefix (i + 1))
          (λ x low_x e. old x low_x ∙ ap (joined a b) e ∙ sym (old_colour colours s.j s.k places i before)) (are.depends i before known))
      | inr past ↦
          let here : i ≡ places = omega (arith, past, low, length_push prefix s) in
          let last : word_in w.n (prefix ++ s ∷ []) (i + 1) ≡ on_words s.op (word_in w.n prefix s.j) (word_in w.n prefix s.k) =
          word_last w.n prefix s (i + 1) (omega (arith, here)) in
          let own : new i ≡ a = ap new here ∙ own_colour colours s.j s.k places in
          let of_j = operand_index w prefix s.j at.j_from at.j_below in
          let of_k = operand_index w prefix s.k at.k_from at.k_below in
          let first : DependsOn w base reads new a (word_in w.n prefix s.j) =
          subst (λ (p : ℕ). DependsOn w base reads new a (word_in w.n prefix p)) of_j.1
          (widened w base reads colours new a a (word_in w.n prefix (s.j - 1 + 1))
          (λ x low_x e. old x low_x ∙ ap (joined a b) e ∙ joined_first a b)
          (are.depends (s.j - 1) of_j.0 (λ below. are.within (s.j - 1) below (first_read s rest (s.j - 1) (sym of_j.1))))) in
          let second : DependsOn w base reads new a (word_in w.n prefix s.k) =
          subst (λ (p : ℕ). DependsOn w base reads new a (word_in w.n prefix p)) of_k.1
          (widened w base reads colours new b a (word_in w.n prefix (s.k - 1 + 1))
          (λ x low_x e. old x low_x ∙ own_has (λ (y : ℕ). y) b (colours x) a e)
          (are.depends (s.k - 1) of_k.0 (λ below. are.within (s.k - 1) below (second_read s rest (s.k - 1) (sym of_k.1))))) in
          subst (λ (c : ℕ). DependsOn w base reads new c (word_in w.n (prefix ++ s ∷ []) (i + 1))) (sym own)
          (subst (DependsOn w base reads new a) (sym last) (record {
            each = λ p q low_p low_q same. step_same s.op (word_in w.n prefix s.j) (word_in w.n prefix s.k) p q low_p low_q
                (first.each p q low_p low_q same) (second.each p q low_p low_q same);
          }))
    ]

-- an output that the step is the first to give
first_given : (w : Words) (prefix : List Step) (s : Step) (o : ℕ) → is_met w (prefix ++ s ∷ []) o ≡ true → is_met w prefix o ≡ false →
    misses w (word_in w.n (prefix ++ s ∷ []) (w.n + 1 + length prefix)) o ≡ false
unfolding meets_at
first_given w prefix s o met before =
    let found = met_some w (prefix ++ s ∷ []) o met in
    elim (cases_lt found.0 (length prefix)) [
      | inl low ↦ absurd (both_ways (is_met w prefix o) before (met_at w prefix o found.0 low
          (ap (λ (x : ℕ). not (misses w x o)) (sym (word_prefix w.n prefix (s ∷ []) (w.n + 1 + found.0) (omega (arith, low)))) ∙ found.2)))
      | inr past ↦
          let here : found.0 ≡ length prefix = omega (arith, past, found.1, length_push prefix s) in
          subst (λ (k : ℕ). misses w (word_in w.n (prefix ++ s ∷ []) (w.n + 1 + k)) o ≡ false) here
          (not-true (misses w (word_in w.n (prefix ++ s ∷ []) (w.n + 1 + found.0)) o) found.2)
    ]

next_givers : (w : Words) (base prefix rest : List Step) (s : Step) (reads : ℕ → Bool) (colours outs : ℕ → ℕ) (roots : ℕ → Bool) →
    AreComponents w base reads prefix (s ∷ rest) colours outs roots →
    (o : ℕ) → o < length w.on → is_missing w base o ≡ true → is_met w (prefix ++ s ∷ []) o ≡ true →
    IsGivenIn w base (prefix ++ s ∷ []) (colours_after colours s.j s.k (w.n + length prefix)) (outs_after w prefix colours s.j s.k outs o) o
next_givers w base prefix rest s reads colours outs roots are o low missed met =
    let places : ℕ = w.n + length prefix in
    let a : ℕ = colours (s.j - 1) in
    let b : ℕ = colours (s.k - 1) in
    elim (cases_Bool (is_met w prefix o)) [
      | inl before ↦
          let given = are.givers o low missed before in
          record {
            index = given.index;
            from = given.from;
            to = omega (arith, given.to, length_push prefix s);
            has = ap (λ (x : ℕ). misses w x o) (word_prefix w.n prefix (s ∷ []) (w.n + 1 + given.index) (omega (arith, given.to))) ∙ given.has;
            same = old_colour colours s.j s.k places (w.n + given.index) (omega (arith, given.to)) ∙ ap (joined a b) given.same
                ∙ sym (cond-true (is_met w prefix o) (joined a b (outs o)) a before);
          }
      | inr missing ↦ record {
        index = length prefix;
        from = are.longer;
        to = omega (arith, length_push prefix s);
        has = first_given w prefix s o met missing;
        same = own_colour colours s.j s.k places ∙ sym (cond-false (is_met w prefix o) (joined a b (outs o)) a missing);
      }
    ]

-- the component of the step is read later, or has given an output
own_lives : (w : Words) (basis : Basis) (base prefix rest : List Step) (s : Step) (reads : ℕ → Bool) (colours outs : ℕ → ℕ)
    (roots : ℕ → Bool) (colour : ℕ) → IsFreshSolution w basis (prefix ++ s ∷ rest) →
    AreComponents w base reads prefix (s ∷ rest) colours outs roots → colours (s.j - 1) ≡ colour →
    IsReadIn (w.n + length (prefix ++ s ∷ [])) rest (colours_after colours s.j s.k (w.n + length prefix)) colour ⊎
    IsOutIn w base (prefix ++ s ∷ []) (outs_after w prefix colours s.j s.k outs) colour
unfolding gives_some gives
own_lives w basis base prefix rest s reads colours outs roots colour target are is = elim (target.each prefix rest s refl) [
  | inl read ↦ inl (record {
    place = w.n + length prefix;
    inside = omega (arith, length_push prefix s);
    read = read;
    same = own_colour colours s.j s.k (w.n + length prefix) ∙ is;
  })
  | inr given ↦
      let word : ℕ = word_in w.n (prefix ++ s ∷ rest) (w.n + 1 + length prefix) in
      let found = some_passes (gives w prefix word) (length w.on) given in
      let parts = and_parts (meets w word found.0) (is_missing w prefix found.0) found.2 in
      inr (record {
        output = found.0;
        inside = found.1;
        missed = are.older found.0 parts.1;
        met = missing_not w (prefix ++ s ∷ []) found.0 (given_met w prefix s word found.0 (middle_word w prefix rest s) parts.0);
        same = cond-false (is_met w prefix found.0) (joined (colours (s.j - 1)) (colours (s.k - 1)) (outs found.0)) (colours (s.j - 1)) (missing_met w prefix found.0 parts.1) ∙ is;
      })
]

-- another component, of a place that is read later
other_read : (w : Words) (prefix rest : List Step) (s : Step) (colours : ℕ → ℕ) (colour : ℕ) →
    (colours (s.j - 1) ≡ colour → ⊥) → (colours (s.k - 1) ≡ colour → ⊥) → IsReadIn (w.n + length prefix) (s ∷ rest) colours colour →
    IsReadIn (w.n + length (prefix ++ s ∷ [])) rest (colours_after colours s.j s.k (w.n + length prefix)) colour
unfolding is_later has_read
other_read w prefix rest s colours colour not_first not_second is =
    elim (or_cases (is_at s.j is.place || is_at s.k is.place) (is_later rest is.place) is.read) [
      | inr later ↦ record {
        place = is.place;
        inside = omega (arith, is.inside, length_push prefix s);
        read = later;
        same = old_colour colours s.j s.k (w.n + length prefix) is.place is.inside
            ∙ other_has (λ (x : ℕ). x) (colours (s.k - 1)) (colours is.place) (colours (s.j - 1)) (λ e. not_second (sym e ∙ is.same)) ∙ is.same;
      }
      | inl now ↦ elim (or_cases (is_at s.j is.place) (is_at s.k is.place) now) [
        | inl first ↦ absurd (not_first (ap colours (omega (arith, is_at_is s.j is.place first)) ∙ is.same))
        | inr second ↦ absurd (not_second (ap colours (omega (arith, is_at_is s.k is.place second)) ∙ is.same))
      ]
    ]

next_lives : (w : Words) (basis : Basis) (base prefix rest : List Step) (s : Step) (reads : ℕ → Bool) (colours outs : ℕ → ℕ)
    (roots : ℕ → Bool) → IsFreshSolution w basis (prefix ++ s ∷ rest) →
    AreComponents w base reads prefix (s ∷ rest) colours outs roots → (i : ℕ) → i < w.n + length base →
    roots_after colours (colours (s.j - 1)) (colours (s.k - 1)) roots i ≡ true →
    IsReadIn (w.n + length (prefix ++ s ∷ [])) rest (colours_after colours s.j s.k (w.n + length prefix)) (colours i) ⊎
    IsOutIn w base (prefix ++ s ∷ []) (outs_after w prefix colours s.j s.k outs) (colours i)
next_lives w basis base prefix rest s reads colours outs roots target are i low root =
    let a : ℕ = colours (s.j - 1) in
    let b : ℕ = colours (s.k - 1) in
    let kept : joined a b (colours i) ≡ colours i = root_same colours a b roots i root in
    elim (cases_eq a (colours i)) [
      | inl here ↦ own_lives w basis base prefix rest s reads colours outs roots (colours i) target are here
      | inr apart ↦ elim (are.lives i low (root_before colours a b roots i root)) [
        | inl read ↦ inl (other_read w prefix rest s colours (colours i) apart
            (λ e. apart (sym (own_has (λ (x : ℕ). x) b (colours i) a (sym e)) ∙ kept)) read)
        | inr out ↦ inr (record {
          output = out.output;
          inside = out.inside;
          missed = out.missed;
          met = still_met w prefix (s ∷ []) out.output out.met;
          same = cond-true (is_met w prefix out.output) (joined a b (outs out.output)) a out.met ∙ ap (joined a b) out.same ∙ kept;
        })
      ]
    ]

pub next_components : (w : Words) (basis : Basis) (base prefix rest : List Step) (s : Step) (reads : ℕ → Bool) (colours outs : ℕ → ℕ)
    (roots : ℕ → Bool) → IsFreshSolution w basis (prefix ++ s ∷ rest) →
    AreComponents w base reads prefix (s ∷ rest) colours outs roots →
    AreComponents w base reads (prefix ++ s ∷ []) rest (colours_after colours s.j s.k (w.n + length prefix))
    (outs_after w prefix colours s.j s.k outs) (roots_after colours (colours (s.j - 1)) (colours (s.k - 1)) roots)
next_components w basis base prefix rest s reads colours outs roots target are =
    let at : IsStepAt (w.n + 1 + length prefix) s = step_among prefix rest s w.n target.normal.solution.are in
    let a : ℕ = colours (s.j - 1) in
    let b : ℕ = colours (s.k - 1) in
    let same : (i : ℕ) → i < w.n + length base → roots_after colours a b roots i ≡ true → colours_after colours s.j s.k (w.n + length prefix) i ≡ colours i =
    λ i low root. root_colour colours s.j s.k (w.n + length prefix) roots i (omega (arith, low, are.longer)) root in
    record {
      longer = omega (arith, are.longer, length_push prefix s);
      within = λ x low later. are.within x low (rest_read s rest x later);
      older = λ o missed. are.older o (still_missing w prefix s o missed);
      apart = λ i j low_i low_j root_i root_j e. are.apart i j low_i low_j (root_before colours a b roots i root_i) (root_before colours a b roots j root_j)
          (sym (same i low_i root_i) ∙ e ∙ same j low_j root_j);
      lives = λ i low root. subst (λ (c : ℕ). IsReadIn (w.n + length (prefix ++ s ∷ [])) rest (colours_after colours s.j s.k (w.n + length prefix)) c ⊎
          IsOutIn w base (prefix ++ s ∷ []) (outs_after w prefix colours s.j s.k outs) c) (sym (same i low root))
          (next_lives w basis base prefix rest s reads colours outs roots target are i low root);
      depends = λ i low known. next_depends w base prefix rest s reads colours outs roots at are i low known;
      givers = λ o low missed met. next_givers w base prefix rest s reads colours outs roots are o low missed met;
    }
